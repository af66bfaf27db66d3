-- What the steps of a trail show.
use Rattle.std.specs.Prelude.{◌≡◌, ◌==◌, ◌&&◌, ◌||◌, ◌+◌, ◌<◌, not, ℕ, Bool, true, false, List, [], ◌∷◌, ◌++◌, All, Contains, Some, ◌⊎◌}
use Rattle.md_words.specs.Content.{value_of, count_of, is_even, spot_of}
use Rattle.md_machine.specs.declared.attempt.AttemptId.{AttemptId}
use Rattle.md_machine.specs.declared.step.Step.{Step}
use Rattle.md_machine.specs.declared.step.Kind.{Kind}
use Rattle.md_machine.specs.declared.step.Kind.TheVariants.{Load, Store, Start}
use Rattle.md_machine.specs.declared.pass.PassView.{PassView}

-- the segments of a trail: each join begins a new one. Before, after and since compare steps of one segment
abbrev pub segments : PassView → List (List Step)
segments p = p.past ++ p.trail ∷ []

-- a store puts a content without finding what was there
abbrev pub is_store : Kind → Bool
is_store Store = true
is_store Start = true
is_store _ = false

-- a step found this content in the word: a load or a lost exchange found it, or an exchange found and replaced it
pub record Finds (word held : ℕ) (s : Step) : Type 0 where
  pub there : s.word ≡ word
  pub before : s.before ≡ held
  pub found : is_store s.kind ≡ false

-- a step left this content in the word
pub record Leaves (word held : ℕ) (s : Step) : Type 0 where
  pub there : s.word ≡ word
  pub after : s.after ≡ held

-- it found or left it there
abbrev pub Meets : (word held : ℕ) → Step → Type 0
Meets word held s = Finds word held s ⊎ Leaves word held s

-- a load found it
pub record Loads (word held : ℕ) (s : Step) : Type 0 where
  pub kind : s.kind ≡ Load
  pub finds : Finds word held s

-- some step of a list is such
abbrev pub SomeStep : (Step → Type 0) → List Step → Type 0
SomeStep P steps = (s : Step) × Contains steps s × P s

-- some step of the pass is such, in whatever segment
abbrev pub SomeStepOf : PassView → (Step → Type 0) → Type 0
SomeStepOf p P = (segment : List Step) × Contains (segments p) segment × SomeStep P segment

-- every step of a pass is such, in whatever segment
abbrev pub EveryStepOf : PassView → (Step → Type 0) → Type 0
EveryStepOf p P = (segment : List Step) → Contains (segments p) segment → (s : Step) → Contains segment s → P s

-- a step of the pass found or left the word at a higher count, in whatever segment
abbrev pub MetHigher : PassView → (word count : ℕ) → Type 0
MetHigher p word count = (held : ℕ) × (count < count_of held) × SomeStepOf p (Meets word held)

-- a step of the pass is such, with the earlier and the later steps of its segment
pub record StepOf (p : PassView) (P : Step → Type 0) : Type 0 where
  pub earlier : List Step
  pub step : Step
  pub later : List Step
  pub segment : Contains (segments p) (earlier ++ step ∷ later)
  pub such : P step

-- the step is a store for an attempt, to this word
pub record StoresFor (a : AttemptId) (word : ℕ) (s : Step) : Type 0 where
  pub kind : s.kind ≡ Store
  pub attempt : s.attempt ≡ Some a
  pub there : s.word ≡ word

-- what the pass stored in the word last for an attempt
pub record LastStored (p : PassView) (a : AttemptId) (word held : ℕ) : Type 0 where
  pub store : StepOf p (StoresFor a word)
  pub left : store.step.after ≡ held
  pub last : All (λ s. ¬ StoresFor a word s) store.later

-- the descriptor stands in a word that holds this
abbrev pub holds_desc : ℕ → ℕ → Bool
holds_desc desc held = not (is_even (count_of held)) && ((spot_of (value_of held)).desc == desc)

-- where a read recorded one content and another is found: the read stands where they are the same, or where the
-- read's own descriptor stands at the recorded count plus 1
abbrev pub read_stands : (desc recorded found : ℕ) → Bool
read_stands desc recorded found = (found == recorded) || (holds_desc desc found && (count_of found == count_of recorded + 1))
