-- How far a pass knows that tickets were taken.
use Rattle.std.specs.Prelude.{◌≡◌, ◌⊎◌, ◌+◌, ◌<◌, ◌≤◌, ◌++◌, ◌∷◌, ℕ, false, List, [], length}
use Rattle.md_words.specs.declared.shape.Shape.{Shape}
use Rattle.md_words.specs.Content.{count_of, is_even}
use Rattle.md_machine.specs.declared.pass.PassView.{PassView}
use Rattle.md_machine.specs.declared.step.Kind.TheVariants.{Exchange, Load}
use Rattle.md_machine.specs.declared.step.Step.{Step}
use Rattle.md_machine.specs.declared.step.TheConstants.{LAST_COUNT}
use Rattle.md_machine.specs.Machine.{IsAt, Machine, content}
use Rattle.md_machine.specs.Trail.{Meets, SomeStepOf, StepOf}
use Rattle.example_cell.specs.CellMeaning.{cell_meaning, cell_word}
use Rattle.md_rule.specs.Admitted.{Admitted}
use Rattle.md_rule.specs.Views.{Origin}

-- the number is 0, or a step of the pass found or left it as the count of the cell's word
abbrev pub TakenBelow : Shape → PassView → ℕ → Type 0
TakenBelow shape view n = (n ≡ 0) ⊎ ((held : ℕ) × (count_of held ≡ n) × SomeStepOf view (Meets (cell_word shape) held))

-- the pass made a step or two, and the last one shows why it has no ticket: it found a descriptor in the word, or a count
-- past the last ticket, or it is an exchange that changed nothing
pub record FoundNone (shape : Shape) (before after : PassView) : Type 0 where
  pub earlier : List Step
  pub few : length earlier ≤ 1
  pub step : Step
  pub made : after.trail ≡ before.trail ++ (earlier ++ step ∷ [])
  pub there : step.word ≡ cell_word shape
  pub why : (is_even (count_of step.before) ≡ false) ⊎ ((LAST_COUNT < count_of step.before) ⊎ ((step.kind ≡ Exchange) × (step.after ≡ step.before)))

-- a step took a ticket: it is an exchange that found this count in the cell's word, and left the next one
pub record Takes (shape : Shape) (ticket : ℕ) (s : Step) : Type 0 where
  pub kind : s.kind ≡ Exchange
  pub there : s.word ≡ cell_word shape
  pub from : count_of s.before ≡ ticket
  pub left : count_of s.after ≡ ticket + 2

-- the pass made two steps: it looked at the cell's word, and took the ticket
pub record TookTicket (shape : Shape) (ticket : ℕ) (before after : PassView) : Type 0 where
  pub look : Step
  pub take : Step
  pub made : after.trail ≡ before.trail ++ look ∷ take ∷ []
  pub looks : (look.kind ≡ Load) × (look.word ≡ cell_word shape)
  pub takes : Takes shape ticket take

-- in every machine of a dispenser, the steps that took one ticket are equal, and so are those of the segments before them
abbrev pub TicketsAreTakenOnce : Type 0
TicketsAreTakenOnce = (o : Origin) (m : Machine) → Admitted cell_meaning o m → (ticket i j : ℕ) (p q : PassView) → IsAt m i p → IsAt m j q
    → (a : StepOf p (Takes o.shape ticket)) (b : StepOf q (Takes o.shape ticket)) → (a.earlier ≡ b.earlier) × (a.step ≡ b.step)

-- in every machine of a dispenser, the count of the cell's word is past each ticket that a step of some pass took. A step
-- takes the ticket that is the count when it is made; so no ticket is taken a second time
abbrev pub TakenTicketsArePassed : Type 0
TakenTicketsArePassed = (o : Origin) (m : Machine) → Admitted cell_meaning o m → (ticket i : ℕ) (p : PassView) → IsAt m i p
    → StepOf p (Takes o.shape ticket) → ticket + 2 ≤ count_of (content m (cell_word o.shape))
