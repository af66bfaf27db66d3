-- What is known of lines, whatever order they are played in.
use Rattle.std.specs.Prelude.{◌≡◌, ◌≢◌, ◌≤◌, ◌+◌, ℕ, Some, IsSome, List, [], ◌∷◌, ◌++◌, length, All}
use Rattle.md_history.specs.declared.acts.Act.{Act}
use Rattle.md_history.specs.State.{State, HaveSameNumbers, run, IsRight}
use Rattle.md_history.specs.Counts.{Bounds, AreFew}
use Rattle.md_history.specs.Engine.{needed}
use Rattle.md_many_attempts.specs.Tags.{tag_of}
use Rattle.md_many_attempts.specs.Lines.{IsSmallLine}
use Rattle.md_many_attempts.specs.Meaning.{Meaning}
use Rattle.md_many.specs.declared.laws.LawfulLines.{Ghosts as LawWords}

-- What lines keep: the state from which they are played; the states that they can leave, by the tags of those that were
-- played; the replies that a line can have; what a line can read, write and take; and how many nodes the contents need.
pub record Law (R : Type 0) : Type 1 where
  pub opening : State
  pub good : State → List ℕ → Type 0
  pub suits : ℕ → ℕ → R → Type 0
  pub cost : Bounds
  pub most : ℕ

-- the law that their trait gives these lines
abbrev pub law_of : {L B R : Type 0} → LawWords L B R → L → Law R
law_of words lines = record {
  opening = words.opening lines;
  good = words.good lines;
  suits = words.suits lines;
  cost = words.cost lines;
  most = words.most lines;
}

-- each reply suits its line, of a caller's lines after its first n
abbrev pub AllSuit : {R : Type 0} → (ℕ → R → Type 0) → ℕ → List R → Type 0
AllSuit suits n [] = Unit {0}
AllSuit suits n (r ∷ rs) = suits (n + 1) r × AllSuit suits (n + 1) rs

-- whatever suits a line can be kept of it
abbrev pub CanKeepAll : {R : Type 0} → (ℕ → ℕ → R → Type 0) → (ℕ → ℕ → R → Type 0) → Type 0
CanKeepAll {R} suits can_keep = (caller line : ℕ) (r : R) → suits caller line r → can_keep caller line r

-- a line that wasn't played yet, done with a reply, right there, leaves a good state, and the reply suits it
abbrev pub LineKeepsGood : {B R : Type 0} → Meaning B R → (State → List ℕ → Type 0) → (ℕ → ℕ → R → Type 0) → Type 0
LineKeepsGood {B} {R} m good suits =
    (s : State) (tags : List ℕ) (caller line : ℕ) (body : B) (acts : List Act) (r : R)
    → good s tags → m.body_at caller line ≡ Some body → All (λ t. t ≢ tag_of caller line) tags
    → m.did body acts r → IsRight s acts
    → good (run s acts) (tags ++ tag_of caller line ∷ []) × suits caller line r

-- Lines keep their law: the opening state is good for no tags; each line keeps states good; what suits a line suits one
-- that there is; what a line can do in a good state is within the bounds; and the contents of a good state need so many
-- nodes at most.
pub record AreLawful {B R : Type 0} (m : Meaning B R) (law : Law R) : Type 0 where
  pub opens : law.good law.opening []
  pub keeps : LineKeepsGood m law.good law.suits
  pub lines : (caller line : ℕ) (r : R) → law.suits caller line r → IsSome (m.body_at caller line)
  pub small : (s : State) (tags : List ℕ) (caller line : ℕ) → law.good s tags
      → IsSmallLine law.cost m caller line s
  pub room : (s : State) (tags : List ℕ) → law.good s tags → needed s ≤ law.most

-- The laws of bodies, whatever lines they are. A state is good or not by the state at the opening, with whose numbers of
-- maps and queues it comes. A body that is done right from a good state leaves a good one, which needs no more than so many
-- nodes more; what it can do is within the bounds; and it may run over a good opening's numbers of maps and queues.
pub record AreLawfulBodies {B R : Type 0} (did : B → List Act → R → Type 0) (makes : B → List Act → Type 0)
    (may_run : B → ℕ → ℕ → Type 0) (good : State → State → Type 0) (cost : Bounds) (growth : ℕ) : Type 0 where
  pub keeps : (b : B) (opening s : State) (acts : List Act) (r : R) → HaveSameNumbers s opening → good opening s
      → did b acts r → IsRight s acts → good opening (run s acts)
  pub grows : (b : B) (opening s : State) (acts : List Act) (r : R) → HaveSameNumbers s opening → good opening s
      → did b acts r → IsRight s acts → needed (run s acts) ≤ needed s + growth
  pub small : (b : B) (acts : List Act) → makes b acts → AreFew cost acts
  pub fits : (b : B) (opening : State) → good opening opening → may_run b (length opening.maps) (length opening.queues)
