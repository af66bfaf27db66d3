-- Bodies that are scripts, and what their scripts leave.
use Rattle.std.proofs.Common.{◌≡◌, ◌≤◌, ◌+◌, ℕ, Option, Some, None, length, refl, ◌∙◌}
use Rattle.md_history.specs.declared.acts.Op.{Op}
use Rattle.md_history.specs.State.{State, HaveSameNumbers, after}
use Rattle.md_history.specs.Counts.{bounds_of_calls}
use Rattle.md_history.specs.Engine.{needed}
use Rattle.md_history.specs.Script.{Script, Did, Follows}
use Rattle.md_history.specs.Branches.{by_option}
use Rattle.md_history.proofs.Plays.{PlayLeaves, did-leaves}
use Rattle.md_history.proofs.Runs.{length-maps, length-queues}
use Rattle.md_history.proofs.FewCalls.{MakesAtMost, script-few}
use Rattle.md_many.specs.Laws.{AreLawfulBodies}

-- what a script leaves that goes one way or another by a value
pub leaves-option : {R : Type 0} (P : State → R → Type 0) (o : Option ℕ) (none : Script R) (some : ℕ → Script R)
    (s : State) → (o ≡ None → PlayLeaves P none s) → ((v : ℕ) → o ≡ Some v → PlayLeaves P (some v) s)
    → PlayLeaves P (by_option o none some) s
leaves-option P None none some s n v = n refl
leaves-option P (Some x) none some s n v = v x refl

-- an operation leaves as many maps and queues as there were
pub same-after : (s opening : State) (op : Op) → HaveSameNumbers s opening → HaveSameNumbers (after s op) opening
same-after s opening op same =
    record { maps = length-maps s op ∙ same.maps; queues = length-queues s op ∙ same.queues }

-- a state is good that is left, and needs no more than so many nodes more
pub record StaysGood (is_good : State → State → Type 0) (growth : ℕ) (opening s left : State) : Type 0 where
  pub good : is_good opening left
  pub need : needed left ≤ needed s + growth

-- The scripts make so many calls at most, none of them a look at a line; and from a good state, with the numbers of maps
-- and queues that there were at the opening, they leave a good one.
pub scripts-lawful : {B R : Type 0} (script_of : B → Script R) (may_run : B → ℕ → ℕ → Type 0)
    (good : State → State → Type 0) (calls growth : ℕ) → ((b : B) → MakesAtMost calls (script_of b))
    → ((b : B) (opening s : State) → HaveSameNumbers s opening → good opening s
    → PlayLeaves (λ left r. StaysGood good growth opening s left) (script_of b) s)
    → ((b : B) (opening : State) → good opening opening → may_run b (length opening.maps) (length opening.queues))
    → AreLawfulBodies (λ b acts r. Did (script_of b) acts r) (λ b acts. Follows (script_of b) acts) may_run good
    (bounds_of_calls calls) growth
scripts-lawful script_of may_run good calls growth few leaves fits = record {
  keeps = λ b opening s acts r same here did right.
      (did-leaves (λ left r. StaysGood good growth opening s left) (script_of b) s acts r (leaves b opening s same here) did right).good;
  grows = λ b opening s acts r same here did right.
      (did-leaves (λ left r. StaysGood good growth opening s left) (script_of b) s acts r (leaves b opening s same here) did right).need;
  small = λ b acts made. script-few calls (script_of b) acts (few b) made;
  fits = fits;
}
