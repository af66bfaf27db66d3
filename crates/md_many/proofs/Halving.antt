-- The lanes of a pass that was split, and the callers of each half.
use Rattle.std.proofs.Common.{◌≡◌, ◌≤◌, ◌<◌, ℕ, Option, Some, List, length, sym, ap, ◌∙◌, arith, inl, inr}
use Rattle.std.specs.Prelude.{◌-◌, ◌/◌, ◌↔◌, IsNone, is_some}
use Rattle.std.proofs.lemmas.Bool.{cases_eq, true≢false}
use Rattle.std.proofs.lemmas.Grind.{common_steps}
use Rattle.md_history.specs.Engine.{lanes_kept, lanes_given}

-- a pass that was split has two lanes at least
pub split-more : {A : Type 0} (o : Option A) (x : A) (n : ℕ) → IsNone o ↔ (n ≡ 1) → o ≡ Some x → 0 < n → 2 ≤ n
split-more o x n none is some = elim (cases_eq n 1) [
  | inl one ↦ absurd (true≢false (ap is_some (sym is) ∙ none.1 one))
  | inr more ↦ omega arith
]

pub kept-count : (old kept : List ℕ) (n callers : ℕ) → kept ≡ lanes_kept old → callers ≡ length old
    → n ≡ callers - callers / 2 → n ≡ length kept
kept-count old kept n callers same count half = grind (arith, common_steps)

pub given-count : (old given : List ℕ) (n callers : ℕ) → given ≡ lanes_given old → callers ≡ length old
    → n ≡ callers / 2 → n ≡ length given
given-count old given n callers same count half = grind (arith, common_steps)
