-- Lists of bodies, one for each caller.
use Rattle.std.proofs.Common.{◌≡◌, ◌≤◌, ◌<◌, ◌^◌, ℕ, zero, suc, List, [], length, refl, ap, arith, inl, inr}
use Rattle.std.specs.Prelude.{◌⊎◌, ◌↔◌, IsSome, sum_by}
use Rattle.std.proofs.lemmas.Bool.{false≢true}
use Rattle.std.proofs.lemmas.List.{get_or_past}
use Rattle.std.proofs.lemmas.Option.{slice_get_cases}
use Rattle.md_many_attempts.specs.ByCaller.{at_caller, line_at}

-- there are so many lines, and callers and lines are numbered by 32 bits
pub record AreCounted {A : Type 0} (total : ℕ) (lists : List (List A)) : Type 0 where
  pub count : total ≡ sum_by length lists
  pub few : total < 2 ^ 32
  pub callers : length lists < 2 ^ 32

-- there is a body at each line, and nowhere else
pub has-line : {A : Type 0} (lists : List (List A)) (caller line : ℕ)
    → IsSome (line_at lists caller line) ↔ ((1 ≤ line) × (line ≤ length (at_caller [] lists caller)))
has-line lists caller zero = ((λ some. absurd (false≢true some)), (λ within. absurd (omega (arith, within.0))))
has-line lists caller (suc l) = elim (slice_get_cases (at_caller [] lists caller) l).1 [
  | inl there ↦ ((λ some. (omega arith, let below = there.1 in omega arith)), (λ within. rw there.2 refl))
  | inr past ↦ (
    (λ some. absurd (false≢true (rw past.1 at some))),
    (λ within. let low = past.0 in let high = within.1 in absurd (omega arith)),
  )
]

-- who is no caller has no lines
pub no-lines : {A : Type 0} (lists : List (List A)) (caller : ℕ) → (caller ≡ 0) ⊎ (length lists < caller)
    → length (at_caller [] lists caller) ≡ 0
no-lines lists zero other = refl
no-lines lists (suc c) other = elim other [
  | inl none ↦ absurd (omega arith)
  | inr past ↦ ap length (get_or_past lists c [] (omega arith))
]
