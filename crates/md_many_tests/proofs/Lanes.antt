-- A store with one lane, seen as one of two.
use Rattle.std.proofs.Common.{cond, Bool, true, false, ◌∷◌, [], List, ℕ, subst, inl, inr, arith}
use Rattle.std.specs.Prelude.{Contains}
use Rattle.std.specs.List.{AllByRecursion}
use Rattle.std.proofs.lemmas.List.Elements.{All-from_recursion, recursion_from_All}
use Rattle.md_history.specs.declared.entries.Entry.{Entry}
use Rattle.md_history.specs.State.{State}
use Rattle.md_history.specs.Front.{Front}
use Rattle.md_history.specs.LaneLaws.{contains-either, contains-first}
use Rattle.md_history.specs.Engine.{IsFrontFrom}

-- the one lane is one of the two
one-of-two : (lane : ℕ) → Contains (0 ∷ []) lane → Contains (0 ∷ 1 ∷ []) lane
one-of-two lane at = elim (contains-either 0 [] lane at) [
  | inl here ↦ subst (Contains (0 ∷ 1 ∷ [])) here (contains-first 0 (1 ∷ []))
  | inr there ↦ let below = there.1 in absurd (omega arith)
]

all-wider : {A : Type 0} (P Q : A → Type 0) → ((x : A) → P x → Q x) → (xs : List A) → AllByRecursion P xs
    → AllByRecursion Q xs
all-wider P Q wider [] all = tt
all-wider P Q wider (x ∷ xs) all = (wider x all.0, all-wider P Q wider xs all.1)

-- a front of a store with one lane is one of a store with a lane more
pub wider : (start : State) (f : Front) → IsFrontFrom start (0 ∷ []) f → IsFrontFrom start (0 ∷ 1 ∷ []) f
wider start f is =
    let of_one : Entry → Type 0 = λ e. Contains (0 ∷ []) e.lane in
    let of_two : Entry → Type 0 = λ e. Contains (0 ∷ 1 ∷ []) e.lane in
    record {
      legal = is.legal;
      some = is.some;
      rising = is.rising;
      within = All-from_recursion (Contains (0 ∷ 1 ∷ [])) f.lanes
          (all-wider (Contains (0 ∷ [])) (Contains (0 ∷ 1 ∷ [])) one-of-two f.lanes
          (recursion_from_All (Contains (0 ∷ [])) f.lanes is.within));
      entries = All-from_recursion of_two f.seen
          (all-wider of_one of_two (λ e. one-of-two e.lane) f.seen (recursion_from_All of_one f.seen is.entries));
      numbered = is.numbered;
      outside = is.outside;
      answered = is.answered;
      decided = is.decided;
      own = is.own;
    }

-- and of a store that may have a lane more
pub maybe_wider : (shared : Bool) (start : State) (f : Front) → IsFrontFrom start (0 ∷ []) f
    → IsFrontFrom start (cond shared (0 ∷ 1 ∷ []) (0 ∷ [])) f
maybe_wider true start f is = wider start f is
maybe_wider false start f is = is
