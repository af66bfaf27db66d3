-- Numbers that differ are no more than there may be.
use Rattle.std.proofs.Common.{◌≡◌, ◌≢◌, ◌<◌, ◌≤◌, ℕ, true, false, List, [], ◌∷◌, length, eqb, eq-eqb, refl, sym, subst, ⊎_elim, eqb-true, ne_eqb}
use Rattle.std.proofs.lemmas.Bool.{or_cases}
use Rattle.std.proofs.lemmas.Cmp.{nat_eq_equiv}
use Rattle.std.proofs.lemmas.Map.Made.{length-le_from_is_member}
use Rattle.md_nbtc_law.proofs.exchanging.OwnSlots.{any_has}
use Rattle.std.proofs.lemmas.List.Elements.{All-contains, All-weaker, recursion_from_All}
use Rattle.std.proofs.lemmas.Map.Steps.{length-le_from_distinct_below}
use Rattle.std.specs.List.{All, AllPairs, Contains, IsDistinct, list_any}
use Rattle.md_machine.proofs.lists.Differ.{pairs_head, pairs_tail}
use Rattle.md_machine.proofs.lists.Rising.{here, there}

distinct_of : (xs : List ℕ) → AllPairs (λ (a b : ℕ). a ≢ b) xs → IsDistinct eqb xs
unfolding IsDistinct
distinct_of [] differ = tt
distinct_of (x ∷ xs) differ = (
  recursion_from_All (λ y. eqb x y ≡ false) xs (All-weaker (λ (y : ℕ). x ≢ y) (λ y. eqb x y ≡ false) (λ y ne. ne_eqb x y ne) xs (pairs_head (λ (a b : ℕ). a ≢ b) x xs differ)),
  distinct_of xs (pairs_tail (λ (a b : ℕ). a ≢ b) x xs differ),
)

found_in : (q : ℕ) (xs : List ℕ) → list_any (eqb q) xs ≡ true → Contains xs q
found_in q [] any = absurd (cc any)
found_in q (x ∷ xs) any = ⊎_elim
    (λ this. subst (Contains (x ∷ xs)) (sym (eqb-true q x this)) (here x xs))
    (λ later. there x xs q (found_in q xs later))
    (or_cases (eqb q x) (list_any (eqb q) xs) any)

pub few_below : (xs : List ℕ) (n : ℕ) → AllPairs (λ (a b : ℕ). a ≢ b) xs → All (λ x. x < n) xs → length xs ≤ n
few_below xs n differ below = length-le_from_distinct_below xs n (distinct_of xs differ) (λ q any. All-contains (λ x. x < n) xs q below (found_in q xs any))

-- numbers that differ and are all among some are no more than those
pub few_among : (xs ys : List ℕ) → AllPairs (λ (a b : ℕ). a ≢ b) xs → All (Contains ys) xs → length xs ≤ length ys
few_among xs ys differ among = length-le_from_is_member nat_eq_equiv xs ys (distinct_of xs differ)
    (λ q any. any_has (eqb q) ys q (All-contains (Contains ys) xs q among (found_in q xs any)) (eq-eqb q q refl))
