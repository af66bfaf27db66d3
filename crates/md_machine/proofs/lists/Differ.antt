-- Lists whose elements differ in pairs, and their parts.
use Rattle.std.proofs.Common.{suc, zero, List, [], ◌∷◌, ◌++◌, get_or, subst, ⊎_elim, arith}
use Rattle.std.specs.List.{All, AllPairs, Contains}
use Rattle.std.proofs.lemmas.List.Kept.{AllPairs-cons}
use Rattle.std.proofs.lemmas.List.Elements.{All-contains, Contains-get_or, Contains-append_left, Contains-append_right, Contains-append_cases}
use Rattle.md_machine.proofs.lists.Rising.{here, in_cons, in_none, there}

module _ {X : Type 0} (R : X → X → Type 0) where
  pub pairs_head : (x : X) (xs : List X) → AllPairs R (x ∷ xs) → All (R x) xs
  pairs_head x xs h k d within = h zero (suc k) d (omega arith) (omega (arith, within))

  pub pairs_tail : (x : X) (xs : List X) → AllPairs R (x ∷ xs) → AllPairs R xs
  pairs_tail x xs h i j d before within = h (suc i) (suc j) d (omega (arith, before)) (omega (arith, within))

  pub no_pairs : AllPairs R []
  no_pairs i j d before within = absurd (omega (arith, within))

  -- all of a list where each element is so
  all_of : (P : X → Type 0) (xs : List X) → ((x : X) → Contains xs x → P x) → All P xs
  all_of P xs f k d within = f (get_or xs k d) (Contains-get_or xs k d within)

  pub pairs_append : (xs ys : List X) → AllPairs R xs → AllPairs R ys → ((x y : X) → Contains xs x → Contains ys y → R x y) → AllPairs R (xs ++ ys)
  pairs_append [] ys a b cross = b
  pairs_append (x ∷ xs) ys a b cross = AllPairs-cons R x (xs ++ ys)
      (all_of (R x) (xs ++ ys) (λ y c. ⊎_elim (λ l. All-contains (R x) xs y (pairs_head x xs a) l) (λ r. cross x y (here x xs) r) (Contains-append_cases xs ys y c)))
      (pairs_append xs ys (pairs_tail x xs a) b (λ z y c d. cross z y (there x xs z c) d))

  pub pairs_left : (xs ys : List X) → AllPairs R (xs ++ ys) → AllPairs R xs
  pairs_left [] ys h = no_pairs
  pairs_left (x ∷ xs) ys h = AllPairs-cons R x xs (all_of (R x) xs (λ y c. All-contains (R x) (xs ++ ys) y (pairs_head x (xs ++ ys) h) (Contains-append_left xs ys y c))) (pairs_left xs ys (pairs_tail x (xs ++ ys) h))

  pub pairs_right : (xs ys : List X) → AllPairs R (xs ++ ys) → AllPairs R ys
  pairs_right [] ys h = h
  pairs_right (x ∷ xs) ys h = pairs_right xs ys (pairs_tail x (xs ++ ys) h)

  pub pairs_cross : (xs ys : List X) → AllPairs R (xs ++ ys) → (x y : X) → Contains xs x → Contains ys y → R x y
  pairs_cross [] ys h x y c d = absurd (in_none x c)
  pairs_cross (z ∷ xs) ys h x y c d = ⊎_elim
      (λ e. subst (λ w. R w y) e (All-contains (R z) (xs ++ ys) y (pairs_head z (xs ++ ys) h) (Contains-append_right xs ys y d)))
      (λ i. pairs_cross xs ys (pairs_tail z (xs ++ ys) h) x y i d)
      (in_cons z xs x c)
