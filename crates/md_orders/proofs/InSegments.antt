-- Commands in segments, one behind another.
use Rattle.std.proofs.Common.{◌≡◌, ◌<◌, ◌≤◌, ◌+◌, ◌-◌, ◌∙◌, ◌++◌, ◌∷◌, ℕ, zero, suc, List, [], Vec, Global, length, drop, get_or, refl, sym, ap, arith}
use Rattle.std.specs.Prelude.{slice_get}
use Rattle.std.proofs.lemmas.List.{append_assoc}
use Rattle.md_orders.specs.Lists.{items_in}

-- an index in the first of two lists
pub slice_get-here : {A : Type 0} (xs ys : List A) (i : ℕ) → i < length xs → slice_get (xs ++ ys) i ≡ slice_get xs i
slice_get-here [] ys i inside = absurd (omega arith)
slice_get-here (x ∷ xs) ys zero inside = refl
slice_get-here (x ∷ xs) ys (suc i) inside = slice_get-here xs ys i (omega arith)

-- and one behind it
pub slice_get-behind : {A : Type 0} (xs ys : List A) (i : ℕ) → length xs ≤ i → slice_get (xs ++ ys) i ≡ slice_get ys (i - length xs)
slice_get-behind [] ys i past = let same : i ≡ i - 0 = omega arith in ap (slice_get ys) same
slice_get-behind (x ∷ xs) ys zero past = absurd (omega arith)
slice_get-behind (x ∷ xs) ys (suc i) past =
    let same : i - length xs ≡ suc i - suc (length xs) = omega arith in
    slice_get-behind xs ys i (omega arith) ∙ ap (slice_get ys) same

-- what is left of some vectors begins with the items of the first
pub items_in-drop : {A : Type 0} (vs : List (Vec A Global)) (more : List A) (i : ℕ) (v : Vec A Global) → i < length vs → v ≡ get_or vs i v
    → items_in (drop i vs) ++ more ≡ v.items ++ (items_in (drop (i + 1) vs) ++ more)
items_in-drop [] more i v inside is = absurd (omega arith)
items_in-drop (w ∷ vs) more zero v inside is = ap (λ u. (u.items ++ items_in vs) ++ more) (sym is) ∙ append_assoc v.items (items_in vs) more
items_in-drop (w ∷ vs) more (suc i) v inside is =
    let next : suc (i + 1) ≡ suc i + 1 = omega arith in
    items_in-drop vs more i v (omega arith) is ∙ ap (λ n. v.items ++ (items_in (drop n (w ∷ vs)) ++ more)) next
