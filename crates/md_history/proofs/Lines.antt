-- A line that is filled with the values of a queue, place by place.
use Rattle.std.proofs.Common.{◌≡◌, ◌<◌, ◌+◌, ◌-◌, ℕ, suc, List, [], ◌∷◌, ◌++◌, length, take, get_or, set, refl, sym, ap, ◌∙◌, append_assoc, arith}
use Rattle.std.specs.Prelude.{replicate}
use Rattle.std.proofs.lemmas.List.{set_at, take_more, length-take}

-- as many zeros and one more
zeros-more : (m i : ℕ) → i < m → replicate {A = ℕ} (m - i) 0 ≡ 0 ∷ replicate {A = ℕ} (m - (i + 1)) 0
zeros-more m i below = let e : m - i ≡ suc (m - (i + 1)) = omega arith in rw e refl

-- one place more is filled
pub line-more : (m : ℕ) (xs : List ℕ) (i v : ℕ) → i < m → i < length xs → v ≡ get_or xs i v
    → set (take i xs ++ replicate {A = ℕ} (m - i) 0) i v ≡ take (i + 1) xs ++ replicate {A = ℕ} (m - (i + 1)) 0
line-more m xs i v below there is =
    let zeros : List ℕ = replicate {A = ℕ} (m - (i + 1)) 0 in
    let full : length (take i xs) ≡ i = length-take i xs ∙ omega arith in
    ap (λ ys. set (take i xs ++ ys) i v) (zeros-more m i below)
    ∙ set_at (take i xs) 0 zeros v i full
    ∙ sym (append_assoc (take i xs) (v ∷ []) zeros)
    ∙ ap (λ y. (take i xs ++ y ∷ []) ++ zeros) is
    ∙ ap (λ ys. ys ++ zeros) (sym (take_more xs i v there))
