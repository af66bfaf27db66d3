-- The elements of a list that are one caller's, numbered from 1.
use Rattle.std.proofs.Common.{◌≡◌, ◌+◌, ◌∙◌, ◌++◌, ◌∷◌, ℕ, List, [], Bool, true, false, cond, length, ap, arith}
use Rattle.std.specs.Prelude.{filter}
use Rattle.std.specs.List.{enumerate_from}
use Rattle.std.proofs.lemmas.List.{append-nil}
use Rattle.std.proofs.lemmas.List.Elements.{filter-append}

-- one element more has the next number
enumerate-append : {A : Type 0} (n m : ℕ) (xs : List A) (x : A) → m ≡ n + length xs → enumerate_from n (xs ++ x ∷ []) ≡ enumerate_from n xs ++ (m, x) ∷ []
enumerate-append n m [] x at = let same : n ≡ m = omega arith in ap (λ k. (k, x) ∷ []) same
enumerate-append n m (y ∷ xs) x at = ap (λ ys. (n, y) ∷ ys) (enumerate-append (n + 1) m xs x (omega arith))

-- one that is the caller's comes last
pub numbered-more : {A : Type 0} (mine : A → Bool) (n : ℕ) (xs : List A) (x : A) → mine x ≡ true → n ≡ 1 + length (filter mine xs)
    → enumerate_from 1 (filter mine (xs ++ x ∷ [])) ≡ enumerate_from 1 (filter mine xs) ++ (n, x) ∷ []
numbered-more mine n xs x own at =
    ap (enumerate_from 1) (filter-append mine xs (x ∷ []) ∙ ap (λ b. filter mine xs ++ cond b (x ∷ []) []) own)
    ∙ enumerate-append 1 n (filter mine xs) x at

-- another one changes nothing
pub numbered-same : {A : Type 0} (mine : A → Bool) (xs : List A) (x : A) → mine x ≡ false → enumerate_from 1 (filter mine (xs ++ x ∷ [])) ≡ enumerate_from 1 (filter mine xs)
numbered-same mine xs x other =
    ap (enumerate_from 1) (filter-append mine xs (x ∷ []) ∙ ap (λ b. filter mine xs ++ cond b (x ∷ []) []) other ∙ append-nil _)
