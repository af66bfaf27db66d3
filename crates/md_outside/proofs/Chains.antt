-- How calls made one after another go on.
use Rattle.std.proofs.Common.{◌<◌, ◌≤◌, ◌++◌, ℕ, List, [], ◌∷◌, Some, refl, subst, length, take}
use Rattle.std.proofs.lemmas.List.{append-nil, length-take-le}
use Rattle.std.proofs.lemmas.List.Folds.{concat-append}
use Rattle.md_outside.specs.Moves.{StreamCall, MovesPieces, Moves}

-- two chains, of which the second goes on where the first stopped, are one
pub MovesPieces-append : {S : Type 0} (call : StreamCall S) (a b c : S) (xs ys : List (List ℕ)) → MovesPieces call a xs b → MovesPieces call b ys c → MovesPieces call a (xs ++ ys) c
MovesPieces-append call a b c [] ys first second = subst (λ s. MovesPieces call s ys c) first second
MovesPieces-append call a b c (x ∷ xs) ys first second =
    (first.0, first.1, first.2, MovesPieces-append call first.0 b c xs ys first.3 second)

-- with no call nothing moved
pub Moves-none : {S : Type 0} (call : StreamCall S) (a : S) → Moves call a [] a
Moves-none call a = record { pieces = []; in_turn = refl; whole = refl }

-- two chains, of which the second goes on where the first stopped, are one
pub Moves-append : {S : Type 0} {call : StreamCall S} {a b c : S} {xs ys : List ℕ} → Moves call a xs b → Moves call b ys c → Moves call a (xs ++ ys) c
Moves-append {call = call} {a = a} {b = b} {c = c} first second = record {
  pieces = first.pieces ++ second.pieces;
  in_turn = MovesPieces-append call a b c first.pieces second.pieces first.in_turn second.in_turn;
  whole = rw (concat-append, first.whole, second.whole);
}

-- one more call at the end of a chain, which moved at least one byte
pub Moves-one_more : {S : Type 0} {call : StreamCall S} {a b c : S} {bytes piece : List ℕ} → Moves call a bytes b → call b (Some piece) c → 0 < length piece → Moves call a (bytes ++ piece) c
Moves-one_more {c = c} {piece = piece} chain call some =
    Moves-append chain (record { pieces = piece ∷ []; in_turn = (c, call, some, refl); whole = append-nil piece })

-- the same for a call that moved the first n bytes of a buffer or a part
pub Moves-one_more-take : {S : Type 0} {call : StreamCall S} {a b c : S} {bytes : List ℕ} (n : ℕ) (buffer : List ℕ) → Moves call a bytes b → call b (Some (take n buffer)) c → 0 < n → n ≤ length buffer → Moves call a (bytes ++ take n buffer) c
Moves-one_more-take n buffer chain call some fits =
    Moves-one_more chain call (rw (length-take-le n buffer fits) some)
