-- The bytes that passed are those that a stream keeps.
use Rattle.std.proofs.Common.{◌≡◌, ◌∙◌, ℕ, List, [], ◌∷◌, ◌++◌, Some, sym, ap, append_assoc}
use Rattle.std.specs.List.{concat}
use Rattle.std.proofs.lemmas.List.{append-nil}
use Rattle.md_outside.specs.Moves.{StreamCall, MovesPieces, Moves}

-- A stream whose calls each put what they moved behind what it keeps.
module _ {S : Type 0} (call : StreamCall S) (kept : S → List ℕ)
    (moved : (old : S) (bytes : List ℕ) (new : S) → call old (Some bytes) new → kept new ≡ kept old ++ bytes) where
  pieces-kept : (old new : S) (pieces : List (List ℕ)) → MovesPieces call old pieces new
      → kept new ≡ kept old ++ concat pieces
  pieces-kept old new [] same = ap kept same ∙ sym (append-nil (kept old))
  pieces-kept old new (piece ∷ pieces) (between, step, some, rest) =
      pieces-kept between new pieces rest ∙ ap (λ bs. bs ++ concat pieces) (moved old piece between step)
      ∙ append_assoc (kept old) piece (concat pieces)

  pub moves-kept : (old new : S) (bytes : List ℕ) → Moves call old bytes new → kept new ≡ kept old ++ bytes
  moves-kept old new bytes chain =
      pieces-kept old new chain.pieces chain.in_turn ∙ ap (λ bs. kept old ++ bs) chain.whole

  -- one call more that moved nothing
  pub more-kept : (old last new : S) (bytes : List ℕ) → Moves call old bytes last → kept new ≡ kept last
      → kept new ≡ kept old ++ bytes
  more-kept old last new bytes chain same = same ∙ moves-kept old last bytes chain
