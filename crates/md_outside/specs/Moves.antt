-- Reads made one after another, and writes likewise.
use Rattle.std.specs.Prelude.{◌≡◌, ◌<◌, ℕ, List, [], ◌∷◌, length, take, Option, None, Some, Result, Ok, Err}
use Rattle.std.specs.List.{concat}

-- what a read gave or a write took: the front of the bytes at hand, or None where it failed
abbrev pub bytes_moved : {E : Type 0} → Result ℕ E → List ℕ → Option (List ℕ)
bytes_moved (Ok count) bytes = Some (take count bytes)
bytes_moved (Err _) bytes = None

-- a source or a sink before one call, what the call moved, and the same after it
abbrev pub StreamCall : Type 0 → Type 1
StreamCall S = S → Option (List ℕ) → S → Type 0

-- calls made one after another, each of which moved one of the pieces, of at least one byte
abbrev pub MovesPieces : {S : Type 0} → StreamCall S → S → List (List ℕ) → S → Type 0
MovesPieces call old [] new = new ≡ old
MovesPieces {S} call old (piece ∷ pieces) new =
    (between : S) × call old (Some piece) between × (0 < length piece) × MovesPieces call between pieces new

-- such calls moved these bytes in all, and no other call was made
pub record Moves {S : Type 0} (call : StreamCall S) (old : S) (bytes : List ℕ) (new : S) : Type 0 where
  pub pieces : List (List ℕ)
  pub in_turn : MovesPieces call old pieces new
  pub whole : concat pieces ≡ bytes

-- reads, each of at least one byte, gave these bytes
abbrev pub Reads : {S : Type 0} → StreamCall S → S → List ℕ → S → Type 0
Reads gives old bytes new = Moves gives old bytes new

-- reads gave these bytes, and one more read gave none: the end
abbrev pub ReadsToEnd : {S : Type 0} → StreamCall S → S → List ℕ → S → Type 0
ReadsToEnd {S} gives old bytes new = (last : S) × Reads gives old bytes last × gives last (Some []) new

-- reads gave these bytes, and one more read failed
abbrev pub ReadsThenFails : {S : Type 0} → StreamCall S → S → List ℕ → S → Type 0
ReadsThenFails {S} gives old bytes new = (last : S) × Reads gives old bytes last × gives last None new

-- writes, each of at least one byte, took these bytes
abbrev pub Writes : {S : Type 0} → StreamCall S → S → List ℕ → S → Type 0
Writes takes old bytes new = Moves takes old bytes new

-- writes took these bytes, and one more write failed
abbrev pub WritesThenFails : {S : Type 0} → StreamCall S → S → List ℕ → S → Type 0
WritesThenFails {S} takes old bytes new = (last : S) × Writes takes old bytes last × takes last None new
