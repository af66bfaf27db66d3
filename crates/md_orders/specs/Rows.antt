-- The records of a text as they are read one by one.
use Rattle.std.specs.Prelude.{◌≡◌, ◌++◌, ◌∷◌, [], ℕ, Bool, true, false, List, Some}
use Rattle.std.specs.Borrow.{Bor}
use Rattle.csv.specs.Reading.{Reached, default_config, strip_bom, Ready, source_of, reader_config, reader_state, reader_trim, is_flexible}
use Rattle.csv.specs.declared.reader.Reader.{Reader}
use Rattle.csv.specs.declared.reader.Trim.TheVariants as trim
use Rattle.csv.specs.declared.parser.State.TheVariants as st
use Rattle.md_orders.specs.Records.{Row, order_records}

-- these records were read, and the reader goes on after them
pub record IsReadSoFar (bytes : List ℕ) (reader : Reader (Bor (List ℕ))) (rows : List Row) : Type 0 where
  pub trim : reader_trim reader ≡ trim.None
  pub flexible : is_flexible reader ≡ true
  pub ready : Ready reader
  pub config : reader_config reader ≡ default_config
  pub left : List ℕ
  pub source : source_of (λ (s : Bor (List ℕ)). Some s.now) reader ≡ Some left
  pub reached : Reached default_config st.StartRecord (strip_bom bytes) rows (reader_state reader) left

-- what a read after these records found: one more, or that there are no others
abbrev pub IsNext : List ℕ → List Row → Reader (Bor (List ℕ)) → Row → Bool → Type 0
IsNext bytes rows reader row true = IsReadSoFar bytes reader (rows ++ row ∷ [])
IsNext bytes rows reader row false = order_records bytes ≡ rows
