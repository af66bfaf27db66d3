-- The records of an order file, as csv reads them: commas, double quotes, no header row, records of any length,
-- no trimming, no comments. A byte order mark at the start is dropped.
use Rattle.std.specs.Prelude.{ℕ, List, ◌≤◌, length}
use Rattle.csv.specs.Reading.{default_config, records, strip_bom}

-- the fields of a record
abbrev pub Row : Type 0
Row = List (List ℕ)

-- the most records that an order file may have
abbrev pub max_records : ℕ
max_records = 1000000

-- no more records than that
abbrev pub AreFewRecords : List Row → Type 0
AreFewRecords rows = length rows ≤ max_records

-- every record of the bytes, each the list of its fields
unfoldable pub order_records : List ℕ → List Row
order_records bytes = records default_config (strip_bom bytes)
