use Rattle.std.proofs.Common.{◌≡◌, ◌+◌, map, drop}
use Rattle.std.specs.List.{sum_by}
use Rattle.std.specs.FinMap as fin
use Rattle.md_history.specs.Contents.{table_of}
use Rattle.md_store_law.specs.Needed.{capped}
use Rattle.md_store_layout.proofs.sizes.pairs.Given as goal

abbrev pub invariant-loop-table : goal.invariant-loop-table
invariant-loop-table l = (capped l.all ≡ l.all) × (capped (l.all + sum_by fin.len (map table_of (drop l.table-index l.tables))) ≡ capped (sum_by fin.len (map table_of l.tables)))
