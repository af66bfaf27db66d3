use Rattle.std.proofs.Common.{◌≡◌, map, replicate, []}
use Rattle.std.specs.FinMap as fin
use Rattle.md_history.specs.State.{Table}
use Rattle.md_history.specs.Contents.{table_of}
use Rattle.md_history.proofs.contents.Contents.empty.Given as goal

abbrev pub invariant-loop-made : goal.invariant-loop-made
invariant-loop-made l = map {0, 0} table_of l.all.items ≡ replicate l.made (let none : Table = fin.empty in none)

abbrev pub invariant-loop-made-2 : goal.invariant-loop-made-2
invariant-loop-made-2 l = map {0, 0} (λ q. q.items) l.lines.items ≡ replicate l.made []
