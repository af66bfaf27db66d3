use Rattle.std.proofs.Common.{arith}
use Rattle.std.specs.FinMap as fin
use Rattle.md_history.specs.Contents.{table_of}
use Rattle.md_store_law.proofs.Sums.{capped-all}
use Rattle.std.proofs.lemmas.Grind.{common_steps}
use Rattle.md_store_layout.proofs.sizes.pairs.Goals as goal

pub returns : goal.returns
returns c = capped-all fin.len table_of c.args.tables.now c.loop-table.table-index c.loop-table.all _ (omega arith) c.loop-table.invariant.0 c.loop-table.invariant.1

pub loop-table-preserved : goal.loop-table-preserved
loop-table-preserved c = grind (arith, common_steps)
