use Rattle.std.proofs.Common.{◌≡◌}
use Rattle.md_orders.specs.Scripts.{count_of}
use Rattle.md_orders.specs.Generator.{AreMade}
use Rattle.md_orders.specs.Maker.{maker_at}
use Rattle.md_orders.proofs.maker.make.Given as goal

abbrev pub invariant-loop-at : goal.invariant-loop-at
invariant-loop-at l = record {
  made : AreMade l.number l.at l.callers l.scripts;
  maker : l.maker ≡ maker_at l.number l.callers l.at;
  count : count_of l.scripts ≡ l.at;
}
