use Rattle.std.proofs.Common.{◌≡◌}
use Rattle.md_nbtc.specs.State.{state}
use Rattle.md_queue.proofs.Lined.{HasLine}
use Rattle.md_queue.proofs.lines.line.Given as goal

abbrev pub invariant-loop-i : goal.invariant-loop-i
invariant-loop-i g l = record {
  pass : l.tx.pass.ghost_name ≡ l.fn.tx.pass.ghost_name;
  has : HasLine g.T.Theory.meaning (state l.fn.tx) (state l.tx) l.queue l.node l.i l.line;
}
