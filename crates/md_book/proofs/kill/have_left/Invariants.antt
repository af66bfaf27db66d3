use Rattle.std.proofs.Common.{◌≡◌, drop, None}
use Rattle.md_history.specs.ScriptLaws.{At}
use Rattle.md_book.specs.Killing.{have_left}
use Rattle.md_book.proofs.kill.have_left.Given as goal

abbrev pub invariant-loop-name : goal.invariant-loop-name
invariant-loop-name g l = record {
  at : At (have_left l.quantity l.names) (g.T.TxCalls.acts l.fn.t) (g.T.TxCalls.acts l.t) (have_left l.lacking (drop l.name-index l.names));
  going : g.T.TxCalls.stop l.t ≡ None;
  kept : g.T.TxCalls.kept l.t ≡ g.T.TxCalls.kept l.fn.t;
}
