use Rattle.std.proofs.Common.{◌≡◌, ◌≤◌, ◌-◌, None}
use Rattle.md_history.specs.ScriptLaws.{At}
use Rattle.md_book.specs.Filling.{unfilled, take_parts}
use Rattle.md_book.proofs.fill.take_parts.Given as goal

abbrev pub invariant-loop : goal.invariant-loop
invariant-loop g l = record {
  at : At (take_parts l.side l.level l.places (unfilled l.quantity)) (g.T.TxCalls.acts l.fn.t) (g.T.TxCalls.acts l.t) (take_parts l.side l.level (l.places - l.counter) l.filling);
  going : g.T.TxCalls.stop l.t ≡ None;
  kept : g.T.TxCalls.kept l.t ≡ g.T.TxCalls.kept l.fn.t;
  few : l.filling.count ≤ l.counter;
  rest : l.filling.rest ≤ l.quantity;
}
