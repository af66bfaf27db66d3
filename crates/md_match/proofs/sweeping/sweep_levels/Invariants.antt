use Rattle.std.proofs.Common.{◌≡◌, ◌≤◌, ◌-◌, None}
use Rattle.md_history.specs.ScriptLaws.{At}
use Rattle.md_match.specs.declared.limits.TheConstants.{MAX_LOOKS}
use Rattle.md_match.specs.Sweeping.{unswept, sweep_levels}
use Rattle.md_match.proofs.sweeping.sweep_levels.Given as goal

abbrev pub invariant-loop-looks : goal.invariant-loop-looks
invariant-loop-looks g l = record {
  at : At (sweep_levels l.side l.limit MAX_LOOKS (unswept l.quantity)) (g.T.TxCalls.acts l.fn.t) (g.T.TxCalls.acts l.t) (sweep_levels l.side l.limit (MAX_LOOKS - l.looks) l.sweep);
  going : g.T.TxCalls.stop l.t ≡ None;
  kept : g.T.TxCalls.kept l.t ≡ g.T.TxCalls.kept l.fn.t;
  looks : l.looks ≤ MAX_LOOKS;
  few : l.sweep.count ≤ l.looks;
  rest : l.sweep.rest ≤ l.quantity;
}
