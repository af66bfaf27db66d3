use Rattle.std.proofs.Common.{◌≡◌, None}
use Rattle.md_store_trials.proofs.mix.call_all.Given as goal

abbrev pub invariant-loop-i : goal.invariant-loop-i
invariant-loop-i g l = (g.T.TxCalls.stop l.t ≡ None) × (g.T.TxCalls.kept l.t ≡ g.T.TxCalls.kept l.initial.t)
