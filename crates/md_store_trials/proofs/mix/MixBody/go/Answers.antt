use Rattle.md_store_trials.proofs.Broken.{broke_off_if}
use Rattle.md_store_trials.proofs.mix.MixBody.go.Goals as goal

pub returns-clause-err : goal.returns-clause-err
returns-clause-err g c = broke_off_if _ (λ acts. tt) (g.T.TxCalls.acts c.call_all.new.t) (g.T.TxCalls.stop c.call_all.new.t) c.call_all.result c.call_all.ensures.err
