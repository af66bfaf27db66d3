use Rattle.md_store_trials.proofs.Broken.{broke_off_if}
use Rattle.md_store_trials.proofs.counts.CountBody.go.Goals as goal

pub returns-clause-err : goal.returns-clause-err
returns-clause-err g c = broke_off_if _ (λ acts. tt) (g.T.TxCalls.acts c.add_one.new.t) (g.T.TxCalls.stop c.add_one.new.t) c.add_one.result c.add_one.ensures.err
