use Rattle.md_store_trials.proofs.Broken.{broke_off_if}
use Rattle.md_store_trials.proofs.turns.TurnBody.go.Goals as goal

pub returns-clause-err : goal.returns-clause-err
returns-clause-err g c = broke_off_if _ (λ acts. tt) (g.T.TxCalls.acts c.turn_once.new.t) (g.T.TxCalls.stop c.turn_once.new.t) c.turn_once.result c.turn_once.ensures.err
