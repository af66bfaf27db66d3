use Rattle.md_store_trials.proofs.Broken.{broke_off_if}
use Rattle.md_store_trials.proofs.transfers.TransferBody.go.Goals as goal

pub returns-clause-err : goal.returns-clause-err
returns-clause-err g c = broke_off_if _ (λ acts. tt) (g.T.TxCalls.acts c.transfer_once.new.t) (g.T.TxCalls.stop c.transfer_once.new.t) c.transfer_once.result c.transfer_once.ensures.err
