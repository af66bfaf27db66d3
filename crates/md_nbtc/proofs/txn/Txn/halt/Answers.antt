use Rattle.md_nbtc_law.proofs.recording.Stopping.{stopped_on}
use Rattle.md_nbtc.specs.State.{state}
use Rattle.md_nbtc.proofs.txn.Txn.halt.Goals as goal

pub returns-clause-on : goal.returns-clause-on
returns-clause-on g c = stopped_on g.T.Theory.meaning (state c.args.self.now) c.requires.going c.args.stop c.requires.cause
