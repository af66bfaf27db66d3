use Rattle.md_nbtc_law.proofs.preparing.Heaps.{goes_self}
use Rattle.md_nbtc.specs.State.{state}
use Rattle.md_nbtc.proofs.txn.Txn.load.Goals as goal

pub returns-in-Some-clause-on : goal.returns-in-Some-clause-on
returns-in-Some-clause-on g c = goes_self g.T.Theory.meaning (state c.args.self.now)
