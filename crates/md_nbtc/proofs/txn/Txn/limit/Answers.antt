use Rattle.std.proofs.Common.{rules}
use Rattle.md_nbtc.proofs.txn.Txn.limit.Goals as goal

pub returns : goal.returns
returns g c = search rules depth 1

pub returns-then-count-ge-WORN : goal.returns-then-count-ge-WORN
returns-then-count-ge-WORN g c = search rules depth 1

pub returns-then-len : goal.returns-then-len
returns-then-len g c = search rules depth 1
