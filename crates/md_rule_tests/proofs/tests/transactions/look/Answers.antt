use Rattle.std.proofs.Common.{◌∙◌, sym, ap}
use Rattle.md_rule_tests.proofs.Heads.{counted_at}
use Rattle.md_nbtc.specs.State.{state}
use Rattle.md_rule_tests.proofs.Tested.{over_look}
use Rattle.md_rule_tests.proofs.tests.transactions.look.Goals as goal

pub load-requires-clause-counted : goal.load-requires-clause-counted
load-requires-clause-counted c = counted_at _ _ c.args.bucket _ (c.shape.ensures ∙ ap (λ f. f.origin.shape) (sym c.requires.field)) c.map_head-word.ensures.place

pub returns-clause-open : goal.returns-clause-open
returns-clause-open c = over_look c.args.field.now (state c.args.txn.now) (state c.load.new.self) c.load.ensures.on c.map_head-word.result c.load.result c.load.ensures.looked c.requires
