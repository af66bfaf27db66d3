use Rattle.std.proofs.Common.{Ok}
use Rattle.md_history.specs.declared.acts.Op.TheVariants.{Remove}
use Rattle.md_history.specs.declared.acts.Reply.TheVariants.{Value}
use Rattle.md_list.specs.Operations.{HasStopButNodes}
use Rattle.md_nbtc.specs.State.{state}
use Rattle.md_store_bodies.proofs.Runs.{unstopped}
use Rattle.md_store_interleavings.proofs.Acted.{list_may_end}
use Rattle.md_store_interleavings.proofs.operations.make_remove.Goals as goal

pub remove-requires-clause-head : goal.remove-requires-clause-head
remove-requires-clause-head c = (c.args.map, c.head_of-head.ensures)

pub returns-in-Ok-clause-makes : goal.returns-in-Ok-clause-makes
returns-in-Ok-clause-makes c =
    let t = state c.args.txn.now in
    let u = state c.remove.new.tx in
    let v = c.in-Ok.value in
    list_may_end t u c.requires.begun 1 1 0 c.remove.ensures.leaves c.args.map c.args.key c.head_of-head.result (λ map. Remove map c.args.key) (Value v)
    c.in-Ok.ensures.answer c.head_of-head.ensures (unstopped t u (Ok v) (HasStopButNodes u (Ok v)) c.requires.begun.none c.in-Ok.ensures.stops)
