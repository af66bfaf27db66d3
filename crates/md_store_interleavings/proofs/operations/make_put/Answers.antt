use Rattle.std.proofs.Common.{Ok}
use Rattle.md_history.specs.declared.acts.Op.TheVariants.{Put}
use Rattle.md_history.specs.declared.acts.Reply.TheVariants.{Value}
use Rattle.md_list.specs.Operations.{HasStop}
use Rattle.md_nbtc.specs.State.{state}
use Rattle.md_store_bodies.proofs.Runs.{unstopped}
use Rattle.md_store_interleavings.proofs.Acted.{list_may_end}
use Rattle.md_store_interleavings.proofs.operations.make_put.Goals as goal

pub put-requires-clause-head : goal.put-requires-clause-head
put-requires-clause-head c = (c.args.map, c.head_of-head.ensures)

pub returns-in-Ok-clause-makes : goal.returns-in-Ok-clause-makes
returns-in-Ok-clause-makes c =
    let t = state c.args.txn.now in
    let u = state c.put.new.tx in
    let v = c.in-Ok.old in
    list_may_end t u c.requires.begun 0 1 1 c.put.ensures.leaves c.args.map c.args.key c.head_of-head.result (λ map. Put map c.args.key c.args.value) (Value v)
    c.in-Ok.ensures.answer c.head_of-head.ensures (unstopped t u (Ok v) (HasStop u (Ok v)) c.requires.begun.none c.in-Ok.ensures.stops)
