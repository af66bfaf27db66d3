use Rattle.std.proofs.Common.{Ok}
use Rattle.md_history.specs.declared.acts.Op.TheVariants.{Insert}
use Rattle.md_history.specs.declared.acts.Reply.TheVariants.{Flag}
use Rattle.md_list.specs.Operations.{HasStop}
use Rattle.md_nbtc.specs.State.{state}
use Rattle.md_store_bodies.proofs.Runs.{unstopped}
use Rattle.md_store_interleavings.proofs.Acted.{list_may_end}
use Rattle.md_store_interleavings.proofs.operations.make_insert.Goals as goal

pub insert-requires-clause-head : goal.insert-requires-clause-head
insert-requires-clause-head c = (c.args.map, c.head_of-head.ensures)

pub returns-in-Ok-clause-makes : goal.returns-in-Ok-clause-makes
returns-in-Ok-clause-makes c =
    let t = state c.args.txn.now in
    let u = state c.insert.new.tx in
    let v = c.in-Ok.absent in
    list_may_end t u c.requires.begun 1 1 1 c.insert.ensures.leaves c.args.map c.args.key c.head_of-head.result (λ map. Insert map c.args.key c.args.value) (Flag v)
    c.in-Ok.ensures.answer c.head_of-head.ensures (unstopped t u (Ok v) (HasStop u (Ok v)) c.requires.begun.none c.in-Ok.ensures.stops)
