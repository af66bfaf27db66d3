use Rattle.std.proofs.Common.{sym, subst, true}
use Rattle.md_machine.specs.Event.{mark_start}
use Rattle.md_nbtc_law.specs.Calls.{GoesOn}
use Rattle.md_nbtc_law.proofs.operations.OnMark.{mark_is_so, mark_so}
use Rattle.md_nbtc_law.proofs.operations.StartedOps.{may_start_op, started_on, started_view}
use Rattle.md_nbtc.specs.State.{state}
use Rattle.md_nbtc.proofs.txn.Txn.start_op.Goals as goal

pub mark_start-requires-clause-may : goal.mark_start-requires-clause-may
mark_start-requires-clause-may g c = may_start_op g.T.Theory.meaning (state c.args.self.now) c.requires.going.1.prepared c.requires.between

pub returns-clause-on : goal.returns-clause-on
returns-clause-on g c =
    let M = g.T.Theory.meaning in
    let x = c.args.self.now in
    let prepared = c.requires.going.1.prepared in
    let q = c.mark_start.new.self in
    let step = c.mark_start.ensures.step in
    subst (GoesOn M (state x)) (sym (mark_so M x.field.now x.pass.now x.began.value x.sets.now.reads x.sets.now.slots x.stop x.desc x.serial x.tag x.sets.now.lots prepared (state x).hand.acts true
    (λ pass. mark_start pass) q c.mark_start.ensures.same step (started_view M (state x) prepared c.requires.between q.view step)))
    (started_on M (state x) prepared c.requires.between q.view step)

pub returns-clause-begun : goal.returns-clause-begun
returns-clause-begun g c =
    let M = g.T.Theory.meaning in
    let x = c.args.self.now in
    let prepared = c.requires.going.1.prepared in
    let q = c.mark_start.new.self in
    let step = c.mark_start.ensures.step in
    mark_is_so M x.field.now x.pass.now x.began.value x.sets.now.reads x.sets.now.slots x.stop x.desc x.serial x.tag x.sets.now.lots prepared (state x).hand.acts true
    (λ pass. mark_start pass) q c.mark_start.ensures.same step (started_view M (state x) prepared c.requires.between q.view step)
