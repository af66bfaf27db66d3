use Rattle.std.proofs.Common.{sym, subst, false}
use Rattle.md_machine.specs.Event.{mark_act}
use Rattle.md_nbtc_law.specs.Calls.{EndsOperation}
use Rattle.md_nbtc_law.proofs.operations.EndedOps.{ended_acts, ended_on, ended_view, may_end_op}
use Rattle.md_nbtc_law.proofs.operations.OnMark.{mark_is_so, mark_so}
use Rattle.md_nbtc.specs.State.{state}
use Rattle.md_nbtc.proofs.txn.Txn.end_op.Goals as goal

pub mark_act-requires-clause-may : goal.mark_act-requires-clause-may
mark_act-requires-clause-may g c =
    may_end_op g.T.Theory.meaning (state c.args.self.now) c.requires.may.going.prepared c.requires.operates c.args.op c.args.reply c.requires.may

pub returns-clause-on : goal.returns-clause-on
returns-clause-on g c =
    let M = g.T.Theory.meaning in
    let x = c.args.self.now in
    let t = state x in
    let prepared = c.requires.may.going.prepared in
    let q = c.mark_act.new.self in
    let step = c.mark_act.ensures.step in
    let view_is = ended_view M t prepared c.requires.operates c.args.op c.args.reply q.view step in
    subst (λ u. EndsOperation M t u c.args.op c.args.reply) (sym (mark_so M x.field.now x.pass.now x.began.value x.sets.now.reads x.sets.now.slots x.stop x.desc x.serial x.tag x.sets.now.lots prepared
    (ended_acts M t prepared c.requires.operates c.args.op c.args.reply) false (λ pass. mark_act pass step.0) q c.mark_act.ensures.same step.2 view_is))
    (ended_on M t prepared c.requires.operates c.args.op c.args.reply q.view step)

pub returns-clause-ended : goal.returns-clause-ended
returns-clause-ended g c =
    let M = g.T.Theory.meaning in
    let x = c.args.self.now in
    let t = state x in
    let prepared = c.requires.may.going.prepared in
    let q = c.mark_act.new.self in
    let step = c.mark_act.ensures.step in
    mark_is_so M x.field.now x.pass.now x.began.value x.sets.now.reads x.sets.now.slots x.stop x.desc x.serial x.tag x.sets.now.lots prepared
    (ended_acts M t prepared c.requires.operates c.args.op c.args.reply) false (λ pass. mark_act pass step.0) q c.mark_act.ensures.same step.2
    (ended_view M t prepared c.requires.operates c.args.op c.args.reply q.view step)
