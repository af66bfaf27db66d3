use Rattle.md_machine.specs.declared.attempt.AttemptId.{AttemptId}
use Rattle.md_nbtc.proofs.Readied.{left_if, under_way, unready_if}
use Rattle.md_nbtc.proofs.txn.Txn.leave_ready.Goals as goal

pub made_ready-requires-clause-going : goal.made_ready-requires-clause-going
made_ready-requires-clause-going g c =
    let x = c.args.self in
    let a : AttemptId = record { desc = x.desc; serial = x.serial } in
    under_way g.T.Theory.meaning x.field.now x.pass.now x.began.value x.sets.now a x.tag x.stop c.requires.runs c.requires.going

pub returns-clause-left : goal.returns-clause-left
returns-clause-left g c =
    let x = c.args.self in
    let a : AttemptId = record { desc = x.desc; serial = x.serial } in
    left_if g.T.Theory.meaning x.field.now x.pass.now x.began.value x.sets.now a x.tag x.stop c.requires.runs c.made_ready.new.pass c.made_ready.result c.made_ready.ensures.ready

pub returns-clause-refused : goal.returns-clause-refused
returns-clause-refused g c =
    let x = c.args.self in
    let a : AttemptId = record { desc = x.desc; serial = x.serial } in
    unready_if g.T.Theory.meaning x.field.now x.pass.now x.began.value x.sets.now a x.tag x.stop c.requires.runs c.made_ready.new.pass c.made_ready.result c.made_ready.ensures.refused
