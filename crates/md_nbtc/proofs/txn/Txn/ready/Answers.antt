use Rattle.md_machine.specs.declared.attempt.AttemptId.{AttemptId}
use Rattle.md_nbtc.proofs.Readied.{readies, refused, under_way}
use Rattle.md_nbtc.proofs.txn.Txn.ready.Goals as goal

pub made_ready-requires-clause-going : goal.made_ready-requires-clause-going
made_ready-requires-clause-going g c =
    let x = c.args.self in
    let a : AttemptId = record { desc = x.desc; serial = x.serial } in
    under_way g.T.Theory.meaning x.field.now x.pass.now x.began.value x.sets.now a x.tag x.stop c.requires.runs c.requires.going

pub returns-in-Ok-clause-ready : goal.returns-in-Ok-clause-ready
returns-in-Ok-clause-ready g c =
    let x = c.args.self in
    let a : AttemptId = record { desc = x.desc; serial = x.serial } in
    readies g.T.Theory.meaning x.field.now x.pass.now x.began.value x.sets.now a x.tag x.stop c.requires.runs c.made_ready.new.pass c.in-Ok.ensures.ready

pub returns-clause-refused : goal.returns-clause-refused
returns-clause-refused g c =
    let x = c.args.self in
    let a : AttemptId = record { desc = x.desc; serial = x.serial } in
    refused g.T.Theory.meaning x.field.now x.pass.now x.began.value x.sets.now a x.tag x.stop c.requires.runs c.made_ready.new.pass c.in-Err.shown c.in-Err.ensures.refused
