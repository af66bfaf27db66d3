use Rattle.std.proofs.Common.{refl, sym}
use Rattle.md_program.proofs.Asked.{none-written, none-accepted, one-written}
use Rattle.md_program.proofs.runs.run.Goals as goal

pub returns-in-Some-clause-usage : goal.returns-in-Some-clause-usage
returns-in-Some-clause-usage g c = (
  λ usage. absurd (c.run_asked.ensures.usage usage),
  λ other. absurd (other (c.in-Some.options, (c.read_options.ensures.written c.in-Some.options).0 c.in-Some.is)),
)

pub returns-in-Some-clause-refused : goal.returns-in-Some-clause-refused
returns-in-Some-clause-refused g c = λ other. absurd (other (c.in-Some.options, (c.read_options.ensures.written c.in-Some.options).0 c.in-Some.is))

pub returns-in-Some-clause-answers : goal.returns-in-Some-clause-answers
returns-in-Some-clause-answers g c = λ options write.
    let same = one-written _ _ c.read_options.ensures.written c.in-Some.options options c.in-Some.is write in
    rw (sym same) c.run_asked.ensures.answers

pub returns-in-Some-clause-complete : goal.returns-in-Some-clause-complete
returns-in-Some-clause-complete g c = λ options write.
    let same = one-written _ _ c.read_options.ensures.written c.in-Some.options options c.in-Some.is write in
    rw (sym same) c.run_asked.ensures.complete

pub returns-in-None-clause-usage : goal.returns-in-None-clause-usage
returns-in-None-clause-usage g c = (
  λ _. none-accepted _ _ c.read_options.ensures.written c.in-None.is,
  λ _. c.stop.ensures.status,
)

pub returns-in-None-clause-answers : goal.returns-in-None-clause-answers
returns-in-None-clause-answers g c = λ options write. absurd (none-written _ _ c.read_options.ensures.written c.in-None.is options write)

pub returns-in-None-clause-complete : goal.returns-in-None-clause-complete
returns-in-None-clause-complete g c = λ options write. absurd (none-written _ _ c.read_options.ensures.written c.in-None.is options write)

pub returns-in-None-clause-refused : goal.returns-in-None-clause-refused
returns-in-None-clause-refused g c = λ _. (c.stop.ensures.status, refl, c.stop.ensures.alone)
