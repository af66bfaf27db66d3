use Rattle.md_many_attempts.proofs.Retrying.{may-stop}
use Rattle.md_many_attempts.proofs.attempts.attempt_line.Goals as goal

pub returns-in-Committed-clause-atomic : goal.returns-in-Committed-clause-atomic
returns-in-Committed-clause-atomic g c = rw c.line_tag.ensures at c.attempt-attempt.ensures.atomic

pub returns-in-Committed-clause-after : goal.returns-in-Committed-clause-after
returns-in-Committed-clause-after g c = rw c.in-Committed.is c.after.ensures

pub returns-in-Committed-clause-stops : goal.returns-in-Committed-clause-stops
returns-in-Committed-clause-stops g c =
    let end = c.attempt-attempt.ensures in may-stop _ _ _ _ _ end.may_stop end.alone end.small

pub returns-in_default-clause-atomic : goal.returns-in_default-clause-atomic
returns-in_default-clause-atomic g c = rw c.line_tag.ensures at c.attempt-attempt.ensures.atomic

pub returns-in_default-clause-after : goal.returns-in_default-clause-after
returns-in_default-clause-after g c = rw c.in_default.is tt

pub returns-in_default-clause-stops : goal.returns-in_default-clause-stops
returns-in_default-clause-stops g c =
    let end = c.attempt-attempt.ensures in may-stop _ _ _ _ _ end.may_stop end.alone end.small
