use Rattle.std.proofs.Common.{sym, arith}
use Rattle.md_many_attempts.proofs.steps.try_line.Goals as goal

pub returns-in-Committed-clause-committed : goal.returns-in-Committed-clause-committed
returns-in-Committed-clause-committed g c = record {
  body = c.in-Some.body;
  there = c.in-Some.ensures;
  reply = c.in-Committed.reply;
  commits = rw c.line_tag.ensures at c.in-Committed.ensures.atomic.committed;
  counted = c.in-Committed.ensures.begun;
  more = c.put.ensures.items;
  told_of_it = c.after.ensures;
}

pub returns-clause-stopped : goal.returns-clause-stopped
returns-clause-stopped g c = record {
  stops = rw c.line_tag.ensures at c.in-Stopped.ensures.atomic.stopped;
  counted = c.in-Stopped.ensures.begun;
  may = c.in-Stopped.ensures.may_stop;
  small = λ fresh tries small. c.in-Stopped.ensures.small fresh tries (rw (sym c.in-Some.ensures) at small);
}

pub returns-clause-room : goal.returns-clause-room
returns-clause-room g c = omega arith
