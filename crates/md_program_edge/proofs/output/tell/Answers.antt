use Rattle.std.proofs.Common.{subst, ◌∙◌}
use Rattle.md_program_edge.specs.Streams.{Tells}
use Rattle.md_program_edge.proofs.output.tell.Goals as goal

pub returns-in-Usage : goal.returns-in-Usage
returns-in-Usage g c = rw c.in-Usage.is c.tell_line.ensures

pub returns-in-BadLine : goal.returns-in-BadLine
returns-in-BadLine g c =
    let text = c.as_bytes.ensures.value ∙ c.as_str.ensures.value ∙ c.bad_line-line.ensures in
    rw c.in-BadLine.is (subst (λ line. Tells g.O.Sink.takes g.O.Sink.holds g.O.Sink.faults c.args.output.now c.tell_line-in-BadLine.new.output line) text c.tell_line-in-BadLine.ensures)

pub returns-in-ReadFault : goal.returns-in-ReadFault
returns-in-ReadFault g c = rw c.in-ReadFault.is c.tell_line-in-ReadFault.ensures

pub returns-in-NoMemory : goal.returns-in-NoMemory
returns-in-NoMemory g c = rw c.in-NoMemory.is c.tell_line-in-NoMemory.ensures

pub returns-in-TooLong : goal.returns-in-TooLong
returns-in-TooLong g c = rw c.in-TooLong.is c.tell_line-in-TooLong.ensures

pub returns-in-TooMany : goal.returns-in-TooMany
returns-in-TooMany g c = rw c.in-TooMany.is c.tell_line-in-TooMany.ensures
