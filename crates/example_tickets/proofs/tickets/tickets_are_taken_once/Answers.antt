use Rattle.example_tickets.proofs.Meeting.{taken_once}
use Rattle.example_tickets.proofs.tickets.tickets_are_taken_once.Goals as goal

pub returns : goal.returns
returns c = taken_once
