use Rattle.example_tickets.proofs.Meeting.{passed}
use Rattle.example_tickets.proofs.tickets.taken_tickets_are_passed.Goals as goal

pub returns : goal.returns
returns c = passed
