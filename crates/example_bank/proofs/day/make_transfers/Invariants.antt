use Rattle.std.proofs.Common.{◌≡◌, length}
use Rattle.example_bank.proofs.day.make_transfers.Given as goal

abbrev pub invariant-tellers : goal.invariant-tellers
invariant-tellers l = length l.all.items ≡ l.teller
