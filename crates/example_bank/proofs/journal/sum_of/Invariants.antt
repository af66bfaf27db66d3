use Rattle.std.proofs.Common.{◌≡◌, ◌+◌, ◌^◌, sum}
use Rattle.std.specs.Prelude.{◌%◌}
use Rattle.example_bank.specs.Bank.{bank_in, total}
use Rattle.example_bank.proofs.journal.sum_of.Given as goal

abbrev pub invariant-loop-balance : goal.invariant-loop-balance
invariant-loop-balance l = (l.sum + sum l.balance-iterator) % 2 ^ 64 ≡ total (bank_in l.contents) % 2 ^ 64
