use Rattle.example_bank.specs.Bank.{IsBank}
use Rattle.example_bank.proofs.day.open_bank.Given as goal

abbrev pub invariant-accounts : goal.invariant-accounts
invariant-accounts l = IsBank l.bank
