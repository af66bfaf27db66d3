use Rattle.std.proofs.Common.{rules}
use Rattle.example_bank.proofs.bank.Transfer.new_balances.Goals as goal

pub returns : goal.returns
returns c = search rules depth 1
