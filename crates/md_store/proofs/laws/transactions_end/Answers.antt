use Rattle.md_store.proofs.Transactions.{ends_so}
use Rattle.md_store.proofs.laws.transactions_end.Goals as goal

pub returns : goal.returns
returns c = ends_so
