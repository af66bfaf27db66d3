use Rattle.std.proofs.Common.{rules}
use Rattle.md_book.proofs.fronts.take_out.Goals as goal

pub returns-in_err-put-clause-plays : goal.returns-in_err-put-clause-plays
returns-in_err-put-clause-plays g c = search rules depth 1

pub returns-in_ok-put-clause-plays : goal.returns-in_ok-put-clause-plays
returns-in_ok-put-clause-plays g c = search rules depth 1
