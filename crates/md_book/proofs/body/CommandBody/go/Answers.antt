use Rattle.std.proofs.Common.{rules}
use Rattle.md_book.proofs.body.CommandBody.go.Goals as goal

pub returns-in-Depth-clause-ok : goal.returns-in-Depth-clause-ok
returns-in-Depth-clause-ok g c = search rules depth 1
