use Rattle.std.proofs.Common.{rules}
use Rattle.md_orders.proofs.version.Version.max_caller.Goals as goal

pub returns-in-First : goal.returns-in-First
returns-in-First c = search rules depth 1
