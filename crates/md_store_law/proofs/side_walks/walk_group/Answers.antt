use Rattle.std.proofs.Common.{arith}
use Rattle.std.proofs.lemmas.Grind.{common_steps}
use Rattle.md_store_law.proofs.side_walks.walk_group.Goals as goal

pub walk_to_ends-requires-clause-queues : goal.walk_to_ends-requires-clause-queues
walk_to_ends-requires-clause-queues g c = grind (arith, common_steps)

pub returns-clause-some : goal.returns-clause-some
returns-clause-some g c = grind (arith, common_steps)

pub returns-clause-queues : goal.returns-clause-queues
returns-clause-queues g c = grind (arith, common_steps)
