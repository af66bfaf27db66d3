use Rattle.md_arena.proofs.KeptNodes.{no_node_of_two, no_node_twice}
use Rattle.md_arena.proofs.laws.no_node_twice.Goals as goal

pub returns-clause-course : goal.returns-clause-course
returns-clause-course c = no_node_twice

pub returns-clause-two : goal.returns-clause-two
returns-clause-two c = no_node_of_two
