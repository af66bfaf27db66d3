use Rattle.md_arena.proofs.TakenNodes.{highest_by}
use Rattle.md_rule_tests.proofs.tests.arena.taken_and_given_back.Goals as goal

pub give_back-requires-clause-highest : goal.give_back-requires-clause-highest
give_back-requires-clause-highest c = highest_by c.args.pass.now c.in_ok-node.node c.take_node.new.pass c.in_ok-node.ensures.takes
