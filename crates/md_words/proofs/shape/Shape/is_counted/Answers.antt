use Rattle.md_words.proofs.Counted.{counted_below_nodes, counted_in_node}
use Rattle.std.proofs.Common.{arith}
use Rattle.md_words.proofs.shape.Shape.is_counted.Goals as goal

pub returns-then-word-nodes : goal.returns-then-word-nodes
returns-then-word-nodes c = counted_below_nodes c.args.self.now c.args.word (omega arith)

pub returns-then-word-first_desc : goal.returns-then-word-first_desc
returns-then-word-first_desc c = rw c.first_node-nodes.ensures (counted_in_node c.args.self.now c.args.word (omega arith) (omega arith))
