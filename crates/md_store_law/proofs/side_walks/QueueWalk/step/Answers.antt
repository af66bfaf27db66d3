use Rattle.std.proofs.Common.{◌++◌, [], ◌∷◌, ap, ◌∙◌}
use Rattle.md_words.specs.Link.{linked_node}
use Rattle.md_store_law.specs.Field.{logical_words}
use Rattle.md_store_law.proofs.side_walks.QueueWalk.step.Goals as goal

pub pair_of-requires-clause-node : goal.pair_of-requires-clause-node
unfolding linked_node
pair_of-requires-clause-node g c =
    let is = c.requires.may.next (λ z. c.if-next-eq0.false (c.next_of-next.ensures ∙ z)) in
    rw c.next_of-next.ensures is

pub returns : goal.returns
unfolding linked_node
returns g c =
    let w = logical_words c.args.shape.now (g.W.FieldWords.words c.args.words.now) in
    let now = c.args.self.now.values.items in
    let next = c.next_of-next.ensures in
    record {
      next = λ z. c.if-next-eq0.false (next ∙ z);
      node = ap linked_node next;
      values = c.in_ok-push.ensures.items ∙ ap (λ p. now ++ p.1 ∷ []) c.pair_of.ensures ∙ ap (λ v. now ++ w.value_of_node (linked_node v) ∷ []) next;
    }
