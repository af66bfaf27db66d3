use Rattle.std.proofs.Common.{rules, slice_index, ap, ◌∙◌}
use Rattle.md_words.specs.Content.{value_of}
use Rattle.md_words.specs.Link.{linked_node}
use Rattle.md_store_law.proofs.side_walks.QueueWalk.begin.Goals as goal

pub returns : goal.returns
unfolding linked_node
returns g c = record {
  node = ap linked_node (c.value_at.ensures ∙ ap (λ word. value_of (slice_index (g.W.FieldWords.words c.args.words.now) word)) c.queue_head.ensures.place);
  values = search rules;
}
