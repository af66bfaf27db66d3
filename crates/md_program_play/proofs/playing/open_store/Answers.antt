use Rattle.std.proofs.Common.{ap, ◌∙◌, rules}
use Rattle.std.proofs.lemmas.List.FromFn.{length-range_with_len}
use Rattle.md_words.specs.declared.shape.Shape.{Shape}
use Rattle.md_program_play.proofs.playing.open_store.Goals as goal

pub returns-clause-nodes : goal.returns-clause-nodes
returns-clause-nodes c = ap (λ (s : Shape). s.nodes) c.in-Ok.ensures.shape ∙ c.shape_of-shape.ensures.1

pub returns-clause-open_for : goal.returns-clause-open_for
returns-clause-open_for c = record {
  of = c.in-Ok.ensures.of;
  fresh = search rules;
  lanes = length-range_with_len 0 c.in-Ok.store.origin.shape.lanes ∙ ap (λ (s : Shape). s.lanes) c.in-Ok.ensures.shape ∙ c.shape_of-shape.ensures.0;
  start = c.in-Ok.ensures.start ∙ c.in_ok-start.ensures;
  bounds = search rules;
  tries = search rules;
  room = search rules;
}
