use Rattle.std.proofs.Common.{rules, ap, ◌∙◌}
use Rattle.std.proofs.lemmas.List.FromFn.{length-range_with_len}
use Rattle.md_words.specs.declared.shape.Shape.{Shape}
use Rattle.md_program_collisions.proofs.playing.play_narrow.Goals as goal

pub run_all-requires-after_bounds : goal.run_all-requires-after_bounds
run_all-requires-after_bounds g c κs within = record {
  of = search rules;
  fresh = search rules;
  lanes = length-range_with_len 0 c.in-Ok.store.origin.shape.lanes ∙ ap (λ (s : Shape). s.lanes) c.in-Ok.ensures.shape
      ∙ c.narrow_shape-shape.ensures.0 ∙ c.callers.ensures;
  start = c.in-Ok.ensures.start ∙ c.in_ok-start.ensures;
  bounds = search rules;
  tries = search rules;
  room = search rules;
}
