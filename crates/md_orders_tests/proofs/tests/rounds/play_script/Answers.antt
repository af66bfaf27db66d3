use Rattle.std.proofs.Common.{rules, ◌∙◌}
use Rattle.md_orders_tests.proofs.tests.rounds.play_script.Goals as goal

pub run_all-requires-after_bounds : goal.run_all-requires-after_bounds
run_all-requires-after_bounds g c κs within = record {
  of = search rules;
  fresh = search rules;
  lanes = search rules;
  start = c.open-store.ensures.store ∙ c.in_ok-empty.ensures;
  bounds = search rules;
  tries = search rules;
  room = search rules;
}
