use Rattle.md_rule.specs.Views.{IsOf}
use Rattle.medley_bench.proofs.steps.loaded.Given as goal

abbrev pub invariant-loop-turn : goal.invariant-loop-turn
invariant-loop-turn l = IsOf l.pass l.field
