use Rattle.std.proofs.Common.{◌*◌, ◌≤◌}
use Rattle.md_rule.specs.Views.{IsOf}
use Rattle.medley_bench.proofs.steps.exchanged.Given as goal

abbrev pub invariant-loop-turn : goal.invariant-loop-turn
invariant-loop-turn l = IsOf l.pass l.field × (l.won ≤ 4 * l.turn)
