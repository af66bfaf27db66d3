use Rattle.std.proofs.Common.{◌≤◌}
use Rattle.md_rule.specs.Views.{IsOf}
use Rattle.md_rule_tests.proofs.tests.passes.churn.Given as goal

abbrev pub invariant-loop-i : goal.invariant-loop-i
invariant-loop-i l = IsOf l.pass l.field × (l.won ≤ l.i)
