use Rattle.std.proofs.Common.{◌≡◌, ◌≤◌}
use Rattle.md_rule.specs.Views.{IsOf}
use Rattle.md_rule_tests.proofs.tests.stalls.aborted.Given as goal

abbrev pub invariant-loop-lane : goal.invariant-loop-lane
invariant-loop-lane l = record { field : IsOf l.pass l.field; end : l.lane-end ≡ l.field.origin.shape.lanes; few : l.aborted ≤ l.lane }
