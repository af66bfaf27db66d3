use Rattle.std.proofs.Common.{◌≡◌, ◌≤◌}
use Rattle.md_rule.specs.Views.{IsOf}
use Rattle.example_tickets.specs.Taken.{TakenBelow}
use Rattle.md_rule_tests.proofs.tests.tickets.taken.Given as goal

abbrev pub invariant-loop-turn : goal.invariant-loop-turn
invariant-loop-turn l =
    record { field : IsOf l.pass l.field; same : l.pass ≡ record l.fn.pass { view = l.pass.view }; few : l.taken ≤ l.turn; below : TakenBelow l.field.origin.shape l.pass.view l.next }
