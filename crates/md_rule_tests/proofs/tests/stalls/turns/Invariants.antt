use Rattle.std.proofs.Common.{◌≡◌, ◌≤◌, None}
use Rattle.md_rule.specs.Views.{IsOf}
use Rattle.md_rule_tests.proofs.tests.stalls.turns.Given as goal

abbrev pub invariant-loop-i : goal.invariant-loop-i
invariant-loop-i l =
    record { field : IsOf l.pass l.field; idle : l.pass.view.hand ≡ None; installs : l.won.installs ≤ l.i; exchanges : l.won.exchanges ≤ l.i }
