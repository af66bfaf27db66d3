use Rattle.std.proofs.Common.{All}
use Rattle.md_rule.specs.Views.{IsOf}
use Rattle.md_rule_tests.proofs.tests.passes.split_all.Given as goal

abbrev pub invariant-loop-i : goal.invariant-loop-i
invariant-loop-i l = All (λ p. IsOf p l.field) l.passes.items
