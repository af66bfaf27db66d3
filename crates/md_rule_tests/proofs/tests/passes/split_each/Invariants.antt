use Rattle.std.proofs.Common.{All, vec_len}
use Rattle.md_rule.specs.Views.{IsOf}
use Rattle.md_rule_tests.proofs.tests.passes.split_each.Given as goal

abbrev pub invariant-passes : goal.invariant-passes
invariant-passes l = All (λ p. IsOf p l.field) l.passes.items × All (λ p. IsOf p l.field) l.parts.items

abbrev pub decreases-passes : goal.decreases-passes
decreases-passes l = vec_len l.passes
