use Rattle.std.proofs.Common.{All, vec_len}
use Rattle.md_rule.specs.Views.{IsOf}
use Rattle.md_rule_tests.proofs.tests.passes.join_all.Given as goal

abbrev pub invariant-others : goal.invariant-others
invariant-others l = IsOf l.pass l.field × All (λ p. IsOf p l.field) l.others.items

abbrev pub decreases-others : goal.decreases-others
decreases-others l = vec_len l.others
