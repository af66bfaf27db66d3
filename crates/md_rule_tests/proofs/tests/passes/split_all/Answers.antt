use Rattle.std.proofs.Common.{All, sym, subst}
use Rattle.std.proofs.lemmas.List.Elements.{All-nil}
use Rattle.md_rule.specs.Views.{IsOf, PassState}
use Rattle.md_rule_tests.proofs.tests.passes.split_all.Goals as goal

pub push_one-requires-clause-passes : goal.push_one-requires-clause-passes
push_one-requires-clause-passes c =
    let of : PassState → Type 0 = λ p. IsOf p c.args.field.now in
    subst (All of) (sym c.new-passes.ensures.items) (All-nil of)
