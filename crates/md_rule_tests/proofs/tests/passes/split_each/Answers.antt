use Rattle.std.proofs.Common.{All, sym, subst}
use Rattle.std.proofs.lemmas.List.Elements.{All-nil}
use Rattle.md_rule.specs.Views.{IsOf, PassState}
use Rattle.md_rule_tests.proofs.tests.passes.split_each.Goals as goal

pub passes-init : goal.passes-init
passes-init c =
    let of : PassState → Type 0 = λ p. IsOf p c.args.field.now in
    (c.requires, subst (All of) (sym c.new-parts.ensures.items) (All-nil of))
