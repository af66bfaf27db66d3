use Rattle.std.proofs.Common.{All, sym, subst}
use Rattle.std.proofs.lemmas.List.Elements.{All-push}
use Rattle.md_rule.specs.Views.{IsOf, PassState}
use Rattle.md_rule_tests.proofs.tests.passes.push_one.Goals as goal

pub returns : goal.returns
returns c =
    let of : PassState → Type 0 = λ p. IsOf p c.args.field.now in
    subst (All of) (sym c.in_ok-push.ensures.items) (All-push of c.args.passes.now.items c.args.pass c.requires.passes c.requires.of)
