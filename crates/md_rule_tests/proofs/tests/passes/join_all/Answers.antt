use Rattle.std.proofs.Common.{IfSome, subst}
use Rattle.std.proofs.lemmas.List.Elements.{All-pop}
use Rattle.md_rule.specs.Views.{IsOf, PassState}
use Rattle.md_rule_tests.proofs.tests.passes.join_all.Goals as goal

pub others-init : goal.others-init
others-init c =
    let of : PassState → Type 0 = λ p. IsOf p c.args.field.now in
    let popped = All-pop of c.args.others.items c.pop.new.self.items c.pop.result c.pop.ensures.items c.requires in
    (subst (λ r. IfSome r of) c.in_ok-pass.was popped.1, popped.0)
