-- Whatever a step was made for was begun, after every event.
use Rattle.std.proofs.Common.{◌≡◌, true, ap, ◌∙◌, subst, ⊎_elim}
use Rattle.md_machine.specs.declared.step.Step.{Step}
use Rattle.md_machine.proofs.clauses.passes.InHand.{HandsAlone}
use Rattle.md_machine.proofs.events.MoveFacts.{MoveFacts, actor, begun_stays}
use Rattle.md_machine.proofs.events.Steps.{adds_step}
use Rattle.md_machine.specs.Machine.{Machine, was_begun}
use Rattle.md_machine.specs.clauses.passes.StepsBegun.{StepsAreBegun}

pub steps_begun-kept : (m n : Machine) → MoveFacts m n → HandsAlone m.begun m.passes → StepsAreBegun m.begun m.passes → StepsAreBegun n.begun n.passes
steps_begun-kept m n v alone was j u at segment c t i a e = ⊎_elim
    (λ old. begun_stays m n v a (was old.0 old.1 old.2 old.3.0 old.3.1 t old.3.2 a e))
    (λ same. let x = actor m n v a (ap (λ (s : Step). s.attempt) same ∙ e) in
    begun_stays m n v a (subst (λ b. was_begun m.begun b ≡ true) x.same (alone.begins x.pass x.p x.h x.at x.held)))
    (adds_step m.passes n.passes v.step v.from t (j, u, at, (segment, c, i)))
