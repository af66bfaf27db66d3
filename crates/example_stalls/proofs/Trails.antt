-- Trails with one more step.
use Rattle.std.proofs.Common.{◌≡◌, ◌++◌, ◌∷◌, [], sym, ap, subst, ⊎_elim, ◌∙◌, append_assoc}
use Rattle.std.specs.List.{Contains}
use Rattle.std.proofs.lemmas.List.Elements.{Contains-append_left, Contains-push, Contains-push_cases}
use Rattle.md_machine.specs.declared.pass.PassView.{PassView}
use Rattle.md_machine.specs.declared.step.Step.{Step}
use Rattle.md_machine.specs.Trail.{EveryStepOf}
use Rattle.example_stalls.specs.Stalled.{MakesStep}

-- what holds of each step of a pass, and of one more, holds of each step after it
pub every_more : (P : Step → Type 0) (s : Step) (p q : PassView) → MakesStep s p q → P s → EveryStepOf p P → EveryStepOf q P
every_more P s p q more new old segment c x i = ⊎_elim
    (λ early. old segment (Contains-append_left p.past (p.trail ∷ []) segment (subst (λ l. Contains l segment) more.past early)) x i)
    (λ last. ⊎_elim
    (λ before. old p.trail (Contains-push p.past p.trail) x before)
    (λ is. subst P is new)
    (Contains-push_cases p.trail s x (subst (λ l. Contains l x) (sym last ∙ more.trail) i)))
    (Contains-push_cases q.past q.trail segment c)

-- three steps more
pub three_more : (a b c : Step) (p q r s : PassView) → MakesStep a p q → MakesStep b q r → MakesStep c r s → (s.past ≡ p.past) × (s.trail ≡ p.trail ++ a ∷ b ∷ c ∷ [])
three_more a b c p q r s x y z = (
  z.past ∙ y.past ∙ x.past,
  z.trail ∙ ap (λ l. l ++ c ∷ []) (y.trail ∙ ap (λ l. l ++ b ∷ []) x.trail ∙ append_assoc p.trail (a ∷ []) (b ∷ [])) ∙ append_assoc p.trail (a ∷ b ∷ []) (c ∷ []),
)
