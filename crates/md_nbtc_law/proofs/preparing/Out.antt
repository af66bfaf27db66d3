-- No earlier attempt comes to stand in the next word of a node that was left when the attempt in hand began.
use Rattle.std.proofs.Common.{◌≡◌, ◌≢◌, ℕ, List, [], ◌∷◌, ◌++◌, None, Some, sym, ◌∙◌, subst, ⊎_elim}
use Rattle.std.specs.List.{All, Contains}
use Rattle.std.proofs.lemmas.List.Elements.{All-contains, All-weaker, Contains-append_cases, Contains-append_left, Contains-push, Contains-push_cases}
use Rattle.std.proofs.lemmas.Option.{none-some}
use Rattle.md_words.specs.declared.shape.Shape.{Shape}
use Rattle.md_words.specs.Content.{count_of}
use Rattle.md_words.specs.Layout.{address}
use Rattle.md_words.specs.Place.{node_next}
use Rattle.md_machine.specs.declared.attempt.AttemptId.{AttemptId}
use Rattle.md_machine.specs.declared.pass.PassView.{PassView}
use Rattle.md_machine.specs.declared.step.Step.{Step}
use Rattle.md_machine.specs.Stepping.{attempt_in_hand}
use Rattle.md_machine.specs.Trail.{EveryStepOf, Meets, MetHigher, SomeStepOf}
use Rattle.md_machine.specs.clauses.nodes.EvenNexts.{AllTakenOut}
use Rattle.md_machine.specs.events.Start.{WonInstall}
use Rattle.md_rule.specs.Kept.{IsLeft}
use Rattle.md_rule.specs.Views.{PassState}
use Rattle.md_help.specs.After.{IsAfter}
use Rattle.md_help.proofs.Deciding.{some_after}
use Rattle.md_nbtc_law.specs.Prepared.{AreOut}
use Rattle.md_nbtc_law.proofs.preparing.Quiet.{every_still}

same_of : (a b : AttemptId) → Some a ≡ Some b → a ≡ b
same_of a b e = cc

-- steps for the attempt in hand leave it so
pub out_on : (began : PassState) (shape : Shape) (a : AttemptId) (steps : List Step) (p q : PassView) → IsAfter shape steps p q → attempt_in_hand p.hand ≡ Some a
    → AreOut began shape p a → AreOut began shape q a
out_on began shape a steps p q goes held out node left = every_still shape steps p q goes Out
    (All-weaker (λ s. s.attempt ≡ attempt_in_hand p.hand) Out (λ s is b ne won there. absurd (ne (same_of b a (sym won.attempt ∙ is ∙ held)))) steps goes.3)
    (λ segment c s i b ne won there. let it = out node left segment c s i b ne won there in (it.0, it.1, some_after _ shape steps p q goes it.2))
  where
    Out : Step → Type 0
    Out s = (b : AttemptId) → b ≢ a → WonInstall b s → s.word ≡ address shape (node_next node) → MetHigher q s.word (count_of s.after)

-- a view with more steps in its last segment, whatever else it has
module _ (p q : PassView) (steps : List Step) (past : q.past ≡ p.past) (trail : q.trail ≡ p.trail ++ steps) where
  every_more : (P : Step → Type 0) → All P steps → EveryStepOf p P → EveryStepOf q P
  every_more P new old segment c s i = ⊎_elim
      (λ early. old segment (Contains-append_left p.past (p.trail ∷ []) segment (subst (λ l. Contains l segment) past early)) s i)
      (λ last. ⊎_elim (λ before. old p.trail (Contains-push p.past p.trail) s before) (λ n. All-contains P steps s new n)
      (Contains-append_cases p.trail steps s (subst (λ l. Contains l s) (sym last ∙ trail) i)))
      (Contains-push_cases q.past q.trail segment c)

  some_more : (P : Step → Type 0) → SomeStepOf p P → SomeStepOf q P
  some_more P (segment, c, (s, i, h)) = ⊎_elim
      (λ old. (segment, Contains-append_left q.past (q.trail ∷ []) segment (subst (λ l. Contains l segment) (sym past) old), (s, i, h)))
      (λ last. (q.trail, Contains-push q.past q.trail, (s, subst (λ l. Contains l s) (sym trail) (Contains-append_left p.trail steps s (subst (λ l. Contains l s) (sym last) i)), h)))
      (Contains-push_cases p.past p.trail segment c)

  -- steps for no attempt leave what is known of the nodes that are left
  pub out_begun : (began : PassState) (shape : Shape) (a : AttemptId) → All (λ (s : Step). s.attempt ≡ None) steps
      → ((node : ℕ) → IsLeft (record began { shape = shape }) node → AllTakenOut p (address shape (node_next node))) → AreOut began shape q a
  out_begun began shape a none out node left = every_more Out
      (All-weaker (λ (s : Step). s.attempt ≡ None) Out (λ s no b ne won there. absurd (none-some b (sym no ∙ won.attempt))) steps none)
      (λ segment c s i b ne won there.
      let it = out node left segment c s i b won there in (it.0, it.1, subst (λ w. SomeStepOf q (Meets w it.0)) (sym there) (some_more _ it.2)))
    where
      Out : Step → Type 0
      Out s = (b : AttemptId) → b ≢ a → WonInstall b s → s.word ≡ address shape (node_next node) → MetHigher q s.word (count_of s.after)
