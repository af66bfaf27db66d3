-- Steps that neither store nor install leave a transaction prepared.
use Rattle.std.proofs.Common.{◌≡◌, ◌≢◌, ◌⊎◌, ◌++◌, ◌∷◌, ℕ, true, false, List, [], sym, ap, ◌∙◌, subst, inl, inr, ⊎_elim, append_assoc}
use Rattle.std.proofs.lemmas.List.Elements.{All-append, All-weaker, All-contains, Contains-append_left, Contains-append_cases, Contains-push, Contains-push_cases}
use Rattle.std.specs.List.{All, Contains}
use Rattle.md_words.specs.declared.shape.Shape.{Shape}
use Rattle.md_machine.specs.declared.attempt.AttemptId.{AttemptId}
use Rattle.md_machine.specs.declared.pass.PassView.{PassView}
use Rattle.md_machine.specs.declared.step.Step.{Step}
use Rattle.md_machine.specs.declared.step.Kind.TheVariants.{Install, Uninstall}
use Rattle.md_machine.specs.Moved.{TakesOther, holds_other}
use Rattle.md_machine.specs.Trail.{EveryStepOf, LastStored, SomeStepOf, StoresFor, is_store, segments}
use Rattle.md_help.specs.After.{IsAfter}
use Rattle.md_nbtc_law.specs.Prepared.{LastOn, LeftLast, LeftThere, StoredOnce}

-- a step that neither stores nor installs; it changes at most what isn't the word, or takes another's descriptor out
pub record IsQuiet (s : Step) : Type 0 where
  pub store : is_store s.kind ≡ false
  pub install : s.kind ≢ Install

-- on a word it changes nothing but to take another's descriptor out
abbrev pub IsStill : (desc word : ℕ) → Step → Type 0
IsStill desc word s = s.word ≡ word → (s.before ≡ s.after) ⊎ ((s.kind ≡ Uninstall) × (holds_other desc s.before ≡ true))

pub quiet_store : (a : AttemptId) (word : ℕ) (s : Step) → IsQuiet s → ¬ StoresFor a word s
quiet_store a word s q stores = let e = ap is_store (sym stores.kind) ∙ q.store in cc

module _ (shape : Shape) (steps : List Step) (p q : PassView) (after : IsAfter shape steps p q) where
  trail_is : q.trail ≡ p.trail ++ steps
  trail_is = ap (λ (x : PassView). x.trail) after.1

  past_is : q.past ≡ p.past
  past_is = ap (λ (x : PassView). x.past) after.1

  -- an earlier segment is one still, and the last one is longer
  pub earlier_still : (segment : List Step) → Contains p.past segment → Contains (segments q) segment
  earlier_still segment c = subst (λ l. Contains (l ++ q.trail ∷ []) segment) (sym past_is) (Contains-append_left p.past (q.trail ∷ []) segment c)

  pub last_longer : (segment : List Step) → p.trail ≡ segment → Contains (segments q) (segment ++ steps)
  last_longer segment is = subst (λ l. Contains (segments q) l) (trail_is ∙ ap (λ l. l ++ steps) is) (Contains-push q.past q.trail)

  -- a step of it is an earlier one or one of these
  pub some_was : (P : Step → Type 0) → All (λ s. ¬ P s) steps → SomeStepOf q P → SomeStepOf p P
  some_was P none (segment, c, (s, i, is)) = ⊎_elim
      (λ old. (segment, Contains-append_left p.past (p.trail ∷ []) segment (subst (λ l. Contains l segment) past_is old), (s, i, is)))
      (λ last. ⊎_elim
      (λ before. (p.trail, Contains-push p.past p.trail, (s, before, is)))
      (λ new. absurd (All-contains (λ x. ¬ P x) steps s none new is))
      (Contains-append_cases p.trail steps s (subst (λ l. Contains l s) (sym last ∙ trail_is) i)))
      (Contains-push_cases q.past q.trail segment c)

  pub every_still : (P : Step → Type 0) → All P steps → EveryStepOf p P → EveryStepOf q P
  every_still P new old segment c s i = ⊎_elim
      (λ early. old segment (Contains-append_left p.past (p.trail ∷ []) segment (subst (λ l. Contains l segment) past_is early)) s i)
      (λ last. ⊎_elim (λ before. old p.trail (Contains-push p.past p.trail) s before) (λ n. All-contains P steps s new n)
      (Contains-append_cases p.trail steps s (subst (λ l. Contains l s) (sym last ∙ trail_is) i)))
      (Contains-push_cases q.past q.trail segment c)

  -- what was stored last is so still
  pub stored_still : (a : AttemptId) (word held : ℕ) → All IsQuiet steps → LastStored p a word held → LastStored q a word held
  stored_still a word held quiet l = ⊎_elim
      (λ old. record {
        store = record { earlier = l.store.earlier; step = l.store.step; later = l.store.later; segment = earlier_still _ old; such = l.store.such };
        left = l.left;
        last = l.last;
      })
      (λ last. record {
        store = record {
          earlier = l.store.earlier;
          step = l.store.step;
          later = l.store.later ++ steps;
          segment = subst (λ s. Contains (segments q) s) (append_assoc l.store.earlier (l.store.step ∷ l.store.later) steps) (last_longer _ last);
          such = l.store.such;
        };
        left = l.left;
        last = All-append (λ s. ¬ StoresFor a word s) l.store.later steps l.last (All-weaker IsQuiet (λ s. ¬ StoresFor a word s) (quiet_store a word) steps quiet);
      })
      (Contains-push_cases p.past p.trail (l.store.earlier ++ l.store.step ∷ l.store.later) l.store.segment)

-- what was stored once was so still, if no step stored there again
pub once_still : (a : AttemptId) (word : ℕ) (trail steps : List Step) → All (λ s. ¬ StoresFor a word s) steps → StoredOnce a word trail → StoredOnce a word (trail ++ steps)
once_still a word trail steps none x = record {
  earlier = x.earlier;
  step = x.step;
  later = x.later ++ steps;
  order = ap (λ l. l ++ steps) x.order ∙ append_assoc x.earlier (x.step ∷ x.later) steps;
  stores = x.stores;
  before = x.before;
  since = All-append (λ s. ¬ StoresFor a word s) x.later steps x.since none;
}

-- what was left in a word is there still, if nothing changed it
pub last_still : (word held : ℕ) (trail steps : List Step) → All (λ s. s.word ≡ word → s.before ≡ s.after) steps → LeftLast word held trail → LeftLast word held (trail ++ steps)
last_still word held trail steps same l = record {
  earlier = l.earlier;
  step = l.step;
  later = l.later ++ steps;
  order = ap (λ x. x ++ steps) l.order ∙ append_assoc l.earlier (l.step ∷ l.later) steps;
  leaves = l.leaves;
  unchanged = All-append (λ s. s.word ≡ word → s.before ≡ s.after) l.later steps l.unchanged same;
}

-- the last step on a word is still the last
pub last_on : (word held : ℕ) (own steps : List Step) → All (λ s. s.word ≢ word) steps → LastOn word held own → LastOn word held (own ++ steps)
last_on word held own steps apart l = record {
  earlier = l.earlier;
  step = l.step;
  later = l.later ++ steps;
  order = ap (λ x. x ++ steps) l.order ∙ append_assoc l.earlier (l.step ∷ l.later) steps;
  leaves = l.leaves;
  others = All-append (λ s. s.word ≢ word) l.later steps l.others apart;
}

pub left_same : (desc word held : ℕ) (own steps : List Step) → All (λ s. s.word ≡ word → s.before ≡ s.after) steps
    → LeftThere desc word held own → LeftThere desc word held (own ++ steps)
left_same desc word held own steps same l = record {
  earlier = l.earlier;
  step = l.step;
  later = l.later ++ steps;
  order = ap (λ x. x ++ steps) l.order ∙ append_assoc l.earlier (l.step ∷ l.later) steps;
  leaves = l.leaves;
  unchanged = All-append Same l.later steps l.unchanged (All-weaker (λ s. s.word ≡ word → s.before ≡ s.after) Same (λ s st there. inl (st there)) steps same);
}
  where
    Same : Step → Type 0
    Same s = s.word ≡ word → (s.before ≡ s.after) ⊎ TakesOther desc held s

-- or took another's descriptor out
pub left_still : (desc word held : ℕ) (own steps : List Step) → All (IsStill desc word) steps
    → ((s : Step) → (s.kind ≡ Uninstall) × (holds_other desc s.before ≡ true) → TakesOther desc held s)
    → LeftThere desc word held own → LeftThere desc word held (own ++ steps)
left_still desc word held own steps still takes l = record {
  earlier = l.earlier;
  step = l.step;
  later = l.later ++ steps;
  order = ap (λ x. x ++ steps) l.order ∙ append_assoc l.earlier (l.step ∷ l.later) steps;
  leaves = l.leaves;
  unchanged = All-append Same l.later steps l.unchanged (All-weaker (IsStill desc word) Same (λ s st there. ⊎_elim inl (λ t. inr (takes s t)) (st there)) steps still);
}
  where
    Same : Step → Type 0
    Same s = s.word ≡ word → (s.before ≡ s.after) ⊎ TakesOther desc held s
