-- One step alone raised a word from a count, after every event.
use Rattle.std.proofs.Common.{◌≡◌, ◌⊎◌, ℕ, List, [], ◌∷◌, ◌++◌, get_or, set, refl, sym, ap, ◌∙◌, subst, inl, inr, ⊎_elim, arith}
use Rattle.std.specs.List.{Contains}
use Rattle.std.proofs.lemmas.List.Elements.{Contains-append_cases, Contains-append_left, Contains-push, Contains-push_cases}
use Rattle.md_words.specs.Content.{count_of}
use Rattle.md_words.specs.PlaceAt.{IsCounted}
use Rattle.md_machine.specs.declared.pass.PassView.{PassView}
use Rattle.md_machine.specs.declared.step.Step.{Step}
use Rattle.md_machine.proofs.clauses.passes.LanesApart.{At}
use Rattle.md_machine.proofs.clauses.words.Stamps.{Stamp, StampsKept}
use Rattle.md_machine.proofs.clauses.words.Stores.{in_middle, last_split}
use Rattle.md_machine.proofs.events.MoveFacts.{MoveFacts}
use Rattle.md_machine.proofs.events.Moves.{PassesGo, goes_on, is_joined, is_split}
use Rattle.md_machine.proofs.events.Steps.{HasStep}
use Rattle.md_machine.proofs.lists.At.{at_append, at_one, at_set}
use Rattle.md_machine.proofs.lists.Rising.{in_none}
use Rattle.md_machine.specs.Machine.{Machine, shape_of}
use Rattle.md_machine.specs.Trail.{StepOf, segments}
use Rattle.md_machine.specs.clauses.words.RaisedOnce.{RaisedOnce, Raises}
use Rattle.md_machine.specs.events.SplitJoin.{given_part, joined_part, kept_part, moved_step, spent}

module _ (m n : Machine) (v : MoveFacts m n) where
  -- a segment afterwards was one of some pass, or is that of the pass which made the step, with it, or is empty
  abbrev ComesAs : List Step → Type 0
  ComesAs segment =
      ((i : ℕ) × (p : PassView) × At m.passes i p × Contains (segments p) segment)
      ⊎ ((v.p.trail ++ v.step ∷ [] ≡ segment) ⊎ ([] ≡ segment))

  grown : (q : PassView) → q.past ≡ v.p.past → q.trail ≡ v.p.trail ++ v.step ∷ [] → (segment : List Step) → Contains (segments q) segment → ComesAs segment
  grown q past trail segment c = ⊎_elim
      (λ old. inl (v.pass, v.p, v.at, Contains-append_left v.p.past (v.p.trail ∷ []) segment (subst (λ l. Contains l segment) past old)))
      (λ last. inr (inl (sym trail ∙ last)))
      (Contains-push_cases q.past q.trail segment c)

  both : (other : ℕ) (q : PassView) → At m.passes other q → v.step ≡ moved_step v.p → (segment : List Step)
      → Contains (segments (joined_part (shape_of m) v.p q)) segment → ComesAs segment
  both other q there moves segment c = ⊎_elim
      (λ old. ⊎_elim
      (λ mine. ⊎_elim
      (λ was. inl (v.pass, v.p, v.at, Contains-append_left v.p.past (v.p.trail ∷ []) segment was))
      (λ last. inr (inl (ap (λ s. v.p.trail ++ s ∷ []) moves ∙ last)))
      (Contains-push_cases v.p.past (v.p.trail ++ moved_step v.p ∷ []) segment mine))
      (λ theirs. inl (other, q, there, theirs))
      (Contains-append_cases (v.p.past ++ (v.p.trail ++ moved_step v.p ∷ []) ∷ []) (q.past ++ q.trail ∷ []) segment old))
      (λ last. inr (inr last))
      (Contains-push_cases ((v.p.past ++ (v.p.trail ++ moved_step v.p ∷ []) ∷ []) ++ (q.past ++ q.trail ∷ [])) [] segment c)

  none_spent : (segment : List Step) → Contains (segments spent) segment → ComesAs segment
  none_spent segment c = ⊎_elim (λ none. absurd (in_none segment none)) (λ e. inr (inr e)) (Contains-push_cases [] [] segment c)

  one_set : (q : PassView) → ((segment : List Step) → Contains (segments q) segment → ComesAs segment)
      → (j : ℕ) (u : PassView) → At (set m.passes v.pass q) j u → (segment : List Step) → Contains (segments u) segment → ComesAs segment
  one_set q comes j u at segment c = ⊎_elim
      (λ e. comes segment (subst (λ (x : PassView). Contains (segments x) segment) (sym e.1) c))
      (λ o. inl (j, u, o.1, c))
      (at_set m.passes v.pass j q u at)

  comes_from : PassesGo m n v.pass v.p v.step → (j : ℕ) (u : PassView) → At n.passes j u → (segment : List Step) → Contains (segments u) segment → ComesAs segment
  comes_from (goes_on q is view) j u at segment c = one_set q (grown q view.past view.trail) j u (subst (λ passes. At passes j u) is at) segment c
  comes_from (is_split _ moves _ _ is) j u at segment c =
      let trail : v.p.trail ++ moved_step v.p ∷ [] ≡ v.p.trail ++ v.step ∷ [] = ap (λ s. v.p.trail ++ s ∷ []) (sym moves) in
      ⊎_elim
      (λ old. one_set (kept_part (shape_of m) v.p) (grown (kept_part (shape_of m) v.p) refl trail) j u old segment c)
      (λ end. grown (given_part (shape_of m) v.p) refl trail segment
      (subst (λ (x : PassView). Contains (segments x) segment) (sym (at_one (given_part (shape_of m) v.p) u end.0 end.2).1) c))
      (at_append (set m.passes v.pass (kept_part (shape_of m) v.p)) (given_part (shape_of m) v.p ∷ []) j u (subst (λ passes. At passes j u) is at))
  comes_from (is_joined other q _ acts moves _ _ is) j u at segment c = ⊎_elim
      (λ e. none_spent segment (subst (λ (x : PassView). Contains (segments x) segment) (sym e.1) c))
      (λ o. one_set (joined_part (shape_of m) v.p q) (both other q acts.at moves) j u o.1 segment c)
      (at_set (set m.passes v.pass (joined_part (shape_of m) v.p q)) other j spent u (subst (λ passes. At passes j u) is at))

  -- a step that raised a word is one of before, with the same earlier steps, or the new one
  abbrev Whence : (word count : ℕ) → List Step → Step → Type 0
  Whence word count earlier s =
      ((i : ℕ) × (p : PassView) × At m.passes i p × (o : StepOf p (Raises word count)) × (o.earlier ≡ earlier) × (o.step ≡ s))
      ⊎ ((v.p.trail ≡ earlier) × (v.step ≡ s))

  whence : (word count j : ℕ) (u : PassView) → At n.passes j u → (a : StepOf u (Raises word count)) → Whence word count a.earlier a.step
  whence word count j u at a = ⊎_elim
      (λ old. inl (old.0, old.1, old.2, record { earlier = a.earlier; step = a.step; later = a.later; segment = old.3; such = a.such }, refl, refl))
      (λ o. ⊎_elim
      (λ new. ⊎_elim
      (λ last. inr (sym last.2, sym last.0))
      (λ rest. inl (
        v.pass,
        v.p,
        v.at,
        record {
          earlier = a.earlier;
          step = a.step;
          later = rest.0;
          segment = subst (Contains (segments v.p)) rest.2 (Contains-push v.p.past v.p.trail);
          such = a.such;
        },
        refl,
        refl,
      ))
      (last_split v.p.trail v.step a.earlier a.step a.later new))
      (λ none. absurd (in_none a.step (subst (λ l. Contains l a.step) (sym none) (in_middle a.earlier a.step a.later))))
      o)
      (comes_from v.passes j u at (a.earlier ++ a.step ∷ a.later) a.segment)

  module _ (stamp : Stamp) (stamps : StampsKept m stamp) where
    -- the new step finds the present count, and a step that raised the word from it was none of before
    apart : (word count i : ℕ) (p : PassView) → IsCounted (shape_of m) word → At m.passes i p → StepOf p (Raises word count) → Raises word count v.step → ⊥
    apart word count i p counted at o new =
        let has : HasStep m.passes o.step = (i, p, at, (o.earlier ++ o.step ∷ o.later, o.segment, in_middle o.earlier o.step o.later)) in
        let bound = (stamps.after o.step has (subst (IsCounted (shape_of m)) (sym o.such.there) counted)).bound in
        let higher = o.such.higher in
        let from = new.from in
        let found = ap count_of v.before in
        let same = ap (λ w. count_of (get_or m.words w 0)) (o.such.there ∙ sym new.there ∙ v.there) in
        omega (arith, bound, higher, from, found, same)

    pub raised_once-kept : RaisedOnce (shape_of m) m.passes → RaisedOnce (shape_of m) n.passes
    raised_once-kept was word count counted i j p q at there a b = ⊎_elim
        (λ x. ⊎_elim
        (λ y. let same = was word count counted x.0 y.0 x.1 y.1 x.2 y.2 x.3 y.3 in (sym x.4 ∙ same.0 ∙ y.4, sym x.5 ∙ same.1 ∙ y.5))
        (λ new. absurd (apart word count x.0 x.1 counted x.2 x.3 (subst (Raises word count) (sym new.1) b.such)))
        (whence word count j q there b))
        (λ new. ⊎_elim
        (λ y. absurd (apart word count y.0 y.1 counted y.2 y.3 (subst (Raises word count) (sym new.1) a.such)))
        (λ again. (sym new.0 ∙ again.0, sym new.1 ∙ again.1))
        (whence word count j q there b))
        (whence word count i p at a)
