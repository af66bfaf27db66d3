-- What has another content now has a higher count, and the attempt that had its descriptor there is decided.
use Rattle.std.proofs.Common.{◌≡◌, ◌≢◌, ◌<◌, ◌⊎◌, ℕ, List, [], ◌∷◌, ◌++◌, refl, sym, ap, ◌∙◌, subst, inl, inr, ⊎_elim, arith}
use Rattle.std.proofs.lemmas.Bool.{cases_lt}
use Rattle.std.specs.List.{Contains}
use Rattle.std.proofs.lemmas.List.Elements.{Contains-append_right, Contains-push}
use Rattle.md_words.specs.declared.shape.Shape.{Shape}
use Rattle.md_words.specs.declared.status.Status.{Status}
use Rattle.md_words.specs.declared.status.Status.TheVariants.{InPrep, InProg, Committed as IsCommitted, Aborted as IsAborted}
use Rattle.md_words.specs.Content.{count_of}
use Rattle.md_words.specs.PlaceAt.{IsCounted}
use Rattle.md_words.specs.Status.{status_of}
use Rattle.md_machine.specs.declared.pass.PassView.{PassView}
use Rattle.md_machine.specs.declared.step.Step.{Step}
use Rattle.md_machine.specs.Installs.{IsUndecided}
use Rattle.md_machine.specs.Machine.{content, shape_of, status_at}
use Rattle.md_machine.specs.Meaning.{Meaning}
use Rattle.md_machine.specs.Trail.{Finds, Meets, SomeStep, SomeStepOf}
use Rattle.md_machine.specs.clauses.words.Stamps.{IsNoted}
use Rattle.md_machine.specs.events.Uninstall.{IsDecided}
use Rattle.md_rule.specs.Steps.{EventOf, SteppedFrom}
use Rattle.md_rule.specs.Views.{Origin}
use Rattle.md_rule.proofs.Moves.{is_kept}
use Rattle.md_help.specs.declared.settling.End.{End}
use Rattle.md_help.specs.declared.settling.End.TheVariants.{Committed, Aborted, Gone}
use Rattle.md_help.specs.declared.clearing.Cleared.{Cleared}
use Rattle.md_help.specs.After.{IsAfter}
use Rattle.md_help.specs.Clears.{Clears, EndsLater, SawDecided, SlotLoaded}
use Rattle.md_help.specs.Decided.{WasDecided}
use Rattle.md_help.proofs.Reading.{some_left}
use Rattle.md_help.proofs.Steps.{trail_after}

-- a content that was found is among those of a longer trail
pub found_after : (shape : Shape) (word from : ℕ) (steps : List Step) (p q : PassView) → IsAfter shape steps p q
    → SomeStep (Finds word from) p.trail → SomeStep (Finds word from) q.trail
found_after shape word from steps p q goes found =
    subst (SomeStep (Finds word from)) (sym (trail_after shape steps p q goes)) (some_left (Finds word from) p.trail steps found)

pub decided_found : (shape : Shape) (word from value : ℕ) (fate f : Status) (p q : PassView) → SawDecided shape p word from fate
    → SlotLoaded shape from f value p q → SomeStep (Finds word from) q.trail
decided_found shape word from value fate f p q saw l = found_after shape word from (l.slot ∷ []) p q l.goes (
  saw.found,
  subst (λ t. Contains t saw.found) (sym saw.trail)
      (Contains-append_right saw.earlier (saw.found ∷ (saw.first ++ saw.again ∷ saw.second)) saw.found (0, omega arith, refl)),
  saw.finds,
)

-- a status that isn't undecided is decided
decided_else : (s : Status) → ((s ≡ InPrep) ⊎ (s ≡ InProg) → ⊥) → IsDecided s
decided_else InPrep none = absurd (none (inl refl))
decided_else InProg none = absurd (none (inr refl))
decided_else IsCommitted none = inl refl
decided_else IsAborted none = inr refl

-- a clearing met what it left
ends_met : (shape : Shape) (word from status left : ℕ) (end : End) (steps : List Step) → EndsLater shape word from status end left steps
    → SomeStep (Meets word left) steps
ends_met shape word from status left Gone steps e =
    (e.last, subst (λ l. Contains l e.last) (sym e.order) (Contains-push e.settling e.last), inl e.looks.finds)
ends_met shape word from status left Committed steps e = (
  e.take,
  subst (λ l. Contains l e.take) (sym e.order) (Contains-append_right e.settling (e.slot ∷ e.take ∷ []) e.take (1, omega arith, refl)),
  inr (record { there = e.takes.there; after = e.takes.leaves }),
)
ends_met shape word from status left Aborted steps e = (
  e.take,
  subst (λ l. Contains l e.take) (sym e.order) (Contains-append_right e.settling (e.slot ∷ e.take ∷ []) e.take (1, omega arith, refl)),
  inr (record { there = e.takes.there; after = e.takes.leaves }),
)

cleared_met : (shape : Shape) (word from : ℕ) (c : Cleared) (p q : PassView) → (k : Clears shape word from c p q)
    → SomeStep (Meets word c.left) (k.ask ∷ k.look ∷ k.steps)
cleared_met shape word from c p q k = ⊎_elim
    (λ moved. (k.look, Contains-append_right (k.ask ∷ []) (k.look ∷ k.steps) k.look (0, omega arith, refl), inl moved.0.finds))
    (λ later. let met = ends_met shape word from k.status c.left c.end k.steps later.1 in
    (met.0, Contains-append_right (k.ask ∷ k.look ∷ []) k.steps met.0 met.1, met.2))
    k.ends

module _ (M : Meaning) (o : Origin) where
  -- where a content was met before and another one is found, that has a higher count
  pub found_rises : (event : EventOf) (word from left : ℕ) (p q : PassView) → IsCounted o.shape word → SomeStep (Finds word from) p.trail
      → left ≢ from → SteppedFrom M o event word left p q → count_of from < count_of left
  found_rises event word from left p q counted (t, c, f) apart (s, is) =
      let m = s.machine in
      let stamps = (is_kept M o m s.admitted).stamps in
      let here : IsCounted (shape_of m) word = subst (λ (h : Shape). IsCounted h word) (sym s.admitted.shape) counted in
      let noted : IsNoted m word from = inl (s.pass, p, s.acts.at, (p.trail, Contains-push p.past p.trail, (t, c, inl f))) in
      let bound = stamps.bound word from here noted in
      let now = ap count_of is in
      ⊎_elim
      (λ less. less)
      (λ most.
      let same : count_of from ≡ count_of (content m word) = omega (arith, bound, now, most) in
      absurd (apart (sym is ∙ sym (stamps.now word from here noted same))))
      (cases_lt (count_of from) (count_of left))

  -- so the attempt that had put its descriptor there is decided
  was_decided : (word from left : ℕ) (view : PassView) → IsCounted o.shape word → SomeStepOf view (Meets word left)
      → count_of from < count_of left → WasDecided M o word from view
  was_decided word from left view counted met rises m a pass acts i made there leaves now =
      let k = is_kept M o m a in
      let here : IsCounted (shape_of m) word = subst (λ (h : Shape). IsCounted h word) (sym a.shape) counted in
      let bound = k.stamps.bound word left here (inl (pass, view, acts.at, met)) in
      let stands : IsUndecided (status_at m i.attempt.desc) → ⊥ = λ undecided.
      let is = ap count_of (ap (content m) (sym there) ∙ k.undecided i made now undecided ∙ leaves) in
      omega (arith, bound, is, rises) in
      decided_else (status_of (status_at m i.attempt.desc)) stands

  pub cleared_decided : (word from : ℕ) (c : Cleared) (p q : PassView) → IsCounted o.shape word → Clears o.shape word from c p q
      → WasDecided M o word from q
  cleared_decided word from c p q counted k =
      let met = cleared_met o.shape word from c p q k in
      was_decided word from c.left q counted (
        q.trail,
        Contains-push q.past q.trail,
        (
          met.0,
          subst (λ l. Contains l met.0) (sym (trail_after o.shape (k.ask ∷ k.look ∷ k.steps) p q k.goes))
              (Contains-append_right p.trail (k.ask ∷ k.look ∷ k.steps) met.0 met.1),
          met.2,
        ),
      )
      k.rises
