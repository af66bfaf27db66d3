-- Attempts of own descriptors: nobody else begins another one, so a step finds no later status than was met.
use Rattle.std.proofs.Common.{◌≡◌, ◌<◌, ◌≤◌, ℕ, Bool, List, [], ◌∷◌, ◌++◌, All, refl, sym, ap, ◌∙◌, subst, inr, ⊎_elim, arith, le_of_eq}
use Rattle.std.specs.List.{Contains}
use Rattle.std.proofs.lemmas.List.Elements.{All-cons, All-nil, All-weaker, Contains-append_cases, Contains-append_left, Contains-append_right, Contains-push, Contains-push_cases, All-contains}
use Rattle.md_words.specs.declared.shape.Shape.{Shape}
use Rattle.md_words.specs.Layout.{address, desc_count}
use Rattle.md_words.specs.Place.{desc_status}
use Rattle.md_words.specs.Status.{serial_of, status_of}
use Rattle.md_machine.specs.declared.pass.PassView.{PassView}
use Rattle.md_machine.specs.declared.step.Kind.{Kind}
use Rattle.md_machine.specs.declared.step.Step.{Step}
use Rattle.md_machine.specs.Machine.{content, shape_of}
use Rattle.md_machine.specs.Meaning.{Meaning}
use Rattle.md_machine.specs.Own.{HasDesc}
use Rattle.md_machine.specs.Trail.{Meets}
use Rattle.md_machine.specs.clauses.words.Statuses.{StatusCame, StatusesCame}
use Rattle.md_rule.specs.Kept.{MetNoLater}
use Rattle.md_rule.specs.Steps.{EventOf, SteppedFrom}
use Rattle.md_rule.specs.Views.{Origin}
use Rattle.md_rule.proofs.Moves.{is_kept}
use Rattle.md_help.specs.After.{IsAfter}
use Rattle.md_help.specs.Clears.{fate_of}
use Rattle.md_help.specs.Owns.{IsOwnLast, KnowsEnd}
use Rattle.md_help.specs.Reads.{LoadsNoStatus, Validated}
use Rattle.md_help.specs.Settles.{EndIs, MetStatus}
use Rattle.md_help.specs.declared.settling.End.{End}
use Rattle.md_help.specs.declared.settling.End.TheVariants.{Committed, Aborted, Gone}
use Rattle.md_help.proofs.Deciding.{newer_came, past_after}
use Rattle.md_help.proofs.Steps.{Made, trail_after}

-- a step met no later serial of the descriptor than this
abbrev pub IsNoLaterStep : Shape → (desc serial : ℕ) → Step → Type 0
IsNoLaterStep shape desc serial s = (held : ℕ) → Meets (address shape (desc_status desc)) held s → serial_of held ≤ serial

module _ (shape : Shape) (desc : ℕ) where
  abbrev word : ℕ
  word = address shape (desc_status desc)

  own_after : (steps : List Step) (p q : PassView) → IsAfter shape steps p q → HasDesc shape p desc → HasDesc shape q desc
  own_after steps p q a own = (own.0, subst (λ (l : List ℕ). Contains l own.0) (sym (ap (λ (x : PassView). x.lanes) a.1)) own.1, own.2)

  -- steps that met none either
  pub no_later_after : (serial : ℕ) (steps : List Step) (p q : PassView) → IsAfter shape steps p q → All (IsNoLaterStep shape desc serial) steps
      → MetNoLater shape p desc serial → MetNoLater shape q desc serial
  no_later_after serial steps p q a all met segment c s i held meets = ⊎_elim
      (λ (old : Contains q.past segment). met segment (Contains-append_left p.past (p.trail ∷ []) segment (subst (λ l. Contains l segment) (past_after shape steps p q a) old)) s i held meets)
      (λ (last : q.trail ≡ segment). ⊎_elim
      (λ (old : Contains p.trail s). met p.trail (Contains-push p.past p.trail) s old held meets)
      (λ (new : Contains steps s). All-contains (IsNoLaterStep shape desc serial) steps s all new held meets)
      (Contains-append_cases p.trail steps s (subst (λ l. Contains l s) (sym last ∙ trail_after shape steps p q a) i)))
      (Contains-push_cases q.past q.trail segment c)

  pub last_after : (status : ℕ) (steps : List Step) (p q : PassView) → IsAfter shape steps p q → All (IsNoLaterStep shape desc (serial_of status)) steps
      → IsOwnLast shape p desc status → IsOwnLast shape q desc status
  last_after status steps p q a all own = (own_after steps p q a own.0, no_later_after (serial_of status) steps p q a all own.1)

  pub last_validated : (status reads : ℕ) (stood : Bool) (p q : PassView) → Validated shape desc reads stood p q → IsOwnLast shape p desc status → IsOwnLast shape q desc status
  last_validated status reads stood p q v = last_after status v.steps p q v.goes
      (All-weaker (LoadsNoStatus shape) (IsNoLaterStep shape desc (serial_of status)) (λ s l held meets. absurd (l.1 desc v.exists (⊎_elim (λ f. f.there) (λ f. f.there) meets))) v.steps v.still)

  pub last_made : (status : ℕ) (kind : Kind) (held left : ℕ) (p q : PassView) → Made shape kind word held left p q → serial_of held ≤ serial_of status → serial_of left ≤ serial_of status
      → IsOwnLast shape p desc status → IsOwnLast shape q desc status
  last_made status kind held left p q m one two = last_after status (m.step ∷ []) p q m.goes
      (All-cons (IsNoLaterStep shape desc (serial_of status)) m.step [] (λ x meets. ⊎_elim
      (λ f. subst (λ h. serial_of h ≤ serial_of status) (sym m.found ∙ f.before) one)
      (λ l. subst (λ h. serial_of h ≤ serial_of status) (sym m.left_it ∙ l.after) two) meets)
      (All-nil (IsNoLaterStep shape desc (serial_of status))))

  -- the same attempt's status
  pub last_same : (status other : ℕ) (p : PassView) → serial_of other ≡ serial_of status → IsOwnLast shape p desc status → IsOwnLast shape p desc other
  last_same status other p e own = (own.0, subst (MetNoLater shape p desc) (sym e) own.1)

  own_is : (status : ℕ) (end : End) (steps : List Step) (q : PassView) (s : Step) → status_of status ≡ fate_of end → q.trail ≡ steps ++ s ∷ [] → Meets word status s
      → IsOwnLast shape q desc status → (serial : ℕ) → serial_of status ≡ serial → KnowsEnd shape q desc serial end
  own_is status end steps q s is trail meets own serial same = record {
    held = status;
    is = same;
    fate = is;
    met = (s, subst (λ l. Contains l s) (sym trail) (Contains-push steps s), meets);
    last = own;
  }

  end_is : (old new : ℕ) (end : End) → serial_of new ≡ serial_of old → EndIs old new end → status_of new ≡ fate_of end
  end_is old new Committed same is = is.1
  end_is old new Aborted same is = is.1
  end_is old new Gone same is = absurd (is same)

  -- a deciding exchange that won, and one that lost to another of the same attempt
  pub end_won : (from left : ℕ) (kind : Kind) (end : End) (p q : PassView) → Made shape kind word from left p q → serial_of left ≡ serial_of from → status_of left ≡ fate_of end
      → IsOwnLast shape p desc from → KnowsEnd shape q desc (serial_of from) end
  end_won from left kind end p q m same is own =
      own_is left end p.trail q m.step is (trail_after shape (m.step ∷ []) p q m.goes) (inr (record { there = m.there; after = m.left_it }))
      (last_same from left q same (last_made from kind from left p q m (le_of_eq refl) (le_of_eq same) own)) (serial_of from) same

  pub last_lost : (from held : ℕ) (kind : Kind) (p q : PassView) → Made shape kind word held held p q → serial_of held ≡ serial_of from → IsOwnLast shape p desc from → IsOwnLast shape q desc held
  last_lost from held kind p q m same own = last_same from held q same (last_made from kind held held p q m (le_of_eq same) (le_of_eq same) own)

  pub end_lost : (from held : ℕ) (kind : Kind) (end : End) (p q : PassView) → Made shape kind word held held p q → serial_of held ≡ serial_of from → EndIs from held end
      → IsOwnLast shape p desc from → KnowsEnd shape q desc (serial_of from) end
  end_lost from held kind end p q m same is own =
      own_is held end p.trail q m.step (end_is from held end same is) (trail_after shape (m.step ∷ []) p q m.goes) (inr (record { there = m.there; after = m.left_it }))
      (last_lost from held kind p q m same own) (serial_of from) same

  -- nothing was to be done
  pub end_already : (status : ℕ) (end : End) (p : PassView) → MetStatus shape p desc status → status_of status ≡ fate_of end → IsOwnLast shape p desc status → KnowsEnd shape p desc (serial_of status) end
  end_already status end p met is own = record {
    held = status;
    is = refl;
    fate = is;
    met = (met.step, subst (λ l. Contains l met.step) (sym met.trail) (Contains-append_right met.earlier (met.step ∷ met.later) met.step (0, omega arith, refl)), met.meets);
    last = own;
  }

module _ (M : Meaning) (o : Origin) where
  -- whatever a step finds in the status of an own descriptor is of an attempt that was met
  pub own_no_later : (event : EventOf) (p q : PassView) (desc newer : ℕ) → HasDesc o.shape p desc → SteppedFrom M o event (address o.shape (desc_status desc)) newer p q
      → (serial : ℕ) → MetNoLater o.shape p desc serial → serial_of newer ≤ serial
  own_no_later event p q desc newer own step serial last =
      let s = step.0 in
      let known = (is_kept M o s.machine s.admitted).own_serials s.pass p s.acts.at desc (subst (λ (h : Shape). HasDesc h p desc) (sym s.admitted.shape) own) in
      let is : serial_of (content s.machine (address (shape_of s.machine) (desc_status desc))) ≡ serial_of newer =
      ap serial_of (ap (λ (h : Shape). content s.machine (address h (desc_status desc))) s.admitted.shape ∙ step.1) in
      ⊎_elim
      (λ zero. omega (arith, zero, is))
      (λ some. let it = some.2.2 in
      let less = last some.0 some.1 some.2.0 some.2.1 it.0 (subst (λ (h : Shape). Meets (address h (desc_status desc)) it.0 some.2.0) s.admitted.shape it.1) in
      let same = it.2 in omega (arith, less, same, is))
      known

  -- of the last one
  pub own_same : (event : EventOf) (p q : PassView) (desc status newer : ℕ) → desc < desc_count o.shape → MetStatus o.shape p desc status → IsOwnLast o.shape p desc status
      → SteppedFrom M o event (address o.shape (desc_status desc)) newer p q → serial_of newer ≡ serial_of status
  own_same event p q desc status newer exists met own step =
      let most = own_no_later event p q desc newer own.0 step (serial_of status) own.1 in
      ⊎_elim (λ less. omega (arith, less, most)) (λ c. sym c.serial) (newer_came M o event p q desc status newer exists met step)

  -- the status that a load of it finds is the last one
  pub last_loaded : (event : EventOf) (p q : PassView) (desc status : ℕ) → desc < desc_count o.shape → HasDesc o.shape p desc → (k : Kind)
      → SteppedFrom M o event (address o.shape (desc_status desc)) status p q → Made o.shape k (address o.shape (desc_status desc)) status status p q → IsOwnLast o.shape q desc status
  last_loaded event p q desc status exists own kind step m =
      let s = step.0 in
      let came = subst (λ (h : Shape). StatusesCame h s.machine.words s.machine.passes) s.admitted.shape (is_kept M o s.machine s.admitted).statuses in
      let before : MetNoLater o.shape p desc (serial_of status) = λ segment c t i held meets.
      let it = came s.pass p s.acts.at segment c t i desc exists (⊎_elim (λ f. f.there) (λ f. f.there) meets) in
      no_more status held (subst (StatusCame held) step.1 (⊎_elim
      (λ f. subst (λ x. StatusCame x (content s.machine (address o.shape (desc_status desc)))) f.before it.before)
      (λ l. subst (λ x. StatusCame x (content s.machine (address o.shape (desc_status desc)))) l.after it.after)
      meets)) in
      last_made o.shape desc status kind status status p q m (le_of_eq refl) (le_of_eq refl) (own, before)
    where
      no_more : (status held : ℕ) → StatusCame held status → serial_of held ≤ serial_of status
      no_more status held = ⊎_elim (λ less. omega (arith, less)) (λ c. le_of_eq c.serial)
