-- What passes have seen is legal by what they know, after every event.
use Rattle.std.proofs.Common.{◌≡◌, ℕ, ◌⊎◌, Bool, ◌∷◌, List, [], length, set, refl, sym, ap, ◌∙◌, subst, inl, inr, ⊎_elim, nat_le}
use Rattle.std.proofs.lemmas.Bool.{cond_both}
use Rattle.std.proofs.lemmas.List.{length-map, map-append}
use Rattle.md_history.specs.declared.entries.Fate.{Fate}
use Rattle.md_history.specs.FrontLaws.{all_stay-trans}
use Rattle.md_history.specs.Front.{AllStay, known_of_both}
use Rattle.md_history.specs.History.{AllCommittedSound, IsLegal, IsResolution, kept_acts}
use Rattle.md_history.specs.ResolutionLaws.{legal-narrows, sound-earlier}
use Rattle.md_history.specs.State.{IsRight, State}
use Rattle.md_machine.specs.declared.attempt.HistoryEntry.{HistoryEntry}
use Rattle.md_machine.specs.declared.pass.PassView.{PassView}
use Rattle.md_machine.proofs.clauses.passes.LanesApart.{At}
use Rattle.md_machine.proofs.events.MoveFacts.{MoveFacts}
use Rattle.md_machine.proofs.events.Moves.{FrontGoes, PassesGo, goes_on, is_joined, is_split, learns, sees_all}
use Rattle.md_machine.proofs.fates.Decidedness.{MoreDecided, more_first, more_itself, more_known, more_second, all_both}
use Rattle.md_machine.proofs.lists.At.{at_append, at_one, at_set}
use Rattle.md_machine.specs.Legal.{opening_state}
use Rattle.md_machine.proofs.replay.Replays.{FrontsLegal, HistoryIsLegal}
use Rattle.md_machine.specs.Machine.{Machine, shape_of}
use Rattle.md_machine.specs.Meaning.{Meaning}
use Rattle.md_machine.specs.Resolution.{entries_of}
use Rattle.md_machine.specs.clauses.passes.Fronts.{FrontFits, FrontsFit}
use Rattle.md_machine.specs.clauses.entries.Sound.{CommittedAreSound}
use Rattle.md_machine.specs.events.SplitJoin.{longer}

-- nothing seen is legal
pub none_legal : (start : State) → IsLegal start [] []
none_legal start = record { fated = refl; sound = tt; right = right }
  where
    right : (choice : List Bool) → IsResolution [] [] choice → IsRight start (kept_acts [] choice)
    right [] r = tt
    right (k ∷ choice) r = absurd r

-- what a pass has seen and knows comes from a pass that knew no more of the same, is the whole history with its fates,
-- or is nothing
abbrev ComesFrom : (m n : Machine) → List HistoryEntry → List Fate → Type 0
ComesFrom m n seen known =
    ((i : ℕ) × (p : PassView) × At m.passes i p × (seen ≡ p.seen) × MoreDecided p.known known)
    ⊎ (((seen ≡ n.history) × (known ≡ n.fates)) ⊎ ((seen ≡ []) × (known ≡ [])))

module _ (m n : Machine) (v : MoveFacts m n) where
  abbrev Comes : PassView → Type 0
  Comes u = ComesFrom m n u.seen u.known

  same_view : (j : ℕ) (u : PassView) → At m.passes j u → Comes u
  same_view j u at = inl (j, u, at, refl, more_itself u.known)

  one_comes : (q : PassView) → FrontGoes m n v.step v.p q → Comes q
  one_comes q (learns same seen known) =
      inl (v.pass, v.p, v.at, seen, subst (MoreDecided v.p.known) (sym known) (more_known (shape_of m) v.p.seen v.step v.p.known))
  one_comes q (sees_all seen known _ _) = inr (inl (seen, known))

  both_come : (other : ℕ) (q : PassView) → At m.passes other q → ComesFrom m n (longer v.p.seen q.seen) (known_of_both v.p.known q.known)
  both_come other q at = cond_both (nat_le (length v.p.seen) (length q.seen)) q.seen v.p.seen (λ seen. ComesFrom m n seen (known_of_both v.p.known q.known))
      (λ _. inl (other, q, at, refl, more_second v.p.known q.known))
      (λ _. inl (v.pass, v.p, v.at, refl, more_first v.p.known q.known))

  set_comes : (q : PassView) → Comes q → (j : ℕ) (u : PassView) → At (set m.passes v.pass q) j u → Comes u
  set_comes q comes j u at = ⊎_elim (λ e. subst Comes e.1 comes) (λ o. same_view j u o.1) (at_set m.passes v.pass j q u at)

  comes_from : PassesGo m n v.pass v.p v.step → (j : ℕ) (u : PassView) → At n.passes j u → Comes u
  comes_from (goes_on q is view) j u at = set_comes q (one_comes q view.front) j u (subst (λ passes. At passes j u) is at)
  comes_from (is_split _ _ _ _ is) j u at = ⊎_elim
      (λ old. set_comes _ (same_view v.pass v.p v.at) j u old)
      (λ end. subst Comes (at_one _ u end.0 end.2).1 (same_view v.pass v.p v.at))
      (at_append _ _ j u (subst (λ passes. At passes j u) is at))
  comes_from (is_joined other q _ acts _ _ _ is) j u at = ⊎_elim
      (λ e. subst Comes e.1 (inr (inr (refl, refl))))
      (λ o. set_comes _ (both_come other q acts.at) j u o.1)
      (at_set _ other j _ u (subst (λ passes. At passes j u) is at))

module _ (M : Meaning) (m n : Machine) (v : MoveFacts m n) (before : FrontsFit (shape_of m) m.history m.fates m.passes)
    (after : FrontsFit (shape_of n) n.history n.fates n.passes)
    (stay : AllStay m.fates n.fates) (sound : CommittedAreSound n) (legal : HistoryIsLegal M n) (was : FrontsLegal M m) where
  abbrev Legal : List HistoryEntry → List Fate → Type 0
  Legal seen known = IsLegal (opening_state M n.opening) (entries_of seen) known

  -- what was legal stays so where more is known of it
  narrowed : (u p : PassView) (i : ℕ) → FrontFits (shape_of n) n.history n.fates u → At m.passes i p → u.seen ≡ p.seen → MoreDecided p.known u.known
      → Legal u.seen u.known
  narrowed u p i fits at seen more =
      let rest = fits.seen.rest in
      let old : Legal u.seen p.known =
      subst (λ es. Legal es p.known) (sym seen)
      (subst (λ o. IsLegal (opening_state M o) (entries_of p.seen) p.known) (sym v.opening) (was i p at)) in
      legal-narrows (opening_state M n.opening) (entries_of u.seen) p.known u.known old
      (all_both p.known u.known n.fates (all_stay-trans p.known m.fates n.fates (before i p at).known stay) fits.known more)
      (fits.fated ∙ sym (length-map u.seen (λ (e : HistoryEntry). e.entry)))
      (sound-earlier (entries_of u.seen) (entries_of rest) u.known n.fates fits.known
      (subst (λ es. AllCommittedSound es n.fates) (ap entries_of fits.seen.is ∙ map-append (λ (e : HistoryEntry). e.entry) u.seen rest) sound.sound))

  pub fronts_legal-kept : FrontsLegal M n
  fronts_legal-kept j u at = ⊎_elim
      (λ x. narrowed u x.1 x.0 (after j u at) x.2 x.3 x.4)
      (λ o. ⊎_elim
      (λ all. subst (Legal u.seen) (sym all.1) (subst (λ es. Legal es n.fates) (sym all.0) legal))
      (λ none. subst (Legal u.seen) (sym none.1) (subst (λ es. Legal es []) (sym none.0) (none_legal (opening_state M n.opening))))
      o)
      (comes_from m n v v.passes j u at)
