-- What is in hand is the present attempt of an own descriptor, after every event.
use Rattle.std.proofs.Common.{◌≡◌, ℕ, ◌⊎◌, [], ◌∷◌, set, refl, sym, ap, ◌∙◌, subst, inl, inr, ⊎_elim}
use Rattle.std.specs.Prelude.{Some}
use Rattle.std.specs.List.{Contains}
use Rattle.std.proofs.lemmas.List.{set-get_or}
use Rattle.md_words.specs.Lanes.{OwnsDesc}
use Rattle.md_words.specs.Status.{serial_of}
use Rattle.md_words.specs.Place.{desc_status}
use Rattle.md_words.specs.LayoutLaws.{IsField}
use Rattle.md_words.proofs.Owners.{own_desc_exists}
use Rattle.md_machine.specs.declared.attempt.AttemptId.{AttemptId}
use Rattle.md_machine.specs.declared.attempt.Hand.{Hand}
use Rattle.md_machine.specs.declared.step.Step.{Step}
use Rattle.md_machine.specs.declared.pass.PassView.{PassView}
use Rattle.md_machine.proofs.clauses.passes.LanesApart.{At, at_once, one_owner}
use Rattle.md_machine.proofs.events.MoveFacts.{MoveFacts}
use Rattle.md_machine.proofs.events.Moves.{HandGoes, PassesGo, goes_on, hand_begins, hand_changes, hand_ends, hand_leaves, hand_stays, is_joined, is_split}
use Rattle.md_machine.proofs.events.WordChanges.{serial_stays}
use Rattle.md_machine.proofs.lists.At.{at_append, at_one, at_set}
use Rattle.md_machine.proofs.lists.Options.{none_some, some_same}
use Rattle.md_machine.specs.Machine.{IsAt, IsPresentIn, Machine, content, present, shape_of, word_at}
use Rattle.md_machine.specs.Own.{HasDesc}
use Rattle.md_machine.specs.clauses.passes.Hands.{HandFits, HandsFit}
use Rattle.md_machine.specs.clauses.passes.Lanes.{LanesApart}
use Rattle.md_machine.specs.events.Mark.{new_hand}
use Rattle.md_machine.specs.events.SplitJoin.{spent}

-- a pass afterwards has the same attempt in hand as the pass there before, or begins one that fits
abbrev pub HandComes : (m n : Machine) (pass : ℕ) (q : PassView) (h : Hand) → Type 0
HandComes m n pass q h = ((p : PassView) × (g : Hand) × IsAt m pass p × (p.hand ≡ Some g) × (g.attempt ≡ h.attempt) × (p.lanes ≡ q.lanes)) ⊎ HandFits (shape_of m) n.words q h

-- what is present stays so where a move leaves word 0 as it was
present_on : (m n : Machine) (desc : ℕ) → n.words ≡ set m.words 0 (content m 0) → (present m desc).serial ≡ serial_of (word_at (shape_of m) n.words (desc_status desc))
present_on m n desc e = ap (λ words. serial_of (word_at (shape_of m) words (desc_status desc))) (sym (e ∙ set-get_or m.words 0 0))

module _ (m n : Machine) (pass : ℕ) (p : PassView) (at : IsAt m pass p) where
  -- what the one view that goes on has in hand
  one_hand : (q : PassView) (h : Hand) → q.lanes ≡ p.lanes → q.hand ≡ Some h → HandGoes m n p q → HandComes m n pass q h
  one_hand q h lanes held (hand_stays same _ _ _) = inl (p, h, at, sym same ∙ held, refl, sym lanes)
  one_hand q h lanes held (hand_changes g k was now same _ _ _) = inl (p, g, at, was, same ∙ ap (λ (x : Hand). x.attempt) (some_same k h (sym now ∙ held)), sym lanes)
  one_hand q h lanes held (hand_begins desc tag may words now _ _ _) =
      let same : present m desc ≡ h.attempt = ap (λ (x : Hand). x.attempt) (some_same (new_hand (present m desc) tag) h (sym now ∙ held)) in inr (record {
        own = subst (λ (a : AttemptId). HasDesc (shape_of m) q a.desc) same (subst (λ l. (lane : ℕ) × Contains l lane × OwnsDesc (shape_of m) lane desc) (sym lanes) may.own);
        present = subst (λ (a : AttemptId). IsPresentIn (shape_of m) n.words a) same (present_on m n desc words);
      })
  one_hand q h lanes held (hand_ends _ _ none _ _ _) = absurd (none_some q.hand h none held)
  one_hand q h lanes held (hand_leaves none _ _ _) = absurd (none_some q.hand h none held)

  -- after a move of lanes the passes that had a part in it have nothing in hand
  hand_comes : (s : Step) → PassesGo m n pass p s → (j : ℕ) (u : PassView) (h : Hand) → At n.passes j u → u.hand ≡ Some h → HandComes m n j u h
  hand_comes s (goes_on q is view) j u h u_at held = ⊎_elim
      (λ e. subst (λ i. HandComes m n i u h) (sym e.0) (subst (λ (x : PassView). HandComes m n pass x h) e.1 (one_hand q h view.lanes (ap (λ (x : PassView). x.hand) e.1 ∙ held) view.hand)))
      (λ o. inl (u, h, o.1, held, refl, refl))
      (at_set m.passes pass j q u (subst (λ l. At l j u) is u_at))
  hand_comes s (is_split _ _ _ _ is) j u h u_at held = ⊎_elim
      (λ was. ⊎_elim (λ e. absurd (none_some u.hand h (ap (λ (x : PassView). x.hand) (sym e.1)) held)) (λ o. inl (u, h, o.1, held, refl, refl)) (at_set m.passes pass j _ u was))
      (λ end. absurd (none_some u.hand h (ap (λ (x : PassView). x.hand) (sym (at_one _ u end.0 end.2).1)) held))
      (at_append (set m.passes pass _) (_ ∷ []) j u (subst (λ l. At l j u) is u_at))
  hand_comes s (is_joined other q _ _ _ _ _ is) j u h u_at held = ⊎_elim
      (λ e. absurd (none_some u.hand h (ap (λ (x : PassView). x.hand) (sym e.1)) held))
      (λ o. ⊎_elim (λ e. absurd (none_some u.hand h (ap (λ (x : PassView). x.hand) (sym e.1)) held)) (λ x. inl (u, h, x.1, held, refl, refl)) (at_set m.passes pass j _ u o.1))
      (at_set (set m.passes pass _) other j spent u (subst (λ l. At l j u) is u_at))

module _ (m n : Machine) (v : MoveFacts m n) (field : IsField (shape_of m) m.words) (apart : LanesApart (shape_of m) m.passes) (hands : HandsFit (shape_of m) m.words m.passes) where
  serial_kept : (pass : ℕ) (p : PassView) (g : Hand) → IsAt m pass p → p.hand ≡ Some g → IsPresentIn (shape_of m) n.words g.attempt
  serial_kept pass p g at held =
      let was = hands.fits pass p g at held in
      subst (λ words. IsPresentIn (shape_of m) words g.attempt) (sym v.words) (⊎_elim
      (λ stays. was.present ∙ stays)
      (λ r. let here = one_owner (shape_of m) m.passes r.pass pass r.p p g.attempt.desc apart r.at at r.own was.own in
      let is : r.p ≡ p = at_once m.passes pass r.p p (subst (λ i. At m.passes i r.p) here r.at) at in
      absurd (none_some p.hand g (ap (λ (u : PassView). u.hand) (sym is) ∙ r.idle) held))
      (serial_stays (Unit {0}) m field v.word v.new v.left g.attempt.desc (own_desc_exists (shape_of m) was.own.0 g.attempt.desc was.own.2)))

  -- a begun attempt is present, as its pass has nothing in hand and starts no descriptor in this step
  fits_on : (pass : ℕ) (q : PassView) (h : Hand) → HandComes m n pass q h → HandFits (shape_of m) n.words q h
  fits_on pass q h = ⊎_elim
      (λ x. let p = x.0 in let g = x.1 in let same : g.attempt ≡ h.attempt = x.4 in record {
        own = subst (λ (a : AttemptId). HasDesc (shape_of m) q a.desc) same (subst (λ lanes. (lane : ℕ) × Contains lanes lane × OwnsDesc (shape_of m) lane g.attempt.desc) x.5 (hands.fits pass p g x.2 x.3).own);
        present = subst (λ (a : AttemptId). IsPresentIn (shape_of m) n.words a) same (serial_kept pass p g x.2 x.3);
      })
      (λ fits. fits)

  pub hands-kept : HandsFit (shape_of m) n.words n.passes
  hands-kept = record { fits = λ j u h at held. fits_on j u h (hand_comes m n v.pass v.p v.at v.step v.passes j u h at held) }
