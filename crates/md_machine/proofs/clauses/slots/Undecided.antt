-- As long as an attempt is undecided its slots stand: nobody may take them out.
use Rattle.std.proofs.Common.{◌≡◌, ℕ, ◌<◌, List, ◌∷◌, ◌++◌, set, get_or, refl, sym, ap, ◌∙◌, subst, inl, ⊎_elim, append_assoc, get_or-set_same, get_or-set_other, arith, false}
use Rattle.std.specs.List.{Contains}
use Rattle.std.proofs.lemmas.Bool.{cases_eq}
use Rattle.std.proofs.lemmas.List.Elements.{Contains-append_left, Contains-append_right}
use Rattle.md_words.specs.Content.{count_of, is_even}
use Rattle.md_words.specs.Status.{status_of, serial_of}
use Rattle.md_words.specs.Place.{desc_status}
use Rattle.md_words.specs.Layout.{address, desc_count}
use Rattle.md_words.specs.LayoutLaws.{IsField}
use Rattle.md_words.specs.PlaceAt.{IsCounted}
use Rattle.md_machine.specs.declared.pass.PassView.{PassView}
use Rattle.md_machine.specs.declared.step.Step.{Step}
use Rattle.md_machine.proofs.clauses.words.Brackets.{MetStanding, TrailsBracket}
use Rattle.md_machine.proofs.clauses.slots.Installs.{InstallFits, InstallsKept, was_present}
use Rattle.md_machine.proofs.clauses.slots.OddWords.{installed_names}
use Rattle.md_machine.proofs.clauses.words.Stamps.{Stamp, StampsKept}
use Rattle.md_machine.proofs.clauses.words.Statuses.{NotedStatus, StatusesNoted, not_both, status_step}
use Rattle.md_machine.proofs.events.InstallSteps.{InstallsHere}
use Rattle.md_machine.proofs.events.Leaves.{install_odd}
use Rattle.md_machine.proofs.events.MoveFacts.{MoveFacts, Uninstalls}
use Rattle.md_machine.proofs.events.Steps.{HasStep}
use Rattle.md_machine.proofs.lists.Pairs.{pairs_of}
use Rattle.md_machine.proofs.lists.Rising.{there}
use Rattle.md_machine.specs.Installs.{IsUndecided, spot_of_install}
use Rattle.md_machine.specs.Machine.{Install, IsAt, Machine, content, shape_of, status_at, word_at, IsPresentIn}
use Rattle.md_machine.specs.Trail.{Finds, Meets, segments}
use Rattle.md_machine.specs.clauses.words.Brackets.{NotesSerial, NotesStanding, serial_in}
use Rattle.md_machine.specs.clauses.passes.Hands.{HandsFit}
use Rattle.md_machine.specs.clauses.slots.Undecided.{UndecidedStand}
use Rattle.md_machine.specs.events.Install.{installed_word}
use Rattle.md_machine.specs.events.Uninstall.{IsDecided, desc_in, status_of_desc}

module _ (m : Machine) (noted : StatusesNoted (shape_of m) m.words m.passes) (bracket : TrailsBracket (shape_of m) m.words m.passes) where
  -- a status that a pass found after a content that still stands is of the attempt that stands there
  found_present : (pass : ℕ) (p : PassView) (w : ℕ) → IsAt m pass p → IsCounted (shape_of m) w → is_even (count_of (content m w)) ≡ false
      → (earlier : List Step) (s : Step) (later : List Step) → Contains (segments p) (earlier ++ s ∷ later) → Finds w (content m w) s
      → (t : Step) → Contains later t → t.word ≡ status_of_desc (shape_of m) (content m w) → NotesSerial (serial_in (shape_of m) m.words (content m w)) t
  found_present pass p w at counted odd earlier s later segment f t c there =
      let same : content m s.word ≡ content m w = ap (content m) f.there in
      let met : MetStanding (shape_of m) m.words s = record {
        counted = subst (IsCounted (shape_of m)) (sym f.there) counted;
        odd = ap (λ c. is_even (count_of c)) same ∙ odd;
        there = refl;
        met = inl (f.before ∙ sym same);
      } in
      subst (λ c. NotesSerial (serial_in (shape_of m) m.words c) t) same (pairs_of (NotesStanding (shape_of m) m.words) earlier s later t (bracket pass p at (earlier ++ s ∷ later) segment) c met (there ∙ ap (status_of_desc (shape_of m)) (sym same)))

  -- what a helper asked comes after the content that it found, and before what it loaded
  in_first : (h : List Step) (a : Step) (b : List Step) (t : Step) → Contains h t → Contains (h ++ a ∷ b) t
  in_first h a b t c = Contains-append_left h (a ∷ b) t c

  -- the serial that an uninstall knows is the present one
  pub knows_present : (w : ℕ) → IsCounted (shape_of m) w → (u : Uninstalls m w) → serial_of u.may.status ≡ serial_of (status_at m (desc_in (content m w)))
  knows_present w counted u = ⊎_elim
      (λ own. own.present)
      (λ h. let t = h.asks.0 in let found = h.asks.2 in
      let notes = found_present u.pass u.p w u.at counted u.may.odd h.earlier h.found (h.first ++ h.again ∷ (h.second ++ h.loaded ∷ h.later)) h.segment h.finds t (in_first h.first h.again _ t h.asks.1) found.1.there in
      sym found.2 ∙ ap serial_of (sym found.1.before) ∙ notes.before)
      u.may.knows

  -- it met that status
  pub met_status : (w : ℕ) (u : Uninstalls m w) → (t : Step) × HasStep m.passes t × Meets (status_of_desc (shape_of m) (content m w)) u.may.status t
  met_status w u = ⊎_elim
      (λ own. let t = own.met.2 in (t.0, (u.pass, u.p, u.at, (own.met.0, own.met.1, t.1)), t.2))
      (λ h. let t = h.decided.0 in
      let inside : Contains (h.earlier ++ h.found ∷ (h.first ++ h.again ∷ (h.second ++ h.loaded ∷ h.later))) t =
      Contains-append_right h.earlier _ t (there h.found _ t (subst (λ l. Contains l t) (append_assoc h.first (h.again ∷ h.second) (h.loaded ∷ h.later)) (Contains-append_left (h.first ++ h.again ∷ h.second) (h.loaded ∷ h.later) t h.decided.1))) in
      (t, (u.pass, u.p, u.at, (_, h.segment, inside)), h.decided.2))
      u.may.knows

  -- so what it may take out is of a decided attempt, and has that status
  pub stands_decided : (w : ℕ) → IsCounted (shape_of m) w → desc_in (content m w) < desc_count (shape_of m) → (u : Uninstalls m w) → u.may.status ≡ status_at m (desc_in (content m w))
  stands_decided w counted exists u =
      let d = desc_in (content m w) in
      let t = met_status w u in
      let at : t.0.word ≡ address (shape_of m) (desc_status d) = ⊎_elim (λ f. f.there) (λ l. l.there) t.2 in
      let known = noted t.0 t.1 d exists at in
      let held : NotedStatus (status_at m d) u.may.status = ⊎_elim (λ f. subst (NotedStatus (status_at m d)) f.before known.0) (λ l. subst (NotedStatus (status_at m d)) l.after known.1) t.2 in
      held.stands u.may.decided (knows_present w counted u)

  takes_decided : (w : ℕ) → IsCounted (shape_of m) w → desc_in (content m w) < desc_count (shape_of m) → Uninstalls m w → IsUndecided (status_at m (desc_in (content m w))) → ⊥
  takes_decided w counted exists u undecided = not_both (status_of (status_at m (desc_in (content m w)))) undecided (subst (λ c. IsDecided (status_of c)) (stands_decided w counted exists u) u.may.decided)

  module _ (stamp : Stamp) (stamps : StampsKept m stamp) (k : InstallsKept (shape_of m) m.words m.installs m.passes) (n : Machine) (v : MoveFacts m n)
      (field : IsField (shape_of m) m.words) (hands : HandsFit (shape_of m) m.words m.passes) (was : UndecidedStand (shape_of m) m.words m.installs) where
    abbrev later : List ℕ
    later = set m.words v.word v.new

    -- an attempt that is undecided afterwards was undecided
    was_undecided : (i : Install) → InstallFits (shape_of m) m.words i → IsPresentIn (shape_of m) later i.attempt → IsUndecided (word_at (shape_of m) later (desc_status i.attempt.desc)) → IsUndecided (status_at m i.attempt.desc)
    was_undecided i fits now undecided = let past = fits.past in ⊎_elim
        (λ same. subst IsUndecided same undecided)
        (λ o. ⊎_elim (λ goes. goes.1) (λ more. absurd (omega (arith, now, past, more))) o)
        (status_step m field v.word v.new v.left i.attempt.desc fits.exists)

    old_stands : (i : Install) → Contains m.installs i → IsPresentIn (shape_of m) later i.attempt → IsUndecided (word_at (shape_of m) later (desc_status i.attempt.desc)) → get_or later i.word 0 ≡ installed_word i.old (spot_of_install i)
    old_stands i c now undecided =
        let fits = k.fits i c in
        let present = was_present m n v field hands k i fits now in
        let before = was_undecided i fits now undecided in
        let held = was i c present before in
        let counted = (stamps.installs i c).0 in
        ⊎_elim
        (λ e.
        let at = subst (IsCounted (shape_of m)) e counted in let inside = at.0 in
        let there : content m v.word ≡ installed_word i.old (spot_of_install i) = ap (content m) (sym e) ∙ held in
        let odd = ap (λ x. is_even (count_of x)) there ∙ install_odd i.old (spot_of_install i) (record { even = fits.even; room = fits.room }) in
        let new : get_or later i.word 0 ≡ v.new = ap (λ x. get_or later x 0) e ∙ get_or-set_same m.words v.word v.new 0 (omega (arith, inside, field)) in
        ⊎_elim
        (λ same. new ∙ same ∙ there)
        (λ u. let names = sym (ap desc_in there ∙ installed_names i fits.room (fits.slot present).exists.1) in
        absurd (takes_decided v.word at (subst (λ d. d < desc_count (shape_of m)) names fits.exists) u (subst (λ d. IsUndecided (status_at m d)) names before)))
        (v.takes at odd))
        (λ ne. get_or-set_other m.words v.word i.word v.new 0 ne ∙ held)
        (cases_eq i.word v.word)

    new_stands : (i : Install) → InstallsHere m v.step n.passes v.word i → get_or later i.word 0 ≡ installed_word i.old (spot_of_install i)
    new_stands i h =
        let at = subst (IsCounted (shape_of m)) h.there h.counted in let inside = at.0 in
        ap (λ x. get_or later x 0) h.there ∙ get_or-set_same m.words v.word v.new 0 (omega (arith, inside, field)) ∙ sym v.after ∙ h.step.after

    pub undecided-kept : UndecidedStand (shape_of m) later n.installs
    undecided-kept i c now undecided = ⊎_elim (λ old. old_stands i old now undecided) (new_stands i) (v.installs i c)
