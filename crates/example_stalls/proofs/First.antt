-- The first attempt of a descriptor: it may be put in hand, and what is known of it then.
use Rattle.std.proofs.Common.{◌≡◌, ◌&&◌, ◌==◌, ◌<◌, ℕ, true, false, List, [], ◌∷◌, None, refl, sym, ap, ◌∙◌, subst, ⊎_elim, arith}
use Rattle.std.specs.List.{Contains}
use Rattle.std.proofs.lemmas.Bool.{and_parts, cases_Bool, false≢true, or_cases}
use Rattle.std.proofs.lemmas.List.Elements.{Contains-append_left}
use Rattle.md_words.specs.declared.shape.Shape.{Shape}
use Rattle.md_words.specs.Lanes.{lane_of_desc}
use Rattle.md_words.specs.Layout.{desc_count}
use Rattle.md_words.specs.Status.{serial_of}
use Rattle.md_words.proofs.Owners.{owner_of_desc}
use Rattle.md_machine.specs.declared.attempt.AttemptId.{AttemptId}
use Rattle.md_machine.specs.declared.attempt.HistoryEntry.{HistoryEntry}
use Rattle.md_machine.specs.declared.pass.PassView.{PassView}
use Rattle.md_machine.specs.declared.step.Kind.TheVariants.{Load}
use Rattle.md_machine.specs.declared.step.Step.{Step}
use Rattle.md_machine.specs.Event.{Acts, mark_begin}
use Rattle.md_machine.specs.Machine.{Install, IsPresentIn, Machine, attempt_of, content, is_installed, is_ready, present, same_attempt, shape_of, status_at, was_begun}
use Rattle.md_machine.specs.Meaning.{Meaning}
use Rattle.md_machine.specs.Own.{HasDesc}
use Rattle.md_machine.specs.Stepping.{step_of}
use Rattle.md_machine.specs.clauses.passes.Hands.{HandFits}
use Rattle.md_machine.specs.events.Mark.{after_mark_begin, new_hand}
use Rattle.md_machine.specs.events.Start.{WonInstall}
use Rattle.md_machine.proofs.clauses.passes.BegunNoLater.{new_is_first}
use Rattle.md_machine.proofs.events.Attempts.{attempt_same, same_parts}
use Rattle.md_machine.proofs.events.Moves.{own_exists}
use Rattle.md_machine.proofs.lists.Rising.{here, there}
use Rattle.md_rule.specs.Admitted.{Admitted}
use Rattle.md_rule.specs.Kept.{IsNew, MetNoLater}
use Rattle.md_rule.specs.Steps.{May, Stepped}
use Rattle.md_rule.specs.Views.{Origin}
use Rattle.md_rule.proofs.Kept.{no_less, own_desc}
use Rattle.md_rule.proofs.Moves.{is_kept}
use Rattle.md_rule.proofs.Told.{told_begin}
use Rattle.example_stalls.specs.Stalled.{Begins, HasFirst, MakesStep}
use Rattle.example_stalls.proofs.Trails.{every_more}

-- an entry of an attempt that is ready, and an install of a slot that was installed
ready_out : (es : List HistoryEntry) (a : AttemptId) → is_ready es a ≡ true → (e : HistoryEntry) × Contains es e × (e.attempt ≡ a)
ready_out [] a r = absurd (false≢true r)
ready_out (e ∷ es) a r = ⊎_elim
    (λ this. let parts = same_parts e.attempt a this in (e, here e es, attempt_same e.attempt a parts.0 parts.1))
    (λ later. let x = ready_out es a later in (x.0, there e es x.0 x.1, x.2))
    (or_cases (same_attempt e.attempt a) (is_ready es a) r)

installed_out : (is : List Install) (a : AttemptId) (slot : ℕ) → is_installed is a slot ≡ true → (i : Install) × Contains is i × (i.attempt ≡ a)
installed_out [] a slot r = absurd (false≢true r)
installed_out (i ∷ is) a slot r = ⊎_elim
    (λ this. let parts = same_parts i.attempt a (and_parts (same_attempt i.attempt a) (i.slot == slot) this).0 in (i, here i is, attempt_same i.attempt a parts.0 parts.1))
    (λ later. let x = installed_out is a slot later in (x.0, there i is x.0 x.1, x.2))
    (or_cases (same_attempt i.attempt a && (i.slot == slot)) (is_installed is a slot) r)

module _ (M : Meaning) (o : Origin) (desc : ℕ) where
  abbrev pub first : AttemptId
  first = attempt_of desc 0

  module _ (p : PassView) (own : Contains p.lanes desc) (new : IsNew p first) (serial : MetNoLater o.shape p desc 0) where
    -- the present attempt of such a descriptor is its first one, which was never begun
    present_is : (m : Machine) → Admitted M o m → (pass : ℕ) → Acts m pass p → present m desc ≡ first
    present_is m a pass acts =
        let less = no_less m (is_kept M o m a) pass p acts.at desc own 0 (subst (λ (h : Shape). MetNoLater h p desc 0) (sym a.shape) serial) in
        let zero : serial_of (status_at m desc) ≡ 0 = omega (arith, less) in
        ap (attempt_of desc) zero

    never : (m : Machine) → Admitted M o m → (pass : ℕ) → Acts m pass p → was_begun m.begun first ≡ false
    never m a pass acts = let k = is_kept M o m a in
        new_is_first m k pass p acts.at first (own_desc m k pass p acts.at desc own) (record { pending = new.pending; steps = new.steps })

    pub may_begin : (tag : ℕ) → p.hand ≡ None → May M o (λ pass. mark_begin pass desc tag) p
    may_begin tag idle m a pass acts = (
      after_mark_begin m pass p desc tag,
      (
        p,
        acts,
        record {
          idle = idle;
          own = own_desc m (is_kept M o m a) pass p acts.at desc own;
          first = ap (was_begun m.begun) (present_is m a pass acts) ∙ never m a pass acts;
        },
        refl,
      ),
    )

    pub begins : (q : PassView) → Stepped M o (λ pass. mark_begin pass desc 0) p q → Begins o.shape desc p q
    begins q s =
        let m = s.machine in
        let k = is_kept M o m s.admitted in
        let e = (told_begin M o p q desc 0 s).1 in
        let mark : Step = step_of m p Load 0 (content m 0) in
        let makes : MakesStep mark p q = record { past = ap (λ (x : PassView). x.past) e; trail = ap (λ (x : PassView). x.trail) e } in
        let prefix = (k.fronts s.pass p s.acts.at).seen in record {
          mark = mark;
          makes = makes;
          first = record {
            exists = subst (λ (h : Shape). desc < desc_count h) s.admitted.shape (own_exists m p desc (own_desc m k s.pass p s.acts.at desc own));
            hand = new_hand (present m desc) 0;
            held = ap (λ (x : PassView). x.hand) e;
            of = present_is m s.admitted s.pass s.acts;
            unready = λ x c is. false≢true (sym (never m s.admitted s.pass s.acts) ∙ subst (λ a. was_begun m.begun a ≡ true) is
                (k.serials.begun x (subst (λ h. Contains h x) (sym prefix.is) (Contains-append_left p.seen prefix.rest x (subst (λ l. Contains l x) (ap (λ (v : PassView). v.seen) e) c)))));
            uninstalled = every_more (λ x. ¬ WonInstall first x) mark p q makes (λ won. let is = won.kind in cc)
                (λ segment c x i won. new.steps segment c x i won.attempt);
            nodes = every_more _ mark p q makes (λ node is stores. let is = stores.kind in cc)
                (λ segment c x i node is stores. new.steps segment c x i stores.attempt);
          };
          new = ap (λ a. new_hand a 0) (present_is m s.admitted s.pass s.acts);
        }

  -- while it is in hand, it didn't join the history, and installed no slot
  module _ (p : PassView) (f : HasFirst o.shape p desc) (m : Machine) (a : Admitted M o m) (pass : ℕ) (acts : Acts m pass p) where
    pub fits : HandFits (shape_of m) m.words p f.hand
    fits = (is_kept M o m a).hands.fits pass p f.hand acts.at f.held

    pub unready : is_ready m.history f.hand.attempt ≡ false
    unready = ⊎_elim
        (λ ready. let e = ready_out m.history f.hand.attempt ready in
        let own = fits.own in
        let of = ((owner_of_desc (shape_of m) own.0 f.hand.attempt.desc).0 own.2).1 in
        let lane : Contains p.lanes (lane_of_desc (shape_of m) e.0.attempt.desc) = subst (Contains p.lanes) (sym of ∙ ap (λ (x : AttemptId). lane_of_desc (shape_of m) x.desc) (sym e.2)) own.1 in
        absurd (f.unready e.0 (((is_kept M o m a).fronts pass p acts.at).own e.0 e.1 lane) (e.2 ∙ f.of)))
        (λ no. no)
        (cases_Bool (is_ready m.history f.hand.attempt))

    pub free : (slot : ℕ) → is_installed m.installs f.hand.attempt slot ≡ false
    free slot = ⊎_elim
        (λ made. let i = installed_out m.installs f.hand.attempt slot made in
        let present : IsPresentIn (shape_of m) m.words i.0.attempt = subst (λ (x : AttemptId). x.serial ≡ serial_of (status_at m x.desc)) (sym i.2) fits.present in
        let some = (is_kept M o m a).own_installs i.0 i.1 present pass p acts.at (subst (λ (x : AttemptId). HasDesc (shape_of m) p x.desc) (sym i.2) fits.own) in
        absurd (f.uninstalled some.0 some.1 some.2.0 some.2.1 (subst (λ x. WonInstall x some.2.0) (i.2 ∙ f.of) some.2.2.0)))
        (λ no. no)
        (cases_Bool (is_installed m.installs f.hand.attempt slot))

    pub is_present : f.hand.attempt ≡ present m f.hand.attempt.desc
    is_present = attempt_same f.hand.attempt (present m f.hand.attempt.desc) refl fits.present
