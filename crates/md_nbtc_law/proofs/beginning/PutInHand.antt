-- How an attempt that is new is put in hand.
use Rattle.std.proofs.Common.{◌≡◌, ◌<◌, ◌≤◌, ◌⊎◌, ℕ, true, false, List, [], ◌∷◌, ◌++◌, Some, None, length, refl, sym, ap, ◌∙◌, subst, inr, ⊎_elim, arith, le_of_eq, append_assoc}
use Rattle.std.specs.List.{Contains}
use Rattle.std.proofs.lemmas.Bool.{cases_Bool, false≢true}
use Rattle.std.proofs.lemmas.List.Elements.{Contains-append_left, Contains-push}
use Rattle.md_words.specs.declared.shape.Shape.{Shape}
use Rattle.md_words.specs.declared.status.Status.TheVariants.{InPrep}
use Rattle.md_words.specs.Layout.{address, desc_count}
use Rattle.md_words.specs.Place.{base_word, desc_status}
use Rattle.md_words.specs.PlaceAt.{place_at}
use Rattle.md_words.specs.Status.{reads_of, serial_of, status_of, status_word}
use Rattle.md_words.proofs.Places.{address-base_word, place_at-address}
use Rattle.md_words.proofs.Words.{serial_of-status_word, status_word-parts}
use Rattle.md_machine.specs.declared.attempt.AttemptId.{AttemptId}
use Rattle.md_machine.specs.declared.pass.PassView.{PassView}
use Rattle.md_machine.specs.declared.step.Kind.TheVariants.{Load}
use Rattle.md_machine.specs.declared.step.Step.{Step}
use Rattle.md_machine.specs.Event.{Acts, load, mark_begin}
use Rattle.md_machine.specs.Machine.{Machine, attempt_of, content, is_ready, present, shape_of, was_begun}
use Rattle.md_machine.specs.Meaning.{Meaning}
use Rattle.md_machine.specs.Own.{HasDesc}
use Rattle.md_machine.specs.Resolution.{always_nodes}
use Rattle.md_machine.specs.Stepping.{attempt_in_hand, known_at, step_of}
use Rattle.md_machine.specs.Trail.{EveryStepOf, Meets, SomeStep, segments}
use Rattle.md_machine.specs.clauses.words.Formats.{StatusFits}
use Rattle.md_machine.specs.clauses.words.Statuses.{StatusCame, StatusesCame}
use Rattle.md_machine.specs.events.Mark.{after_mark_begin, marked, new_hand}
use Rattle.md_machine.specs.events.Ready.{unready_word}
use Rattle.md_machine.proofs.clauses.passes.BegunNoLater.{later_is_new, new_is_first}
use Rattle.md_rule.specs.Admitted.{Admitted}
use Rattle.md_rule.specs.Kept.{IsNew, KeepsLane, LeavesStatus}
use Rattle.md_rule.proofs.FirstAttempts.{first_fit}
use Rattle.md_rule_lanes.specs.Shares.{after_begin, share_at}
use Rattle.md_rule.specs.Steps.{EventOf, May, Stepped, SteppedFrom}
use Rattle.md_rule.specs.Views.{Origin}
use Rattle.md_rule_lanes.specs.declared.shares.Share.{Share}
use Rattle.md_rule.proofs.LaneSteps.{one_changed}
use Rattle.md_rule.proofs.Moves.{is_kept, next_admitted}
use Rattle.md_rule.proofs.Told.{told_begin}
use Rattle.md_help.specs.After.{IsAfter, StandsInField}
use Rattle.md_help.proofs.Numbers.{formats_of}
use Rattle.md_help.proofs.Owns.{last_loaded}
use Rattle.md_help.proofs.Steps.{both_after, made_load, stands_after, stands_made, trail_after}
use Rattle.md_nbtc_law.specs.Beginning.{FindsNew, IsBehind, KeepsCounts, PutsInHand}
use Rattle.md_nbtc_law.proofs.beginning.Starting.{present_is, ready_out}

-- putting in hand changes no number of a share
pub begin_counts : (shares : List Share) (desc : ℕ) → desc < length shares → KeepsCounts shares (after_begin shares desc)
begin_counts shares desc fits = one_changed (λ lane a b. (b.nodes_taken ≡ a.nodes_taken) × (b.tries_taken ≡ a.tries_taken)) shares desc
    (record (share_at shares desc) { left_open = true }) fits
    (λ lane e. (ap (λ l. (share_at shares l).nodes_taken) e, ap (λ l. (share_at shares l).tries_taken) e))
    (λ lane ne. (refl, refl))

module _ (M : Meaning) (o : Origin) (desc : ℕ) (exists : desc < desc_count o.shape) where
  abbrev status : ℕ
  status = address o.shape (desc_status desc)

  -- a pass that stands somewhere met no later status than one below the number of the attempts that its lane had begun
  pub behind_of : (p : PassView) (before : ℕ) → StandsInField M o p → HasDesc o.shape p desc
      → EveryStepOf p (λ s. (held : ℕ) → Meets status held s → (serial_of held ≡ 0) ⊎ (serial_of held < before)) → 1 ≤ before → IsBehind o.shape p desc before
  behind_of p before st own serials some =
      let m = st.machine in
      let k = is_kept M o m st.admitted in
      let held = content m status in
      let known = k.own_serials st.pass p st.acts.at desc (subst (λ (h : Shape). HasDesc h p desc) (sym st.admitted.shape) own) in
      let now : serial_of (content m (address (shape_of m) (desc_status desc))) ≡ serial_of held = ap (λ (h : Shape). serial_of (content m (address h (desc_status desc)))) st.admitted.shape in record {
        serial = serial_of held;
        last = λ segment c s i h meets. no_more h (met_came segment c s i h meets);
        less = ⊎_elim
            (λ zero. omega (arith, zero, now, some))
            (λ x. let it = x.2.2 in let same = it.2 in ⊎_elim
            (λ z. omega (arith, z, same, now, some))
            (λ l. omega (arith, l, same, now))
            (serials x.0 x.1 x.2.0 x.2.1 it.0 (subst (λ (h : Shape). Meets (address h (desc_status desc)) it.0 x.2.0) st.admitted.shape it.1)))
            known;
      }
    where
      met_came : (segment : List Step) → Contains (segments p) segment → (s : Step) → Contains segment s → (h : ℕ) → Meets status h s → StatusCame h (content st.machine status)
      met_came segment c s i h meets =
          let all = subst (λ (x : Shape). StatusesCame x st.machine.words st.machine.passes) st.admitted.shape (is_kept M o st.machine st.admitted).statuses in
          let it = all st.pass p st.acts.at segment c s i desc exists (⊎_elim (λ f. f.there) (λ f. f.there) meets) in ⊎_elim
          (λ f. subst (λ x. StatusCame x (content st.machine status)) f.before it.before)
          (λ f. subst (λ x. StatusCame x (content st.machine status)) f.after it.after)
          meets

      no_more : (h : ℕ) → StatusCame h (content st.machine status) → serial_of h ≤ serial_of (content st.machine status)
      no_more h = ⊎_elim (λ less. omega (arith, less)) (λ c. le_of_eq c.serial)

  -- more steps came first
  pub new_after : (first : List Step) (p q r : PassView) (serial : ℕ) → IsAfter o.shape first p q → FindsNew M o desc serial q r → FindsNew M o desc serial p r
  new_after first p q r serial goes f = record {
    steps = first ++ f.steps;
    step = f.step;
    goes = subst (λ l. IsAfter o.shape l p r) (sym (append_assoc first f.steps (f.step ∷ []))) (both_after o.shape first (f.steps ++ f.step ∷ []) p q r goes f.goes);
    leaves = f.leaves;
    stands = f.stands;
    last = f.last;
    new = f.new;
  }

  -- at the first attempt the status is found as it was at the beginning
  pub first_new : (p q : PassView) (found : ℕ) (share : Share) → p.hand ≡ None → HasDesc o.shape p desc → KeepsLane o.shape p share desc → share.tries_taken ≡ 0
      → SteppedFrom M o (λ pass. load pass status) status found p q → FindsNew M o desc (serial_of found) p q
  first_new p q found share idle own kept none step =
      let s = step.0 in
      let m = s.machine in
      let k = is_kept M o m s.admitted in
      let event : EventOf = λ pass. load pass status in
      let b = made_load M o status found p q step in
      let new = kept.first none in
      let own_m = subst (λ (h : Shape). HasDesc h p desc) (sym s.admitted.shape) own in
      let now : serial_of (content m (address (shape_of m) (desc_status desc))) ≡ serial_of found = ap serial_of (ap (λ (h : Shape). content m (address h (desc_status desc))) s.admitted.shape ∙ step.1) in
      let zero : serial_of found ≡ 0 = ⊎_elim
      (λ z. omega (arith, z, now))
      (λ x. let it = x.2.2 in let same = it.2 in ⊎_elim
      (λ z. omega (arith, z, same, now))
      (λ l. absurd (omega (arith, l, none)))
      (kept.serials x.0 x.1 x.2.0 x.2.1 it.0 (subst (λ (h : Shape). Meets (address h (desc_status desc)) it.0 x.2.0) s.admitted.shape it.1)))
      (k.own_serials s.pass p s.acts.at desc own_m) in
      let first = new_is_first m k s.pass p s.acts.at (attempt_of desc 0) own_m (record { pending = new.pending; steps = new.steps }) in
      let leaves = subst (λ (h : Shape). LeavesStatus h p desc) (sym s.admitted.shape) (kept.untouched none) in
      let unready : status_of found ≡ InPrep = subst (λ x. status_of x ≡ InPrep) (ap (λ (h : Shape). content m (address h (desc_status desc))) s.admitted.shape ∙ step.1)
      ((first_fit M o m s.admitted).unready s.pass p s.acts.at desc own_m first (now ∙ zero) leaves) in
      let fits = subst (StatusFits o.shape) step.1 ((formats_of M o m s.admitted).status desc exists) in
      let is : found ≡ unready_word (attempt_of desc (serial_of found)) = sym (status_word-parts found)
      ∙ ap (λ x. status_word x (reads_of found) (serial_of found)) unready ∙ ap (λ n. status_word InPrep n (serial_of found)) (fits.unready unready) in
      let begun : s.next.begun ≡ m.begun = ap (λ (x : Machine). x.begun) s.does.3 in
      let later = later_is_new s.next (is_kept M o s.next (next_admitted M o event p q s)) s.pass q s.knows (attempt_of desc 0)
      (λ was. false≢true (sym first ∙ ap (λ bs. was_begun bs (attempt_of desc 0)) (sym begun) ∙ was)) in record {
        steps = [];
        step = b.step;
        goes = b.goes;
        leaves = record { there = b.there; after = b.left_it ∙ is };
        stands = stands_made M o event Load status found found p q s b;
        last = (last_loaded M o event p q desc found exists own Load step b).1;
        new = subst (λ n. IsNew q (attempt_of desc n)) (sym zero) (record { pending = later.pending; steps = later.steps });
      }

  -- what is new may be put in hand, and is
  module _ (p q : PassView) (serial tag : ℕ) (f : FindsNew M o desc serial p q) (own : HasDesc o.shape q desc) where
    abbrev a : AttemptId
    a = attempt_of desc serial

    met : SomeStep (Meets status (unready_word a)) q.trail
    met = (
      f.step,
      subst (λ l. Contains l f.step) (sym (trail_after o.shape (f.steps ++ f.step ∷ []) p q f.goes ∙ sym (append_assoc p.trail f.steps (f.step ∷ []))))
          (Contains-push (p.trail ++ f.steps) f.step),
      inr f.leaves,
    )

    present_new : (m : Machine) → Admitted M o m → (pass : ℕ) → Acts m pass q → present m desc ≡ a
    present_new m adm pass acts = ap (attempt_of desc) (ap (λ (h : Shape). serial_of (content m (address h (desc_status desc)))) adm.shape
        ∙ present_is M o desc exists q (unready_word a) serial own met (serial_of-status_word InPrep 0 serial (omega arith)) f.last m adm pass acts)

    first_hand : (m : Machine) → Admitted M o m → (pass : ℕ) → Acts m pass q → was_begun m.begun a ≡ false
    first_hand m adm pass acts = new_is_first m (is_kept M o m adm) pass q acts.at a (subst (λ (h : Shape). HasDesc h q desc) (sym adm.shape) own)
        (record { pending = f.new.pending; steps = f.new.steps })

    pub may_begin : q.hand ≡ None → May M o (λ pass. mark_begin pass desc tag) q
    may_begin idle m adm pass acts = (
      after_mark_begin m pass q desc tag,
      (
        q,
        acts,
        record {
          idle = idle;
          own = subst (λ (h : Shape). HasDesc h q desc) (sym adm.shape) own;
          first = subst (λ x. was_begun m.begun x ≡ false) (sym (present_new m adm pass acts)) (first_hand m adm pass acts);
        },
        refl,
      ),
    )

    pub put_in_hand : (r : PassView) → Stepped M o (λ pass. mark_begin pass desc tag) q r → PutsInHand M o desc tag serial p r
    put_in_hand r s =
        let m = s.machine in
        let told = told_begin M o q r desc tag s in
        let same = present_new m s.admitted s.pass s.acts in
        let is : r ≡ record (marked m q) { hand = Some (new_hand a tag); pending = q.pending ++ a ∷ [] } =
        told.1 ∙ ap (λ x. record (marked m q) { hand = Some (new_hand x tag); pending = q.pending ++ x ∷ [] }) same in
        let mark = step_of m q Load 0 (content m 0) in record {
          found = q;
          finds = f;
          mark = mark;
          base = refl;
          looks = refl;
          noted = always_nodes m;
          marks = is ∙ ap (λ k. record q { trail = q.trail ++ mark ∷ []; known = k; placed = q.placed ++ always_nodes m; hand = Some (new_hand a tag); pending = q.pending ++ a ∷ [] }) (known_same m q);
          for_none = ap attempt_in_hand told.0.idle;
          stands = stands_after M o (λ pass. mark_begin pass desc tag) q r s (ap (λ (x : PassView). x.lanes) is);
          unready = ⊎_elim
              (λ ready.
              let e = ready_out r.seen a ready in
              let seen = ap (λ (x : PassView). x.seen) is in
              let k = is_kept M o m s.admitted in
              let inside = subst (λ h. Contains h e.0) (sym (k.fronts s.pass q s.acts.at).seen.is) (Contains-append_left q.seen (k.fronts s.pass q s.acts.at).seen.rest e.0 (subst (λ l. Contains l e.0) seen e.1)) in
              absurd (false≢true (sym (first_hand m s.admitted s.pass s.acts) ∙ subst (λ x. was_begun m.begun x ≡ true) e.2 (k.serials.begun e.0 inside))))
              (λ no. no)
              (cases_Bool (is_ready r.seen a));
        }
      where
        known_same : (m : Machine) (q : PassView) → (marked m q).known ≡ q.known
        known_same m q = ap (λ pl. known_at q.seen (step_of m q Load 0 (content m 0)) pl q.known) (ap (place_at (shape_of m)) (sym (address-base_word (shape_of m))) ∙ place_at-address (shape_of m) base_word tt)
