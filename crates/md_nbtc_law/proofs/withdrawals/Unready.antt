-- What an abort of the attempt in hand, which isn't ready, finds and leaves.
use Rattle.std.proofs.Common.{◌≡◌, ◌≢◌, ◌⊎◌, ◌<◌, ◌^◌, ℕ, [], ◌∷◌, Result, Ok, Err, refl, sym, ap, ◌∙◌, subst, inl, inr, ⊎_elim, arith}
use Rattle.std.specs.List.{Contains}
use Rattle.std.proofs.lemmas.Bool.{true≢false}
use Rattle.std.proofs.lemmas.List.Elements.{Contains-push}
use Rattle.md_words.specs.declared.shape.Shape.{Shape}
use Rattle.md_words.specs.declared.status.Status.{Status}
use Rattle.md_words.specs.declared.status.Status.TheVariants.{Aborted, InPrep}
use Rattle.md_words.specs.Lanes.{lane_of_desc}
use Rattle.md_words.specs.Layout.{address, desc_count}
use Rattle.md_words.specs.Place.{desc_status}
use Rattle.md_words.specs.Status.{reads_of, serial_of, status_of, status_word}
use Rattle.md_words.proofs.Owners.{own_desc_exists, owner_of_desc}
use Rattle.md_words.proofs.Words.{reads_of-status_word, serial_of-status_word, status_of-status_word, status_word-parts}
use Rattle.md_machine.specs.declared.attempt.AttemptId.{AttemptId}
use Rattle.md_machine.specs.declared.attempt.HistoryEntry.{HistoryEntry}
use Rattle.md_machine.specs.declared.pass.PassView.{PassView}
use Rattle.md_machine.specs.declared.step.Kind.{Kind}
use Rattle.md_machine.specs.declared.step.Kind.TheVariants.{Abort}
use Rattle.md_machine.specs.Event.{Acts, abort}
use Rattle.md_machine.specs.Machine.{IsPresentIn, Machine, attempt_of, content, present, shape_of, status_at}
use Rattle.md_machine.specs.Meaning.{Meaning}
use Rattle.md_machine.specs.Own.{HasDesc}
use Rattle.md_machine.specs.Stepping.{attempt_in_hand}
use Rattle.md_machine.specs.events.Decide.{decided_word}
use Rattle.md_machine.specs.events.Ready.{unready_word}
use Rattle.md_machine.proofs.events.Attempts.{in_hand_some, ready_in}
use Rattle.md_rule.specs.Admitted.{Admitted}
use Rattle.md_rule.specs.Steps.{EventOf, Exchanged, May, Stepped, SteppedFrom}
use Rattle.md_rule.specs.Views.{Origin}
use Rattle.md_rule.proofs.Moves.{is_kept}
use Rattle.md_help.specs.After.{StandsInField}
use Rattle.md_help.proofs.Deciding.{abort_lost, abort_won, may_abort}
use Rattle.md_help.proofs.Numbers.{formats_of}
use Rattle.md_help.proofs.Steps.{Made, lanes_after, stands_after, trail_after}
use Rattle.md_nbtc_law.proofs.looks.Loaded.{free_over}
use Rattle.md_nbtc_law.specs.Withdrawn.{AbortsHand, IsUnready}

-- a status word with no reads, by its parts
parts_are : (w : ℕ) (s : Status) (serial : ℕ) → status_of w ≡ s → reads_of w ≡ 0 → serial ≡ serial_of w → w ≡ status_word s 0 serial
parts_are w s serial is none at_serial =
    sym (status_word-parts w) ∙ ap (λ x. status_word x (reads_of w) (serial_of w)) is ∙ ap (λ n. status_word s n (serial_of w)) none
    ∙ ap (status_word s 0) (sym at_serial)

module _ (M : Meaning) (o : Origin) (p : PassView) (a : AttemptId) (u : IsUnready o.shape p a) where
  abbrev word : ℕ
  word = address o.shape (desc_status a.desc)

  pub exists : a.desc < desc_count o.shape
  exists = own_desc_exists o.shape u.own.0 a.desc u.own.2

  module _ (m : Machine) (adm : Admitted M o m) (pass : ℕ) (acts : Acts m pass p) where
    a_is : a ≡ present m a.desc
    a_is = let h = in_hand_some p.hand a u.held in
        ap (attempt_of a.desc) (subst (IsPresentIn (shape_of m) m.words) h.2 ((is_kept M o m adm).hands.fits pass p h.0 acts.at h.1).present)

    own_m : HasDesc (shape_of m) p a.desc
    own_m = subst (λ (h : Shape). HasDesc h p a.desc) (sym adm.shape) u.own

    -- no entry is of the attempt: the pass would have seen it
    no_entry : (e : HistoryEntry) → Contains m.history e → e.attempt ≡ present m a.desc → ⊥
    no_entry e c is =
        let same : e.attempt ≡ a = is ∙ sym a_is in
        let lane : own_m.0 ≡ lane_of_desc (shape_of m) e.attempt.desc =
        sym ((owner_of_desc (shape_of m) own_m.0 a.desc).0 own_m.2).1 ∙ ap (λ (x : AttemptId). lane_of_desc (shape_of m) x.desc) (sym same) in
        let seen = ((is_kept M o m adm).fronts pass p acts.at).own e c (subst (Contains p.lanes) lane own_m.1) in
        true≢false (sym (ready_in p.seen e a seen (ap (λ (x : AttemptId). x.desc) same) (ap (λ (x : AttemptId). x.serial) same)) ∙ u.unready)

    serial_is : a.serial ≡ serial_of (status_at m a.desc)
    serial_is = ap (λ (x : AttemptId). x.serial) a_is

    pub small : a.serial < 2 ^ 54
    small =
        let fits = ((formats_of M o m adm).status a.desc exists).try in
        let at = serial_is ∙ ap (λ h. serial_of (content m (address h (desc_status a.desc)))) adm.shape in
        let most = o.shape.in_range in omega (arith, fits, at, most)

    -- what stands there is its status in preparation, or aborted
    pub stands_so : (found : ℕ) → content m word ≡ found → (found ≡ unready_word a) ⊎ (found ≡ status_word Aborted 0 a.serial)
    stands_so found is =
        let there : status_at m a.desc ≡ found = ap (λ x. content m (address x (desc_status a.desc))) adm.shape ∙ is in
        let serial : a.serial ≡ serial_of found = serial_is ∙ ap serial_of there in ⊎_elim
        (λ entry. absurd (no_entry entry.0 entry.1 entry.2))
        (λ none. let reads = sym (ap reads_of there) ∙ none.0 in ⊎_elim
        (λ prep. inl (parts_are found InPrep a.serial (sym (ap status_of there) ∙ prep) reads serial))
        (λ gone. inr (parts_are found Aborted a.serial (sym (ap status_of there) ∙ gone) reads serial))
        none.1)
        ((is_kept M o m adm).present_entries a.desc (subst (λ (h : Shape). a.desc < desc_count h) (sym adm.shape) exists))

  -- the abort may be made
  pub may : (from : ℕ) → from ≡ unready_word a → May M o (λ pass. abort pass a.desc from) p
  may from is = may_abort M o p a.desc from (record {
    exists = exists;
    reached = inl u.own;
    undecided = inl (ap status_of is ∙ status_of-status_word InPrep 0 a.serial);
  })

  -- a step on the status that met this word, which is aborted
  pub aborts : (kind : Kind) (held left : ℕ) (q : PassView) → kind ≡ Abort → (event : EventOf) → Stepped M o event p q → Made o.shape kind word held left p q → left ≡ status_word Aborted 0 a.serial → AbortsHand o.shape a p q
  aborts kind held left q is event step b left_is = record {
    step = b.step;
    goes = b.goes;
    kind = b.is_kind ∙ is;
    met = (
      left,
      inr (record { there = b.there; after = b.left_it }),
      ap serial_of left_is ∙ serial_of-status_word Aborted 0 a.serial (omega arith),
      ap status_of left_is ∙ status_of-status_word Aborted 0 a.serial,
    );
    fate = record {
      held = ap (λ (x : PassView). attempt_in_hand x.hand) b.goes.1 ∙ u.held;
      own = (u.own.0, subst (λ l. Contains l u.own.0) (sym (ap (λ (x : PassView). x.lanes) b.goes.1)) u.own.1, u.own.2);
      decided = inr refl;
      status = left;
      serial = ap serial_of left_is ∙ serial_of-status_word Aborted 0 a.serial (omega arith);
      is = ap status_of left_is ∙ status_of-status_word Aborted 0 a.serial;
      met = (b.step, subst (λ l. Contains l b.step) (sym (trail_after o.shape (b.step ∷ []) p q b.goes)) (Contains-push p.trail b.step), inr (record { there = b.there; after = b.left_it }));
    };
    free = λ node. free_over M o event p q step (ap (λ (x : PassView). x.seen) b.goes.1) u.own.0 u.own.1 (subst (λ l. Contains l u.own.0) (sym (ap (λ (x : PassView). x.lanes) b.goes.1)) u.own.1) node;
  }

  pub won : (from : ℕ) → from ≡ unready_word a → (q : PassView) → SteppedFrom M o (λ pass. abort pass a.desc from) word from p q → AbortsHand o.shape a p q
  won from is q step = aborts Abort from (decided_word Aborted from) q refl (λ pass. abort pass a.desc from) step.0 (abort_won M o a.desc from p q step)
      (ap (decided_word Aborted) is ∙ ap (λ n. status_word Aborted n (serial_of (unready_word a))) (reads_of-status_word InPrep 0 a.serial (omega arith)) ∙ ap (status_word Aborted 0) (serial_of-status_word InPrep 0 a.serial (omega arith)))

  pub lost : (from found : ℕ) → from ≡ unready_word a → found ≢ from → (q : PassView) → SteppedFrom M o (λ pass. abort pass a.desc from) word found p q → AbortsHand o.shape a p q
  lost from found is apart q step = aborts Abort found found q refl (λ pass. abort pass a.desc from) step.0 (abort_lost M o a.desc from found p q apart step)
      (⊎_elim (λ e. absurd (apart (e ∙ sym is))) (λ e. e) (stands_so step.0.machine step.0.admitted step.0.pass step.0.acts found step.1))

  -- won or lost
  pub aborted : (from : ℕ) → from ≡ unready_word a → (result : Result (Unit {0}) ℕ) (q : PassView) → Exchanged M o (λ pass. abort pass a.desc from) word from result p q
      → AbortsHand o.shape a p q × StandsInField M o q
  aborted from is (Ok x) q step =
      let h = won from is q step in (h, stands_after M o (λ pass. abort pass a.desc from) p q step.0 (lanes_after M o o.shape (h.step ∷ []) p q h.goes))
  aborted from is (Err found) q step =
      let h = lost from found is step.0 q step.1 in (h, stands_after M o (λ pass. abort pass a.desc from) p q step.1.0 (lanes_after M o o.shape (h.step ∷ []) p q h.goes))
