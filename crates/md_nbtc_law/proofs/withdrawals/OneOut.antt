-- A write is taken out of its word by the fate of the attempt in hand.
use Rattle.std.proofs.Common.{◌≡◌, ◌≢◌, ◌+◌, ◌<◌, ◌≤◌, ◌^◌, ◌++◌, ◌∷◌, ℕ, true, false, [], refl, sym, ap, ◌∙◌, subst, inl, inr, ⊎_elim, arith}
use Rattle.std.proofs.lemmas.Bool.{cases_lt}
use Rattle.std.proofs.lemmas.List.{same_from_push}
use Rattle.std.proofs.lemmas.List.Elements.{Contains-push}
use Rattle.md_words.specs.declared.content.Spot.{Spot}
use Rattle.md_words.specs.declared.shape.Shape.{Shape}
use Rattle.md_words.specs.declared.status.Status.{Status}
use Rattle.md_words.specs.declared.status.Status.TheVariants.{InPrep, InProg, Committed, Aborted}
use Rattle.md_words.specs.Content.{count_of, counted_word, is_even, spot_of, spot_value, value_of}
use Rattle.md_words.specs.Layout.{IsNode, address}
use Rattle.md_words.specs.Place.{desc_status, node_next, slot_new}
use Rattle.md_words.specs.PlaceAt.{IsCounted, place_at}
use Rattle.md_words.specs.Status.{serial_of, status_of}
use Rattle.md_words.proofs.Places.{descs_fit_values, place_at-address}
use Rattle.md_words.proofs.Words.{count_of-counted_word}
use Rattle.md_machine.specs.declared.attempt.AttemptId.{AttemptId}
use Rattle.md_machine.specs.declared.attempt.Write.{Write}
use Rattle.md_machine.specs.declared.step.Kind.TheVariants.{Uninstall}
use Rattle.md_machine.specs.declared.step.Step.{Step}
use Rattle.md_machine.specs.declared.pass.PassView.{PassView}
use Rattle.md_machine.specs.Event.{Acts, uninstall}
use Rattle.md_machine.specs.Machine.{Install, IsPresentIn, Machine, attempt_of, content, present, shape_of}
use Rattle.md_machine.specs.Meaning.{Meaning}
use Rattle.md_machine.specs.Own.{HasDesc}
use Rattle.md_machine.specs.Stepping.{is_of_placed, left_by, step_of}
use Rattle.md_machine.specs.Trail.{LastStored, Meets, SomeStep}
use Rattle.md_machine.specs.clauses.words.Stores.{IsEntryWord}
use Rattle.md_machine.specs.events.Uninstall.{IsDecided, after_uninstall, desc_in, slot_by_fate, uninstalled_word, value_by_fate}
use Rattle.md_machine.proofs.chain.Values.{installed_spot}
use Rattle.md_machine.proofs.events.Attempts.{in_hand_some}
use Rattle.md_machine.proofs.events.Leaves.{install_odd}
use Rattle.md_rule.specs.Admitted.{Admitted}
use Rattle.md_rule.specs.Steps.{May, SteppedFrom}
use Rattle.md_rule.specs.Views.{Origin}
use Rattle.md_rule.proofs.Moves.{is_kept}
use Rattle.md_rule.proofs.Told.{told_uninstall}
use Rattle.md_help.specs.After.{StandsInField}
use Rattle.md_help.proofs.Numbers.{formats_of}
use Rattle.md_help.proofs.Steps.{Made, lanes_after, stands_after, trail_after}
use Rattle.md_help.proofs.Taking.{uninstall_lost, uninstall_won}
use Rattle.md_nbtc_law.specs.Withdrawing.{HasFate, IsAlwaysPlaced, IsInstalled, TakesWriteOut, installed_in, taken_value}

-- what the slot of a write has stored where the fate takes the value from
abbrev pub stored_by : Status → Write → ℕ
stored_by Committed w = w.new
stored_by _ w = w.old

value_is : (fate : Status) (w : Write) → value_by_fate fate (stored_by fate w) ≡ taken_value fate w
value_is Committed w = refl
value_is Aborted w = refl
value_is InPrep w = refl
value_is InProg w = refl

module _ (M : Meaning) (o : Origin) (p : PassView) (a : AttemptId) (w : Write) (i : IsInstalled o.shape p a w) where
  abbrev pub from : ℕ
  from = installed_in a w

  abbrev as_install : Install
  as_install = record { attempt = a; slot = w.slot; word = w.word; old = w.old }

  pub desc_small : a.desc < 2 ^ 24
  desc_small = descs_fit_values o.shape a.desc i.exists.0

  pub from_spot : spot_of (value_of from) ≡ record { desc = a.desc; slot = w.slot }
  from_spot = installed_spot as_install i.from.room i.exists.1

  pub from_odd : is_even (count_of from) ≡ false
  from_odd = install_odd w.old (record { desc = a.desc; slot = w.slot }) i.from

  pub from_count : count_of from ≡ count_of w.old + 1
  from_count = let room = i.from.room in count_of-counted_word (spot_value (record { desc = a.desc; slot = w.slot })) (count_of w.old + 1) (omega (arith, room))

  last_by : (fate : Status) → LastStored p a (address o.shape (slot_by_fate fate (record { desc = a.desc; slot = w.slot }))) (stored_by fate w)
  last_by Committed = i.new
  last_by Aborted = i.old
  last_by InPrep = i.old
  last_by InProg = i.old

  module _ (fate : Status) (f : HasFate o.shape p a fate) (m : Machine) (adm : Admitted M o m) (pass : ℕ) (acts : Acts m pass p) where
    -- the attempt is the present one of its descriptor
    pub is_now : IsPresentIn (shape_of m) m.words a
    is_now = let h = in_hand_some p.hand a f.held in
        subst (IsPresentIn (shape_of m) m.words) h.2 ((is_kept M o m adm).hands.fits pass p h.0 acts.at h.1).present

    -- so its new value is a counted word's
    pub new_small : w.new < 2 ^ 32
    new_small =
        let k = is_kept M o m adm in
        let stands : content m (address o.shape (slot_new a.desc w.slot)) ≡ w.new =
        k.stores pass p acts.at a is_now (address o.shape (slot_new a.desc w.slot)) w.new
        (subst (IsEntryWord a.desc) (sym (ap (λ s. place_at s (address o.shape (slot_new a.desc w.slot))) adm.shape
        ∙ place_at-address o.shape (slot_new a.desc w.slot) i.exists)) refl) i.new in
        let fits = (formats_of M o m adm).values a.desc w.slot i.exists in
        omega (arith, fits, stands)

  -- so the word may be uninstalled
  pub may_take : (fate : Status) → HasFate o.shape p a fate → May M o (λ pass. uninstall pass w.word from (taken_value fate w)) p
  may_take fate f m adm pass acts =
      let spot : Spot = record { desc = a.desc; slot = w.slot } in
      let d : a.desc ≡ desc_in from = sym (ap (λ (x : Spot). x.desc) from_spot) in
      let own = subst (λ (h : Shape). HasDesc h p a.desc) (sym adm.shape) f.own in
      let met = subst (λ (h : Shape). SomeStep (Meets (address h (desc_status a.desc)) f.status) p.trail) (sym adm.shape) f.met in
      let last : LastStored p (attempt_of a.desc (serial_of f.status)) (address (shape_of m) (slot_by_fate (status_of f.status) spot)) (stored_by fate w) =
      subst (λ h. LastStored p (attempt_of a.desc (serial_of f.status)) (address h (slot_by_fate (status_of f.status) spot)) (stored_by fate w)) (sym adm.shape)
      (subst (λ x. LastStored p (attempt_of a.desc (serial_of f.status)) (address o.shape (slot_by_fate x spot)) (stored_by fate w)) (sym f.is)
      (subst (λ n. LastStored p (attempt_of a.desc n) (address o.shape (slot_by_fate fate spot)) (stored_by fate w)) (sym f.serial) (last_by fate))) in (
        after_uninstall m pass p w.word from (taken_value fate w),
        (
          p,
          acts,
          record {
            counted = subst (λ (h : Shape). IsCounted h w.word) (sym adm.shape) i.counted;
            odd = from_odd;
            status = f.status;
            decided = subst IsDecided (sym f.is) f.decided;
            held = stored_by fate w;
            knows = inl (record {
              own = subst (HasDesc (shape_of m) p) d own;
              present = f.serial ∙ is_now fate f m adm pass acts ∙ ap (λ x. (present m x).serial) d;
              met = (p.trail, Contains-push p.past p.trail, subst (λ x. SomeStep (Meets (address (shape_of m) (desc_status x)) f.status) p.trail) d met);
              slot = inl (subst (λ x. LastStored p (attempt_of x (serial_of f.status)) (address (shape_of m) (slot_by_fate (status_of f.status) (spot_of (value_of from)))) (stored_by fate w)) d
                  (subst (λ x. LastStored p (attempt_of a.desc (serial_of f.status)) (address (shape_of m) (slot_by_fate (status_of f.status) x)) (stored_by fate w)) (sym from_spot) last));
            });
            is = ap (λ x. value_by_fate x (stored_by fate w)) f.is ∙ value_is fate w;
          },
          refl,
        ),
      )

  -- the step is flagged where the word is the next word of a node that is always placed
  flag : (event_value held left : ℕ) (q : PassView) (b : Made o.shape Uninstall w.word held left p q) → SteppedFrom M o (λ pass. uninstall pass w.word from event_value) w.word held p q
      → (node : ℕ) → IsNode o.shape node → w.word ≡ address o.shape (node_next node) → IsAlwaysPlaced M o p node → b.step.placed ≡ true
  flag value held left q b (s, is) node exists at always =
      let m = s.machine in
      let x = step_of m p Uninstall w.word (left_by m w.word from (uninstalled_word from value)) in
      let trail : q.trail ≡ p.trail ++ x ∷ [] = ap (λ (v : PassView). v.trail) (told_uninstall M o p q w.word from value s).1 in
      let same : b.step ≡ x = (same_from_push p.trail p.trail b.step x (sym (trail_after o.shape (b.step ∷ []) p q b.goes) ∙ trail)).1 in
      ap (λ (y : Step). y.placed) same
      ∙ ap (is_of_placed m) (ap (place_at (shape_of m)) at ∙ ap (λ h. place_at h (address o.shape (node_next node))) s.admitted.shape ∙ place_at-address o.shape (node_next node) exists)
      ∙ always m s.admitted s.pass s.acts

  -- a step that took it out, or found that another had
  pub took_won : (fate : Status) (q : PassView) → SteppedFrom M o (λ pass. uninstall pass w.word from (taken_value fate w)) w.word from p q
      → TakesWriteOut M o a fate w (uninstalled_word from (taken_value fate w)) p q
  took_won fate q step =
      let value = taken_value fate w in
      let b = uninstall_won M o w.word from value p q step in
      let room = i.from.room in
      let count = from_count in
      let raised = count_of-counted_word value (count_of from + 1) (omega (arith, room, count)) in record {
        step = b.step;
        goes = b.goes;
        takes = record { kind = b.is_kind; there = b.there; leaves = refl; won = inl (b.found, b.left_it) };
        leaves = b.left_it;
        higher = omega (arith, raised);
        flagged = flag value from (uninstalled_word from value) q b step;
      }

  pub took_lost : (fate : Status) (held : ℕ) (q : PassView) → held ≢ from → SteppedFrom M o (λ pass. uninstall pass w.word from (taken_value fate w)) w.word held p q
      → TakesWriteOut M o a fate w held p q
  took_lost fate held q apart step =
      let b = uninstall_lost M o w.word from (taken_value fate w) held p q apart step in
      let t = step.0 in
      let m = t.machine in
      let k = is_kept M o m t.admitted in
      let counted = subst (λ (h : Shape). IsCounted h w.word) (sym t.admitted.shape) i.counted in
      let noted = inl (t.pass, p, t.acts.at, (p.trail, Contains-push p.past p.trail, (i.installed.0, i.installed.1, inr i.installed.2.0.left))) in
      let bound : count_of from ≤ count_of held = subst (λ x. count_of from ≤ count_of x) step.1 (k.stamps.bound w.word from counted noted) in record {
        step = b.step;
        goes = b.goes;
        takes = record { kind = b.is_kind; there = b.there; leaves = refl; won = inr ((λ e. apart (sym b.found ∙ e)), b.left_it ∙ sym b.found) };
        leaves = b.left_it;
        higher = ⊎_elim
            (λ less. less)
            (λ most. absurd (apart (sym step.1 ∙ sym (k.stamps.now w.word from counted noted (omega (arith, bound, most) ∙ sym (ap count_of step.1))))))
            (cases_lt (count_of from) (count_of held));
        flagged = flag (taken_value fate w) held held q b step;
      }

  -- the step's condition and what it tells, of the content and the value as the code made them
  module _ (fate : Status) (made value : ℕ) (made_is : made ≡ from) (value_is : value ≡ taken_value fate w) where
    pub may_take_as : HasFate o.shape p a fate → May M o (λ pass. uninstall pass w.word made value) p
    may_take_as f = subst (λ x. May M o (λ pass. uninstall pass w.word x value) p) (sym made_is)
        (subst (λ x. May M o (λ pass. uninstall pass w.word from x) p) (sym value_is) (may_take fate f))

    as_it_is : (held : ℕ) (q : PassView) → SteppedFrom M o (λ pass. uninstall pass w.word made value) w.word held p q
        → SteppedFrom M o (λ pass. uninstall pass w.word from (taken_value fate w)) w.word held p q
    as_it_is held q step = subst (λ x. SteppedFrom M o (λ pass. uninstall pass w.word from x) w.word held p q) value_is
        (subst (λ x. SteppedFrom M o (λ pass. uninstall pass w.word x value) w.word held p q) made_is step)

    pub took_won_as : (left : ℕ) (q : PassView) → left ≡ counted_word value (count_of made + 1) → SteppedFrom M o (λ pass. uninstall pass w.word made value) w.word made p q
        → TakesWriteOut M o a fate w left p q
    took_won_as left q is step =
        subst (λ x. TakesWriteOut M o a fate w x p q) (sym (is ∙ ap (λ v. counted_word v (count_of made + 1)) value_is ∙ ap (λ x. counted_word (taken_value fate w) (count_of x + 1)) made_is))
        (took_won fate q (subst (λ x. SteppedFrom M o (λ pass. uninstall pass w.word from (taken_value fate w)) w.word x p q) made_is (as_it_is made q step)))

    pub took_lost_as : (held : ℕ) (q : PassView) → held ≢ made → SteppedFrom M o (λ pass. uninstall pass w.word made value) w.word held p q
        → TakesWriteOut M o a fate w held p q
    took_lost_as held q apart step = took_lost fate held q (λ e. apart (e ∙ sym made_is)) (as_it_is held q step)

    pub took_stands : (held left : ℕ) (q : PassView) → SteppedFrom M o (λ pass. uninstall pass w.word made value) w.word held p q
        → TakesWriteOut M o a fate w left p q → StandsInField M o q
    took_stands held left q step out = stands_after M o (λ pass. uninstall pass w.word made value) p q step.0 (lanes_after M o o.shape (out.step ∷ []) p q out.goes)
