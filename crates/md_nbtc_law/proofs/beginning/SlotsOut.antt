-- Taking an own descriptor out of the word of one of its slots.
use Rattle.std.proofs.Common.{◌≡◌, ◌≢◌, ◌+◌, ◌<◌, ◌≤◌, ℕ, true, List, [], ◌∷◌, ◌++◌, Result, Ok, Err, refl, sym, ap, ◌∙◌, subst, inl, inr, ⊎_elim, arith}
use Rattle.std.specs.List.{All, Contains}
use Rattle.std.proofs.lemmas.Bool.{cases_lt, false≢true}
use Rattle.std.proofs.lemmas.List.Elements.{All-cons, All-nil, All-weaker, Contains-append_left, Contains-push}
use Rattle.md_words.specs.declared.content.Spot.{Spot}
use Rattle.md_words.specs.declared.shape.Shape.{Shape}
use Rattle.md_words.specs.declared.status.Status.{Status}
use Rattle.md_words.specs.declared.status.Status.TheVariants.{InPrep, InProg, Committed as IsCommitted, Aborted as IsAborted}
use Rattle.md_words.specs.Content.{count_of, spot_of, value_of}
use Rattle.md_words.specs.Layout.{IsInSet, address, desc_count}
use Rattle.md_words.specs.Place.{Place, desc_status, is_counted, slot_new, slot_old, slot_word}
use Rattle.md_words.specs.PlaceAt.{IsCounted, place_at}
use Rattle.md_words.specs.Status.{serial_of, status_of}
use Rattle.md_words.proofs.Places.{address_differs, place_at-address}
use Rattle.md_words.proofs.Words.{count_of-counted_word}
use Rattle.md_machine.specs.declared.pass.PassView.{PassView}
use Rattle.md_machine.specs.declared.step.Kind.TheVariants.{Uninstall}
use Rattle.md_machine.specs.declared.step.Step.{Step}
use Rattle.md_machine.specs.declared.step.TheConstants.{LAST_COUNT}
use Rattle.md_machine.specs.Event.{Does, Event, Runs, opened, uninstall}
use Rattle.md_machine.specs.Machine.{Install, Machine, content, shape_of}
use Rattle.md_machine.specs.Meaning.{Meaning}
use Rattle.md_machine.specs.Own.{HasDesc}
use Rattle.md_machine.specs.Trail.{Loads, Meets, SomeStep, segments}
use Rattle.md_machine.specs.events.Uninstall.{IsDecided, after_uninstall, desc_in, slot_by_fate, uninstalled_word, value_by_fate}
use Rattle.md_machine.proofs.events.Moves.{does_move}
use Rattle.md_machine.proofs.events.Tell.{tell}
use Rattle.md_machine.proofs.lists.Rising.{in_none}
use Rattle.md_rule.specs.Admitted.{Admitted}
use Rattle.md_rule.specs.Kept.{MetNoLater}
use Rattle.md_rule.specs.Steps.{Exchanged, May}
use Rattle.md_rule.specs.Views.{Origin}
use Rattle.md_rule.proofs.Moves.{goes_on, is_kept, one_more}
use Rattle.md_help.specs.declared.settling.End.{End}
use Rattle.md_help.specs.After.{IsAfter}
use Rattle.md_help.specs.Clears.{SlotLoaded, fate_of}
use Rattle.md_help.specs.Owns.{KnowsEnd}
use Rattle.md_help.proofs.Owns.{IsNoLaterStep, no_later_after}
use Rattle.md_help.proofs.Steps.{Made, both_after, trail_after}
use Rattle.md_help.proofs.Taking.{fate_decided, uninstall_lost, uninstall_won}
use Rattle.md_nbtc_law.specs.Beginning.{PassesCount, StandsOwn}
use Rattle.md_nbtc_law.proofs.beginning.Starting.{present_is}

-- a counted word, and a word of a slot, isn't a status
pub counted_apart : (shape : Shape) (desc x : ℕ) → desc < desc_count shape → IsCounted shape x → x ≢ address shape (desc_status desc)
counted_apart shape desc x h c e = absurd (false≢true (subst (λ (p : Place). is_counted p ≡ true) (ap (place_at shape) e ∙ place_at-address shape (desc_status desc) h) c.1))

pub slot_word_apart : (shape : Shape) (desc j : ℕ) → IsInSet shape desc j → address shape (slot_word desc j) ≢ address shape (desc_status desc)
slot_word_apart shape desc j e = address_differs shape (slot_word desc j) (desc_status desc) e e.0 (λ f. grind arith)

fate_apart : (shape : Shape) (s : Status) (spot : Spot) → IsInSet shape spot.desc spot.slot → address shape (slot_by_fate s spot) ≢ address shape (desc_status spot.desc)
fate_apart shape IsCommitted spot e = address_differs shape (slot_new spot.desc spot.slot) (desc_status spot.desc) e e.0 (λ f. grind arith)
fate_apart shape IsAborted spot e = address_differs shape (slot_old spot.desc spot.slot) (desc_status spot.desc) e e.0 (λ f. grind arith)
fate_apart shape InPrep spot e = address_differs shape (slot_old spot.desc spot.slot) (desc_status spot.desc) e e.0 (λ f. grind arith)
fate_apart shape InProg spot e = address_differs shape (slot_old spot.desc spot.slot) (desc_status spot.desc) e e.0 (λ f. grind arith)

-- how an own attempt ended stays known over steps that aren't on its status
pub knows_still : (shape : Shape) (desc serial : ℕ) (end : End) (steps : List Step) (p q : PassView) → IsAfter shape steps p q → All (λ s. s.word ≢ address shape (desc_status desc)) steps
    → KnowsEnd shape p desc serial end → KnowsEnd shape q desc serial end
knows_still shape desc serial end steps p q goes apart k =
    let word = address shape (desc_status desc) in record {
      held = k.held;
      is = k.is;
      fate = k.fate;
      met = (k.met.0, subst (λ l. Contains l k.met.0) (sym (trail_after shape steps p q goes)) (Contains-append_left p.trail steps k.met.0 k.met.1), k.met.2);
      last = (
        (k.last.0.0, subst (λ (l : List ℕ). Contains l k.last.0.0) (sym (ap (λ (x : PassView). x.lanes) goes.1)) k.last.0.1, k.last.0.2),
        no_later_after shape desc (serial_of k.held) steps p q goes
            (All-weaker (λ s. s.word ≢ word) (IsNoLaterStep shape desc (serial_of k.held)) (λ s no held meets. absurd (no (⊎_elim (λ f. f.there) (λ f. f.there) meets))) steps apart)
            k.last.1,
      );
    }

module _ (M : Meaning) (o : Origin) where
  abbrev pub AllCounted : Machine → Type 0
  AllCounted m = (i : Install) → Contains m.installs i → IsCounted (shape_of m) i.word

  -- every install is in a counted word
  counted_after : (m n : Machine) (e : Event) → Admitted M o m → Does M m e n → AllCounted m → AllCounted n
  counted_after m n e a does all i c =
      let k = is_kept M o m a in
      let v = tell M m n k.formats k.lanes k.hands (does_move M m n e k.formats.base does) in
      subst (λ (h : Shape). IsCounted h i.word) (sym (ap (λ x. x.shape) (goes_on M o m n e a does).opening))
      (⊎_elim (λ old. all i old) (λ new. new.counted) (v.installs i c))

  counted_along : (events : List Event) (m n : Machine) → Admitted M o m → AllCounted m → Runs M m events n → AllCounted n
  counted_along [] m n a all is = subst AllCounted (sym is) all
  counted_along (e ∷ es) m n a all (k, plays, runs) = ⊎_elim
      (λ does. counted_along es k n (one_more M o m k e a does) (counted_after m k e a does all) runs)
      (λ no. counted_along es k n (subst (Admitted M o) (sym no.1) a) (subst AllCounted (sym no.1) all) runs)
      plays

  pub all_counted : (m : Machine) → Admitted M o m → AllCounted m
  all_counted m a = counted_along a.events (opened m.opening) m
      (record { shape = a.shape; words = a.words; opens = a.opens; events = []; runs = refl })
      (λ i c. absurd (in_none i c)) a.runs

  module _ (p q : PassView) (word from value : ℕ) (end : End) (s : StandsOwn o.shape p word from end) (l : SlotLoaded o.shape from (fate_of end) value p q) where
    abbrev desc : ℕ
    desc = desc_in from

    abbrev status_word : ℕ
    status_word = address o.shape (desc_status desc)

    slot_apart : l.slot.word ≢ status_word
    slot_apart e = fate_apart o.shape (fate_of end) (spot_of (value_of from)) s.exists (sym l.loads.finds.there ∙ e)

    knows : KnowsEnd o.shape q desc s.serial end
    knows = knows_still o.shape desc s.serial end (l.slot ∷ []) p q l.goes (All-cons (λ t. t.word ≢ status_word) l.slot [] slot_apart (All-nil (λ t. t.word ≢ status_word))) s.knows

    met : SomeStep (Meets status_word s.knows.held) q.trail
    met = let k = s.knows.met in (k.0, subst (λ t. Contains t k.0) (sym (trail_after o.shape (l.slot ∷ []) p q l.goes)) (Contains-append_left p.trail (l.slot ∷ []) k.0 k.1), k.2)

    pub may_take_out : May M o (λ pass. uninstall pass word from value) q
    may_take_out m a pass acts =
        let k = s.knows in
        let last : Contains (segments q) (p.trail ++ l.slot ∷ []) = subst (Contains (segments q)) (trail_after o.shape (l.slot ∷ []) p q l.goes) (Contains-push q.past q.trail) in (
          after_uninstall m pass q word from value,
          (
            q,
            acts,
            record {
              counted = subst (λ (h : Shape). IsCounted h word) (sym a.shape) s.counted;
              odd = s.odd;
              status = k.held;
              decided = subst IsDecided (sym k.fate) (fate_decided end);
              held = l.held;
              knows = inl (record {
                own = subst (λ (h : Shape). HasDesc h q desc) (sym a.shape) knows.last.0;
                present = k.is ∙ sym (ap (λ (h : Shape). serial_of (content m (address h (desc_status desc)))) a.shape
                    ∙ present_is M o desc s.exists.0 q k.held s.serial knows.last.0 met k.is (subst (MetNoLater o.shape q desc) knows.is knows.last.1) m a pass acts);
                met = (q.trail, Contains-push q.past q.trail, subst (λ (h : Shape). SomeStep (Meets (address h (desc_status desc)) k.held) q.trail) (sym a.shape) met);
                slot = inr (record {
                  load = record {
                    earlier = p.trail;
                    step = l.slot;
                    later = [];
                    segment = last;
                    such = subst (λ (h : Shape). Loads (address h (slot_by_fate (status_of k.held) (spot_of (value_of from)))) l.held l.slot) (sym a.shape)
                        (subst (λ f. Loads (address o.shape (slot_by_fate f (spot_of (value_of from)))) l.held l.slot) (sym k.fate) l.loads);
                  };
                  decided = subst (λ (h : Shape). SomeStep (Meets (address h (desc_status desc)) k.held) p.trail) (sym a.shape) k.met;
                  stood = (s.found.0, s.found.1, inl s.found.2);
                });
              });
              is = ap (λ f. value_by_fate f l.held) k.fate ∙ l.is;
            },
            refl,
          ),
        )

    passes : (left : ℕ) (r : PassView) (before : ℕ) → (b : Made o.shape Uninstall word before left q r) → count_of from < count_of left → PassesCount o.shape word from p r
    passes left r before b more = record {
      steps = l.slot ∷ b.step ∷ [];
      goes = both_after o.shape (l.slot ∷ []) (b.step ∷ []) p q r l.goes b.goes;
      status_stays = All-cons (λ t. t.word ≢ status_word) l.slot (b.step ∷ []) slot_apart
          (All-cons (λ t. t.word ≢ status_word) b.step [] (λ e. counted_apart o.shape desc word s.exists.0 s.counted (sym b.there ∙ e)) (All-nil (λ t. t.word ≢ status_word)));
      higher = (
        left,
        more,
        (
          r.trail,
          Contains-push r.past r.trail,
          (b.step, subst (λ t. Contains t b.step) (sym (trail_after o.shape (b.step ∷ []) q r b.goes)) (Contains-push q.trail b.step), inr (record { there = b.there; after = b.left_it })),
        ),
      );
    }

    pub takes_out : (r : PassView) (result : Result (Unit {0}) ℕ) → count_of from ≤ LAST_COUNT + 1 → Exchanged M o (λ pass. uninstall pass word from value) word from result q r → PassesCount o.shape word from p r
    takes_out r (Ok x) fits step =
        let is = count_of-counted_word value (count_of from + 1) (omega (arith, fits)) in
        passes (uninstalled_word from value) r from (uninstall_won M o word from value q r step) (omega (arith, is))
    takes_out r (Err held) fits step =
        let t = step.1.0 in
        let m = t.machine in
        let k = is_kept M o m t.admitted in
        let counted = subst (λ (h : Shape). IsCounted h word) (sym t.admitted.shape) s.counted in
        let noted = inl (
          t.pass,
          q,
          t.acts.at,
          (
            q.trail,
            Contains-push q.past q.trail,
            (
              s.found.0,
              subst (λ x. Contains x s.found.0) (sym (trail_after o.shape (l.slot ∷ []) p q l.goes)) (Contains-append_left p.trail (l.slot ∷ []) s.found.0 s.found.1),
              inl s.found.2,
            ),
          ),
        ) in
        let bound = subst (λ x. count_of from ≤ count_of x) step.1.1 (k.stamps.bound word from counted noted) in
        passes held r held (uninstall_lost M o word from value held q r step.0 step.1) (⊎_elim
        (λ less. less)
        (λ most. absurd (step.0 (sym step.1.1 ∙ sym (k.stamps.now word from counted noted (omega (arith, bound, most) ∙ sym (ap count_of step.1.1))))))
        (cases_lt (count_of from) (count_of held)))
