-- Each event of a pass is a step of the table on one word.
use Rattle.std.proofs.Common.{◌≡◌, ◌==◌, Bool, true, false, if◌then◌else◌, ◌<◌, ℕ, List, Some, arith, slice_set, refl, sym, ap, ◌∙◌, subst}
use mathlib.Core.Option.{some, some-injective}
use lib.ListN.{get_elem?}
use prog.Atomic.{either}
use Rattle.md_words.specs.declared.content.Spot.{Spot}
use Rattle.md_words.specs.declared.shape.Shape.{Shape}
use Rattle.md_words.specs.declared.status.Status.TheVariants.{InPrep, InProg, Committed, Aborted}
use Rattle.md_words.specs.Layout.{address, words_of}
use Rattle.md_words.specs.Place.{base_word, desc_status}
use Rattle.md_words.specs.Status.{serial_of, status_word}
use Rattle.md_words.proofs.Places.{address_below, address-base_word}
use Rattle.md_words.proofs.Words.{serial_of-status_word}
use Rattle.md_machine.specs.declared.attempt.AttemptId.{AttemptId}
use Rattle.md_history.specs.declared.acts.Op.{Op}
use Rattle.md_history.specs.declared.acts.Reply.{Reply}
use Rattle.md_history.specs.declared.entries.Fate.{Fate}
use Rattle.md_machine.specs.declared.attempt.Hand.{Hand}
use Rattle.md_machine.specs.declared.attempt.HistoryEntry.{HistoryEntry}
use Rattle.md_machine.specs.declared.certificate.Certificate.{Certificate}
use Rattle.md_machine.specs.declared.pass.PassView.{PassView}
use Rattle.md_machine.specs.Event.{Acts, Does, after_load, load, store, install, exchange, ready, commit, abort, uninstall, start, mark_begin, mark_start, mark_act, mark_end, mark_leave}
use Rattle.md_machine.specs.Machine.{IsAt, Machine, content, shape_of}
use Rattle.md_machine.specs.Meaning.{Meaning}
use Rattle.md_machine.specs.Stepping.{left_by}
use Rattle.md_machine.specs.events.Decide.{decided_word}
use Rattle.md_machine.specs.events.Exchange.{exchanged_word}
use Rattle.md_machine.specs.events.Install.{installed_word}
use Rattle.md_machine.specs.events.Mark.{after_mark_leave}
use Rattle.md_machine.specs.events.Ready.{ready_word, unready_word}
use Rattle.md_machine.specs.events.Start.{started_word}
use Rattle.md_machine.specs.events.Uninstall.{uninstalled_word}
use Rattle.md_machine.proofs.lists.At.{set_there}
use Rattle.md_machine.proofs.lists.Options.{some_same}
use Rattle.md_rule.specs.Admitted.{Admitted}
use Rattle.md_rule.specs.InHand.{HoldsUnready}
use Rattle.md_rule.specs.Steps.{Acted, EventOf, May, MayAct, MayTell, Stepped, SteppedFrom}
use Rattle.md_rule.specs.Views.{Origin}

-- what an event leaves: a word, and another view of the pass, with the lanes that it had
pub record Replaces (m : Machine) (pass : ℕ) (view : PassView) (word new : ℕ) (n : Machine) : Type 0 where
  pub after : PassView
  pub lanes : after.lanes ≡ view.lanes
  pub words : n.words ≡ slice_set m.words word new
  pub passes : n.passes ≡ slice_set m.passes pass after

-- what an exchange leaves of what it found
abbrev pub traded : (from to : ℕ) → ℕ → ℕ
traded from to found = either (found == from) to found

-- a pass has one view
one_view : (m : Machine) (pass : ℕ) (p q : PassView) → Acts m pass p → Acts m pass q → p.lanes ≡ q.lanes
one_view m pass p q a b = ap (λ (x : PassView). x.lanes) (some-injective p q (sym a.at ∙ b.at))

words_in : {m n : Machine} → n ≡ m → n.words ≡ m.words
words_in e = ap (λ (x : Machine). x.words) e

passes_in : {m n : Machine} → n ≡ m → n.passes ≡ m.passes
passes_in e = ap (λ (x : Machine). x.passes) e

module _ (M : Meaning) (o : Origin) where
  -- the event is a step on this word, wherever the pass stands
  abbrev pub IsStepOn : EventOf → PassView → (word : ℕ) → (left : ℕ → ℕ) → Type 0
  IsStepOn event view word left = (m n : Machine) (pass : ℕ) → Admitted M o m → Acts m pass view → Does M m (event pass) n → Replaces m pass view word (left (content m word)) n

  -- the nine steps
  pub is_load : (view : PassView) (word : ℕ) → IsStepOn (λ pass. load pass word) view word (λ found. found)
  is_load view word m n pass a acts does = record {
    after = _;
    lanes = one_view m pass does.0 view does.1 acts;
    words = words_in does.3;
    passes = passes_in does.3;
  }

  pub is_store : (view : PassView) (word value : ℕ) → IsStepOn (λ pass. store pass word value) view word (λ _. value)
  is_store view word value m n pass a acts does = record {
    after = _;
    lanes = one_view m pass does.0 view does.2 acts;
    words = words_in does.4;
    passes = passes_in does.4;
  }

  pub is_install : (view : PassView) (word from : ℕ) (to : Spot) → IsStepOn (λ pass. install pass word from to) view word (traded from (installed_word from to))
  is_install view word from to m n pass a acts does = record {
    after = _;
    lanes = one_view m pass does.0 view does.2 acts;
    words = words_in does.4;
    passes = passes_in does.4;
  }

  pub is_exchange : (view : PassView) (word from to : ℕ) → IsStepOn (λ pass. exchange pass word from to) view word (traded from (exchanged_word from to))
  is_exchange view word from to m n pass a acts does = record {
    after = _;
    lanes = one_view m pass does.0 view does.1 acts;
    words = words_in does.3;
    passes = passes_in does.3;
  }

  pub is_uninstall : (view : PassView) (word from value : ℕ) → IsStepOn (λ pass. uninstall pass word from value) view word (traded from (uninstalled_word from value))
  is_uninstall view word from value m n pass a acts does = record {
    after = _;
    lanes = one_view m pass does.0 view does.1 acts;
    words = words_in does.3;
    passes = passes_in does.3;
  }

  -- the word of a descriptor's status, in the machine's shape and in the field's
  trades_in : (shape : Shape) (m n : Machine) (desc from to : ℕ) → shape_of m ≡ shape
      → n.words ≡ slice_set m.words (address (shape_of m) (desc_status desc)) (left_by m (address (shape_of m) (desc_status desc)) from to)
      → n.words ≡ slice_set m.words (address shape (desc_status desc)) (traded from to (content m (address shape (desc_status desc))))
  trades_in shape m n desc from to same is = subst (λ s. n.words ≡ slice_set m.words (address s (desc_status desc)) (left_by m (address s (desc_status desc)) from to)) same is

  pub is_commit : (view : PassView) (desc from : ℕ) → IsStepOn (λ pass. commit pass desc from) view (address o.shape (desc_status desc)) (traded from (decided_word Committed from))
  is_commit view desc from m n pass a acts does = record {
    after = _;
    lanes = one_view m pass does.0 view does.1 acts;
    words = trades_in o.shape m n desc from (decided_word Committed from) a.shape (words_in does.3);
    passes = passes_in does.3;
  }

  pub is_abort : (view : PassView) (desc from : ℕ) → IsStepOn (λ pass. abort pass desc from) view (address o.shape (desc_status desc)) (traded from (decided_word Aborted from))
  is_abort view desc from m n pass a acts does = record {
    after = _;
    lanes = one_view m pass does.0 view does.1 acts;
    words = trades_in o.shape m n desc from (decided_word Aborted from) a.shape (words_in does.3);
    passes = passes_in does.3;
  }

  pub is_start : (view : PassView) (desc from : ℕ) → IsStepOn (λ pass. start pass desc from) view (address o.shape (desc_status desc)) (λ _. started_word from)
  is_start view desc from m n pass a acts does = record {
    after = _;
    lanes = one_view m pass does.0 view does.1 acts;
    words = subst (λ (s : Shape). n.words ≡ slice_set m.words (address s (desc_status desc)) (started_word from)) a.shape (words_in does.3);
    passes = passes_in does.3;
  }

  -- the status that an attempt leaves when it becomes ready, made of the one that it had
  ready_made : (a : AttemptId) (count : ℕ) → ready_word a count ≡ status_word InProg count (serial_of (unready_word a))
  ready_made a count = ap (status_word InProg count) (sym (serial_of-status_word InPrep 0 a.serial (omega arith)))

  ready_lanes : (p : PassView) (won : Bool) (seen : List HistoryEntry) (known : List Fate) → (if won then record p { seen = seen; known = known } else p).lanes ≡ p.lanes
  ready_lanes p true seen known = refl
  ready_lanes p false seen known = refl

  pub is_ready : (view : PassView) (desc from count : ℕ) → HoldsUnready view desc from → IsStepOn (λ pass. ready pass count) view (address o.shape (desc_status desc)) (traded from (status_word InProg count (serial_of from)))
  is_ready view desc from count k m n pass a acts does =
      let held : view.hand ≡ Some does.1 = ap (λ (x : PassView). x.hand) (some-injective view does.0 (sym acts.at ∙ does.3.at)) ∙ does.4.held in
      let hand : k.hand ≡ does.1 = some_same k.hand does.1 (sym k.held ∙ held) in
      let desc_is : does.1.attempt.desc ≡ desc = ap (λ (h : Hand). h.attempt.desc) (sym hand) ∙ k.of in
      let from_is : unready_word does.1.attempt ≡ from = ap (λ (h : Hand). unready_word h.attempt) (sym hand) ∙ k.status in
      let to_is : ready_word does.1.attempt count ≡ status_word InProg count (serial_of from) = ready_made does.1.attempt count ∙ ap (λ w. status_word InProg count (serial_of w)) from_is in
      let words : n.words ≡ slice_set m.words (address (shape_of m) (desc_status desc)) (left_by m (address (shape_of m) (desc_status desc)) from (status_word InProg count (serial_of from))) =
      words_in does.5
      ∙ ap (λ d. slice_set m.words (address (shape_of m) (desc_status d)) (left_by m (address (shape_of m) (desc_status d)) (unready_word does.1.attempt) (ready_word does.1.attempt count))) desc_is
      ∙ ap (λ w. slice_set m.words (address (shape_of m) (desc_status desc)) (left_by m (address (shape_of m) (desc_status desc)) w (ready_word does.1.attempt count))) from_is
      ∙ ap (λ w. slice_set m.words (address (shape_of m) (desc_status desc)) (left_by m (address (shape_of m) (desc_status desc)) from w)) to_is in record {
        after = _;
        lanes = ready_lanes _ _ _ _ ∙ one_view m pass does.0 view does.3 acts;
        words = trades_in o.shape m n desc from (status_word InProg count (serial_of from)) a.shape words;
        passes = passes_in does.5;
      }

  -- the five marks
  pub is_mark_begin : (view : PassView) (desc tag : ℕ) → IsStepOn (λ pass. mark_begin pass desc tag) view 0 (λ found. found)
  is_mark_begin view desc tag m n pass a acts does = record {
    after = _;
    lanes = one_view m pass does.0 view does.1 acts;
    words = words_in does.3;
    passes = passes_in does.3;
  }

  pub is_mark_start : (view : PassView) → IsStepOn (λ pass. mark_start pass) view 0 (λ found. found)
  is_mark_start view m n pass a acts does = record {
    after = _;
    lanes = one_view m pass does.0 view does.2 acts;
    words = words_in does.4;
    passes = passes_in does.4;
  }

  pub is_mark_act : (view : PassView) (c : Certificate) → IsStepOn (λ pass. mark_act pass c) view 0 (λ found. found)
  is_mark_act view c m n pass a acts does = record {
    after = _;
    lanes = one_view m pass does.0 view does.2 acts;
    words = words_in does.4;
    passes = passes_in does.4;
  }

  pub is_mark_end : (view : PassView) → IsStepOn (λ pass. mark_end pass) view 0 (λ found. found)
  is_mark_end view m n pass a acts does = record {
    after = _;
    lanes = one_view m pass does.0 view does.2 acts;
    words = words_in does.4;
    passes = passes_in does.4;
  }

  pub is_mark_leave : (view : PassView) → IsStepOn (λ pass. mark_leave pass) view 0 (λ found. found)
  is_mark_leave view m n pass a acts does = record {
    after = _;
    lanes = one_view m pass does.0 view does.1 acts;
    words = words_in does.2;
    passes = passes_in does.2;
  }

  -- an event that may be, and is a step on the word, may be made there, and tells itself
  pub event_tells : (event : EventOf) (view : PassView) (word : ℕ) (left : ℕ → ℕ) → May M o event view → IsStepOn event view word left
      → MayTell M o view word left (SteppedFrom M o event word)
  event_tells event view word left may is m a pass acts =
      let can = may m a pass acts in
      let r = is m can.0 pass a acts can.1 in
      let knows : IsAt can.0 pass r.after = subst (λ (l : List PassView). get_elem? l pass ≡ some r.after) (sym r.passes) (set_there m.passes pass r.after view acts.at) in (
        event pass,
        can.0,
        r.after,
        can.1,
        r.words,
        r.passes,
        r.lanes,
        (record { machine = m; admitted = a; pass = pass; acts = acts; next = can.0; does = can.1; knows = knows }, refl),
      )

  -- the same of a store, which doesn't find what the word held
  pub store_tells : (event : EventOf) (view : PassView) (word value : ℕ) → May M o event view → IsStepOn event view word (λ _. value)
      → MayTell M o view word (λ _. value) (λ _. Stepped M o event)
  store_tells event view word value may is m a pass acts =
      let told = event_tells event view word (λ _. value) may is m a pass acts in
      (told.0, told.1, told.2, told.3, told.4, told.5, told.6, told.7.0)

  -- and of an exchange, whose words are computed
  pub exchange_tells : (event : EventOf) (view : PassView) (word from to from_now to_now : ℕ) → May M o event view → IsStepOn event view word (traded from to) → from_now ≡ from → to_now ≡ to
      → MayTell M o view word (traded from_now to_now) (SteppedFrom M o event word)
  exchange_tells event view word from to from_now to_now may is from_is to_is =
      rw (from_is, to_is) (event_tells event view word (traded from to) may is)

  -- a load of a word of the field may always be, and so may the mark leave
  pub may_load : (view : PassView) (word : ℕ) → word < words_of o.shape → May M o (λ pass. load pass word) view
  may_load view word inside m a pass acts = (after_load m pass view word, (view, acts, rw a.shape inside, refl))

  pub may_leave : (view : PassView) → May M o (λ pass. mark_leave pass) view
  may_leave view m a pass acts = (after_mark_leave m pass view, (view, acts, refl))

module _ (M : Meaning) (o : Origin) where
  -- of a mark it isn't told what the word held
  pub mark_tells : (event : EventOf) (view : PassView) → May M o event view → IsStepOn M o event view 0 (λ found. found) → MayTell M o view 0 (λ found. found) (λ _. Stepped M o event)
  mark_tells event view may is m a pass acts =
      let told = event_tells M o event view 0 (λ found. found) may is m a pass acts in
      (told.0, told.1, told.2, told.3, told.4, told.5, told.6, told.7.0)

  -- nor which certificate was appended
  pub act_tells : (op : Op) (reply : Reply) (view : PassView) → MayAct M o op reply view → MayTell M o view 0 (λ found. found) (λ _. Acted M o op reply)
  act_tells op reply view may m a pass acts =
      let told = mark_tells (λ pass. mark_act pass may.0) view may.2 (is_mark_act M o view may.0) m a pass acts in
      (told.0, told.1, told.2, told.3, told.4, told.5, told.6, (may.0, may.1, told.7))

-- a field has the base word
pub has_base : (shape : Shape) → 0 < words_of shape
has_base shape = subst (λ n. n < words_of shape) (address-base_word shape) (address_below shape base_word tt)
