-- Taking a descriptor out of a word.
use Rattle.std.proofs.Common.{◌≡◌, ◌≢◌, ◌+◌, ◌<◌, ◌≤◌, ◌^◌, ◌⊎◌, ℕ, true, false, List, [], ◌∷◌, ◌++◌, slice_index, refl, sym, ap, ◌∙◌, subst, inl, inr, ⊎_elim, arith, append_assoc}
use Rattle.std.specs.List.{Contains}
use Rattle.std.proofs.lemmas.List.Elements.{All-cons, All-nil, Contains-append_left, Contains-append_right, Contains-push}
use Rattle.md_words.specs.declared.shape.Shape.{Shape}
use Rattle.md_words.specs.declared.content.Spot.{Spot}
use Rattle.md_words.specs.declared.status.Status.{Status}
use Rattle.md_words.specs.declared.status.Status.TheVariants.{Aborted as IsAborted}
use Rattle.md_words.specs.Content.{count_of, is_even, spot_of, value_of}
use Rattle.md_words.specs.Layout.{IsInSet, address}
use Rattle.md_words.specs.Place.{slot_new}
use Rattle.md_words.specs.PlaceAt.{IsCounted, place_at}
use Rattle.md_words.specs.Status.{serial_of}
use Rattle.md_words.proofs.Words.{count_of-counted_word}
use Rattle.md_machine.specs.declared.pass.PassView.{PassView}
use Rattle.md_machine.specs.declared.step.Kind.TheVariants.{Load, Uninstall}
use Rattle.md_machine.specs.declared.step.Step.{Step}
use Rattle.md_machine.specs.declared.step.TheConstants.{LAST_COUNT}
use Rattle.md_machine.specs.Event.{load, uninstall}
use Rattle.md_machine.specs.Meaning.{Meaning}
use Rattle.md_machine.specs.Trail.{Finds, Loads, SomeStep, segments}
use Rattle.md_machine.specs.clauses.nodes.Flags.{NotesWord}
use Rattle.md_machine.specs.clauses.words.Brackets.{MeetsOdd, NotesStanding}
use Rattle.md_machine.specs.events.Uninstall.{HelperSaw, IsDecided, after_uninstall, desc_in, slot_by_fate, status_of_desc, uninstalled_word, value_by_fate}
use Rattle.md_rule.specs.Steps.{May, SteppedFrom}
use Rattle.md_rule.specs.Views.{Origin}
use Rattle.md_rule.proofs.Moves.{is_kept}
use Rattle.md_rule.proofs.Told.{told_uninstall}
use Rattle.md_help.specs.declared.settling.End.{End}
use Rattle.md_help.specs.declared.settling.End.TheVariants.{Committed, Aborted, Gone}
use Rattle.md_help.specs.After.{IsAfter}
use Rattle.md_help.specs.Clears.{SawDecided, SawTwice, SlotLoaded, TakenOut, fate_of}
use Rattle.md_help.specs.Settles.{FindsOther}
use Rattle.md_help.proofs.Decided.{found_after, found_rises}
use Rattle.md_help.proofs.Deciding.{lost_exchange, won_exchange}
use Rattle.md_help.proofs.Flagged.{flags_last}
use Rattle.md_help.proofs.Numbers.{formats_of}
use Rattle.md_help.proofs.Steps.{Made, StaysSame, both_after, known_stays, load_finds, load_same, trail_after}

-- the fate of an end that isn't Committed, and that of each is decided
pub fate_else : (e : End) → e ≢ Committed → fate_of e ≡ IsAborted
fate_else Committed n = absurd (n refl)
fate_else Aborted n = refl
fate_else Gone n = refl

pub fate_decided : (e : End) → IsDecided (fate_of e)
fate_decided Committed = inl refl
fate_decided Aborted = inr refl
fate_decided Gone = inr refl

-- a load of the slot's word
pub slot_loaded : (shape : Shape) (from : ℕ) (fate f : Status) (spot : Spot) (held value : ℕ) (p q : PassView) → f ≡ fate → spot ≡ spot_of (value_of from) → Made shape Load (address shape (slot_by_fate fate spot)) held held p q
    → value_by_fate fate held ≡ value → SlotLoaded shape from f value p q
slot_loaded shape from fate f spot held value p q e s m is = subst (λ x. SlotLoaded shape from x value p q) (sym e) (record {
  slot = m.step;
  goes = m.goes;
  held = held;
  loads = subst (λ x. Loads (address shape (slot_by_fate fate x)) held m.step) s (load_finds shape _ held held p q m);
  same = load_same shape _ held p q m;
  is = is;
})

-- a pass that saw the attempt decided, and loaded its slot, may take it out
helper_saw : (shape : Shape) (word from value : ℕ) (fate : Status) (p q : PassView) (s : SawDecided shape p word from fate) (l : SlotLoaded shape from fate value p q) → HelperSaw shape q word from s.status l.held
helper_saw shape word from value fate p q s l = record {
  earlier = s.earlier;
  found = s.found;
  first = s.first;
  again = s.again;
  second = s.second;
  loaded = l.slot;
  later = [];
  segment = subst (Contains (segments q))
      (trail_after shape (l.slot ∷ []) p q l.goes ∙ ap (λ t. t ++ l.slot ∷ []) s.trail
      ∙ append_assoc s.earlier (s.found ∷ (s.first ++ s.again ∷ s.second)) (l.slot ∷ [])
      ∙ ap (λ t. s.earlier ++ s.found ∷ t) (append_assoc s.first (s.again ∷ s.second) (l.slot ∷ [])))
      (Contains-push q.past q.trail);
  finds = s.finds;
  asks = s.asked;
  finds_again = s.finds_again;
  decided = s.decided;
  loads = subst (λ f. Loads (address shape (slot_by_fate f (spot_of (value_of from)))) l.held l.slot) (sym s.fate_is) l.loads;
}

module _ (M : Meaning) (o : Origin) where
  pub may_uninstall : (p q : PassView) (word from value : ℕ) (fate : Status) → IsCounted o.shape word → is_even (count_of from) ≡ false → IsDecided fate → SawDecided o.shape p word from fate → SlotLoaded o.shape from fate value p q
      → May M o (λ pass. uninstall pass word from value) q
  may_uninstall p q word from value fate counted odd decided s l m a pass acts = (
    after_uninstall m pass q word from value,
    (
      q,
      acts,
      record {
        counted = subst (λ (h : Shape). IsCounted h word) (sym a.shape) counted;
        odd = odd;
        status = s.status;
        decided = subst IsDecided (sym s.fate_is) decided;
        held = l.held;
        knows = inr (subst (λ (h : Shape). HelperSaw h q word from s.status l.held) (sym a.shape) (helper_saw o.shape word from value fate p q s l));
        is = ap (λ f. value_by_fate f l.held) s.fate_is ∙ l.is;
      },
      refl,
    ),
  )

  pub uninstall_won : (word from value : ℕ) (p q : PassView) → SteppedFrom M o (λ pass. uninstall pass word from value) word from p q → Made o.shape Uninstall word from (uninstalled_word from value) p q
  uninstall_won word from value p q (s, is) = won_exchange M o s.machine Uninstall word from (uninstalled_word from value) p q s.admitted.shape is (told_uninstall M o p q word from value s).1 (known_stays M o (λ pass. uninstall pass word from value) p q s)

  pub uninstall_lost : (word from value held : ℕ) (p q : PassView) → held ≢ from → SteppedFrom M o (λ pass. uninstall pass word from value) word held p q → Made o.shape Uninstall word held held p q
  uninstall_lost word from value held p q apart (s, is) = lost_exchange M o s.machine Uninstall word from (uninstalled_word from value) held p q s.admitted.shape is apart (told_uninstall M o p q word from value s).1 (known_stays M o (λ pass. uninstall pass word from value) p q s)

  pub slot_fits : (word held desc j : ℕ) (p q : PassView) → IsInSet o.shape desc j → word ≡ address o.shape (slot_new desc j) → SteppedFrom M o (λ pass. load pass word) word held p q → held < 2 ^ 32
  slot_fits word held desc j p q inside at (s, is) =
      let fits = (formats_of M o s.machine s.admitted).values desc j inside in
      let same : slice_index s.machine.words (address o.shape (slot_new desc j)) ≡ held = ap (slice_index s.machine.words) (sym at) ∙ is in
      omega (arith, fits, same)

  -- where a later attempt's status was found, the word doesn't hold any more what it held: what stands there is of the present
  -- attempt, and the statuses that were found since it was met would all be of that
  gone_apart : (word from status left : ℕ) (steps : List Step) (p q r : PassView) → IsCounted o.shape word → is_even (count_of from) ≡ false → SawTwice o.shape p word from status → IsAfter o.shape steps p q
      → FindsOther o.shape (desc_in from) status steps → SteppedFrom M o (λ pass. load pass word) word left q r → left ≢ from
  gone_apart word from status left steps p q r counted odd saw goes other (s, is) e =
      let m = s.machine in
      let later : List Step = (saw.first ++ saw.ask ∷ saw.look ∷ []) ++ steps in
      let segment : Contains (segments q) (saw.earlier ++ saw.found ∷ later) = subst (Contains (segments q))
      (trail_after o.shape steps p q goes ∙ ap (λ t. t ++ steps) saw.trail ∙ append_assoc saw.earlier (saw.found ∷ (saw.first ++ saw.ask ∷ saw.look ∷ [])) steps)
      (Contains-push q.past q.trail) in
      let stands : (t : Step) → Contains later t → NotesStanding o.shape m.words saw.found t = λ t c. subst (λ (h : Shape). NotesStanding h m.words saw.found t) s.admitted.shape ((is_kept M o m s.admitted).brackets s.pass q s.acts.at saw.earlier saw.found later segment t c) in
      let here' : slice_index m.words saw.found.word ≡ from = ap (slice_index m.words) saw.finds.there ∙ is ∙ e in
      let met : MeetsOdd o.shape saw.found.word (slice_index m.words saw.found.word) saw.found = record {
        counted = subst (IsCounted o.shape) (sym saw.finds.there) counted;
        odd = ap (λ x. is_even (count_of x)) here' ∙ odd;
        there = refl;
        met = inl (saw.finds.before ∙ sym here');
      } in
      let ask_in : Contains later saw.ask = Contains-append_left (saw.first ++ saw.ask ∷ saw.look ∷ []) steps saw.ask (Contains-append_right saw.first (saw.ask ∷ saw.look ∷ []) saw.ask (0, omega arith, refl)) in
      let other_in : Contains later other.2.0 = Contains-append_right (saw.first ++ saw.ask ∷ saw.look ∷ []) steps other.2.0 other.2.1 in
      let one = stands saw.ask ask_in met (saw.asks.finds.there ∙ ap (status_of_desc o.shape) (sym here')) in
      let two = stands other.2.0 other_in met (other.2.2.there ∙ ap (status_of_desc o.shape) (sym here')) in
      other.1 (ap serial_of (sym other.2.2.before) ∙ two.before ∙ sym one.before ∙ ap serial_of saw.asks.finds.before)

  pub gone_rises : (word from status left : ℕ) (steps : List Step) (p q r : PassView) → IsCounted o.shape word → is_even (count_of from) ≡ false → SawTwice o.shape p word from status → IsAfter o.shape steps p q
      → FindsOther o.shape (desc_in from) status steps → SteppedFrom M o (λ pass. load pass word) word left q r → count_of from < count_of left
  gone_rises word from status left steps p q r counted odd saw goes other step =
      let found : SomeStep (Finds word from) p.trail = (
        saw.found,
        subst (λ t. Contains t saw.found) (sym saw.trail)
            (Contains-append_right saw.earlier (saw.found ∷ (saw.first ++ saw.ask ∷ saw.look ∷ [])) saw.found (0, omega arith, refl)),
        saw.finds,
      ) in
      found_rises M o (λ pass. load pass word) word from left q r counted (found_after o.shape word from steps p q goes found)
      (gone_apart word from status left steps p q r counted odd saw goes other step) step

-- an uninstall that won leaves a higher count
pub count_rises : (from value : ℕ) → count_of from ≤ LAST_COUNT + 1 → count_of from < count_of (uninstalled_word from value)
count_rises from value fits = let is = count_of-counted_word value (count_of from + 1) (omega (arith, fits)) in omega (arith, is)

pub taken_out : (shape : Shape) (word from value before left : ℕ) (fate : Status) (p q r : PassView) → (l : SlotLoaded shape from fate value p q) → (m : Made shape Uninstall word before left q r)
    → ((before ≡ from) × (left ≡ uninstalled_word from value)) ⊎ ((before ≢ from) × (left ≡ before)) → count_of from < count_of left
    → (NotesWord q.placed (place_at shape word) → m.step.placed ≡ true) → TakenOut shape word from fate left p r
taken_out shape word from value before left fate p q r l m won rises flag = record {
  slot = l.slot;
  take = m.step;
  goes = both_after shape (l.slot ∷ []) (m.step ∷ []) p q r l.goes m.goes;
  held = l.held;
  loads = l.loads;
  takes = record {
    kind = m.is_kind;
    there = m.there;
    leaves = m.left_it;
    won = ⊎_elim (λ w. inl (m.found ∙ w.0, w.1 ∙ ap (uninstalled_word from) (sym l.is))) (λ w. inr ((λ e. w.0 (sym m.found ∙ e)), w.1 ∙ sym m.found)) won;
  };
  rises = rises;
  still = All-cons StaysSame l.slot (m.step ∷ []) (λ _. l.same) (All-cons StaysSame m.step [] (λ is. absurd (no_load is)) (All-nil StaysSame));
  noted = flags_last shape Uninstall word before left (l.slot ∷ []) p q r l.goes m flag;
}
  where
    no_load : m.step.kind ≡ Load → ⊥
    no_load e = let other = m.is_kind in cc
