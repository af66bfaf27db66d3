-- An uninstall leaves the value that the word stands for, under every resolution.
use Rattle.std.proofs.Common.{◌≡◌, ℕ, ◌&&◌, Bool, List, [], ◌∷◌, ◌++◌, refl, sym, ap, ◌∙◌, subst, inl, inr, ⊎_elim, true, false, append_assoc}
use Rattle.std.specs.List.{Contains}
use Rattle.std.proofs.lemmas.Bool.{or_left, or_right, and_from, and_parts, or_cases, cond-true, cond-false, false≢true, cases_Bool}
use Rattle.std.proofs.lemmas.List.Elements.{Contains-append_right}
use Rattle.md_words.specs.declared.shape.Shape.{Shape}
use Rattle.md_words.specs.declared.content.Spot.{Spot}
use Rattle.md_words.specs.declared.status.Status.TheVariants.{InPrep, Committed as IsCommitted, Aborted as IsAborted}
use Rattle.md_words.specs.Content.{value_of, count_of, is_even}
use Rattle.md_words.specs.Status.{status_of, serial_of}
use Rattle.md_words.specs.Place.{Place, desc_status, slot_old, slot_new}
use Rattle.md_words.specs.Layout.{address, IsInSet}
use Rattle.md_words.specs.PlaceAt.{place_at, IsCounted}
use Rattle.md_words.proofs.Places.{place_at-address}
use Rattle.md_history.specs.declared.entries.Fate.{Fate}
use Rattle.md_history.specs.History.{IsResolution, MayKeep}
use Rattle.md_machine.specs.declared.step.Kind.{Kind}
use Rattle.md_machine.specs.declared.step.Step.{Step}
use Rattle.md_machine.specs.declared.attempt.AttemptId.{AttemptId}
use Rattle.md_machine.specs.declared.attempt.HistoryEntry.{HistoryEntry}
use Rattle.md_machine.specs.declared.pass.PassView.{PassView}
use Rattle.md_machine.proofs.chain.Values.{installed_spot, value_odd}
use Rattle.md_machine.proofs.clauses.words.Brackets.{MetStanding, TrailsBracket}
use Rattle.md_machine.proofs.clauses.entries.EntriesFit.{EntriesFit}
use Rattle.md_machine.proofs.clauses.slots.Installs.{InstallsKept}
use Rattle.md_machine.proofs.lists.Splits.{splits}
use Rattle.md_machine.proofs.clauses.entries.ReadyEntries.{EntryOf, ReadyHaveEntries}
use Rattle.md_machine.proofs.clauses.words.Statuses.{StatusesNoted}
use Rattle.md_machine.proofs.clauses.words.Stores.{StoresStand}
use Rattle.md_machine.proofs.clauses.slots.Undecided.{stands_decided}
use Rattle.md_machine.proofs.events.Attempts.{same_from, same_parts}
use Rattle.md_machine.proofs.events.MoveFacts.{Uninstalls}
use Rattle.md_machine.proofs.events.Moves.{WinsUninstall}
use Rattle.md_machine.proofs.lists.Pairs.{EachPair, InPairs, pairs_of}
use Rattle.md_machine.proofs.lists.Rising.{here, in_cons, in_none, there}
use Rattle.md_machine.specs.Installs.{spot_of_install}
use Rattle.md_machine.specs.Machine.{IsAt, IsPresentIn, Machine, attempt_of, content, present, same_attempt, shape_of, status_at, word_at}
use Rattle.md_machine.specs.Resolution.{Resolves, entries_of, is_kept, logical_value, value_under}
use Rattle.md_machine.specs.Trail.{LastStored, Loads, Meets}
use Rattle.md_machine.specs.clauses.entries.Fates.{Tells}
use Rattle.md_machine.specs.clauses.words.Loads.{LoadStands, MeetsReady}
use Rattle.md_machine.specs.clauses.slots.OddWords.{OddStand, StandsIn}
use Rattle.md_machine.proofs.clauses.words.OldSlots.{OldSlotStands, old_place, spot_in_word}
use Rattle.md_machine.specs.clauses.words.Stores.{IsEntryWord}
use Rattle.md_machine.specs.events.Uninstall.{HelperSaw, MayUninstall, slot_by_fate, slot_of_desc, status_of_desc, value_by_fate}

-- the entry of a committed present attempt is kept
kept_where_committed : (shape : Shape) (words : List ℕ) (es : List HistoryEntry) (fs : List Fate) (choice : List Bool) (a : AttemptId) → EntriesFit shape words es fs → IsResolution (entries_of es) fs choice
    → IsPresentIn shape words a → status_of (word_at shape words (desc_status a.desc)) ≡ IsCommitted → (e : HistoryEntry) → Contains es e → e.attempt.desc ≡ a.desc → e.attempt.serial ≡ a.serial → is_kept es choice a ≡ true
kept_where_committed shape words [] fs choice a fit r now is e c d s = absurd (in_none e c)
kept_where_committed shape words (x ∷ es) [] choice a fit r now is e c d s = absurd fit
kept_where_committed shape words (x ∷ es) (f ∷ fs) [] a fit r now is e c d s = absurd r
kept_where_committed shape words (x ∷ es) (f ∷ fs) (kept ∷ choice) a fit r now is e c d s = ⊎_elim
    (λ same.
    let desc : x.attempt.desc ≡ a.desc = ap (λ (y : HistoryEntry). y.attempt.desc) same ∙ d in
    let serial : x.attempt.serial ≡ a.serial = ap (λ (y : HistoryEntry). y.attempt.serial) same ∙ s in
    let here = ap (λ y. word_at shape words (desc_status y)) desc in
    let told : Tells IsCommitted f = subst (λ y. Tells y f) (ap status_of here ∙ is) (fit.0.present (serial ∙ now ∙ ap serial_of (sym here))).fate in
    let keeps : kept ≡ true = subst (λ y. MayKeep y x.entry kept) told r.0 in
    or_left (kept && same_attempt x.attempt a) (is_kept es choice a) (and_from kept (same_attempt x.attempt a) keeps (same_from x.attempt a desc serial)))
    (λ later. or_right (kept && same_attempt x.attempt a) (is_kept es choice a) (kept_where_committed shape words es fs choice a fit.1 r.1 now is e later d s))
    (in_cons x es e c)

-- no entry of an aborted present attempt is kept
left_where_aborted : (shape : Shape) (words : List ℕ) (es : List HistoryEntry) (fs : List Fate) (choice : List Bool) (a : AttemptId) → EntriesFit shape words es fs → IsResolution (entries_of es) fs choice
    → IsPresentIn shape words a → status_of (word_at shape words (desc_status a.desc)) ≡ IsAborted → is_kept es choice a ≡ true → ⊥
left_where_aborted shape words [] fs choice a fit r now is k = false≢true k
left_where_aborted shape words (x ∷ es) [] choice a fit r now is k = absurd fit
left_where_aborted shape words (x ∷ es) (f ∷ fs) [] a fit r now is k = absurd r
left_where_aborted shape words (x ∷ es) (f ∷ fs) (kept ∷ choice) a fit r now is k = ⊎_elim
    (λ this.
    let both = and_parts kept (same_attempt x.attempt a) this in
    let parts = same_parts x.attempt a both.1 in
    let here = ap (λ y. word_at shape words (desc_status y)) parts.0 in
    let told : Tells IsAborted f = subst (λ y. Tells y f) (ap status_of here ∙ is) (fit.0.present (parts.1 ∙ now ∙ ap serial_of (sym here))).fate in
    let left : kept ≡ false = subst (λ y. MayKeep y x.entry kept) told r.0 in
    false≢true (sym left ∙ both.0))
    (λ later. left_where_aborted shape words es fs choice a fit.1 r.1 now is later)
    (or_cases (kept && same_attempt x.attempt a) (is_kept es choice a) k)

-- what an uninstall rests on: what holds of entries, statuses, slots and trails
pub record UninstallRests (m : Machine) : Type 0 where
  pub entries : EntriesFit (shape_of m) m.words m.history m.fates
  pub ready_entries : ReadyHaveEntries (shape_of m) m.words m.history
  pub statuses : StatusesNoted (shape_of m) m.words m.passes
  pub brackets : TrailsBracket (shape_of m) m.words m.passes
  pub installs : InstallsKept (shape_of m) m.words m.installs m.passes
  pub odd_words : OddStand (shape_of m) m.words m.installs
  pub loads : EachPair (LoadStands (shape_of m) m.words m.history) m.passes
  pub old_slots : EachPair (OldSlotStands (shape_of m) m.words) m.passes
  pub stores : StoresStand (shape_of m) m.words m.passes

-- a pair of a segment that is split at the later step
pair_in : (R : Step → Step → Type 0) (earlier : List Step) (t : Step) (later : List Step) (s : Step) → Contains earlier s → InPairs R (earlier ++ t ∷ later) → R s t
pair_in R earlier t later s c h =
    let cut = splits earlier s c in
    pairs_of R cut.0 s (cut.1 ++ t ∷ later) t (subst (InPairs R) (ap (λ l. l ++ t ∷ later) cut.2 ∙ append_assoc cut.0 (s ∷ cut.1) (t ∷ later)) h) (Contains-append_right cut.1 (t ∷ later) t (here t later))

module _ (m : Machine) (k : UninstallRests m) (word : ℕ) (counted : IsCounted (shape_of m) word) (u : Uninstalls m word) where
  odd : is_even (count_of (content m word)) ≡ false
  odd = u.may.odd

  abbrev spot : Spot
  spot = spot_in_word (content m word)

  standing : StandsIn (shape_of m) m.words m.installs word
  standing = k.odd_words word counted odd

  spot_is : spot ≡ spot_of_install standing.install
  spot_is = let fits = k.installs.fits standing.install standing.made in ap spot_in_word standing.holds ∙ installed_spot standing.install fits.room (fits.slot standing.present).exists.1

  in_set : IsInSet (shape_of m) spot.desc spot.slot
  in_set = subst (λ (x : Spot). IsInSet (shape_of m) x.desc x.slot) (sym spot_is) ((k.installs.fits standing.install standing.made).slot standing.present).exists

  -- the attempt that stands there has the status that the pass knows
  status_is : u.may.status ≡ status_at m spot.desc
  status_is = stands_decided m k.statuses k.brackets word counted in_set.0 u

  now : serial_of u.may.status ≡ serial_of (status_at m spot.desc)
  now = ap serial_of status_is

  -- what the owner stored last in the slot stands there
  stored : (held : ℕ) → LastStored u.p (attempt_of spot.desc (serial_of u.may.status)) (slot_of_desc (shape_of m) (content m word) u.may.status) held → (q : Place) → slot_by_fate (status_of u.may.status) spot ≡ q → IsEntryWord spot.desc q → place_at (shape_of m) (address (shape_of m) q) ≡ q
      → word_at (shape_of m) m.words q ≡ held
  stored held l q is entry place = ap (word_at (shape_of m) m.words) (sym is)
      ∙ k.stores u.pass u.p u.at (attempt_of spot.desc (serial_of u.may.status)) now (slot_of_desc (shape_of m) (content m word) u.may.status) held
      (subst (λ x. IsEntryWord spot.desc (place_at (shape_of m) (address (shape_of m) x))) (sym is) (subst (IsEntryWord spot.desc) (sym place) entry)) l

  -- a helper's loaded slot comes last in what it saw
  abbrev Seen : HelperSaw (shape_of m) u.p word (content m word) u.may.status u.may.held → List Step
  Seen h = h.earlier ++ h.found ∷ (h.first ++ h.again ∷ h.second)

  helper_split : (h : HelperSaw (shape_of m) u.p word (content m word) u.may.status u.may.held) → h.earlier ++ h.found ∷ (h.first ++ h.again ∷ (h.second ++ h.loaded ∷ h.later)) ≡ Seen h ++ h.loaded ∷ h.later
  helper_split h = ap (λ l. h.earlier ++ h.found ∷ l) (sym (append_assoc h.first (h.again ∷ h.second) (h.loaded ∷ h.later))) ∙ sym (append_assoc h.earlier (h.found ∷ (h.first ++ h.again ∷ h.second)) (h.loaded ∷ h.later))

  -- where the attempt is committed: the slot's new value
  module _ (committed : status_of u.may.status ≡ IsCommitted) where
    ready_entry : EntryOf m.history spot.desc (status_at m spot.desc)
    ready_entry = k.ready_entries spot.desc in_set.0 (inr (ap status_of (sym status_is) ∙ committed))

    entry_present : IsPresentIn (shape_of m) m.words ready_entry.0.attempt
    entry_present = ready_entry.3 ∙ ap (λ d. serial_of (status_at m d)) (sym ready_entry.2)

    new_place : place_at (shape_of m) (address (shape_of m) (slot_new spot.desc spot.slot)) ≡ slot_new spot.desc spot.slot
    new_place = place_at-address (shape_of m) (slot_new spot.desc spot.slot) in_set

    slot_is_new : slot_by_fate (status_of u.may.status) spot ≡ slot_new spot.desc spot.slot
    slot_is_new = ap (λ s. slot_by_fate s spot) committed

    -- a pair of the decided status and a load of the slot
    loaded_new : (s t : Step) → LoadStands (shape_of m) m.words m.history s t → Meets (status_of_desc (shape_of m) (content m word)) u.may.status s → Loads (slot_of_desc (shape_of m) (content m word) u.may.status) u.may.held t
        → word_at (shape_of m) m.words (slot_new spot.desc spot.slot) ≡ u.may.held
    loaded_new s t pair meets loads =
        let e = ready_entry.0 in let l = loads.finds in
        let there : t.word ≡ address (shape_of m) (slot_new spot.desc spot.slot) = l.there ∙ ap (address (shape_of m)) slot_is_new in
        let ready : MeetsReady (shape_of m) e.attempt s = (
          u.may.status,
          subst (λ d. Meets (address (shape_of m) (desc_status d)) u.may.status s) (sym ready_entry.2) meets,
          now ∙ sym ready_entry.3,
          λ prep. committed_prep (sym committed ∙ prep),
        ) in
        let entry : IsEntryWord e.attempt.desc (place_at (shape_of m) t.word) = subst (λ d. IsEntryWord d (place_at (shape_of m) t.word)) (sym ready_entry.2) (subst (IsEntryWord spot.desc) (sym (ap (place_at (shape_of m)) there ∙ new_place)) refl) in
        ap (content m) (sym there) ∙ sym (pair e ready_entry.1 entry_present ready entry l.found) ∙ l.before
      where
        committed_prep : IsCommitted ≡ InPrep → ⊥
        committed_prep e = cc

    held_new : word_at (shape_of m) m.words (slot_new spot.desc spot.slot) ≡ u.may.held
    held_new = ⊎_elim
        (λ own. ⊎_elim
        (λ l. stored u.may.held l (slot_new spot.desc spot.slot) slot_is_new refl new_place)
        (λ o. loaded_new o.decided.0 o.load.step (pair_in (LoadStands (shape_of m) m.words m.history) o.load.earlier o.load.step o.load.later o.decided.0 o.decided.1 (k.loads u.pass u.p u.at _ o.load.segment)) o.decided.2 o.load.such)
        own.slot)
        (λ h. loaded_new h.decided.0 h.loaded (pair_in (LoadStands (shape_of m) m.words m.history) (Seen h) h.loaded h.later h.decided.0 (Contains-append_right h.earlier _ _ (there h.found _ _ h.decided.1)) (subst (InPairs (LoadStands (shape_of m) m.words m.history)) (helper_split h) (k.loads u.pass u.p u.at _ h.segment))) h.decided.2 h.loads)
        u.may.knows

    committed_value : (choice : List Bool) → Resolves m choice → u.value ≡ value_under m choice spot
    committed_value choice r =
        let e = ready_entry in
        let kept = kept_where_committed (shape_of m) m.words m.history m.fates choice (present m spot.desc) k.entries r refl (ap status_of (sym status_is) ∙ committed) e.0 e.1 e.2 e.3 in
        sym u.may.is ∙ ap (λ s. value_by_fate s u.may.held) committed ∙ sym held_new
        ∙ sym (cond-true (is_kept m.history choice (present m spot.desc)) (word_at (shape_of m) m.words (slot_new spot.desc spot.slot)) (value_of (word_at (shape_of m) m.words (slot_old spot.desc spot.slot))) kept)

  -- where it is aborted: the value of the slot's old content
  module _ (aborted : status_of u.may.status ≡ IsAborted) where
    old_is_place : place_at (shape_of m) (address (shape_of m) (slot_old spot.desc spot.slot)) ≡ slot_old spot.desc spot.slot
    old_is_place = place_at-address (shape_of m) (slot_old spot.desc spot.slot) in_set

    slot_is_old : slot_by_fate (status_of u.may.status) spot ≡ slot_old spot.desc spot.slot
    slot_is_old = ap (λ s. slot_by_fate s spot) aborted

    -- a pair of the content that stands and a load of the slot
    loaded_old : (s t : Step) → OldSlotStands (shape_of m) m.words s t → Meets word (content m word) s → Loads (slot_of_desc (shape_of m) (content m word) u.may.status) u.may.held t
        → word_at (shape_of m) m.words (slot_old spot.desc spot.slot) ≡ u.may.held
    loaded_old s t pair meets loads =
        let l = loads.finds in
        let at : s.word ≡ word = ⊎_elim (λ f. f.there) (λ g. g.there) meets in
        let same : content m s.word ≡ content m word = ap (content m) at in
        let there : t.word ≡ address (shape_of m) (slot_old spot.desc spot.slot) = l.there ∙ ap (address (shape_of m)) slot_is_old in
        let met : MetStanding (shape_of m) m.words s = record {
          counted = subst (IsCounted (shape_of m)) (sym at) counted;
          odd = ap (λ c. is_even (count_of c)) same ∙ odd;
          there = refl;
          met = ⊎_elim (λ f. inl (f.before ∙ sym same)) (λ g. inr (g.after ∙ sym same)) meets;
        } in
        ap (content m) (sym there) ∙ sym (pair met (there ∙ ap (old_place (shape_of m)) (sym same))) ∙ l.before

    held_old : word_at (shape_of m) m.words (slot_old spot.desc spot.slot) ≡ u.may.held
    held_old = ⊎_elim
        (λ own. ⊎_elim
        (λ l. stored u.may.held l (slot_old spot.desc spot.slot) slot_is_old refl old_is_place)
        (λ o. loaded_old o.stood.0 o.load.step (pair_in (OldSlotStands (shape_of m) m.words) o.load.earlier o.load.step o.load.later o.stood.0 o.stood.1 (k.old_slots u.pass u.p u.at _ o.load.segment)) o.stood.2 o.load.such)
        own.slot)
        (λ h. loaded_old h.found h.loaded (pair_in (OldSlotStands (shape_of m) m.words) (Seen h) h.loaded h.later h.found (Contains-append_right h.earlier _ _ (here h.found _)) (subst (InPairs (OldSlotStands (shape_of m) m.words)) (helper_split h) (k.old_slots u.pass u.p u.at _ h.segment))) (inl h.finds) h.loads)
        u.may.knows

    aborted_value : (choice : List Bool) → Resolves m choice → u.value ≡ value_under m choice spot
    aborted_value choice r =
        let kept : is_kept m.history choice (present m spot.desc) ≡ false = ⊎_elim
        (λ yes. absurd (left_where_aborted (shape_of m) m.words m.history m.fates choice (present m spot.desc) k.entries r refl (ap status_of (sym status_is) ∙ aborted) yes))
        (λ not. not)
        (cases_Bool (is_kept m.history choice (present m spot.desc))) in
        sym u.may.is ∙ ap (λ s. value_by_fate s u.may.held) aborted ∙ ap value_of (sym held_old)
        ∙ sym (cond-false (is_kept m.history choice (present m spot.desc)) (word_at (shape_of m) m.words (slot_new spot.desc spot.slot)) (value_of (word_at (shape_of m) m.words (slot_old spot.desc spot.slot))) kept)

  -- so the value that it leaves is the one that the word stands for
  pub uninstall_value : (choice : List Bool) → Resolves m choice → u.value ≡ logical_value m choice word
  uninstall_value choice r = ⊎_elim (λ c. committed_value c choice r) (λ a. aborted_value a choice r) u.may.decided ∙ sym (value_odd m choice word counted odd)

-- so it is of an uninstall that wins
pub wins_uninstall_value : (m n : Machine) (k : UninstallRests m) (pass : ℕ) (p : PassView) (at : IsAt m pass p) (kind : Kind) (word new : ℕ) (x : WinsUninstall m n p kind word new) (choice : List Bool) → Resolves m choice → x.value ≡ logical_value m choice word
wins_uninstall_value m n k pass p at kind word new x = uninstall_value m k word x.may.counted
    (record { pass = pass; p = p; at = at; value = x.value; may = subst (λ c. MayUninstall m p word c x.value) (sym x.was) x.may })
