-- What each event of a pass may do to its lanes.
use Rattle.std.proofs.Common.{◌≡◌, ◌≢◌, ◌⊎◌, ◌+◌, ◌<◌, ◌≤◌, ◌∷◌, ◌++◌, ℕ, Bool, true, false, [], Some, None, if◌then◌else◌, slice_index, slice_set, get_or-set_other, ne_eqb, refl, sym, ap, ◌∙◌, subst, inl, inr, ⊎_elim, le_of_eq, le_refl, arith, eqb-true}
use prog.Atomic.{either}
use mathlib.Core.Option.{some-injective}
use Rattle.std.specs.List.{Contains}
use Rattle.std.proofs.lemmas.Bool.{cases_Bool, cases_eq, cond_both, false≢true}
use Rattle.std.proofs.lemmas.List.Elements.{Contains-push_cases}
use Rattle.md_words.specs.declared.content.Spot.{Spot}
use Rattle.md_words.specs.declared.limits.TheConstants.{SET}
use Rattle.md_words.specs.declared.status.Status.{Status}
use Rattle.md_words.specs.declared.status.Status.TheVariants.{InPrep, InProg, Committed, Aborted}
use Rattle.md_words.specs.Content.{spot_of, spot_value, value_of, count_of}
use Rattle.md_words.specs.Layout.{address, desc_count}
use Rattle.md_words.specs.Place.{desc_status, node_next}
use Rattle.md_words.specs.PlaceAt.{IsCounted, place_at}
use Rattle.md_words.specs.Status.{reads_of, serial_of}
use Rattle.md_words.proofs.Places.{address_below, place_at-address, slice_index-slice_set_same}
use Rattle.md_words.proofs.Words.{reads_of_below, serial_of-status_word, spot_of-spot_value, value_of-counted_word}
use Rattle.md_machine.specs.declared.attempt.AttemptId.{AttemptId}
use Rattle.md_machine.specs.declared.attempt.Hand.{Hand}
use Rattle.md_machine.specs.declared.certificate.Certificate.{Certificate}
use Rattle.md_machine.specs.declared.pass.PassView.{PassView}
use Rattle.md_machine.specs.declared.step.Kind.TheVariants.{Ready}
use Rattle.md_machine.specs.Event.{Event, load, store, install, exchange, ready, commit, abort, uninstall, start, mark_begin, mark_start, mark_act, mark_end, mark_leave}
use Rattle.md_machine.specs.Machine.{Install, Machine, attempt_of, content, present, shape_of, status_at, was_begun, word_at}
use Rattle.md_machine.specs.Meaning.{Meaning}
use Rattle.md_machine.specs.Installs.{spot_of_install}
use Rattle.md_machine.specs.Stepping.{attempt_in_hand, exchanged, left_by, wins}
use Rattle.md_machine.specs.Trail.{EveryStepOf, SomeStepOf, StoresFor}
use Rattle.md_machine.specs.clauses.words.Formats.{AreFormats}
use Rattle.md_machine.specs.events.Decide.{decided_word}
use Rattle.md_machine.specs.events.Install.{MayInstall, hand_after_install, install_of, installed_word}
use Rattle.md_machine.specs.events.Ready.{fates_after_ready, history_after_ready, ready_word, unready_word, wins_ready}
use Rattle.md_machine.specs.events.Start.{IsClean, started_word}
use Rattle.md_machine.specs.events.Store.{MayStoreAt}
use Rattle.md_machine.proofs.clauses.nodes.Unstored.{unstored_unplaced}
use Rattle.md_machine.proofs.clauses.passes.BegunNoLater.{started_is_new}
use Rattle.md_machine.proofs.events.Attempts.{attempt_same, begun_cases, in_hand_some, same_parts}
use Rattle.md_machine.proofs.events.Leaves.{status_uncounted}
use Rattle.md_machine.proofs.events.Moves.{own_exists}
use Rattle.md_machine.proofs.events.Truth.{same_desc}
use Rattle.md_machine.proofs.lists.At.{at_changed}
use Rattle.md_machine.proofs.lists.Options.{none_some, some_same}
use Rattle.md_rule.specs.InHand.{HoldsDesc}
use Rattle.md_rule.specs.Steps.{Stepped}
use Rattle.md_rule.specs.Views.{Origin}
use Rattle.md_rule_lanes.specs.declared.shares.Share.{Share}
use Rattle.md_rule.proofs.Kept.{Continues, IsCountedInstall, IsLeftOf, LaneGoes}
use Rattle.md_rule.proofs.Moves.{is_kept, next_admitted}
use Rattle.md_rule.proofs.Told.{told_load, told_store, told_install, told_exchange, told_ready, told_commit, told_abort, told_uninstall, told_start, told_begin, told_mark_start, told_act, told_end, told_leave}

-- what is in hand afterwards was in hand before
abbrev pub HandStays : (before after : PassView) → Type 0
HandStays before after = (desc : ℕ) → HoldsDesc after desc → HoldsDesc before desc

-- each descriptor keeps its serial
abbrev pub SerialsStay : (m n : Machine) → Type 0
SerialsStay m n = (desc : ℕ) → desc < desc_count (shape_of m) → serial_of (status_at n desc) ≡ serial_of (status_at m desc)

-- an event that makes no install, enters no entry, begins no attempt and takes nothing in hand
pub record IsQuiet (m n : Machine) (before after : PassView) : Type 0 where
  pub installs : n.installs ≡ m.installs
  pub history : n.history ≡ m.history
  pub begun : n.begun ≡ m.begun
  pub serials : SerialsStay m n
  pub hand : HandStays before after

-- the parts of what an event may do to a lane that such an event has
module _ (m n : Machine) (before after : PassView) (lane : ℕ) (share : Share) where
  pub no_install : n.installs ≡ m.installs → (later : Share) → (i : Install) → Contains n.installs i → Contains m.installs i ⊎ IsCountedInstall (shape_of m) share later lane i
  no_install same later i c = inl (subst (λ l. Contains l i) same c)

  pub none_begun : n.begun ≡ m.begun → was_begun n.begun (attempt_of lane 0) ≡ true → (was_begun m.begun (attempt_of lane 0) ≡ true) ⊎ (0 < share.tries_taken)
  none_begun same was = inl (subst (λ l. was_begun l (attempt_of lane 0) ≡ true) same was)

  pub goes_on : serial_of (status_at n lane) ≡ serial_of (status_at m lane) → Continues m n before share share lane
  goes_on same = record { serial = same; slots = le_refl share.slots_written; closed = inl }

  pub quiet_goes : IsQuiet m n before after → lane < desc_count (shape_of m) → (HoldsDesc before lane → share.left_open ≡ true) → LaneGoes m n before after share share lane
  quiet_goes q exists left = record {
    nodes = refl;
    tries = refl;
    installs = no_install q.installs share;
    entries = λ node left x c. inl (subst (λ l. Contains l x) q.history c);
    begun = none_begun q.begun;
    status = inl (goes_on (q.serials lane exists));
    few = λ h. h;
    hand = λ holds. left (q.hand lane holds);
  }

-- the hand stays where its attempt does, and where nothing is in hand
pub hand_stays : (before after : PassView) → ((a : AttemptId) → attempt_in_hand after.hand ≡ Some a → attempt_in_hand before.hand ≡ Some a) → HandStays before after
hand_stays before after same desc (h, held, of) =
    let was = in_hand_some before.hand h.attempt (same h.attempt (ap attempt_in_hand held)) in
    (was.0, was.1, ap (λ (a : AttemptId). a.desc) was.2 ∙ of)

pub same_hand : (before after : PassView) → attempt_in_hand after.hand ≡ attempt_in_hand before.hand → HandStays before after
same_hand before after same = hand_stays before after (λ a is. sym same ∙ is)

pub no_hand : (before after : PassView) → after.hand ≡ None → HandStays before after
no_hand before after none desc (h, held, of) = absurd (none_some after.hand h none held)

-- the serial that stands after a word was changed
module _ (m : Machine) (f : AreFormats (shape_of m) m.words) (word new : ℕ) where
  pub serial_set : ((desc : ℕ) → desc < desc_count (shape_of m) → address (shape_of m) (desc_status desc) ≡ word → serial_of new ≡ serial_of (content m word))
      → (desc : ℕ) → desc < desc_count (shape_of m) → serial_of (word_at (shape_of m) (slice_set m.words word new) (desc_status desc)) ≡ serial_of (status_at m desc)
  serial_set same desc exists = let j = address (shape_of m) (desc_status desc) in ⊎_elim
      (λ (e : j ≡ word). at_changed m.words word new j (λ x. serial_of x ≡ serial_of (status_at m desc))
      (λ is. same desc exists is ∙ ap (λ w. serial_of (content m w)) (sym is)) (λ _. refl)
      (let fits = address_below (shape_of m) (desc_status desc) exists in let count = f.field in omega (arith, fits, count, e)))
      (λ ne. ap serial_of (other j ne))
      (cases_eq j word)
    where
      other : (j : ℕ) → j ≢ word → slice_index (slice_set m.words word new) j ≡ slice_index m.words j
      other j ne = get_or-set_other m.words word j new 0 ne

  pub serial_else : (desc : ℕ) → desc < desc_count (shape_of m) → address (shape_of m) (desc_status desc) ≢ word
      → serial_of (word_at (shape_of m) (slice_set m.words word new) (desc_status desc)) ≡ serial_of (status_at m desc)
  serial_else desc exists ne = ap serial_of (get_or-set_other m.words word (address (shape_of m) (desc_status desc)) new 0 ne)

  -- a counted word is no status
  pub serial_counted : IsCounted (shape_of m) word → (desc : ℕ) → desc < desc_count (shape_of m) → address (shape_of m) (desc_status desc) ≡ word → serial_of new ≡ serial_of (content m word)
  serial_counted counted desc exists is = absurd (status_uncounted m desc exists (subst (IsCounted (shape_of m)) (sym is) counted))

-- an exchange of a status for one with the same serial
traded_serial : (m : Machine) (word from to : ℕ) → serial_of to ≡ serial_of from → serial_of (left_by m word from to) ≡ serial_of (content m word)
traded_serial m word from to same = ⊎_elim
    (λ (won : wins m word from ≡ true). ap (λ b. serial_of (either b to (content m word))) won ∙ same ∙ ap serial_of (sym (eqb-true (content m word) from won)))
    (λ lost. ap (λ b. serial_of (either b to (content m word))) lost)
    (cases_Bool (wins m word from))

decided_serial : (status : Status) (from : ℕ) → serial_of (decided_word status from) ≡ serial_of from
decided_serial status from = serial_of-status_word status (reads_of from) (serial_of from) (reads_of_below from)

module _ (M : Meaning) (o : Origin) (before after : PassView) where
  module _ (m n : Machine) (f : AreFormats (shape_of m) m.words) where
    -- an event that changes a word and the passes alone is quiet
    pub quiet_by : (k : Machine) (word new : ℕ) → n ≡ k → k.installs ≡ m.installs → k.history ≡ m.history → k.begun ≡ m.begun → k.opening ≡ m.opening
        → k.words ≡ slice_set m.words word new
        → ((desc : ℕ) → desc < desc_count (shape_of m) → address (shape_of m) (desc_status desc) ≡ word → serial_of new ≡ serial_of (content m word))
        → HandStays before after → IsQuiet m n before after
    quiet_by k word new is installs history begun opening words same hand = subst (λ x. IsQuiet m x before after) (sym is) (record {
      installs = installs;
      history = history;
      begun = begun;
      serials = λ desc exists. ap (λ x. serial_of (word_at x.shape k.words (desc_status desc))) opening
          ∙ ap (λ w. serial_of (word_at (shape_of m) w (desc_status desc))) words ∙ serial_set m f word new same desc exists;
      hand = hand;
    })

  formats : {event : (pass : ℕ) → Event} (s : Stepped M o event before after) → AreFormats (shape_of s.machine) s.machine.words
  formats s = (is_kept M o s.machine s.admitted).formats

  pub quiet_load : (word : ℕ) (s : Stepped M o (λ pass. load pass word) before after) → IsQuiet s.machine s.next before after
  quiet_load word s = quiet_by s.machine s.next (formats s) _ word (content s.machine word) s.does.3 refl refl refl refl refl (λ _ _ _. refl)
      (same_hand before after (ap (λ (p : PassView). attempt_in_hand p.hand) (told_load M o before after word s)))

  pub quiet_store : (word value : ℕ) (s : Stepped M o (λ pass. store pass word value) before after) → IsQuiet s.machine s.next before after
  quiet_store word value s =
      let told = told_store M o before after word value s in
      let m = s.machine in
      quiet_by m s.next (formats s) _ word value s.does.4 refl refl refl refl refl
      (λ desc exists is. absurd (subst (MayStoreAt m before told.0.attempt (content m word) value)
      (ap (place_at (shape_of m)) (sym is) ∙ place_at-address (shape_of m) (desc_status desc) exists) told.1.place))
      (same_hand before after (ap (λ (p : PassView). attempt_in_hand p.hand) told.2 ∙ sym (ap attempt_in_hand told.1.held)))

  pub quiet_exchange : (word from to : ℕ) (s : Stepped M o (λ pass. exchange pass word from to) before after) → IsQuiet s.machine s.next before after
  quiet_exchange word from to s =
      let told = told_exchange M o before after word from to s in
      quiet_by s.machine s.next (formats s) _ word _ s.does.3 refl refl refl refl refl (serial_counted s.machine (formats s) word _ told.0.counted)
      (same_hand before after (ap (λ (p : PassView). attempt_in_hand p.hand) told.1))

  pub quiet_uninstall : (word from value : ℕ) (s : Stepped M o (λ pass. uninstall pass word from value) before after) → IsQuiet s.machine s.next before after
  quiet_uninstall word from value s =
      let told = told_uninstall M o before after word from value s in
      quiet_by s.machine s.next (formats s) _ word _ s.does.3 refl refl refl refl refl (serial_counted s.machine (formats s) word _ told.0.counted)
      (same_hand before after (ap (λ (p : PassView). attempt_in_hand p.hand) told.1))

  pub quiet_commit : (desc from : ℕ) (s : Stepped M o (λ pass. commit pass desc from) before after) → IsQuiet s.machine s.next before after
  quiet_commit desc from s =
      quiet_by s.machine s.next (formats s) _ _ _ s.does.3 refl refl refl refl refl
      (λ _ _ _. traded_serial s.machine _ from (decided_word Committed from) (decided_serial Committed from))
      (same_hand before after (ap (λ (p : PassView). attempt_in_hand p.hand) (told_commit M o before after desc from s).1))

  pub quiet_abort : (desc from : ℕ) (s : Stepped M o (λ pass. abort pass desc from) before after) → IsQuiet s.machine s.next before after
  quiet_abort desc from s =
      quiet_by s.machine s.next (formats s) _ _ _ s.does.3 refl refl refl refl refl
      (λ _ _ _. traded_serial s.machine _ from (decided_word Aborted from) (decided_serial Aborted from))
      (same_hand before after (ap (λ (p : PassView). attempt_in_hand p.hand) (told_abort M o before after desc from s).1))

  pub quiet_mark_start : (s : Stepped M o (λ pass. mark_start pass) before after) → IsQuiet s.machine s.next before after
  quiet_mark_start s =
      let told = told_mark_start M o before after s in
      quiet_by s.machine s.next (formats s) _ 0 (content s.machine 0) s.does.4 refl refl refl refl refl (λ _ _ _. refl)
      (same_hand before after (ap (λ (p : PassView). attempt_in_hand p.hand) told.2 ∙ sym (ap attempt_in_hand told.1.held)))

  pub quiet_mark_act : (c : Certificate) (s : Stepped M o (λ pass. mark_act pass c) before after) → IsQuiet s.machine s.next before after
  quiet_mark_act c s =
      let told = told_act M o before after c s in
      quiet_by s.machine s.next (formats s) _ 0 (content s.machine 0) s.does.4 refl refl refl refl refl (λ _ _ _. refl)
      (same_hand before after (ap (λ (p : PassView). attempt_in_hand p.hand) told.2 ∙ sym (ap attempt_in_hand told.1.held)))

  pub quiet_mark_end : (s : Stepped M o (λ pass. mark_end pass) before after) → IsQuiet s.machine s.next before after
  quiet_mark_end s = quiet_by s.machine s.next (formats s) _ 0 (content s.machine 0) s.does.4 refl refl refl refl refl (λ _ _ _. refl)
      (no_hand before after (ap (λ (p : PassView). p.hand) (told_end M o before after s).2))

  pub quiet_mark_leave : (s : Stepped M o (λ pass. mark_leave pass) before after) → IsQuiet s.machine s.next before after
  quiet_mark_leave s = quiet_by s.machine s.next (formats s) _ 0 (content s.machine 0) s.does.2 refl refl refl refl refl (λ _ _ _. refl)
      (no_hand before after (ap (λ (p : PassView). p.hand) (told_leave M o before after s)))

  -- an install that lost is quiet
  same_attempt : (b : Bool) (x h : Hand) → x.attempt ≡ h.attempt → (if b then x else h).attempt ≡ h.attempt
  same_attempt true x h e = e
  same_attempt false x h e = refl

  module _ (word from : ℕ) (to : Spot) (s : Stepped M o (λ pass. install pass word from to) before after) where
    abbrev m : Machine
    m = s.machine

    installed : (h : Hand) × MayInstall m before h word from to × (s.next.installs ≡ (if wins m word from then m.installs ++ install_of h word from to ∷ [] else m.installs))
    installed = (
      s.does.1,
      subst (λ p. MayInstall m p s.does.1 word from to) (some-injective s.does.0 before (sym s.does.2.at ∙ s.acts.at)) s.does.3,
      ap (λ (k : Machine). k.installs) s.does.4,
    )

    install_hand : HandStays before after
    install_hand = let told = told_install M o before after word from to s in
        same_hand before after (ap (λ (p : PassView). attempt_in_hand p.hand) told.2
        ∙ ap Some (same_attempt (wins m word from) (hand_after_install m told.0 word from to) told.0 refl) ∙ sym (ap attempt_in_hand told.1.held))

    install_serials : SerialsStay m s.next
    install_serials desc exists = ap (λ (k : Machine). serial_of (status_at k desc)) s.does.4
        ∙ serial_set m (formats s) word _ (serial_counted m (formats s) word _ (told_install M o before after word from to s).1.counted) desc exists

    pub install_lost : content m word ≢ from → IsQuiet m s.next before after
    install_lost lost = record {
      installs = installed.2 ∙ ap (λ b. if b then m.installs ++ install_of installed.0 word from to ∷ [] else m.installs) (ne_eqb (content m word) from lost);
      history = ap (λ (k : Machine). k.history) s.does.4;
      begun = ap (λ (k : Machine). k.begun) s.does.4;
      serials = install_serials;
      hand = install_hand;
    }

    -- one that won is in no next word of a node that is left, and its slot is counted
    module _ (lane : ℕ) (share : Share) (slots : ℕ) (more : share.slots_written ≤ slots) (counts : to.desc ≡ lane → to.slot < slots)
        (few : share.slots_written ≤ SET → slots ≤ SET)
        (avoids : (node : ℕ) → IsLeftOf (shape_of m) share lane node → word ≢ address (shape_of m) (node_next node))
        (exists : lane < desc_count (shape_of m)) (left : HoldsDesc before lane → share.left_open ≡ true) where
      abbrev later : Share
      later = record share { slots_written = slots }

      counted_slot : (h : Hand) → MayInstall m before h word from to
          → (spot_of (value_of (installed_word from (spot_of_install (install_of h word from to))))).slot ≡ to.slot
      counted_slot h may =
          let room = may.from_even.room in let few = may.slot in
          let spot : Spot = spot_of_install (install_of h word from to) in
          ap (λ v. (spot_of v).slot) (value_of-counted_word (spot_value spot) (count_of from + 1) (omega (arith, room))) ∙ ap (λ (x : Spot). x.slot) (spot_of-spot_value spot (omega (arith, few)))

      made : (i : Install) → Contains s.next.installs i → Contains m.installs i ⊎ IsCountedInstall (shape_of m) share later lane i
      made i c =
          let h = installed.0 in
          let may = installed.1 in
          cond_both (wins m word from) (m.installs ++ install_of h word from to ∷ []) m.installs
          (λ l. Contains l i → Contains m.installs i ⊎ IsCountedInstall (shape_of m) share later lane i)
          (λ _ c. ⊎_elim inl
          (λ is. inr (subst (IsCountedInstall (shape_of m) share later lane) is (record {
            avoids = avoids;
            left_open = λ of. left (h, may.held, of);
            counted = λ of. subst (λ k. k < slots) (sym (counted_slot h may)) (counts (may.own ∙ of));
          })))
          (Contains-push_cases m.installs (install_of h word from to) i c))
          (λ _ c. inl c)
          (subst (λ l. Contains l i) installed.2 c)

      pub install_won : LaneGoes m s.next before after share later lane
      install_won = record {
        nodes = refl;
        tries = refl;
        installs = made;
        entries = λ node not x c. inl (subst (λ l. Contains l x) (ap (λ (k : Machine). k.history) s.does.4) c);
        begun = none_begun m s.next before after lane share (ap (λ (k : Machine). k.begun) s.does.4);
        status = inl (record { serial = install_serials lane exists; slots = more; closed = inl });
        few = few;
        hand = λ holds. left (install_hand lane holds);
      }

  -- a ready step, of an attempt that stored to no node that is left
  module _ (reads : ℕ) (s : Stepped M o (λ pass. ready pass reads) before after) (lane : ℕ) (share : Share)
      (never : (node : ℕ) → IsLeftOf (shape_of s.machine) share lane node → (h : Hand) → before.hand ≡ Some h
      → ¬ SomeStepOf before (StoresFor h.attempt (address (shape_of s.machine) (node_next node))))
      (exists : lane < desc_count (shape_of s.machine)) (left : HoldsDesc before lane → share.left_open ≡ true) where
    ready_hand : HandStays before after
    ready_hand = let told = told_ready M o before after reads s in
        same_hand before after (ap (λ (p : PassView). attempt_in_hand p.hand) told.3
        ∙ cond_both (wins_ready s.machine told.0.attempt)
        (record (exchanged s.machine before Ready (address (shape_of s.machine) (desc_status told.0.attempt.desc)) (unready_word told.0.attempt) (ready_word told.0.attempt reads)) {
          seen = history_after_ready s.machine told.0 told.1 reads;
          known = fates_after_ready s.machine;
        })
        (exchanged s.machine before Ready (address (shape_of s.machine) (desc_status told.0.attempt.desc)) (unready_word told.0.attempt) (ready_word told.0.attempt reads))
        (λ (p : PassView). attempt_in_hand p.hand ≡ attempt_in_hand before.hand) (λ _. refl) (λ _. refl))

    ready_serials : SerialsStay s.machine s.next
    ready_serials desc is_desc =
        let a = s.does.1.attempt in let few = s.does.4.few in
        ap (λ (k : Machine). serial_of (status_at k desc)) s.does.5
        ∙ serial_set s.machine (formats s) _ _ (λ _ _ _. traded_serial s.machine _ (unready_word a) (ready_word a reads)
        (serial_of-status_word InProg reads a.serial (omega (arith, few)) ∙ sym (serial_of-status_word InPrep 0 a.serial (omega arith)))) desc is_desc

    pub ready_goes : LaneGoes s.machine s.next before after share share lane
    ready_goes = record {
      nodes = refl;
      tries = refl;
      installs = no_install s.machine s.next before after lane share (ap (λ (k : Machine). k.installs) s.does.5) share;
      entries = λ node not. unstored_unplaced M s.machine s.next s.pass reads before s.acts.at s.does node (never node not);
      begun = none_begun s.machine s.next before after lane share (ap (λ (k : Machine). k.begun) s.does.5);
      status = inl (goes_on s.machine s.next before after lane share (ready_serials lane exists));
      few = λ h. h;
      hand = λ holds. left (ready_hand lane holds);
    }

  -- the mark begin, of a lane that has begun an attempt
  module _ (desc tag : ℕ) (s : Stepped M o (λ pass. mark_begin pass desc tag) before after) (lane : ℕ) (share later : Share) (more : desc ≡ lane → 0 < share.tries_taken)
      (same : later ≡ record share { left_open = later.left_open }) (open_now : desc ≡ lane → later.left_open ≡ true)
      (else_same : desc ≢ lane → later ≡ share) (exists : lane < desc_count (shape_of s.machine)) where
    begin_serials : SerialsStay s.machine s.next
    begin_serials d is_desc = ap (λ (k : Machine). serial_of (status_at k d)) s.does.3
        ∙ serial_set s.machine (formats s) 0 (content s.machine 0) (λ _ _ _. refl) d is_desc

    pub begin_goes : LaneGoes s.machine s.next before after share later lane
    begin_goes = record {
      nodes = ap (λ (x : Share). x.nodes_taken) same;
      tries = ap (λ (x : Share). x.tries_taken) same;
      installs = no_install s.machine s.next before after lane share (ap (λ (k : Machine). k.installs) s.does.3) later;
      entries = λ node not x c. inl (subst (λ l. Contains l x) (ap (λ (k : Machine). k.history) s.does.3) c);
      begun = λ was. ⊎_elim inl
          (λ this. inr (let e = (same_parts (present s.machine desc) (attempt_of lane 0) this).0 in subst (λ n. 0 < n) (sym (ap (λ (x : Share). x.tries_taken) same)) (more e)))
          (begun_cases s.machine.begun (present s.machine desc) (attempt_of lane 0) (subst (λ l. was_begun l (attempt_of lane 0) ≡ true) (ap (λ (k : Machine). k.begun) s.does.3) was));
      status = inl (record {
        serial = begin_serials lane exists;
        slots = le_of_eq (sym (ap (λ (x : Share). x.slots_written) same));
        closed = λ closed. ⊎_elim
            (λ (e : desc ≡ lane). absurd (false≢true (sym closed ∙ open_now e)))
            (λ ne. inl (sym (ap (λ (x : Share). x.left_open) (else_same ne)) ∙ closed))
            (cases_eq desc lane);
      });
      few = subst (λ n. n ≤ SET) (sym (ap (λ (x : Share). x.slots_written) same));
      hand = λ (h, held, of). open_now (ap (λ (a : AttemptId). a.desc) (some_same (present s.machine desc) h.attempt
          (sym (ap (λ (p : PassView). attempt_in_hand p.hand) (told_begin M o before after desc tag s).1) ∙ ap attempt_in_hand held)) ∙ of);
    }

  -- the start, of a descriptor whose lane has begun more attempts
  module _ (desc from : ℕ) (s : Stepped M o (λ pass. start pass desc from) before after) (lane : ℕ) (exists : lane < desc_count (shape_of s.machine)) (share : Share) where
    abbrev word : ℕ
    word = address (shape_of s.machine) (desc_status desc)

    start_hand : HandStays before after
    start_hand = same_hand before after (ap (λ (p : PassView). attempt_in_hand p.hand) (told_start M o before after desc from s).1)

    idle : HoldsDesc after lane → ⊥
    idle holds = let was = start_hand lane holds in none_some before.hand was.0 (told_start M o before after desc from s).0.idle was.1

    pub start_else : desc ≢ lane → LaneGoes s.machine s.next before after share share lane
    start_else other = record {
      nodes = refl;
      tries = refl;
      installs = no_install s.machine s.next before after lane share (ap (λ (k : Machine). k.installs) s.does.3) share;
      entries = λ node not x c. inl (subst (λ l. Contains l x) (ap (λ (k : Machine). k.history) s.does.3) c);
      begun = none_begun s.machine s.next before after lane share (ap (λ (k : Machine). k.begun) s.does.3);
      status = inl (goes_on s.machine s.next before after lane share
          (ap (λ (k : Machine). serial_of (status_at k lane)) s.does.3
          ∙ serial_else s.machine (formats s) word (started_word from) lane exists (λ is. other (same_desc desc lane (sym (place_at-address (shape_of s.machine) (desc_status desc) (own_exists s.machine before desc (told_start M o before after desc from s).0.own))
          ∙ ap (place_at (shape_of s.machine)) (sym is) ∙ place_at-address (shape_of s.machine) (desc_status lane) exists)))));
      few = λ h. h;
      hand = λ holds. absurd (idle holds);
    }

    pub start_here : desc ≡ lane → serial_of from + 1 < share.tries_taken → LaneGoes s.machine s.next before after share (record share { slots_written = 0; left_open = false }) lane
    start_here is taken =
        let serial : serial_of (status_at s.next lane) ≡ serial_of from + 1 =
        ap (λ (k : Machine). serial_of (status_at k lane)) s.does.3 ∙ ap (λ d. serial_of (word_at (shape_of s.machine) (slice_set s.machine.words word (started_word from)) (desc_status d))) (sym is)
        ∙ ap serial_of (slice_index-slice_set_same (shape_of s.machine) s.machine.words (desc_status desc) (started_word from) (formats s).field (subst (λ d. d < desc_count (shape_of s.machine)) (sym is) exists))
        ∙ serial_of-status_word InPrep 0 (serial_of from + 1) (omega arith) in
        let new = started_is_new M s.machine s.next (is_kept M o s.machine s.admitted) (is_kept M o s.next (next_admitted M o (λ pass. start pass desc from) before after s)) s.pass desc from s.does after s.knows in record {
          nodes = refl;
          tries = refl;
          installs = no_install s.machine s.next before after lane share (ap (λ (k : Machine). k.installs) s.does.3) _;
          entries = λ node not x c. inl (subst (λ l. Contains l x) (ap (λ (k : Machine). k.history) s.does.3) c);
          begun = none_begun s.machine s.next before after lane share (ap (λ (k : Machine). k.begun) s.does.3);
          status = inr (record {
            serial = omega (arith, serial, taken);
            steps = subst (λ a. EveryStepOf after (λ t. t.attempt ≢ Some a)) (ap (λ d. attempt_of d (serial_of from + 1)) is ∙ ap (attempt_of lane) (sym serial)) new.steps;
          });
          few = λ _. omega arith;
          hand = λ holds. absurd (idle holds);
        }

  -- the mark end, of an attempt that is clean
  module _ (desc : ℕ) (s : Stepped M o (λ pass. mark_end pass) before after) (holds : HoldsDesc before desc) (clean : (h : Hand) → before.hand ≡ Some h → IsClean before h.attempt) where
    pub end_here : (lane : ℕ) (share : Share) → lane < desc_count (shape_of s.machine) → desc ≡ lane → LaneGoes s.machine s.next before after share (record share { left_open = false }) lane
    end_here lane share exists is =
        let q = quiet_mark_end s in
        let h = holds.0 in
        let fits = (is_kept M o s.machine s.admitted).hands.fits s.pass before h s.acts.at holds.1 in
        let of : h.attempt.desc ≡ lane = holds.2 ∙ is in
        let this : h.attempt ≡ present s.machine lane = attempt_same h.attempt (present s.machine lane) of (fits.present ∙ ap (λ d. serial_of (status_at s.machine d)) of) in record {
          nodes = refl;
          tries = refl;
          installs = no_install s.machine s.next before after lane share q.installs _;
          entries = λ node not x c. inl (subst (λ l. Contains l x) q.history c);
          begun = none_begun s.machine s.next before after lane share q.begun;
          status = inl (record { serial = q.serials lane exists; slots = le_refl share.slots_written; closed = λ _. inr (subst (IsClean before) this (clean h holds.1)) });
          few = λ h. h;
          hand = λ (k, held, _). absurd (none_some after.hand k (ap (λ (p : PassView). p.hand) (told_end M o before after s).2) held);
        }
