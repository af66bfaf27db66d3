-- The logical heap after an attempt became ready: with its entry, or without it, as it was before.
use Rattle.std.proofs.Common.{◌≡◌, ◌≢◌, ◌==◌, ◌<◌, ◌⊎◌, ◌&&◌, ◌||◌, ℕ, Bool, true, false, cond, List, [], ◌∷◌, ◌++◌, length, map, set, refl, sym, ap, ◌∙◌, subst, inl, inr, ⊎_elim, eqb-true, eq-eqb, get_or-set_other, Some, None, if◌then◌else◌, arith}
use Rattle.std.specs.Prelude.{unwrap_or}
use Rattle.std.specs.List.{Contains}
use Rattle.std.proofs.lemmas.Bool.{cond_both, cases_Bool, cases_eq, false≢true, true≢false}
use Rattle.md_words.specs.declared.content.Spot.{Spot}
use Rattle.md_words.specs.declared.status.Status.TheVariants.{InPrep}
use Rattle.md_words.specs.Content.{value_of, count_of, is_even, spot_of}
use Rattle.md_words.specs.Status.{status_of, serial_of}
use Rattle.md_words.specs.Place.{Place, desc_status, slot_old, slot_new, is_counted}
use Rattle.md_words.specs.Layout.{address, desc_count, Exists}
use Rattle.md_words.specs.LayoutLaws.{IsField}
use Rattle.md_words.specs.PlaceAt.{place_at, IsCounted}
use Rattle.md_words.proofs.Places.{place_at-address, address_differs}
use Rattle.md_words.proofs.Words.{status_of-status_word, serial_of-status_word}
use Rattle.md_machine.specs.declared.attempt.AttemptId.{AttemptId}
use Rattle.md_machine.specs.declared.attempt.HistoryEntry.{HistoryEntry}
use Rattle.md_machine.specs.Machine.{Machine, Install, shape_of, content, status_at, word_at, present, same_attempt, attempt_of, is_ready, IsPresentIn}
use Rattle.md_machine.specs.Resolution.{is_kept, logical_value, value_under}
use Rattle.md_machine.specs.Installs.{spot_of_install}
use Rattle.md_machine.specs.clauses.slots.OddWords.{OddStand}
use Rattle.md_machine.specs.clauses.slots.Undecided.{UndecidedStand}
use Rattle.md_machine.specs.events.Install.{installed_word}
use Rattle.md_machine.specs.events.Ready.{unready_word, write_now, writes_now, installs_by}
use Rattle.md_machine.proofs.lists.Rising.{in_none, in_cons, here, there, in_filter, filter_in}
use Rattle.md_machine.proofs.events.Leaves.{install_odd}
use Rattle.md_machine.proofs.events.Attempts.{attempt_same, same_from, same_parts}
use Rattle.md_machine.proofs.clauses.entries.EntriesDecided.{status_new, status_other}
use Rattle.md_machine.proofs.clauses.slots.Installs.{InstallsKept}
use Rattle.md_machine.proofs.chain.Entry.{new_value}
use Rattle.md_machine.proofs.chain.Values.{value_even, value_odd, installed_spot, unready_kept, kept_last}

-- what is known of an attempt that is about to become ready: it has no entry, its status says that it isn't ready, and
-- what holds of installs and of odd words
pub record BeforeReady (m : Machine) (a : AttemptId) : Type 0 where
  pub field : IsField (shape_of m) m.words
  pub installs : InstallsKept (shape_of m) m.words m.installs m.passes
  pub odd_words : OddStand (shape_of m) m.words m.installs
  pub undecided : UndecidedStand (shape_of m) m.words m.installs
  pub exists : a.desc < desc_count (shape_of m)
  pub unready : status_at m a.desc ≡ unready_word a
  pub idle : is_ready m.history a ≡ false

module _ (m : Machine) (a : AttemptId) (u : BeforeReady m a) where
  pub serial_is : serial_of (status_at m a.desc) ≡ a.serial
  serial_is = ap serial_of u.unready ∙ serial_of-status_word InPrep 0 a.serial (omega arith)

  -- its installs are present ones, and stand in their words
  pub own_present : (i : Install) → i.attempt ≡ a → IsPresentIn (shape_of m) m.words i.attempt
  own_present i mine = subst (λ (b : AttemptId). b.serial ≡ serial_of (status_at m b.desc)) (sym mine) (sym serial_is)

  pub own_stands : (i : Install) → Contains m.installs i → i.attempt ≡ a → content m i.word ≡ installed_word i.old (spot_of_install i)
  own_stands i c mine = u.undecided i c (own_present i mine)
      (inl (subst (λ (b : AttemptId). status_of (status_at m b.desc) ≡ InPrep) (sym mine) (ap status_of u.unready ∙ status_of-status_word InPrep 0 a.serial)))

  pub own_odd : (i : Install) → Contains m.installs i → i.attempt ≡ a → is_even (count_of (content m i.word)) ≡ false
  own_odd i c mine = ap (λ x. is_even (count_of x)) (own_stands i c mine) ∙ install_odd i.old (spot_of_install i) (record { even = (u.installs.fits i c).even; room = (u.installs.fits i c).room })

  -- what stands in a word names the slot of its install
  pub spot_at : (i : Install) → Contains m.installs i → IsPresentIn (shape_of m) m.words i.attempt → (word : ℕ) → content m word ≡ installed_word i.old (spot_of_install i) → spot_of (value_of (content m word)) ≡ spot_of_install i
  spot_at i c now word is = ap (λ x. spot_of (value_of x)) is ∙ installed_spot i (u.installs.fits i c).room ((u.installs.fits i c).slot now).exists.1

  -- its slots, and the new value that they give a word: none, or that of an install of the word
  value_of_writes : (is : List Install) → ((i : Install) → Contains is i → Contains m.installs i × (i.attempt ≡ a)) → (word : ℕ)
      → (new_value (map (write_now m) is) word ≡ None) ⊎ ((i : Install) × Contains m.installs i × (i.attempt ≡ a) × (i.word ≡ word) × (new_value (map (write_now m) is) word ≡ Some (write_now m i).new))
  value_of_writes [] sub word = inl refl
  value_of_writes (i ∷ is) sub word =
      let mine = sub i (here i is) in
      cond_both (i.word == word) (Some (write_now m i).new) (new_value (map (write_now m) is) word)
      (λ o. (o ≡ None) ⊎ ((j : Install) × Contains m.installs j × (j.attempt ≡ a) × (j.word ≡ word) × (o ≡ Some (write_now m j).new)))
      (λ t. inr (i, mine.0, mine.1, eqb-true i.word word t, refl))
      (λ _. value_of_writes is (λ j c. sub j (there i is j c)) word)

  some_value : (is : List Install) (i : Install) → Contains is i → new_value (map (write_now m) is) i.word ≡ None → ⊥
  some_value [] i c none = in_none i c
  some_value (j ∷ is) i c none = cond_both (j.word == i.word) (Some (write_now m j).new) (new_value (map (write_now m) is) i.word) (λ o. o ≡ None → ⊥)
      (λ _ e. no_some e)
      (λ f e. ⊎_elim (λ same. false≢true (sym f ∙ eq-eqb j.word i.word (ap (λ (x : Install). x.word) same))) (λ later. some_value is i later e) (in_cons j is i c))
      none
    where
      no_some : {A : Type 0} {x : A} → Some x ≡ None → ⊥
      no_some e = cc

  pub own_installs : (i : Install) → Contains (installs_by m.installs a) i → Contains m.installs i × (i.attempt ≡ a)
  own_installs i c =
      let f = in_filter (λ (j : Install). same_attempt j.attempt a) m.installs i c in
      let parts = same_parts i.attempt a f.1 in
      (f.0, attempt_same i.attempt a parts.0 parts.1)

  installs_own : (i : Install) → Contains m.installs i → i.attempt ≡ a → Contains (installs_by m.installs a) i
  installs_own i c mine = filter_in (λ (j : Install). same_attempt j.attempt a) m.installs i c (same_from i.attempt a (ap (λ (b : AttemptId). b.desc) mine) (ap (λ (b : AttemptId). b.serial) mine))

  module _ (new : ℕ) (same_serial : serial_of new ≡ a.serial) (e : HistoryEntry) (of : e.attempt ≡ a) (kept : Bool) (choice : List Bool) (fits : length choice ≡ length m.history) where
    abbrev later : List ℕ
    later = set m.words (address (shape_of m) (desc_status a.desc)) new

    -- the machine afterwards
    abbrev pub readied : Machine
    readied = record m { words = later; history = m.history ++ e ∷ [] }

    abbrev chosen : List Bool
    chosen = choice ++ kept ∷ []

    -- every place but the status is as it was
    pub aside : (q : Place) → Exists (shape_of m) q → q ≢ desc_status a.desc → word_at (shape_of m) later q ≡ word_at (shape_of m) m.words q
    aside q there apart = get_or-set_other m.words (address (shape_of m) (desc_status a.desc)) (address (shape_of m) q) new 0 (address_differs (shape_of m) q (desc_status a.desc) there u.exists apart)

    aside_counted : (word : ℕ) → IsCounted (shape_of m) word → content readied word ≡ content m word
    aside_counted word counted = get_or-set_other m.words (address (shape_of m) (desc_status a.desc)) word new 0
        (λ q. true≢false (sym counted.1 ∙ ap (λ w. is_counted (place_at (shape_of m) w)) q ∙ ap is_counted (place_at-address (shape_of m) (desc_status a.desc) u.exists)))

    serial_stays : (d : ℕ) → d < desc_count (shape_of m) → serial_of (status_at readied d) ≡ serial_of (status_at m d)
    serial_stays d there = ⊎_elim
        (λ q. ap (λ x. serial_of (word_at (shape_of m) later (desc_status x))) q ∙ ap serial_of (status_new (shape_of m) m.words u.field a.desc new u.exists) ∙ same_serial ∙ sym serial_is ∙ ap (λ x. serial_of (status_at m x)) (sym q))
        (λ ne. ap serial_of (status_other (shape_of m) m.words u.field a.desc new u.exists d there ne))
        (cases_eq d a.desc)

    -- the value under the slot of a present install
    under_before : (i : Install) → IsPresentIn (shape_of m) m.words i.attempt
        → value_under m choice (spot_of_install i) ≡ cond (is_kept m.history choice i.attempt) (word_at (shape_of m) m.words (slot_new i.attempt.desc i.slot)) (value_of (word_at (shape_of m) m.words (slot_old i.attempt.desc i.slot)))
    under_before i now = ap (λ b. cond (is_kept m.history choice b) (word_at (shape_of m) m.words (slot_new i.attempt.desc i.slot)) (value_of (word_at (shape_of m) m.words (slot_old i.attempt.desc i.slot))))
        (sym (ap (attempt_of i.attempt.desc) now))

    under_after : (i : Install) → Contains m.installs i → IsPresentIn (shape_of m) m.words i.attempt
        → value_under readied chosen (spot_of_install i) ≡ cond (is_kept m.history choice i.attempt || (kept && same_attempt a i.attempt)) (word_at (shape_of m) m.words (slot_new i.attempt.desc i.slot)) (value_of (word_at (shape_of m) m.words (slot_old i.attempt.desc i.slot)))
    under_after i c now =
        let d = i.attempt.desc in
        let there = (u.installs.fits i c).exists in
        let slot = ((u.installs.fits i c).slot now).exists in
        let is : present readied d ≡ i.attempt = ap (attempt_of d) (serial_stays d there ∙ sym now) in
        let keeps : is_kept (m.history ++ e ∷ []) chosen (present readied d) ≡ (is_kept m.history choice i.attempt || (kept && same_attempt a i.attempt)) =
        ap (is_kept (m.history ++ e ∷ []) chosen) is ∙ kept_last m.history choice e kept i.attempt fits ∙ ap (λ b. is_kept m.history choice i.attempt || (kept && same_attempt b i.attempt)) of in
        ap (λ b. cond b (word_at (shape_of m) later (slot_new d i.slot)) (value_of (word_at (shape_of m) later (slot_old d i.slot)))) keeps
        ∙ ap (λ x. cond (is_kept m.history choice i.attempt || (kept && same_attempt a i.attempt)) x (value_of (word_at (shape_of m) later (slot_old d i.slot)))) (aside (slot_new d i.slot) slot (λ q. no_new d i.slot q))
        ∙ ap (λ x. cond (is_kept m.history choice i.attempt || (kept && same_attempt a i.attempt)) (word_at (shape_of m) m.words (slot_new d i.slot)) (value_of x)) (aside (slot_old d i.slot) slot (λ q. no_old d i.slot q))
      where
        no_new : (d j : ℕ) → slot_new d j ≡ desc_status a.desc → ⊥
        no_new d j q = cc

        no_old : (d j : ℕ) → slot_old d j ≡ desc_status a.desc → ⊥
        no_old d j q = cc

    -- an own install and a present one that stand in one word are of one slot
    spot_same : (i j : Install) → Contains m.installs i → IsPresentIn (shape_of m) m.words i.attempt → Contains m.installs j → j.attempt ≡ a → j.word ≡ i.word → content m i.word ≡ installed_word i.old (spot_of_install i) → spot_of_install j ≡ spot_of_install i
    spot_same i j c now made mine at is = sym (spot_at j made (own_present j mine) i.word (ap (content m) (sym at) ∙ own_stands j made mine)) ∙ spot_at i c now i.word is

    -- what the word stands for, by the value that the slots give it
    abbrev Given : (word : ℕ) → ℕ
    Given word = if kept then unwrap_or (new_value (writes_now m a) word) (logical_value m choice word) else logical_value m choice word

    none_given : (word : ℕ) → new_value (writes_now m a) word ≡ None → Given word ≡ logical_value m choice word
    none_given word none = ap (λ o. if kept then unwrap_or o (logical_value m choice word) else logical_value m choice word) none ∙ either_way kept (logical_value m choice word)
      where
        either_way : (b : Bool) (v : ℕ) → cond b v v ≡ v
        either_way true v = refl
        either_way false v = refl

    given_even : (word : ℕ) → IsCounted (shape_of m) word → is_even (count_of (content m word)) ≡ true → logical_value readied chosen word ≡ Given word
    given_even word counted even =
        value_even readied chosen word counted (ap (λ x. is_even (count_of x)) (aside_counted word counted) ∙ even)
        ∙ ap value_of (aside_counted word counted)
        ∙ sym (value_even m choice word counted even)
        ∙ sym (none_given word (⊎_elim (λ none. none)
        (λ x. absurd (true≢false (sym even ∙ ap (λ w. is_even (count_of (content m w))) (sym x.3) ∙ own_odd x.0 x.1 x.2)))
        (value_of_writes (installs_by m.installs a) own_installs word)))

    -- under another attempt
    given_other : (i : Install) → Contains m.installs i → IsPresentIn (shape_of m) m.words i.attempt → content m i.word ≡ installed_word i.old (spot_of_install i) → same_attempt a i.attempt ≡ false
        → (value_under readied chosen (spot_of_install i) ≡ value_under m choice (spot_of_install i)) × (new_value (writes_now m a) i.word ≡ None)
    given_other i c now is other = (
      under_after i c now ∙ ap (λ b. cond b (word_at (shape_of m) m.words (slot_new i.attempt.desc i.slot)) (value_of (word_at (shape_of m) m.words (slot_old i.attempt.desc i.slot))))
          (ap (λ b. is_kept m.history choice i.attempt || (kept && b)) other ∙ not_kept (is_kept m.history choice i.attempt) kept) ∙ sym (under_before i now),
      ⊎_elim (λ none. none) (λ x.
          let desc : a.desc ≡ i.attempt.desc = ap (λ (b : AttemptId). b.desc) (sym x.2) ∙ ap (λ (s : Spot). s.desc) (spot_same i x.0 c now x.1 x.2 x.3 is) in
          absurd (true≢false (sym (same_from a i.attempt desc (sym serial_is ∙ ap (λ d. serial_of (status_at m d)) desc ∙ sym now)) ∙ other)))
          (value_of_writes (installs_by m.installs a) own_installs i.word),
    )
      where
        not_kept : (b c : Bool) → (b || (c && false)) ≡ b
        not_kept true c = refl
        not_kept false true = refl
        not_kept false false = refl

    -- under its own descriptor
    given_own : (i : Install) → Contains m.installs i → i.attempt ≡ a → value_under readied chosen (spot_of_install i) ≡ (if kept then unwrap_or (new_value (writes_now m a) i.word) (value_under m choice (spot_of_install i)) else value_under m choice (spot_of_install i))
    given_own i c mine =
        let now = own_present i mine in
        let none = unready_kept m.history choice i.attempt (ap (is_ready m.history) mine ∙ u.idle) in
        let before = under_before i now ∙ ap (λ b. cond b new_here old_here) none in
        under_after i c now
        ∙ ap (λ b. cond (b || (kept && same_attempt a i.attempt)) new_here old_here) none
        ∙ ap (λ b. cond (kept && b) new_here old_here) (same_from a i.attempt (ap (λ (b : AttemptId). b.desc) (sym mine)) (ap (λ (b : AttemptId). b.serial) (sym mine)))
        ∙ by_kept kept
        ∙ sym (ap (λ o. if kept then unwrap_or o (value_under m choice (spot_of_install i)) else value_under m choice (spot_of_install i)) given ∙ ap (λ v. if kept then new_here else v) before)
      where
        new_here : ℕ
        new_here = word_at (shape_of m) m.words (slot_new i.attempt.desc i.slot)

        old_here : ℕ
        old_here = value_of (word_at (shape_of m) m.words (slot_old i.attempt.desc i.slot))

        by_kept : (b : Bool) → cond (b && true) new_here old_here ≡ cond b new_here old_here
        by_kept true = refl
        by_kept false = refl

        given : new_value (writes_now m a) i.word ≡ Some new_here
        given = ⊎_elim
            (λ none. absurd (some_value (installs_by m.installs a) i (installs_own i c mine) none))
            (λ x. x.4 ∙ ap (λ (s : Spot). Some (word_at (shape_of m) m.words (slot_new s.desc s.slot))) (spot_same i x.0 c (own_present i mine) x.1 x.2 x.3 (own_stands i c mine)))
            (value_of_writes (installs_by m.installs a) own_installs i.word)

    given_odd : (word : ℕ) → IsCounted (shape_of m) word → is_even (count_of (content m word)) ≡ false → logical_value readied chosen word ≡ Given word
    given_odd word counted odd =
        let s = u.odd_words word counted odd in
        let i = s.install in
        let is : content m i.word ≡ installed_word i.old (spot_of_install i) = ap (content m) s.there ∙ s.holds in
        let spot = spot_at i s.made s.present word s.holds in
        let before : logical_value m choice word ≡ value_under m choice (spot_of_install i) = value_odd m choice word counted odd ∙ ap (value_under m choice) spot in
        let after : logical_value readied chosen word ≡ value_under readied chosen (spot_of_install i) =
        value_odd readied chosen word counted (ap (λ x. is_even (count_of x)) (aside_counted word counted) ∙ odd) ∙ ap (λ x. value_under readied chosen (spot_of (value_of x))) (aside_counted word counted) ∙ ap (value_under readied chosen) spot in
        ⊎_elim
        (λ same. after ∙ given_own i s.made (let parts = same_parts a i.attempt same in attempt_same i.attempt a (sym parts.0) (sym parts.1))
        ∙ ap (λ w. if kept then unwrap_or (new_value (writes_now m a) w) (value_under m choice (spot_of_install i)) else value_under m choice (spot_of_install i)) s.there
        ∙ ap (λ v. if kept then unwrap_or (new_value (writes_now m a) word) v else v) (sym before))
        (λ other. let g = given_other i s.made s.present is other in after ∙ g.0 ∙ sym before ∙ sym (none_given word (ap (new_value (writes_now m a)) (sym s.there) ∙ g.1)))
        (cases_Bool (same_attempt a i.attempt))

    -- each counted word stands for what it stood for, but that a kept entry's slots give their words the new values
    pub readied_value : (word : ℕ) → IsCounted (shape_of m) word → logical_value readied chosen word ≡ Given word
    readied_value word counted = ⊎_elim (given_even word counted) (given_odd word counted) (cases_Bool (is_even (count_of (content m word))))
