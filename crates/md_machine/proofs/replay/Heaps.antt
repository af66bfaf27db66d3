-- How the logical heap of a resolution goes on where the history stays: it agrees with what it was, but for a word that is
-- exchanged or taken out of.
use Rattle.std.proofs.Common.{◌≡◌, ◌≢◌, ◌+◌, ◌<◌, ℕ, Bool, false, cond, List, length, set, get_or, refl, sym, ap, ◌∙◌, subst, ⊎_elim, get_or-set_same, get_or-set_other, eq-eqb, ne_eqb, None, is_none, IsTrue, arith}
use Rattle.std.specs.Prelude.{◌==◌}
use Rattle.std.specs.List.{All}
use Rattle.std.proofs.lemmas.List.Elements.{All-nil}
use Rattle.std.proofs.lemmas.List.{set-get_or}
use Rattle.std.proofs.lemmas.Bool.{cases_eq, cond-true, cond-false, false≢true, true≢false}
use Rattle.md_words.specs.Content.{value_of, count_of, is_even, spot_of, spot_value}
use Rattle.md_words.specs.Status.{serial_of}
use Rattle.md_words.specs.Place.{Place, base_word, bucket_head, queue_head, queue_tail, node_key, node_value, node_next, desc_status, read_word, read_content, slot_word, slot_old, slot_new, is_counted}
use Rattle.md_words.specs.Layout.{address, desc_count, Exists, IsNode}
use Rattle.md_words.specs.PlaceAt.{place_at, IsCounted}
use Rattle.md_words.proofs.Places.{place_at-address, address-place_at}
use Rattle.md_words.proofs.Words.{value_of-counted_word, spot_of-spot_value}
use Rattle.md_machine.specs.declared.attempt.AttemptId.{AttemptId}
use Rattle.md_machine.specs.declared.certificate.Change.{Change}
use Rattle.md_machine.specs.declared.certificate.NewNode.{NewNode}
use Rattle.md_machine.proofs.chain.Values.{unready_kept, value_even, value_odd}
use Rattle.md_machine.proofs.events.Attempts.{attempt_same}
use Rattle.md_machine.proofs.events.Leaves.{exchange_even, install_odd, uninstall_even}
use Rattle.md_machine.proofs.events.MoveFacts.{MoveFacts}
use Rattle.md_machine.proofs.events.Moves.{Effect, Moves, WinsExchange, WinsInstall, WinsUninstall, by_exchange, by_fate, by_install, by_ready, by_start, by_stay, by_store, by_uninstall, own_exists}
use Rattle.md_machine.proofs.lists.Rising.{here, there}
use Rattle.md_machine.proofs.replay.Under.{Grounds, value_stays}
use Rattle.md_machine.proofs.resolutions.Placing.{never_means}
use Rattle.md_machine.specs.LogicalHeap.{AgreeWherePlaced, IsNoUnplacedNext, IsPlaced, LogicalHeap, after_nodes, changed}
use Rattle.md_machine.specs.Machine.{Machine, attempt_of, content, is_ready, present, shape_of, status_at, word_at}
use Rattle.md_machine.specs.Meaning.{Meaning, TidyStands, after_tidy}
use Rattle.md_machine.specs.Own.{IsOwnNode}
use Rattle.md_machine.specs.Resolution.{Resolves, is_kept, logical_heap, logical_value, placed_under, value_under}
use Rattle.md_machine.specs.clauses.words.Formats.{AreFormats}
use Rattle.md_machine.specs.events.Exchange.{exchanged_word}
use Rattle.md_machine.specs.events.Install.{installed_word}
use Rattle.md_machine.specs.events.Store.{MayStoreAt}
use Rattle.md_machine.specs.events.Uninstall.{uninstalled_word}

module _ (M : Meaning) (m n : Machine) (w : Moves M m n) (choice : List Bool) (r : Resolves m choice) (fated : length m.fates ≡ length m.history) where
  -- an own node isn't placed
  unplaced : (node : ℕ) → IsOwnNode m w.p node → IsPlaced (logical_heap m choice) node → ⊥
  unplaced node own placed = true≢false (sym ((never_means m node fated).0 own.1 choice r) ∙ ap is_none placed.1)

  same_words : w.new ≡ content m w.word → n.words ≡ m.words
  same_words same = w.words ∙ ap (set m.words w.word) same ∙ set-get_or m.words w.word 0

  status_there : (q : Place) → place_at (shape_of m) w.word ≡ q → (d : ℕ) → d < desc_count (shape_of m) → w.word ≡ address (shape_of m) (desc_status d) → q ≡ desc_status d
  status_there q at d exists is = sym at ∙ ap (place_at (shape_of m)) is ∙ place_at-address (shape_of m) (desc_status d) exists

  -- a word that isn't counted, of no status, and stored only if it is an own node's, is that of a placed node as before
  node_hit : (q : Place) (node : ℕ) → is_counted q ≡ false → ((d : ℕ) → q ≡ desc_status d → ⊥) → ((a : AttemptId) (old value : ℕ) → MayStoreAt m w.p a old value q → IsOwnNode m w.p node) → IsPlaced (logical_heap m choice) node
      → place_at (shape_of m) w.word ≡ q → Effect M m n w.p w.kind w.word w.new → word_at (shape_of m) n.words q ≡ word_at (shape_of m) m.words q
  node_hit q node plain apart own placed at (by_stay s) = ap (λ ws. word_at (shape_of m) ws q) (same_words s.same)
  node_hit q node plain apart own placed at (by_store s) = absurd (unplaced node (own s.hand.attempt (content m w.word) w.new (subst (MayStoreAt m w.p s.hand.attempt (content m w.word) w.new) at s.may.place)) placed)
  node_hit q node plain apart own placed at (by_install s) = absurd (true≢false (sym s.may.counted.1 ∙ ap is_counted at ∙ plain))
  node_hit q node plain apart own placed at (by_exchange s) = absurd (true≢false (sym s.may.counted.1 ∙ ap is_counted at ∙ plain))
  node_hit q node plain apart own placed at (by_uninstall s) = absurd (true≢false (sym s.may.counted.1 ∙ ap is_counted at ∙ plain))
  node_hit q node plain apart own placed at (by_ready s) = absurd (apart s.hand.attempt.desc (status_there q at s.hand.attempt.desc (own_exists m w.p s.hand.attempt.desc s.may.own) s.there))
  node_hit q node plain apart own placed at (by_fate s) = absurd (apart s.desc (status_there q at s.desc (⊎_elim (λ c. c.1.exists) (λ a. a.1.exists) s.may) s.there))
  node_hit q node plain apart own placed at (by_start s) = absurd (apart s.desc (status_there q at s.desc (own_exists m w.p s.desc s.may.own) s.there))

  node_stays : (q : Place) (node : ℕ) → Exists (shape_of m) q → is_counted q ≡ false → ((d : ℕ) → q ≡ desc_status d → ⊥) → ((a : AttemptId) (old value : ℕ) → MayStoreAt m w.p a old value q → IsOwnNode m w.p node) → IsPlaced (logical_heap m choice) node
      → word_at (shape_of m) n.words q ≡ word_at (shape_of m) m.words q
  node_stays q node exists plain apart own placed = ⊎_elim
      (λ e. node_hit q node plain apart own placed (ap (place_at (shape_of m)) (sym e) ∙ place_at-address (shape_of m) q exists) w.effect)
      (λ ne. ap (λ ws. word_at (shape_of m) ws q) w.words ∙ get_or-set_other m.words w.word (address (shape_of m) q) w.new 0 ne)
      (cases_eq (address (shape_of m) q) w.word)

  -- keys and values of placed nodes stay
  pub key_stays : (node : ℕ) → IsNode (shape_of m) node → IsPlaced (logical_heap m choice) node → word_at (shape_of m) n.words (node_key node) ≡ word_at (shape_of m) m.words (node_key node)
  key_stays node exists = node_stays (node_key node) node exists refl (λ d e. no_status d e) (λ a old value own. own)
    where
      no_status : (d : ℕ) → node_key node ≡ desc_status d → ⊥
      no_status d e = cc

  pub node_value_stays : (node : ℕ) → IsNode (shape_of m) node → IsPlaced (logical_heap m choice) node → word_at (shape_of m) n.words (node_value node) ≡ word_at (shape_of m) m.words (node_value node)
  node_value_stays node exists = node_stays (node_value node) node exists refl (λ d e. no_status d e) (λ a old value own. own)
    where
      no_status : (d : ℕ) → node_value node ≡ desc_status d → ⊥
      no_status d e = cc

  -- the machine afterwards, as far as a logical heap sees it where the history stays
  abbrev pub onward : Machine
  onward = record m { words = n.words }

  elsewhere : (word : ℕ) → word ≢ w.word → content n word ≡ content m word
  elsewhere word apart = ap (λ ws. get_or ws word 0) w.words ∙ get_or-set_other m.words w.word word w.new 0 apart

  module _ (v : MoveFacts m n) (formats : AreFormats (shape_of m) m.words) (g : Grounds m) where
    here_now : (word : ℕ) → IsCounted (shape_of m) word → word ≡ w.word → content n word ≡ w.new
    here_now word counted here =
        let inside = counted.0 in
        let field = g.field in
        ap (λ ws. get_or ws word 0) w.words ∙ ap (λ x. get_or (set m.words w.word w.new) x 0) here ∙ get_or-set_same m.words w.word w.new 0 (omega (arith, here, inside, field))

    -- a word that isn't changed stands for what it stood for
    same_value : (word : ℕ) → IsCounted (shape_of m) word → content n word ≡ content m word → logical_value onward choice word ≡ logical_value m choice word
    same_value word counted = subst (λ ws. get_or ws word 0 ≡ content m word → logical_value (record m { words = ws }) choice word ≡ logical_value m choice word) (sym v.words) (value_stays m n v g choice word counted)

    -- a counted word that is stored is an own node's next word
    store_owns : (q : Place) (a : AttemptId) (old value : ℕ) → IsTrue (is_counted q) → MayStoreAt m w.p a old value q → (node : ℕ) × (q ≡ node_next node) × IsOwnNode m w.p node
    store_owns (node_next node) a old value c may = (node, refl, may.0)
    store_owns base_word a old value c may = absurd may
    store_owns (bucket_head _ _) a old value c may = absurd may
    store_owns (queue_head _) a old value c may = absurd may
    store_owns (queue_tail _) a old value c may = absurd may
    store_owns (node_key _) a old value c may = absurd (false≢true c)
    store_owns (node_value _) a old value c may = absurd (false≢true c)
    store_owns (desc_status _) a old value c may = absurd may
    store_owns (read_word _ _) a old value c may = absurd (false≢true c)
    store_owns (read_content _ _) a old value c may = absurd (false≢true c)
    store_owns (slot_word _ _) a old value c may = absurd (false≢true c)
    store_owns (slot_old _ _) a old value c may = absurd (false≢true c)
    store_owns (slot_new _ _) a old value c may = absurd (false≢true c)

    no_status : (d : ℕ) → d < desc_count (shape_of m) → (word : ℕ) → IsCounted (shape_of m) word → word ≡ w.word → w.word ≡ address (shape_of m) (desc_status d) → ⊥
    no_status d exists word counted here there = true≢false (sym counted.1 ∙ ap (λ x. is_counted (place_at (shape_of m) x)) (here ∙ there) ∙ ap is_counted (place_at-address (shape_of m) (desc_status d) exists))

    -- what an install leaves stands for what it found
    installed_value : (word : ℕ) → IsCounted (shape_of m) word → word ≡ w.word → WinsInstall m n w.p w.kind w.word w.new → logical_value onward choice word ≡ logical_value m choice word
    installed_value word counted here s =
        let may = s.may in
        let d = s.to.desc in
        let room = may.from_even.room in
        let was : content m word ≡ s.from = ap (content m) here ∙ s.was in
        let now : content n word ≡ installed_word s.from s.to = here_now word counted here ∙ s.is in
        let small = may.slot in
        let spot : spot_of (value_of (installed_word s.from s.to)) ≡ s.to = ap spot_of (value_of-counted_word (spot_value s.to) (count_of s.from + 1) (omega (arith, room))) ∙ spot_of-spot_value s.to (omega (arith, small)) in
        let fits = g.hands.fits w.pass w.p s.hand w.acts.at may.held in
        let exists : d < desc_count (shape_of m) = subst (λ x. x < desc_count (shape_of m)) (sym may.own) (own_exists m w.p s.hand.attempt.desc fits.own) in
        let aside : (q : Place) → Exists (shape_of m) q → is_counted q ≡ false → word_at (shape_of m) n.words q ≡ word_at (shape_of m) m.words q = λ q there plain.
        elsewhere (address (shape_of m) q) (λ e. true≢false (sym s.may.counted.1 ∙ ap (λ x. is_counted (place_at (shape_of m) x)) (sym e) ∙ ap is_counted (place_at-address (shape_of m) q there) ∙ plain)) in
        let serial : serial_of (word_at (shape_of m) n.words (desc_status d)) ≡ s.hand.attempt.serial = ap serial_of (aside (desc_status d) exists refl) ∙ ap (λ x. serial_of (status_at m x)) may.own ∙ sym fits.present in
        let is : present onward d ≡ s.hand.attempt = attempt_same (attempt_of d (serial_of (word_at (shape_of m) n.words (desc_status d)))) s.hand.attempt may.own serial in
        let none : is_kept m.history choice (present onward d) ≡ false = unready_kept m.history choice (present onward d) (ap (is_ready m.history) is ∙ may.unready) in
        value_odd onward choice word counted (ap (λ x. is_even (count_of x)) now ∙ install_odd s.from s.to may.from_even)
        ∙ ap (λ x. value_under onward choice (spot_of (value_of x))) now
        ∙ ap (value_under onward choice) spot
        ∙ ap (λ b. cond b (word_at (shape_of m) n.words (slot_new d s.to.slot)) (value_of (word_at (shape_of m) n.words (slot_old d s.to.slot)))) none
        ∙ ap value_of (aside (slot_old d s.to.slot) (exists, may.slot) refl ∙ may.old ∙ sym was)
        ∙ sym (value_even m choice word counted (ap (λ x. is_even (count_of x)) was ∙ may.from_even.even))

    -- what an uninstall leaves stands for the value that it leaves
    uninstalled_value : (word : ℕ) → IsCounted (shape_of m) word → word ≡ w.word → (s : WinsUninstall m n w.p w.kind w.word w.new) → logical_value onward choice word ≡ s.value
    uninstalled_value word counted here s =
        let now : content n word ≡ uninstalled_word s.from s.value = here_now word counted here ∙ s.is in
        let was = ap count_of s.was in
        let room = formats.room w.word s.may.counted (ap is_even was ∙ s.may.odd) in
        value_even onward choice word counted (ap (λ x. is_even (count_of x)) now ∙ uninstall_even m w.p w.word s.from s.value formats s.may s.was)
        ∙ ap value_of now
        ∙ value_of-counted_word s.value (count_of s.from + 1) (omega (arith, was, room))

    -- an uninstall leaves the value that the word stands for. (The trails tell so.)
    abbrev pub LeavesValue : Type 0
    LeavesValue = (s : WinsUninstall m n w.p w.kind w.word w.new) → s.value ≡ logical_value m choice w.word

    -- an event that is neither a won exchange nor a won ready step
    abbrev pub IsPlain : Effect M m n w.p w.kind w.word w.new → Type 0
    IsPlain (by_exchange s) = ⊥
    IsPlain (by_ready s) = ⊥
    IsPlain _ = Unit {0}

    plain_value : LeavesValue → (word : ℕ) → IsCounted (shape_of m) word → IsNoUnplacedNext (logical_heap m choice) word → word ≡ w.word → (e : Effect M m n w.p w.kind w.word w.new) → IsPlain e
        → logical_value onward choice word ≡ logical_value m choice word
    plain_value leaves word counted free here (by_stay s) plain = same_value word counted (here_now word counted here ∙ s.same ∙ ap (content m) (sym here))
    plain_value leaves word counted free here (by_store s) plain =
        let own = store_owns (place_at (shape_of m) w.word) s.hand.attempt (content m w.word) w.new (subst (λ x. IsTrue (is_counted (place_at (shape_of m) x))) here counted.1) s.may.place in
        let place : place_at (shape_of m) word ≡ node_next own.0 = ap (place_at (shape_of m)) here ∙ own.1 in
        let at = address-place_at (shape_of m) word counted.0 in
        absurd (unplaced own.0 own.2 (free own.0 (subst (Exists (shape_of m)) place at.0) (sym at.1 ∙ ap (address (shape_of m)) place)))
    plain_value leaves word counted free here (by_install s) plain = installed_value word counted here s
    plain_value leaves word counted free here (by_exchange s) plain = absurd plain
    plain_value leaves word counted free here (by_uninstall s) plain = uninstalled_value word counted here s ∙ leaves s ∙ ap (logical_value m choice) (sym here)
    plain_value leaves word counted free here (by_ready s) plain = absurd plain
    plain_value leaves word counted free here (by_fate s) plain = absurd (no_status s.desc (⊎_elim (λ c. c.1.exists) (λ a. a.1.exists) s.may) word counted here s.there)
    plain_value leaves word counted free here (by_start s) plain = absurd (no_status s.desc (own_exists m w.p s.desc s.may.own) word counted here s.there)

    -- placed nodes are nodes of the field
    abbrev pub PlacedExist : Type 0
    PlacedExist = (node : ℕ) → IsPlaced (logical_heap m choice) node → IsNode (shape_of m) node

    -- after a plain event the logical heap agrees with what it was
    pub plain_agrees : PlacedExist → LeavesValue → IsPlain w.effect → AgreeWherePlaced (logical_heap m choice) (logical_heap onward choice)
    plain_agrees exist leaves plain = record {
      shape = refl;
      placed = λ node. refl;
      value = λ word counted free. ⊎_elim
          (λ here. plain_value leaves word counted free here w.effect plain)
          (λ apart. same_value word counted (elsewhere word apart))
          (cases_eq word w.word);
      key_of = λ node placed. key_stays node (exist node placed) placed;
      value_of_node = λ node placed. node_value_stays node (exist node placed) placed;
    }

    -- what an exchange leaves stands for the value that it leaves
    exchanged_value : (word : ℕ) → IsCounted (shape_of m) word → word ≡ w.word → (s : WinsExchange M m n w.p w.kind w.word w.new) → logical_value onward choice word ≡ s.to
    exchanged_value word counted here s =
        let now : content n word ≡ exchanged_word s.from s.to = here_now word counted here ∙ s.is in
        let room = s.may.from_even.room in
        value_even onward choice word counted (ap (λ x. is_even (count_of x)) now ∙ exchange_even s.from s.to s.may.from_even)
        ∙ ap value_of now
        ∙ value_of-counted_word s.to (count_of s.from + 2) (omega (arith, room))

    -- after an exchange it agrees with what the tidy change leaves
    abbrev pub exchange_of : WinsExchange M m n w.p w.kind w.word w.new → Change
    exchange_of s = record { word = w.word; old = value_of s.from; new = s.to }

    pub exchange_agrees : PlacedExist → (s : WinsExchange M m n w.p w.kind w.word w.new)
        → AgreeWherePlaced (record { words = changed (logical_heap m choice).words (exchange_of s); placed = placed_under m choice }) (logical_heap onward choice)
    exchange_agrees exist s = record {
      shape = refl;
      placed = λ node. refl;
      value = λ word counted free. ⊎_elim
          (λ here. exchanged_value word counted here s ∙ sym (cond-true (word == w.word) s.to (logical_value m choice word) (eq-eqb word w.word here)))
          (λ apart. same_value word counted (elsewhere word apart) ∙ sym (cond-false (word == w.word) s.to (logical_value m choice word) (ne_eqb word w.word apart)))
          (cases_eq word w.word);
      key_of = λ node placed. key_stays node (exist node placed) placed;
      value_of_node = λ node placed. node_value_stays node (exist node placed) placed;
    }

    -- the tidy change stands in the logical heap
    pub exchange_stands : (s : WinsExchange M m n w.p w.kind w.word w.new) → TidyStands (logical_heap m choice) s.may.tidy.tidy
    exchange_stands s = record {
      old = subst (λ (c : Change). logical_value m choice c.word ≡ c.old) (sym s.may.tidy.change)
          (value_even m choice w.word s.may.counted (ap (λ x. is_even (count_of x)) s.was ∙ s.may.from_even.even) ∙ ap value_of s.was);
      facts = s.may.tidy.facts (eq-eqb (content m w.word) s.from s.was) choice r;
      fresh = subst (All (λ k. placed_under m choice k.node ≡ None)) (sym s.may.tidy.bare) (All-nil (λ (k : NewNode). placed_under m choice k.node ≡ None));
    }

    pub exchange_leaves : (s : WinsExchange M m n w.p w.kind w.word w.new)
        → after_tidy (logical_heap m choice) s.may.tidy.tidy ≡ record { words = changed (logical_heap m choice).words (exchange_of s); placed = placed_under m choice }
    exchange_leaves s =
        ap (after_nodes (record { words = changed (logical_heap m choice).words s.may.tidy.tidy.change; placed = placed_under m choice })) s.may.tidy.bare
        ∙ ap (λ (c : Change). let left : LogicalHeap = record { words = changed (logical_heap m choice).words c; placed = placed_under m choice } in left) s.may.tidy.change
