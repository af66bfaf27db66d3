-- The slot of an attempt in hand: it may be stored, and installed in the cell's word.
use Rattle.std.proofs.Common.{◌≡◌, ◌≢◌, ◌++◌, ◌<◌, ◌≤◌, ℕ, true, false, [], ◌∷◌, Some, refl, sym, ap, ◌∙◌, subst, arith, eq-eqb, ne_eqb, append_assoc, if◌then◌else◌}
use Rattle.std.specs.List.{Contains}
use Rattle.std.proofs.lemmas.List.Elements.{All-cons, All-nil, Contains-push}
use prog.Atomic.{either}
use Rattle.md_words.specs.declared.content.Content.{Content}
use Rattle.md_words.specs.declared.content.Spot.{Spot}
use Rattle.md_words.specs.declared.shape.Shape.{Shape}
use Rattle.md_words.specs.Content.{count_of, is_even, value_of, word_of}
use Rattle.md_words.specs.Layout.{Exists, IsInSet, address, words_of}
use Rattle.md_words.specs.Place.{Place, bucket_head, node_next, slot_new, slot_old, slot_word}
use Rattle.md_words.specs.PlaceAt.{IsCounted, place_at}
use Rattle.md_words.proofs.Owners.{own_node_exists}
use Rattle.md_words.proofs.Places.{address_below, address_differs, place_at-address}
use Rattle.md_words.proofs.Words.{count_of-counted_word}
use Rattle.md_machine.specs.declared.attempt.AttemptId.{AttemptId}
use Rattle.md_machine.specs.declared.attempt.Hand.{Hand}
use Rattle.md_machine.specs.declared.pass.PassView.{PassView}
use Rattle.md_machine.specs.declared.step.Kind.TheVariants.{Install as Installs, Store}
use Rattle.md_machine.specs.declared.step.Step.{Step}
use Rattle.md_machine.specs.declared.step.TheConstants.{LAST_COUNT, VALUES}
use Rattle.md_machine.specs.Event.{Acts, install, store}
use Rattle.md_machine.specs.Machine.{Machine, attempt_of, content, is_installed, shape_of, word_at}
use Rattle.md_machine.specs.Meaning.{Meaning}
use Rattle.md_machine.specs.Own.{MayInstallAt}
use Rattle.md_machine.specs.Stepping.{attempt_in_hand, left_by, step_of}
use Rattle.md_machine.specs.Trail.{LastStored, StoresFor}
use Rattle.md_machine.specs.clauses.words.Stores.{IsEntryWord}
use Rattle.md_machine.specs.events.Install.{MayBeChanged, after_install, hand_after_install, installed_word}
use Rattle.md_machine.specs.events.Start.{WonInstall}
use Rattle.md_machine.specs.events.Store.{MayStoreAt, after_store, changes_by_store, hand_after_store, stored_by_store}
use Rattle.md_machine.proofs.lists.Options.{some_same}
use Rattle.example_cell.specs.CellMeaning.{cell_word}
use Rattle.example_cell.proofs.Tidy.{at_head, cell_counted}
use Rattle.md_rule.specs.Admitted.{Admitted}
use Rattle.md_rule.specs.Kept.{IsNoNextLeft}
use Rattle.md_rule.specs.Steps.{May, Stepped, SteppedFrom}
use Rattle.md_rule.specs.Views.{Origin, PassState}
use Rattle.md_rule.proofs.Moves.{is_kept}
use Rattle.md_rule.proofs.Told.{told_install, told_store}
use Rattle.example_stalls.specs.Stalled.{AddsChange, HasFirst, HoldsFirstSlot, MakesStep, PutsIn, StoresAt, StoresSlot}
use Rattle.example_stalls.proofs.First.{first, free, is_present, unready}
use Rattle.example_stalls.proofs.Trails.{every_more}

-- a step stored at a place, with the attempt in hand before and after
pub record Stored (shape : Shape) (desc : ℕ) (place : Place) (held : ℕ) (p q : PassView) : Type 0 where
  pub step : Step
  pub makes : MakesStep step p q
  pub stores : StoresAt shape desc place held step
  pub first : HasFirst shape q desc
  pub hand : q.hand ≡ p.hand

module _ (M : Meaning) (o : Origin) (desc : ℕ) (p : PassView) (f : HasFirst o.shape p desc) where
  inside : IsInSet o.shape desc 0
  inside = (f.exists, omega arith)

  -- what a store needs of the machine: that the place is one of the slot, not installed yet
  abbrev MayBeStored : (place : Place) (value : ℕ) → Type 0
  MayBeStored place value = (m : Machine) → shape_of m ≡ o.shape → is_installed m.installs f.hand.attempt 0 ≡ false → (old : ℕ) → MayStoreAt m p f.hand.attempt old value place

  may_store : (place : Place) (word value : ℕ) → Exists o.shape place → word ≡ address o.shape place → MayBeStored place value
      → May M o (λ pass. store pass word value) p
  may_store place word value exists at ok m a pass acts = (
    after_store m pass p f.hand word value,
    (
      p,
      f.hand,
      acts,
      record {
        held = f.held;
        unready = unready M o desc p f m a pass acts;
        exists = subst (λ (h : Shape). word < words_of h) (sym a.shape) (subst (λ w. w < words_of o.shape) (sym at) (address_below o.shape place exists));
        place = subst (MayStoreAt m p f.hand.attempt (content m word) value)
            (sym (ap (λ (h : Shape). place_at h word) a.shape ∙ ap (place_at o.shape) at ∙ place_at-address o.shape place exists))
            (ok m a.shape (free M o desc p f m a pass acts 0) (content m word));
      },
      refl,
    ),
  )

  same_desc : desc ≡ f.hand.attempt.desc
  same_desc = sym (ap (λ (x : AttemptId). x.desc) f.of)

  pub may_store_word : (word value : ℕ) → word ≡ address o.shape (slot_word desc 0) → value ≡ cell_word o.shape → May M o (λ pass. store pass word value) p
  may_store_word word value at is = may_store (slot_word desc 0) word value inside at
      (λ m shape free old. (same_desc, subst (λ (h : Shape). IsCounted h value) (sym shape) (subst (IsCounted o.shape) (sym is) (cell_counted o.shape)), free))

  pub may_store_old : (word value : ℕ) → word ≡ address o.shape (slot_old desc 0) → May M o (λ pass. store pass word value) p
  may_store_old word value at = may_store (slot_old desc 0) word value inside at (λ m shape free old. (same_desc, free))

  pub may_store_new : (word value : ℕ) → word ≡ address o.shape (slot_new desc 0) → value < VALUES → May M o (λ pass. store pass word value) p
  may_store_new word value at fits = may_store (slot_new desc 0) word value inside at (λ m shape free old. (same_desc, fits))

  -- a store to a word of the slot, which wasn't installed, leaves what is in hand as it is
  abbrev KeepsHand : Place → Type 0
  KeepsHand place = Exists o.shape place × ((node : ℕ) → place ≢ node_next node)
      × ((m : Machine) (h : Hand) (old value : ℕ) → is_installed m.installs h.attempt 0 ≡ false
      → (changes_by_store m h.attempt old value place h.changes ≡ h.changes) × (stored_by_store place h.stored ≡ h.stored))

  pub keeps_word : KeepsHand (slot_word desc 0)
  keeps_word = (inside, (λ node e. cc), λ m h old value free. (refl, refl))

  pub keeps_old : KeepsHand (slot_old desc 0)
  keeps_old = (inside, (λ node e. cc), λ m h old value free. (refl, refl))

  pub keeps_new : KeepsHand (slot_new desc 0)
  keeps_new = (
    inside,
    (λ node e. cc),
    λ m h old value free. (
      ap (λ b. if b then h.changes ++ record { word = word_at (shape_of m) m.words (slot_word desc 0); old = old; new = value } ∷ [] else h.changes) free,
      refl,
    ),
  )

  kept_hand : (place : Place) → KeepsHand place → (m : Machine) → Admitted M o m → (pass : ℕ) → Acts m pass p → (word value : ℕ) → word ≡ address o.shape place
      → hand_after_store m f.hand word value ≡ f.hand
  kept_hand place keeps m a pass acts word value at =
      let h = f.hand in
      let there : place_at (shape_of m) word ≡ place = ap (λ (s : Shape). place_at s word) a.shape ∙ ap (place_at o.shape) at ∙ place_at-address o.shape place keeps.0 in
      let kept = keeps.2 m h (content m word) value (free M o desc p f m a pass acts 0) in
      ap (λ (x : Place). record h { changes = changes_by_store m h.attempt (content m word) value x h.changes; stored = stored_by_store x h.stored }) there
      ∙ ap (λ l. record h { changes = l; stored = stored_by_store place h.stored }) kept.0
      ∙ ap (λ l. record h { stored = l }) kept.1

  -- what such a store leaves
  pub stored : (place : Place) → KeepsHand place → (word value : ℕ) (q : PassView) → word ≡ address o.shape place → Stepped M o (λ pass. store pass word value) p q
      → Stored o.shape desc place value p q
  stored place keeps word value q at s =
      let m = s.machine in
      let told = told_store M o p q word value s in
      let h = told.0 in
      let e = told.2 in
      let same : h ≡ f.hand = some_same h f.hand (sym told.1.held ∙ f.held) in
      let step : Step = step_of m p Store word value in
      let makes : MakesStep step p q = record { past = ap (λ (x : PassView). x.past) e; trail = ap (λ (x : PassView). x.trail) e } in record {
        step = step;
        makes = makes;
        stores = record {
          stores = record { kind = refl; attempt = ap attempt_in_hand f.held ∙ ap (λ x. Some x) f.of; there = at };
          left = refl;
        };
        first = record {
          exists = f.exists;
          hand = hand_after_store m h word value;
          held = ap (λ (x : PassView). x.hand) e;
          of = ap (λ (x : Hand). x.attempt) same ∙ f.of;
          unready = λ x c. f.unready x (subst (λ l. Contains l x) (ap (λ (v : PassView). v.seen) e) c);
          uninstalled = every_more (λ x. ¬ WonInstall (first M o desc) x) step p q makes (λ won. let is = won.kind in cc) f.uninstalled;
          nodes = every_more _ step p q makes
              (λ node is stores. address_differs o.shape place (node_next node) keeps.0 is (keeps.1 node) (sym at ∙ stores.there)) f.nodes;
        };
        hand = ap (λ (x : PassView). x.hand) e
            ∙ ap (λ x. Some (hand_after_store m x word value)) same
            ∙ ap (λ x. Some x) (kept_hand place keeps m s.admitted s.pass s.acts word value at)
            ∙ sym f.held;
      }

  -- what was stored last for it stands there
  pub stands : (place : Place) (held : ℕ) → Exists o.shape place → IsEntryWord f.hand.attempt.desc place → LastStored p (first M o desc) (address o.shape place) held
      → (m : Machine) → Admitted M o m → (pass : ℕ) → Acts m pass p → content m (address (shape_of m) place) ≡ held
  stands place held exists entry last m a pass acts =
      let word = address o.shape place in
      let there : place_at (shape_of m) word ≡ place = ap (λ (h : Shape). place_at h word) a.shape ∙ place_at-address o.shape place exists in
      ap (λ (h : Shape). content m (address h place)) a.shape
      ∙ (is_kept M o m a).stores pass p acts.at f.hand.attempt (ap (λ (x : AttemptId). x.serial) (is_present M o desc p f m a pass acts)) word held
      (subst (IsEntryWord f.hand.attempt.desc) (sym there) entry) (subst (λ x. LastStored p x word held) (sym f.of) last)

  module _ (from : Content) (few : from.count ≤ LAST_COUNT) (even : is_even from.count ≡ true) (slot : HoldsFirstSlot o.shape desc (word_of from) p) where
    abbrev pub spot : Spot
    spot = record { desc = desc; slot = 0 }

    pub may_install : May M o (λ pass. install pass (cell_word o.shape) (word_of from) spot) p
    may_install m a pass acts =
        let count : count_of (word_of from) ≡ from.count = count_of-counted_word from.value from.count (omega (arith, few)) in
        let changed : MayBeChanged (word_of from) = record { even = ap is_even count ∙ even; room = subst (λ n. n ≤ LAST_COUNT) (sym count) few } in
        let there : place_at (shape_of m) (cell_word o.shape) ≡ bucket_head 0 0 = ap (λ (h : Shape). place_at h (cell_word o.shape)) a.shape ∙ at_head o.shape in (
          after_install m pass p f.hand (cell_word o.shape) (word_of from) spot,
          (
            p,
            f.hand,
            acts,
            record {
              held = f.held;
              unready = unready M o desc p f m a pass acts;
              own = same_desc;
              slot = inside.1;
              counted = subst (λ (h : Shape). IsCounted h (cell_word o.shape)) (sym a.shape) (cell_counted o.shape);
              place = subst (MayInstallAt m p) (sym there) tt;
              from_even = changed;
              names = stands (slot_word desc 0) (cell_word o.shape) inside same_desc slot.word m a pass acts;
              old = stands (slot_old desc 0) (word_of from) inside same_desc slot.old m a pass acts;
            },
            refl,
          ),
        )

  -- an install that won, and one that lost
  module _ (from : ℕ) (q : PassView) where
    abbrev at_slot : Spot
    at_slot = record { desc = desc; slot = 0 }

    pub put_won : SteppedFrom M o (λ pass. install pass (cell_word o.shape) from at_slot) (cell_word o.shape) from p q → PutsIn o.shape desc from true p q
    put_won (s, is) =
        let m = s.machine in
        let word = cell_word o.shape in
        let new = installed_word from at_slot in
        let e = (told_install M o p q word from at_slot s).2 in record {
          put = step_of m p Installs word (left_by m word from new);
          makes = record { past = ap (λ (x : PassView). x.past) e; trail = ap (λ (x : PassView). x.trail) e };
          is = record { kind = refl; there = refl; does = (is, ap (λ b. either b new (content m word)) (eq-eqb (content m word) from is)) };
          for = ap attempt_in_hand f.held ∙ ap (λ x. Some x) f.of;
        }

    pub put_lost : (found : ℕ) → found ≢ from → SteppedFrom M o (λ pass. install pass (cell_word o.shape) from at_slot) (cell_word o.shape) found p q → PutsIn o.shape desc from false p q
    put_lost found apart (s, is) =
        let m = s.machine in
        let word = cell_word o.shape in
        let new = installed_word from at_slot in
        let e = (told_install M o p q word from at_slot s).2 in
        let differs : content m word ≢ from = λ x. apart (sym is ∙ x) in record {
          put = step_of m p Installs word (left_by m word from new);
          makes = record { past = ap (λ (x : PassView). x.past) e; trail = ap (λ (x : PassView). x.trail) e };
          is = record { kind = refl; there = refl; does = (differs, ap (λ b. either b new (content m word)) (ne_eqb (content m word) from differs)) };
          for = ap attempt_in_hand f.held ∙ ap (λ x. Some x) f.of;
        }

    -- what is in hand then
    pub adds_won : SteppedFrom M o (λ pass. install pass (cell_word o.shape) from at_slot) (cell_word o.shape) from p q → AddsChange o.shape desc from true p q
    adds_won (s, is) h held new last =
        let m = s.machine in
        let word = cell_word o.shape in
        let told = told_install M o p q word from at_slot s in
        let same : told.0 ≡ h = some_same told.0 h (sym told.1.held ∙ held) in
        let stands_new : word_at (shape_of m) m.words (slot_new desc 0) ≡ new = stands (slot_new desc 0) new inside same_desc last m s.admitted s.pass s.acts in
        ap (λ (x : PassView). x.hand) told.2
        ∙ ap (λ b. Some (if b then hand_after_install m told.0 word from at_slot else told.0)) (eq-eqb (content m word) from is)
        ∙ ap (λ (x : Hand). Some (hand_after_install m x word from at_slot)) same
        ∙ ap (λ n. Some (record h { changes = h.changes ++ record { word = word; old = value_of from; new = n } ∷ [] })) stands_new

    pub adds_lost : (found : ℕ) → found ≢ from → SteppedFrom M o (λ pass. install pass (cell_word o.shape) from at_slot) (cell_word o.shape) found p q → AddsChange o.shape desc from false p q
    adds_lost found apart (s, is) =
        let m = s.machine in
        let word = cell_word o.shape in
        let told = told_install M o p q word from at_slot s in
        ap (λ (x : PassView). x.hand) told.2
        ∙ ap (λ b. Some (if b then hand_after_install m told.0 word from at_slot else told.0)) (ne_eqb (content m word) from (λ x. apart (sym is ∙ x)))
        ∙ sym told.1.held

-- the cell's word is the next word of no node
pub no_next : (p : PassState) (word : ℕ) → word ≡ cell_word p.shape → IsNoNextLeft p word
no_next p word at node left is =
    let exists = own_node_exists p.shape left.0 node left.2 in
    let same : bucket_head 0 0 ≡ node_next node = sym (at_head p.shape) ∙ ap (place_at p.shape) (sym at ∙ is) ∙ place_at-address p.shape (node_next node) exists in cc

-- the new value that three steps stored in a slot was stored there last
pub holds_new : (shape : Shape) (desc from value : ℕ) (p q : PassView) → StoresSlot shape desc from value p q → LastStored q (attempt_of desc 0) (address shape (slot_new desc 0)) value
holds_new shape desc from value p q s = record {
  store = record {
    earlier = p.trail ++ s.word ∷ s.old ∷ [];
    step = s.new;
    later = [];
    segment = subst (λ l. Contains (q.past ++ q.trail ∷ []) l) (s.trail ∙ sym (append_assoc p.trail (s.word ∷ s.old ∷ []) (s.new ∷ []))) (Contains-push q.past q.trail);
    such = s.stores_new.stores;
  };
  left = s.stores_new.left;
  last = All-nil _;
}

pub holds_slot : (shape : Shape) (desc from value : ℕ) (p q : PassView) → IsInSet shape desc 0 → StoresSlot shape desc from value p q → HoldsFirstSlot shape desc from q
holds_slot shape desc from value p q set s =
    let old_word : address shape (slot_old desc 0) ≢ address shape (slot_word desc 0) = address_differs shape (slot_old desc 0) (slot_word desc 0) set set (λ e. cc) in
    let new_word : address shape (slot_new desc 0) ≢ address shape (slot_word desc 0) = address_differs shape (slot_new desc 0) (slot_word desc 0) set set (λ e. cc) in
    let new_old : address shape (slot_new desc 0) ≢ address shape (slot_old desc 0) = address_differs shape (slot_new desc 0) (slot_old desc 0) set set (λ e. cc) in
    let there = s.stores_old.stores.there in
    let other = s.stores_new.stores.there in record {
      word = record {
        store = record {
          earlier = p.trail;
          step = s.word;
          later = s.old ∷ s.new ∷ [];
          segment = subst (λ l. Contains (q.past ++ q.trail ∷ []) l) s.trail (Contains-push q.past q.trail);
          such = s.stores_word.stores;
        };
        left = s.stores_word.left;
        last = All-cons (none (slot_word desc 0)) s.old (s.new ∷ []) (λ x. old_word (sym there ∙ x.there)) (All-cons (none (slot_word desc 0)) s.new [] (λ x. new_word (sym other ∙ x.there)) (All-nil (none (slot_word desc 0))));
      };
      old = record {
        store = record {
          earlier = p.trail ++ s.word ∷ [];
          step = s.old;
          later = s.new ∷ [];
          segment = subst (λ l. Contains (q.past ++ q.trail ∷ []) l) (s.trail ∙ sym (append_assoc p.trail (s.word ∷ []) (s.old ∷ s.new ∷ []))) (Contains-push q.past q.trail);
          such = s.stores_old.stores;
        };
        left = s.stores_old.left;
        last = All-cons (none (slot_old desc 0)) s.new [] (λ x. new_old (sym other ∙ x.there)) (All-nil (none (slot_old desc 0)));
      };
    }
  where
    none : Place → Step → Type 0
    none place x = ¬ StoresFor (attempt_of desc 0) (address shape place) x
