-- A pass stores a word, and then a content, in a read of the attempt that it has in hand.
use Rattle.std.proofs.Common.{◌≡◌, ◌⊎◌, ◌∷◌, ◌<◌, ℕ, false, [], Some, refl, sym, ap, ◌∙◌, subst, inl, inr, ⊎_elim}
use Rattle.std.proofs.lemmas.List.Elements.{All-head}
use Rattle.std.specs.List.{Contains}
use Rattle.md_words.specs.Layout.{Exists, IsInSet, address, words_of}
use Rattle.md_words.specs.Place.{Place, read_content, read_word}
use Rattle.md_words.specs.PlaceAt.{IsCounted, place_at}
use Rattle.md_words.proofs.Places.{address_below, place_at-address}
use Rattle.md_machine.specs.declared.attempt.Hand.{Hand}
use Rattle.md_machine.specs.declared.pass.PassView.{PassView}
use Rattle.md_machine.specs.declared.step.Step.{Step}
use Rattle.md_machine.specs.declared.step.Kind.TheVariants.{Store}
use Rattle.md_machine.specs.Event.{store}
use Rattle.md_machine.specs.Machine.{Machine, content, is_ready, shape_of}
use Rattle.md_machine.specs.Meaning.{Meaning}
use Rattle.md_machine.specs.Own.{HasDesc}
use Rattle.md_machine.specs.Stepping.{attempt_in_hand, stepped}
use Rattle.md_machine.specs.Trail.{StoresFor}
use Rattle.md_machine.specs.clauses.nodes.FreeNodes.{IsFreeBy}
use Rattle.md_machine.specs.events.Store.{MayStoreAt, after_store, changes_by_store, hand_after_store, stored_by_store}
use Rattle.md_machine.proofs.lists.Options.{some_same}
use Rattle.md_rule.specs.Steps.{May, Stepped}
use Rattle.md_rule.specs.Views.{Origin}
use Rattle.md_rule.proofs.Told.{told_store}
use Rattle.md_help.specs.After.{IsAfter, StandsInField}
use Rattle.md_help.proofs.Steps.{IsFor, Made, both_after, known_stays, made, stands_made}
use Rattle.md_nbtc_law.proofs.looks.Loaded.{free_over}
use Rattle.md_nbtc_law.proofs.nodes.Stores.{unready_there}

-- a pass has this in hand: an attempt of one of its descriptors that isn't ready
pub record Prepares (o : Origin) (v : PassView) (h : Hand) : Type 0 where
  pub held : v.hand ≡ Some h
  pub desc : HasDesc o.shape v h.attempt.desc
  pub unready : is_ready v.seen h.attempt ≡ false

module _ (M : Meaning) (o : Origin) (h : Hand) (i : ℕ) (within : IsInSet o.shape h.attempt.desc i) where
  -- the place of the word of the read, or of its content
  abbrev pub IsPart : Place → Type 0
  IsPart place = (place ≡ read_word h.attempt.desc i) ⊎ (place ≡ read_content h.attempt.desc i)

  part_exists : (place : Place) → IsPart place → Exists o.shape place
  part_exists place is = ⊎_elim (λ e. subst (Exists o.shape) (sym e) within) (λ e. subst (Exists o.shape) (sym e) within) is

  -- what may be stored there: a counted word, or any content
  pub may_part : (v : PassView) → Prepares o v h → (place : Place) (value : ℕ) → IsPart place → (place ≡ read_word h.attempt.desc i → IsCounted o.shape value)
      → May M o (λ pass. store pass (address o.shape place) value) v
  may_part v p place value is counted m admitted pass acts =
      let word = address o.shape place in
      let At : Place → Type 0 = MayStoreAt m v h.attempt (content m word) value in
      let at : At place = ⊎_elim
      (λ e. subst At (sym e) (refl, subst (λ s. IsCounted s value) (sym admitted.shape) (counted e)))
      (λ e. subst At (sym e) refl) is in
      let there : place_at (shape_of m) word ≡ place = ap (λ s. place_at s word) admitted.shape ∙ place_at-address o.shape place (part_exists place is) in (
        after_store m pass v h word value,
        (
          v,
          h,
          acts,
          record {
            held = p.held;
            unready = unready_there M o v h p.desc p.unready m admitted pass acts;
            exists = subst (λ s. word < words_of s) (sym admitted.shape) (address_below o.shape place (part_exists place is));
            place = subst At (sym there) at;
          },
          refl,
        ),
      )

  -- what it leaves: one step, and nothing else is in hand than before
  pub record StoredPart (v : PassView) (place : Place) (value : ℕ) (q : PassView) : Type 0 where
    pub found : ℕ
    pub made : Made o.shape Store (address o.shape place) found value v q
    pub stores : StoresFor h.attempt (address o.shape place) made.step
    pub again : Prepares o q h
    pub stands : StandsInField M o q
    pub free : (lane : ℕ) → Contains v.lanes lane → (node : ℕ) → IsFreeBy v.seen v.known node → IsFreeBy q.seen q.known node

  idle : (m : Machine) (old value : ℕ) (place : Place) → IsPart place
      → (changes_by_store m h.attempt old value place h.changes ≡ h.changes) × (stored_by_store place h.stored ≡ h.stored)
  idle m old value place is = ⊎_elim (λ e. subst Idle (sym e) (refl, refl)) (λ e. subst Idle (sym e) (refl, refl)) is
    where
      Idle : Place → Type 0
      Idle p = (changes_by_store m h.attempt old value p h.changes ≡ h.changes) × (stored_by_store p h.stored ≡ h.stored)

  view_is : (v : PassView) → Prepares o v h → (place : Place) (value : ℕ) → IsPart place → (q : PassView)
      → (step : Stepped M o (λ pass. store pass (address o.shape place) value) v q) → q ≡ stepped step.machine v Store (address o.shape place) value
  view_is v p place value is q step =
      let word = address o.shape place in
      let m = step.machine in
      let told = told_store M o v q word value step in
      let same : told.0 ≡ h = some_same told.0 h (sym told.1.held ∙ p.held) in
      let base = stepped m v Store word value in
      let there : place_at (shape_of m) word ≡ place = ap (λ s. place_at s word) step.admitted.shape ∙ place_at-address o.shape place (part_exists place is) in
      let none = idle m (content m word) value place is in
      told.2 ∙ ap (λ (x : Hand). record base { hand = Some (hand_after_store m x word value) }) same
      ∙ ap (λ x. record base { hand = Some (record h { changes = changes_by_store m h.attempt (content m word) value x h.changes; stored = stored_by_store x h.stored }) }) there
      ∙ ap (λ c. record base { hand = Some (record h { changes = c; stored = stored_by_store place h.stored }) }) none.0
      ∙ ap (λ s. record base { hand = Some (record h { stored = s }) }) none.1
      ∙ ap (λ x. record base { hand = x }) (sym p.held)

  pub stored_part : (v : PassView) → Prepares o v h → (place : Place) (value : ℕ) → IsPart place → (q : PassView)
      → Stepped M o (λ pass. store pass (address o.shape place) value) v q → StoredPart v place value q
  stored_part v p place value is q step =
      let word = address o.shape place in
      let m = step.machine in
      let event = λ (pass : ℕ). store pass word value in
      let so = view_is v p place value is q step in
      let one = made o.shape m Store word (content m word) value v q step.admitted.shape refl so (known_stays M o event v q step) in
      let lanes : q.lanes ≡ v.lanes = ap (λ (x : PassView). x.lanes) so in
      let seen : q.seen ≡ v.seen = ap (λ (x : PassView). x.seen) so in
      record {
        found = content m word;
        made = one;
        stores = record { kind = one.is_kind; attempt = All-head (IsFor v) one.step [] one.goes.3 ∙ ap attempt_in_hand p.held; there = one.there };
        again = record {
          held = ap (λ (x : PassView). x.hand) so ∙ p.held;
          desc = (p.desc.0, subst (λ l. Contains l p.desc.0) (sym lanes) p.desc.1, p.desc.2);
          unready = ap (λ es. is_ready es h.attempt) seen ∙ p.unready;
        };
        stands = stands_made M o event Store word (content m word) value v q step one;
        free = λ lane c node. free_over M o event v q step seen lane c (subst (λ l. Contains l lane) (sym lanes) c) node;
      }

  -- both
  pub record StoredRead (v : PassView) (word held : ℕ) (r : PassView) : Type 0 where
    pub first : Step
    pub second : Step
    pub goes : IsAfter o.shape (first ∷ second ∷ []) v r
    pub stores_word : StoresFor h.attempt (address o.shape (read_word h.attempt.desc i)) first
    pub word_left : first.after ≡ word
    pub stores_content : StoresFor h.attempt (address o.shape (read_content h.attempt.desc i)) second
    pub content_left : second.after ≡ held
    pub stands : StandsInField M o r
    pub free : (lane : ℕ) → Contains v.lanes lane → (node : ℕ) → IsFreeBy v.seen v.known node → IsFreeBy r.seen r.known node

  pub stored_read : (v : PassView) → Prepares o v h → (word held : ℕ) (q r : PassView)
      → Stepped M o (λ pass. store pass (address o.shape (read_word h.attempt.desc i)) word) v q
      → Stepped M o (λ pass. store pass (address o.shape (read_content h.attempt.desc i)) held) q r → StoredRead v word held r
  stored_read v p word held q r one two =
      let x = stored_part v p (read_word h.attempt.desc i) word (inl refl) q one in
      let y = stored_part q x.again (read_content h.attempt.desc i) held (inr refl) r two in
      let lanes : q.lanes ≡ v.lanes = ap (λ (z : PassView). z.lanes) x.made.goes.1 in
      record {
        first = x.made.step;
        second = y.made.step;
        goes = both_after o.shape (x.made.step ∷ []) (y.made.step ∷ []) v q r x.made.goes y.made.goes;
        stores_word = x.stores;
        word_left = x.made.left_it;
        stores_content = y.stores;
        content_left = y.made.left_it;
        stands = y.stands;
        free = λ lane c node f. y.free lane (subst (λ l. Contains l lane) (sym lanes) c) node (x.free lane c node f);
      }
