-- A transaction puts its descriptor, at its next slot, into a word.
use Rattle.std.proofs.Common.{◌≡◌, ◌≢◌, ◌==◌, ◌⊎◌, ◌<◌, ◌≤◌, ◌++◌, ◌∷◌, ◌^◌, ◌%◌, ℕ, true, false, List, [], length, Some, refl, sym, ap, ◌∙◌, subst, ⊎_elim, eq-eqb, if◌then◌else◌, arith}
use prog.Atomic.{either}
use Rattle.std.proofs.lemmas.Bool.{true≢false, ne_eqb}
use Rattle.std.proofs.lemmas.List.Elements.{All-contains}
use Rattle.md_words.specs.declared.content.Spot.{Spot}
use Rattle.md_words.specs.Content.{count_of, is_even, value_of}
use Rattle.md_words.specs.Layout.{Exists, address, desc_count}
use Rattle.md_words.specs.Place.{Place, node_next, slot_new, slot_old, slot_word}
use Rattle.md_words.specs.PlaceAt.{IsCounted}
use Rattle.md_words.proofs.Owners.{own_desc_exists}
use Rattle.md_words.proofs.Words.{count_of-counted_word, value_of-counted_word}
use Rattle.md_machine.specs.declared.attempt.Hand.{Hand}
use Rattle.md_machine.specs.declared.certificate.Certificate.{Certificate}
use Rattle.md_machine.specs.declared.certificate.Change.{Change}
use Rattle.md_machine.specs.declared.pass.PassView.{PassView}
use Rattle.md_machine.specs.declared.step.Kind.TheVariants.{Install}
use Rattle.md_machine.specs.declared.step.TheConstants.{LAST_COUNT}
use Rattle.md_machine.specs.Certified.{is_written}
use Rattle.md_machine.specs.Event.{Acts, install}
use Rattle.md_machine.specs.Machine.{Machine, content, shape_of, word_at}
use Rattle.md_machine.specs.Meaning.{Lawful, Meaning}
use Rattle.md_machine.specs.Stepping.{stepped, wins}
use Rattle.md_machine.specs.Trail.{LastStored, SomeStepOf, StoresFor}
use Rattle.md_machine.specs.FreeToReturn.{KnowsFree}
use Rattle.md_rule.specs.Kept.{IsNoNextLeft, KeepsLanes}
use Rattle.md_nbtc_law.proofs.nodes.NewNode.{not_next}
use Rattle.md_machine.specs.clauses.words.Stores.{IsEntryWord}
use Rattle.md_machine.specs.events.Install.{MayBeChanged, after_install, hand_after_install, installed_word}
use Rattle.md_machine.proofs.lists.Options.{some_same}
use Rattle.md_rule.specs.Admitted.{Admitted}
use Rattle.md_rule.specs.Steps.{May, SteppedFrom}
use Rattle.md_rule.proofs.Moves.{is_kept}
use Rattle.md_rule.proofs.Told.{told_install}
use Rattle.md_nbtc_law.specs.declared.seen.Seen.{Seen}
use Rattle.md_nbtc_law.specs.declared.seen.TheConstants.{WORN}
use Rattle.md_nbtc_law.specs.Exchanging.{HoldsSlot}
use Rattle.md_nbtc_law.specs.Going.{IsFoundFirst, IsGoing}
use Rattle.md_nbtc_law.specs.Prepared.{IsPrepared, IsPreparedNode}
use Rattle.md_nbtc_law.specs.Seeing.{Gave, MayChange}
use Rattle.md_nbtc_law.specs.State.{TxnState, attempt_in, seen_content, shape_in, writes_in}
use Rattle.md_nbtc_law.proofs.exchanging.OneStep.{StepsOnce, steps_once}
use Rattle.md_nbtc_law.proofs.exchanging.WordPlaces.{may_install_at}
use Rattle.md_nbtc_law.proofs.nodes.Stores.{unready_there}
use Rattle.md_nbtc_law.proofs.ready.Bridge.{stands}

-- an even count that isn't worn leaves room for the counts that follow
pub even_room : (n : ℕ) → is_even n ≡ true → n < WORN → n ≤ LAST_COUNT
unfolding is_even
even_room n even below = ⊎_elim (λ (low : n ≤ LAST_COUNT). low)
    (λ (e : n ≡ 4294967291). absurd (true≢false (sym (ap (λ (k : ℕ). k % 2 == 0) (sym e) ∙ even))))
    (low_or n below)
  where
    low_or : (k : ℕ) → k < 4294967292 → (k ≤ 4294967290) ⊎ (k ≡ 4294967291)
    low_or k less = grind (arith, less)

module _ (t : TxnState) (word : ℕ) (from : Seen) (none : is_written (writes_in t) word ≡ false) (gave : Gave t word from) (below : from.count < WORN) where
  fits : from.count < 2 ^ 32
  fits = omega (arith, below)

  pub count_is : count_of (seen_content from) ≡ from.count
  count_is = count_of-counted_word from.value from.count fits

  pub value_is : value_of (seen_content from) ≡ from.value
  value_is = value_of-counted_word from.value from.count fits

  -- what was seen in a word that isn't an own one may be changed
  pub may_be_changed : MayBeChanged (seen_content from)
  may_be_changed =
      let even : is_even from.count ≡ true = (gave.content (gave.own ∙ none)).even in
      record { even = ap is_even count_is ∙ even; room = subst (λ n. n ≤ LAST_COUNT) (sym count_is) (even_room from.count even below) }

module _ (M : Meaning) (lawful : Lawful M) (t : TxnState) (prepared : IsPrepared t) (word : ℕ) (from : Seen) (to : ℕ) (counted : IsCounted (shape_in t) word)
    (none : is_written (writes_in t) word ≡ false) (gave : Gave t word from) (below : from.count < WORN) (may : MayChange M t word) (holds : HoldsSlot t word (seen_content from) to) where
  abbrev d : ℕ
  d = (attempt_in t).desc

  abbrev j : ℕ
  j = length t.slots

  abbrev pub spot : Spot
  spot = record { desc = d; slot = j }

  desc_there : d < desc_count (shape_in t)
  desc_there = own_desc_exists (shape_in t) prepared.has.own.0 d prepared.has.own.2

  module _ (m : Machine) (admitted : Admitted M t.field.origin m) (pass : ℕ) (acts : Acts m pass t.pass.view) where
    in_machine : (place : Place) → Exists (shape_in t) place → IsEntryWord d place → (held : ℕ) → LastStored t.pass.view (attempt_in t) (address (shape_in t) place) held
        → word_at (shape_of m) m.words place ≡ held
    in_machine place exists is held last = stands t prepared.has m (is_kept M t.field.origin m admitted) admitted.shape pass acts.at place
        (subst (λ s. Exists s place) (sym admitted.shape) exists) is held last

    pub new_there : word_at (shape_of m) m.words (slot_new d j) ≡ to
    new_there = in_machine (slot_new d j) (desc_there, holds.room) refl to holds.new

  -- the install may be made
  pub may_install : May M t.field.origin (λ pass. install pass word (seen_content from) spot) t.pass.view
  may_install m admitted pass acts = (
    after_install m pass t.pass.view t.hand word (seen_content from) spot,
    (
      t.pass.view,
      t.hand,
      acts,
      record {
        held = prepared.has.held;
        unready = unready_there M t.field.origin t.pass.view t.hand prepared.has.own prepared.unready m admitted pass acts;
        own = refl;
        slot = holds.room;
        counted = subst (λ s. IsCounted s word) (sym admitted.shape) counted;
        place = may_install_at M lawful t prepared m admitted pass acts word counted may;
        from_even = may_be_changed t word from none gave below;
        names = in_machine m admitted pass acts (slot_word d j) (desc_there, holds.room) refl word holds.word;
        old = in_machine m admitted pass acts (slot_old d j) (desc_there, holds.room) refl (seen_content from) holds.old;
      },
      refl,
    ),
  )

  abbrev pub change : Change
  change = record { word = word; old = from.value; new = to }

  abbrev pub new_changes : List Change
  new_changes = t.hand.changes ++ change ∷ []

  -- what a won one leaves
  pub won_step : (q : PassView) → SteppedFrom M t.field.origin (λ pass. install pass word (seen_content from) spot) word (seen_content from) t.pass.view q
      → StepsOnce M t prepared Install word (seen_content from) (installed_word (seen_content from) spot) new_changes q
  won_step q (step, held) =
      let m = step.machine in
      let v = t.pass.view in
      let told = told_install M t.field.origin v q word (seen_content from) spot step in
      let same : told.0 ≡ t.hand = some_same told.0 t.hand (sym told.1.held ∙ prepared.has.held) in
      let wins_it : wins m word (seen_content from) ≡ true = eq-eqb (content m word) (seen_content from) held in
      let new_is = new_there m step.admitted step.pass step.acts in
      steps_once M t prepared (λ pass. install pass word (seen_content from) spot) q step Install word (seen_content from) (installed_word (seen_content from) spot) new_changes held
      (told.2
      ∙ ap (λ b. record (stepped m v Install word (either b (installed_word (seen_content from) spot) (content m word))) { hand = Some (if b then hand_after_install m told.0 word (seen_content from) spot else told.0) }) wins_it
      ∙ ap (λ (x : Hand). record (stepped m v Install word (installed_word (seen_content from) spot)) { hand = Some (hand_after_install m x word (seen_content from) spot) }) same
      ∙ ap (λ n. record (stepped m v Install word (installed_word (seen_content from) spot)) { hand = Some (record t.hand { changes = t.hand.changes ++ (record { word = word; old = value_of (seen_content from); new = n }) ∷ [] }) }) new_is
      ∙ ap (λ n. record (stepped m v Install word (installed_word (seen_content from) spot)) { hand = Some (record t.hand { changes = t.hand.changes ++ (record { word = word; old = n; new = to }) ∷ [] }) }) (value_is t word from none gave below))

  -- and a lost one: nothing, but what it found
  pub lost_step : (q : PassView) (found : ℕ) → found ≢ seen_content from → SteppedFrom M t.field.origin (λ pass. install pass word (seen_content from) spot) word found t.pass.view q
      → StepsOnce M t prepared Install word found found t.hand.changes q
  lost_step q found differ (step, held) =
      let m = step.machine in
      let v = t.pass.view in
      let told = told_install M t.field.origin v q word (seen_content from) spot step in
      let same : told.0 ≡ t.hand = some_same told.0 t.hand (sym told.1.held ∙ prepared.has.held) in
      let loses : wins m word (seen_content from) ≡ false = ne_eqb (content m word) (seen_content from) (λ e. differ (sym held ∙ e)) in
      steps_once M t prepared (λ pass. install pass word (seen_content from) spot) q step Install word found found t.hand.changes held
      (told.2
      ∙ ap (λ b. record (stepped m v Install word (either b (installed_word (seen_content from) spot) (content m word))) { hand = Some (if b then hand_after_install m told.0 word (seen_content from) spot else told.0) }) loses
      ∙ ap (λ n. record (stepped m v Install word n) { hand = Some told.0 }) held
      ∙ ap (λ (x : Hand). record (stepped m v Install word found) { hand = Some x }) same)

-- a word in which something was found first isn't the next word of a node that is left
pub no_next_left : (M : Meaning) (lawful : Lawful M) (t : TxnState) (cs : List Certificate) → IsGoing M t cs → KeepsLanes t.pass.shape t.pass.view t.pass.shares
    → (word value : ℕ) → IsFoundFirst M t word value → IsNoNextLeft t.pass word
no_next_left M lawful t cs going kept word value first node left at =
    let h = going.prepared.has in
    let free = subst (λ s. KnowsFree s t.pass.view node) h.of.shape ((kept left.0 left.1).free node left.2 left.3) in
    not_next M lawful t cs going node free
    (λ n c e. h.stored node left (subst (λ k. SomeStepOf t.pass.view (StoresFor (attempt_in t) (address (shape_in t) (node_next k)))) e
    (All-contains (IsPreparedNode t) t.nodes n going.prepared.nodes c).stored))
    word value first (at ∙ ap (λ s. address s (node_next node)) h.of.shape)
