-- What every machine in which a transaction's pass stands has of the transaction's slots.
use Rattle.std.proofs.Common.{◌≡◌, ◌==◌, ◌&&◌, ◌||◌, ◌≤◌, ℕ, Bool, true, false, List, [], ◌∷◌, length, refl, sym, ap, ◌∙◌, subst, eqb-true, eq-eqb, ⊎_elim, arith}
use Rattle.std.proofs.lemmas.Bool.{cases_Bool, true≢false}
use Rattle.std.proofs.lemmas.List.{length-map}
use Rattle.std.specs.List.{Contains, list_any}
use Rattle.md_words.specs.Place.{slot_new, slot_word}
use Rattle.md_machine.specs.declared.attempt.AttemptId.{AttemptId}
use Rattle.md_machine.specs.declared.attempt.Write.{Write}
use Rattle.md_machine.specs.Event.{Acts}
use Rattle.md_machine.specs.Machine.{Install, Machine, is_installed, same_attempt, shape_of, word_at}
use Rattle.md_machine.specs.Meaning.{Meaning}
use Rattle.md_machine.specs.events.Ready.{installs_by, write_now}
use Rattle.md_machine.proofs.events.Attempts.{attempt_same, same_parts}
use Rattle.md_machine.proofs.lists.Rising.{here, in_cons, in_filter, in_map, in_none, there}
use Rattle.md_rule.specs.Admitted.{Admitted}
use Rattle.md_rule.proofs.Moves.{is_kept}
use Rattle.md_nbtc_law.specs.declared.slots.Slot.{Slot}
use Rattle.md_nbtc_law.specs.Prepared.{IsHeld, IsWritten}
use Rattle.md_nbtc_law.specs.State.{TxnState, attempt_in, writes_in}
use Rattle.md_nbtc_law.proofs.ready.Bridge.{present_install, shown_slot, writes_back}
use Rattle.md_nbtc_law.proofs.ready.Lookups.{each_in}

-- some element of a list is such, and where one is, the list has it
pub any_found : {A : Type 0} (test : A → Bool) (xs : List A) → list_any test xs ≡ true → (x : A) × Contains xs x × (test x ≡ true)
any_found test [] is = absurd (true≢false (sym is))
any_found test (x ∷ xs) is = ⊎_elim
    (λ this. (x, here x xs, this))
    (λ not. let later = any_found test xs (ap (λ b. b || list_any test xs) (sym not) ∙ is) in (later.0, there x xs later.0 later.1, later.2))
    (cases_Bool (test x))

pub any_has : {A : Type 0} (test : A → Bool) (xs : List A) (x : A) → Contains xs x → test x ≡ true → list_any test xs ≡ true
any_has test [] x c is = absurd (in_none x c)
any_has test (y ∷ ys) x c is = ⊎_elim
    (λ same. ap (λ b. b || list_any test ys) (ap test same ∙ is))
    (λ later. ap (λ b. test y || b) (any_has test ys x later is) ∙ or_true (test y))
    (in_cons y ys x c)
  where
    or_true : (b : Bool) → (b || true) ≡ true
    or_true true = refl
    or_true false = refl

-- the slot is installed, and the machine has its word and its new value
pub record HasSlot (m : Machine) (t : TxnState) (w : Write) : Type 0 where
  pub installed : is_installed m.installs (attempt_in t) w.slot ≡ true
  pub word : word_at (shape_of m) m.words (slot_word (attempt_in t).desc w.slot) ≡ w.word
  pub new : word_at (shape_of m) m.words (slot_new (attempt_in t).desc w.slot) ≡ w.new

module _ (M : Meaning) (t : TxnState) (held : IsHeld t) (m : Machine) (admitted : Admitted M t.field.origin m) (pass : ℕ) (acts : Acts m pass t.pass.view) where
  abbrev a : AttemptId
  a = attempt_in t

  -- a slot past those that it wrote isn't installed
  pub free_slot : (j : ℕ) → length t.slots ≤ j → is_installed m.installs a j ≡ false
  free_slot j far = ⊎_elim
      (λ is. let found = any_found (λ (i : Install). same_attempt i.attempt a && (i.slot == j)) m.installs is in
      let both = parts (same_attempt found.0.attempt a) (found.0.slot == j) found.2 in
      let same = same_parts found.0.attempt a both.0 in
      let slot = shown_slot t held m (is_kept M t.field.origin m admitted) admitted.shape pass acts.at found.0 found.1
      (attempt_same found.0.attempt a same.0 same.1) in
      let at = each_in (IsWritten t) 0 (writes_in t) held.writes slot.0 slot.1 in
      let number = at.3.slot in
      let is_j : slot.0.slot ≡ j = ap (λ (w : Write). w.slot) (sym slot.2) ∙ eqb-true found.0.slot j both.1 in
      let few = at.2 in
      let many = length-map t.slots (λ (s : Slot). s.write) in
      absurd (omega (arith, few, many, number, is_j, far)))
      (λ not. not)
      (cases_Bool (is_installed m.installs a j))
    where
      parts : (b c : Bool) → (b && c) ≡ true → (b ≡ true) × (c ≡ true)
      parts true c is = (refl, is)
      parts false c is = absurd (true≢false (sym is))

  -- what the machine has of a slot that it wrote
  pub has_slot : (w : Write) → Contains (writes_in t) w → HasSlot m t w
  has_slot w c =
      let k = is_kept M t.field.origin m admitted in
      let from = in_map (write_now m) (installs_by m.installs a) w (writes_back t held m k admitted.shape pass acts.at w c) in
      let i = from.0 in
      let inside = in_filter (λ (x : Install). same_attempt x.attempt a) m.installs i from.1 in
      let parts = same_parts i.attempt a inside.1 in
      let of = attempt_same i.attempt a parts.0 parts.1 in
      let slot : i.slot ≡ w.slot = ap (λ (x : Write). x.slot) from.2 in
      let stands = k.slots i inside.0 (present_install t held m k admitted.shape pass acts.at i of) in
      let At : AttemptId → ℕ → Type 0 = λ x j. word_at (shape_of m) m.words (slot_word x.desc j) ≡ i.word in
      let New : AttemptId → ℕ → Type 0 = λ x j. word_at (shape_of m) m.words (slot_new x.desc j) ≡ w.new in
      record {
        installed = any_has (λ (x : Install). same_attempt x.attempt a && (x.slot == w.slot)) m.installs i inside.0
            (ap (λ b. b && (i.slot == w.slot)) inside.1 ∙ eq-eqb i.slot w.slot slot);
        word = subst (At a) slot (subst (λ x. At x i.slot) of stands.word) ∙ ap (λ (x : Write). x.word) from.2;
        new = subst (New a) slot (subst (λ x. New x i.slot) of (ap (λ (x : Write). x.new) from.2));
      }
