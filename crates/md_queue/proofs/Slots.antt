-- The slots of a transaction stay over each call.
use Rattle.std.proofs.Common.{◌≡◌, ◌==◌, ◌++◌, ℕ, [], ◌∷◌, map, refl, sym, ◌∙◌, subst}
use Rattle.std.proofs.lemmas.Bool.{cond_both}
use Rattle.std.proofs.lemmas.List.Elements.{Contains-append_left}
use Rattle.std.specs.List.{Contains}
use Rattle.md_machine.proofs.lists.Rising.{map_in}
use Rattle.md_nbtc_law.specs.declared.slots.Slot.{Slot}
use Rattle.md_nbtc_law.specs.Sets.{with_new}
use Rattle.md_nbtc_law.specs.State.{TxnState}
use Rattle.md_queue.specs.Operations.{StaysIn}

module _ (t u : TxnState) where
  -- the same slots
  pub stay_same : u.slots ≡ t.slots → (s : Slot) → Contains t.slots s → StaysIn u s
  stay_same same s among = record { now = s; among = subst (λ l. Contains l s) (sym same) among; place = refl; word = refl; old = refl; cleanup = λ c is. is }

  -- one more behind them
  pub stay_before : (slot : Slot) → u.slots ≡ t.slots ++ slot ∷ [] → (s : Slot) → Contains t.slots s → StaysIn u s
  stay_before slot more s among = record {
    now = s;
    among = subst (λ l. Contains l s) (sym more) (Contains-append_left t.slots (slot ∷ []) s among);
    place = refl;
    word = refl;
    old = refl;
    cleanup = λ c is. is;
  }

  -- another new value in one
  pub stay_renewed : (word to : ℕ) → u.slots ≡ map (with_new word to) t.slots → (s : Slot) → Contains t.slots s → StaysIn u s
  stay_renewed word to new s among = cond_both (s.write.word == word) (record s { write = record s.write { new = to } }) s (λ x. Contains u.slots x → StaysIn u s)
      (λ _ there. record { now = record s { write = record s.write { new = to } }; among = there; place = refl; word = refl; old = refl; cleanup = λ c is. is })
      (λ _ there. record { now = s; among = there; place = refl; word = refl; old = refl; cleanup = λ c is. is })
      (subst (λ l. Contains l (with_new word to s)) (sym new) (map_in (with_new word to) t.slots s among))

-- one after another
pub stay_then : (t u v : TxnState) → ((s : Slot) → Contains t.slots s → StaysIn u s) → ((s : Slot) → Contains u.slots s → StaysIn v s)
    → (s : Slot) → Contains t.slots s → StaysIn v s
stay_then t u v one two s among =
    let a = one s among in
    let b = two a.now a.among in
    record {
      now = b.now;
      among = b.among;
      place = b.place ∙ a.place;
      word = b.word ∙ a.word;
      old = b.old ∙ a.old;
      cleanup = λ c is. b.cleanup c (a.cleanup c is);
    }

-- another new value changes neither a slot's word nor its cleanup
pub renewed_keeps : (word to : ℕ) (s : Slot) → ((with_new word to s).write.word ≡ s.write.word) × ((with_new word to s).cleanup ≡ s.cleanup)
renewed_keeps word to s = cond_both (s.write.word == word) (record s { write = record s.write { new = to } }) s
    (λ (x : Slot). (x.write.word ≡ s.write.word) × (x.cleanup ≡ s.cleanup)) (λ _. (refl, refl)) (λ _. (refl, refl))
