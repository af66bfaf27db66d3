-- After three stores the next slot holds a word, its old content and a new value.
use Rattle.std.proofs.Common.{◌≡◌, ◌≢◌, ◌<◌, ℕ, length, sym, ap, ◌∙◌, subst}
use Rattle.md_words.specs.declared.limits.TheConstants.{SET}
use Rattle.md_words.specs.Layout.{address, desc_count}
use Rattle.md_words.specs.Place.{slot_new, slot_old, slot_word}
use Rattle.md_words.proofs.Owners.{own_desc_exists}
use Rattle.md_machine.specs.Meaning.{Meaning}
use Rattle.md_nbtc_law.specs.Calls.{GoesOn}
use Rattle.md_nbtc_law.specs.Exchanging.{HoldsSlot, Stored}
use Rattle.md_nbtc_law.specs.Going.{IsUnderWay}
use Rattle.md_nbtc_law.specs.Prepared.{IsPrepared}
use Rattle.md_nbtc_law.specs.Seeing.{KeepsGiven}
use Rattle.md_nbtc_law.specs.State.{TxnState, attempt_in, shape_in}
use Rattle.md_nbtc_law.proofs.exchanging.SlotStores.{places_apart}
use Rattle.md_nbtc_law.proofs.preparing.Later.{later_over}

-- a transaction that goes on over two calls goes on
pub both_on : (M : Meaning) (t u v : TxnState) → GoesOn M t u → GoesOn M u v → GoesOn M t v
both_on M t u v a b = record { going = λ cs going. b.going cs (a.going cs going); later = later_over t u v a.later b.later }

-- and is under way then
pub under_way : (M : Meaning) (t u : TxnState) → GoesOn M t u → IsUnderWay M t → IsUnderWay M u
under_way M t u on (cs, going) = (cs, on.going cs going)

-- one whose pass alone changed by two calls
pub both_same : (t u v : TxnState) → u ≡ record t { pass = u.pass } → v ≡ record u { pass = v.pass } → v ≡ record t { pass = v.pass }
both_same t u v a b = b ∙ ap (λ (x : TxnState). record x { pass = v.pass }) a

-- what was given of a word over two calls
pub both_given : (t u v : TxnState) (word : ℕ) → KeepsGiven t u word → KeepsGiven u v word → KeepsGiven t v word
both_given t u v word a b other seen differ gave = b other seen differ (a other seen differ gave)

module _ (t t1 t2 t3 : TxnState) (prepared : IsPrepared t) (room : length t.slots < SET)
    (s1 : t1 ≡ record t { pass = t1.pass }) (s2 : t2 ≡ record t1 { pass = t2.pass }) (s3 : t3 ≡ record t2 { pass = t3.pass }) (at_word at_old at_new : ℕ)
    (is_word : at_word ≡ address (shape_in t) (slot_word (attempt_in t).desc (length t.slots)))
    (is_old : at_old ≡ address (shape_in t) (slot_old (attempt_in t).desc (length t.slots)))
    (is_new : at_new ≡ address (shape_in t) (slot_new (attempt_in t).desc (length t.slots))) where
  desc_there : (attempt_in t).desc < desc_count (shape_in t)
  desc_there = own_desc_exists (shape_in t) prepared.has.own.0 (attempt_in t).desc prepared.has.own.2

  word_old : at_word ≢ at_old
  word_old e = places_apart (shape_in t) (slot_word (attempt_in t).desc (length t.slots)) (slot_old (attempt_in t).desc (length t.slots)) (desc_there, room) (desc_there, room)
      (λ p. cc) (sym is_word ∙ e ∙ is_old)

  word_new : at_word ≢ at_new
  word_new e = places_apart (shape_in t) (slot_word (attempt_in t).desc (length t.slots)) (slot_new (attempt_in t).desc (length t.slots)) (desc_there, room) (desc_there, room)
      (λ p. cc) (sym is_word ∙ e ∙ is_new)

  old_new : at_old ≢ at_new
  old_new e = places_apart (shape_in t) (slot_old (attempt_in t).desc (length t.slots)) (slot_new (attempt_in t).desc (length t.slots)) (desc_there, room) (desc_there, room)
      (λ p. cc) (sym is_old ∙ e ∙ is_new)

  all_same : t3 ≡ record t { pass = t3.pass }
  all_same = both_same t t1 t3 s1 (both_same t1 t2 t3 s2 s3)

  -- what one call stored the later ones leave
  pub holds_slot : (word old new : ℕ) → Stored t1 at_word word → ((x held : ℕ) → x ≢ at_old → Stored t1 x held → Stored t2 x held)
      → Stored t2 at_old old → ((x held : ℕ) → x ≢ at_new → Stored t2 x held → Stored t3 x held) → Stored t3 at_new new → HoldsSlot t3 word old new
  holds_slot word old new stored_word keeps stored_old then stored_new = subst (λ u. HoldsSlot u word old new) (sym all_same) (record {
    room = room;
    word = subst (λ a. Stored (record t { pass = t3.pass }) a word) is_word (subst (λ u. Stored u at_word word) all_same (then at_word word word_new (keeps at_word word word_old stored_word)));
    old = subst (λ a. Stored (record t { pass = t3.pass }) a old) is_old (subst (λ u. Stored u at_old old) all_same (then at_old old old_new stored_old));
    new = subst (λ a. Stored (record t { pass = t3.pass }) a new) is_new (subst (λ u. Stored u at_new new) all_same stored_new);
  })
