-- The words that a transaction writes, and one more, as words of its changes.
use Rattle.std.proofs.Common.{◌≡◌, ◌≢◌, ◌+◌, ◌++◌, ◌∙◌, ℕ, false, List, [], ◌∷◌, map, length, refl, sym, ap, subst}
use Rattle.std.specs.List.{All, AllPairs, Contains}
use Rattle.std.proofs.lemmas.Bool.{true≢false}
use Rattle.std.proofs.lemmas.List.{length-map, map-append}
use Rattle.std.proofs.lemmas.List.Elements.{All-append, All-cons, All-nil, Contains-append_left, Contains-append_right}
use Rattle.md_machine.specs.declared.attempt.Write.{Write}
use Rattle.md_machine.specs.declared.certificate.Certificate.{Certificate}
use Rattle.md_machine.specs.declared.certificate.Change.{Change}
use Rattle.md_machine.specs.Certified.{all_changes, is_written}
use Rattle.md_machine.proofs.lists.Rising.{in_map}
use Rattle.md_nbtc_law.specs.declared.slots.Slot.{Slot}
use Rattle.md_nbtc_law.specs.Going.{IsGoing}
use Rattle.md_nbtc_law.specs.State.{TxnState, writes_in}
use Rattle.md_nbtc_law.proofs.ready.Lookups.{all_of, written_there}
use Rattle.md_nbtc_law.proofs.ready.Standing.{pairs_map}
use Rattle.md_store_law.specs.Store.{store}
use Rattle.md_store_counts.specs.Few.{words_of_changes}
use Rattle.md_store_bodies.proofs.Charging.{any_named}
use Rattle.md_store_bodies.proofs.Exceeding.{one_more_word}

module _ (t : TxnState) (cs : List Certificate) (going : IsGoing store t cs) where
  -- each word that the transaction writes is one that its changes name
  written_named : (w : Write) → Contains (writes_in t) w → Contains (words_of_changes (all_changes cs ++ t.hand.changes)) w.word
  written_named w among = any_named (all_changes cs ++ t.hand.changes) w.word
      (sym (going.course.changes.exactly w.word) ∙ written_there (writes_in t) w among w.word refl)

  unwritten_word : (word : ℕ) → is_written (writes_in t) word ≡ false → (w : Write) → Contains (writes_in t) w → w.word ≢ word
  unwritten_word word none w among same = true≢false (sym (written_there (writes_in t) w among word same) ∙ none)

  abbrev pub with_word : ℕ → List ℕ
  with_word word = map (λ (w : Write). w.word) (writes_in t) ++ word ∷ []

  pub words_differ : (word : ℕ) → is_written (writes_in t) word ≡ false → AllPairs ◌≢◌ (with_word word) × (length (with_word word) ≡ length t.slots + 1)
  words_differ word none =
      let words = one_more_word (λ (w : Write). w.word) (writes_in t) word (pairs_map (λ (w : Write). w.word) (writes_in t) going.prepared.has.written_once)
      (unwritten_word word none) in
      (words.0, words.1 ∙ ap (λ n. n + 1) (length-map t.slots (λ (s : Slot). s.write)))

  -- they and one more are among more changes
  pub all_named : (word : ℕ) (rest : List Change) → Contains (words_of_changes rest) word
      → All (Contains (words_of_changes ((all_changes cs ++ t.hand.changes) ++ rest))) (with_word word)
  all_named word rest this =
      let changes = all_changes cs ++ t.hand.changes in
      let P = Contains (words_of_changes (changes ++ rest)) in
      let over = map-append (λ (x : Change). x.word) changes rest in
      All-append P (map (λ (w : Write). w.word) (writes_in t)) (word ∷ [])
      (all_of P (map (λ (w : Write). w.word) (writes_in t))
      (λ x among. let w = in_map (λ (v : Write). v.word) (writes_in t) x among in
      subst P w.2 (subst (λ l. Contains l w.0.word) (sym over) (Contains-append_left (words_of_changes changes) (words_of_changes rest) w.0.word (written_named w.0 w.1)))))
      (All-cons P word [] (subst (λ l. Contains l word) (sym over) (Contains-append_right (words_of_changes changes) (words_of_changes rest) word this)) (All-nil P))
