-- Two stores record a word: when they may be made, and what contracts see of the transaction then.
use Rattle.std.proofs.Common.{◌≡◌, ◌++◌, ◌∷◌, ◌<◌, ℕ, true, List, [], length, Option, refl, sym, ap, ◌∙◌, subst, inl, inr}
use Rattle.md_words.specs.declared.limits.TheConstants.{SET}
use Rattle.md_words.specs.declared.shape.Shape.{Shape}
use Rattle.md_words.specs.Layout.{address}
use Rattle.md_words.specs.Place.{read_content, read_word}
use Rattle.md_words.specs.PlaceAt.{IsCounted}
use Rattle.md_history.specs.declared.stops.Stop.{Stop}
use Rattle.md_machine.specs.declared.attempt.Read.{Read}
use Rattle.md_machine.specs.Event.{store}
use Rattle.md_machine.specs.Meaning.{Meaning}
use Rattle.md_rule.specs.Steps.{May, Stepped}
use Rattle.md_rule.specs.Views.{FieldView, PassState}
use Rattle.md_nbtc_law.specs.declared.seen.Seen.{Seen}
use Rattle.md_nbtc_law.specs.declared.slots.Lot.{Lot}
use Rattle.md_nbtc_law.specs.declared.slots.Slot.{Slot}
use Rattle.md_nbtc_law.specs.Prepared.{IsPrepared}
use Rattle.md_nbtc_law.specs.State.{TxnState, attempt_in, seen_content, shape_in, state_of}
use Rattle.md_nbtc_law.proofs.preparing.Apart.{state_apart}
use Rattle.md_nbtc_law.proofs.recording.Noted.{next_read, noted, prepares}
use Rattle.md_nbtc_law.proofs.recording.ReadMore.{node_off}
use Rattle.md_nbtc_law.proofs.recording.StoredRead.{StoredRead, may_part, stored_part, stored_read}

module _ (M : Meaning) (field : FieldView) (p began : PassState) (reads : List Read) (slots : List Slot) (stop : Option Stop) (desc serial tag : ℕ) (lots : List Lot) where
  abbrev t : TxnState
  t = state_of field p began reads slots stop desc serial tag lots

  -- the words of the next read
  abbrev pub word_at : ℕ
  word_at = address (shape_in t) (read_word (attempt_in t).desc (length reads))

  abbrev pub content_at : ℕ
  content_at = address (shape_in t) (read_content (attempt_in t).desc (length reads))

  -- as the code finds them
  pub word_found : (s : Shape) (d i at : ℕ) → s ≡ shape_in t → d ≡ (attempt_in t).desc → i ≡ length reads → at ≡ address s (read_word d i) → at ≡ word_at
  word_found s d i at shape of place is = is ∙ ap (λ x. address x (read_word d i)) shape ∙ ap (λ x. address (shape_in t) (read_word x i)) of
      ∙ ap (λ x. address (shape_in t) (read_word (attempt_in t).desc x)) place

  pub content_found : (s : Shape) (d i at : ℕ) → s ≡ shape_in t → d ≡ (attempt_in t).desc → i ≡ length reads → at ≡ address s (read_content d i) → at ≡ content_at
  content_found s d i at shape of place is = is ∙ ap (λ x. address x (read_content d i)) shape ∙ ap (λ x. address (shape_in t) (read_content x i)) of
      ∙ ap (λ x. address (shape_in t) (read_content (attempt_in t).desc x)) place

  module _ (prepared : IsPrepared t) (room : length reads < SET) (word : ℕ) (seen : Seen) (at : ℕ) (at_is : at ≡ word_at) where
    pub may_word : IsCounted (shape_in t) word → May M field.origin (λ pass. store pass at word) p.view
    may_word counted = subst (λ w. May M field.origin (λ pass. store pass w word) p.view) (sym at_is)
        (may_part M field.origin t.hand (length reads) (next_read t prepared room) p.view (prepares t prepared) (read_word (attempt_in t).desc (length reads)) word (inl refl) (λ _. counted))

    module _ (one : PassState) (step_one : Stepped M field.origin (λ pass. store pass at word) p.view one.view) (beside : ℕ) (beside_is : beside ≡ content_at)
        (held : ℕ) (held_is : held ≡ seen_content seen) where
      first_step : Stepped M field.origin (λ pass. store pass word_at word) p.view one.view
      first_step = subst (λ w. Stepped M field.origin (λ pass. store pass w word) p.view one.view) at_is step_one

      pub may_content : May M field.origin (λ pass. store pass beside held) one.view
      may_content = subst (λ w. May M field.origin (λ pass. store pass w held) one.view) (sym beside_is)
          (may_part M field.origin t.hand (length reads) (next_read t prepared room) one.view
          (stored_part M field.origin t.hand (length reads) (next_read t prepared room) p.view (prepares t prepared) (read_word (attempt_in t).desc (length reads)) word (inl refl) one.view first_step).again
          (read_content (attempt_in t).desc (length reads)) held (inr refl) (λ e. absurd (not_word e)))
        where
          not_word : read_content (attempt_in t).desc (length reads) ≡ read_word (attempt_in t).desc (length reads) → ⊥
          not_word e = cc

      module _ (two : PassState) (step_two : Stepped M field.origin (λ pass. store pass beside held) one.view two.view) where
        pub both : StoredRead M field.origin t.hand (length reads) (next_read t prepared room) p.view word (seen_content seen) two.view
        both = stored_read M field.origin t.hand (length reads) (next_read t prepared room) p.view (prepares t prepared) word (seen_content seen) one.view two.view first_step
            (subst (λ v. Stepped M field.origin (λ pass. store pass content_at v) one.view two.view) held_is
            (subst (λ w. Stepped M field.origin (λ pass. store pass w held) one.view two.view) beside_is step_two))

        abbrev pub recorded : TxnState
        recorded = noted M t prepared word seen room two.view both

        pub recorded_is : one ≡ record p { view = one.view } → two ≡ record one { view = two.view } → (new : List Read)
            → new ≡ reads ++ (record { word = word; content = held; stood = true }) ∷ [] → state_of field two began new slots stop desc serial tag lots ≡ recorded
        recorded_is same_one same_two new new_is =
            ap (λ (x : PassState). state_of field x began new slots stop desc serial tag lots) (same_two ∙ ap (λ (x : PassState). record x { view = two.view }) same_one)
            ∙ ap (λ l. state_of field (record p { view = two.view }) began l slots stop desc serial tag lots)
            (new_is ∙ ap (λ v. reads ++ (record { word = word; content = v; stood = true }) ∷ []) held_is)
            ∙ state_apart field p began reads slots stop desc serial tag lots prepared two.view (both.first ∷ both.second ∷ []) both.goes
            (node_off t prepared word (seen_content seen) both.first both.second two.view both.goes room both.stores_word both.word_left both.stores_content both.content_left)
            (reads ++ (record { word = word; content = seen_content seen; stood = true }) ∷ [])
