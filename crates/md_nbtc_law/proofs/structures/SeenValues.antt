-- What was seen in a word is the value that the transaction sees there after its ended operations and the tidy changes
-- since.
use Rattle.std.proofs.Common.{◌≡◌, ◌⊎◌, ◌^◌, ◌<◌, ℕ, false, List, Option, Some, None, refl, sym, ap, ◌∙◌, subst, inl, inr, ⊎_elim}
use Rattle.std.proofs.lemmas.Bool.{cases_Bool}
use Rattle.std.proofs.lemmas.List.Elements.{All-contains}
use Rattle.std.specs.List.{All, Contains}
use Rattle.md_words.specs.declared.shape.Shape.{Shape}
use Rattle.md_words.specs.Layout.{IsNode, address}
use Rattle.md_words.specs.Place.{node_next}
use Rattle.md_words.proofs.Words.{value_of-counted_word}
use Rattle.md_machine.specs.declared.certificate.Certificate.{Certificate}
use Rattle.md_machine.specs.declared.certificate.NewNode.{NewNode}
use Rattle.md_machine.specs.declared.certificate.TidyChange.{TidyChange}
use Rattle.md_machine.specs.declared.node.Structure.{Structure}
use Rattle.md_machine.specs.Certified.{all_nodes, first_content, is_written}
use Rattle.md_machine.specs.LogicalHeap.{LogicalHeap}
use Rattle.md_machine.specs.Meaning.{Lawful, Meaning}
use Rattle.md_nbtc_law.specs.declared.seen.Seen.{Seen}
use Rattle.md_nbtc_law.specs.Going.{IsFoundThere, IsGoing}
use Rattle.md_nbtc_law.specs.Known.{IsLater, Known, Met, found_by}
use Rattle.md_nbtc_law.specs.Seeing.{Gave, SeesSlot}
use Rattle.md_nbtc_law.specs.State.{OwnNode, TxnState, seen_content, shape_in, writes_in}
use Rattle.md_nbtc_law.specs.Tidied.{HasTidied, tidied}
use Rattle.md_nbtc_law.proofs.Values.{IsApart}
use Rattle.md_nbtc_law.proofs.preparing.Later.{later_over}
use Rattle.md_nbtc_law.proofs.ready.Lookups.{all_of}
use Rattle.md_nbtc_law.proofs.structures.FoundLater.{found_later, found_value}
use Rattle.md_nbtc_law.proofs.structures.NodesKnown.{new_differ, new_exist, new_free, own_is_new, shape_known}
use Rattle.md_nbtc_law.proofs.structures.Words.{stored_value, unwritten_value, written_value}

module _ (M : Meaning) (lawful : Lawful M) (t : TxnState) (cs : List Certificate) (going : IsGoing M t cs) (ts : List TidyChange) (has : HasTidied M t cs ts) where
  -- a word in which a value was met is no own node's next word
  met_apart : (word value : ℕ) → Met M t word value → Known M t (λ u h. All (IsApart (shape_in t) word) (all_nodes cs))
  met_apart word value met u later prepared h of =
      let was = met u later prepared h of in
      all_of (IsApart (shape_in t) word) (all_nodes cs) (λ n among same.
      let shape = was.shape ∙ shape_known M lawful t u later prepared h of in
      let placed = was.rooted n.node (subst (λ (s : Shape). IsNode s n.node) (sym shape) (All-contains (λ (m : NewNode). IsNode (shape_in t) m.node) (all_nodes cs) n (new_exist M lawful t cs going) among))
      (same ∙ ap (λ (s : Shape). address s (node_next n.node)) (sym shape)) in
      let there = was.facts (record { node = n.node; structure = placed.0; key = None; value = None; next = None })
      (record { placed = placed.1; key = tt; value = tt; next = tt }) in
      let now = there.placed in
      let free = new_free M lawful t cs going n among u later prepared h of in
      absurd (cc (now, free)))

  -- an own word holds what was seen in whatever heap
  pub own_value : (word : ℕ) (seen : Seen) → SeesSlot t word seen → (k : LogicalHeap) → k.words.shape ≡ shape_in t → (tidied k cs ts).words.value word ≡ seen.value
  own_value word seen sees k is = ap (tidied k cs ts).words.value (sym sees.there) ∙ written_value M t cs going.course ts has k is sees.write sees.among ∙ sees.value

  -- and so does an own node's next word that isn't written, where the node isn't placed yet
  node_value : (word value : ℕ) → is_written (writes_in t) word ≡ false → (n : OwnNode) → Contains t.nodes n → word ≡ address (shape_in t) (node_next n.node) → value ≡ n.next
      → Known M t (λ u h. (k : LogicalHeap) → k.words.shape ≡ shape_in t → k.placed ≡ h.placed → (tidied k cs ts).words.value word ≡ value)
  node_value word value unwritten n among at is u later prepared h of k shape placed =
      let m = own_is_new M lawful t cs going has.stored n among in
      let there = at ∙ ap (λ (x : OwnNode). address (shape_in t) (node_next x.node)) (sym m.2) in
      ap (tidied k cs ts).words.value there
      ∙ stored_value M t cs going.course ts has (new_exist M lawful t cs going) (new_differ M lawful t cs going) m.0 m.1 k shape
      (ap (λ (f : ℕ → Option Structure). f m.0.node) placed ∙ new_free M lawful t cs going m.0 m.1 u later prepared h of)
      (ap (is_written (writes_in t)) (sym there) ∙ unwritten)
      ∙ ap (λ (x : OwnNode). x.next) m.2 ∙ sym is

  module _ (word : ℕ) (seen : Seen) (gave : Gave t word seen) (there : IsFoundThere M t word seen) where
    -- what was seen stands there in the heap as it is, or it was met
    pub seen_or_met : (Known M t (λ u h. (tidied h cs ts).words.value word ≡ seen.value)) ⊎ Met M t word seen.value
    seen_or_met = ⊎_elim
        (λ own. inl (λ u later prepared h of. own_value word seen (gave.slot own) h (shape_known M lawful t u later prepared h of)))
        (λ other. ⊎_elim
        (λ node. inl (λ u later prepared h of. node_value word seen.value (sym gave.own ∙ other) node.0 node.1 node.2.1 node.3 u later prepared h of h (shape_known M lawful t u later prepared h of) refl))
        inr
        (there other))
        (cases_Bool seen.own)

    -- at a later time at which the content is recorded of the word, or replaced there, what was seen stands there as the
    -- transaction sees it
    pub seen_value : seen.count < 2 ^ 32 → (v : TxnState) → IsLater t v
        → (seen.own ≡ false → first_content v.reads (writes_in v) word ≡ Some (seen_content seen))
        → Known M v (λ u h. (tidied (found_by u h) cs ts).words.value word ≡ seen.value)
    seen_value fits v after first u over prepared h of =
        let later = later_over t v u after over in
        let shape = shape_known M lawful t u later prepared h of in
        ⊎_elim
        (λ own. own_value word seen (gave.slot own) (found_by u h) shape)
        (λ other. ⊎_elim
        (λ node. node_value word seen.value (sym gave.own ∙ other) node.0 node.1 node.2.1 node.3 u later prepared h of (found_by u h) shape refl)
        (λ met. unwritten_value M t cs going.course ts has (found_by u h) shape word (sym gave.own ∙ other) (met_apart word seen.value met u later prepared h of)
        ∙ found_value u h word (seen_content seen) (found_later v u over prepared word (seen_content seen) (first other))
        ∙ value_of-counted_word seen.value seen.count fits)
        (there other))
        (cases_Bool seen.own)
