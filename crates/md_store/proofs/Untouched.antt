-- A store that was just laid has nothing to tidy.
use Rattle.std.proofs.Common.{◌≡◌, ◌<◌, ◌+◌, ◌==◌, ℕ, false, not, [], refl, sym, ap, ◌∙◌, subst, ⊎_elim, eq-eqb}
use Rattle.std.specs.Prelude.{IsTrue, slice_index}
use Rattle.std.specs.List.{All}
use Rattle.std.proofs.lemmas.Bool.{true≢false}
use Rattle.std.proofs.lemmas.List.Elements.{All-contains, All-head}
use Rattle.md_words.specs.declared.shape.Shape.{Shape}
use Rattle.md_words.specs.Content.{value_of}
use Rattle.md_words.specs.Layout.{address}
use Rattle.md_words.specs.Link.{is_marked}
use Rattle.md_words.specs.Place.{node_next, queue_tail}
use Rattle.md_words.specs.PlaceAt.{IsCounted}
use Rattle.md_words.proofs.Places.{counted_by_place}
use Rattle.md_machine.specs.declared.certificate.Change.{Change}
use Rattle.md_machine.specs.declared.certificate.Fact.{Fact}
use Rattle.md_machine.specs.declared.certificate.TidyChange.{TidyChange}
use Rattle.md_machine.specs.declared.node.Structure.TheVariants.{Bucket, Queue}
use Rattle.md_machine.specs.declared.opening.Opening.{Opening}
use Rattle.md_machine.specs.Event.{CanOpen, opened}
use Rattle.md_machine.specs.LogicalHeap.{Holds, IsPlaced, LogicalHeap}
use Rattle.md_machine.specs.Meaning.{TidyStands}
use Rattle.md_machine.specs.Resolution.{logical_heap}
use Rattle.md_machine.proofs.chain.SameNodes.{next_counted}
use Rattle.md_machine.proofs.chain.Values.{value_even}
use Rattle.md_list_law.specs.Certificates.{next_fact}
use Rattle.md_hash_law.specs.HashTable.{IsTableUnlink}
use Rattle.md_queue_law.specs.QueueCertificates.{MovesTail, has_next}
use Rattle.md_queue_law.specs.QueueShape.{link}
use Rattle.md_rule.specs.Views.{Origin}
use Rattle.md_store_law.specs.Store.{store}
use Rattle.md_store_law.specs.Untouched.{IsUntouched}
use Rattle.md_nbtc_first.specs.First.{OpensWithNothingToTidy}
use Rattle.md_nbtc_first.proofs.Agreeing.{exist_first}

module _ (x : Opening) (can : CanOpen store x) (new : IsUntouched x.shape x.words) (t : TidyChange) (stands : TidyStands (logical_heap (opened x) []) t) where
  abbrev h : LogicalHeap
  h = logical_heap (opened x) []

  -- what a counted word holds
  value_at : (word : ℕ) → IsCounted x.shape word → h.words.value word ≡ value_of (slice_index x.words word)
  value_at word counted = value_even (opened x) [] word counted (can.even word counted)

  next_at : (node : ℕ) → IsPlaced h node → h.words.value (address x.shape (node_next node)) ≡ value_of (slice_index x.words (address x.shape (node_next node)))
  next_at node placed = value_at (address x.shape (node_next node)) (next_counted x.shape node (exist_first store x can node placed))

  -- no node is marked
  none_unlinked : IsTableUnlink x.shape t → ⊥
  none_unlinked (map, bucket, _, _, unlink) =
      let holds = All-contains (Holds h) t.facts (next_fact (Bucket map bucket) unlink.node (t.change.new + 1)) stands.facts unlink.marked in
      let placed : IsPlaced h unlink.node = (Bucket map bucket, holds.placed) in
      let next = sym (next_at unlink.node placed) ∙ holds.next.0 in
      marked_not (t.change.new + 1) holds.next.1 (ap is_marked (sym next) ∙ new.unmarked unlink.node (exist_first store x can unlink.node placed))
    where
      marked_not : (value : ℕ) → IsTrue (is_marked value) → is_marked value ≡ false → ⊥
      marked_not value is plain = true≢false (sym is ∙ plain)

  -- no tail lags
  none_moved : MovesTail x.shape t → ⊥
  none_moved moves =
      let fact : Fact = has_next moves.queue moves.from (link moves.to) in
      let holds : Holds h fact = All-head (Holds h) fact [] (subst (All (Holds h)) moves.facts stands.facts) in
      let placed : IsPlaced h moves.from = (Queue moves.queue, holds.placed) in
      let node = exist_first store x can moves.from placed in
      let old : h.words.value (address x.shape (queue_tail moves.queue)) ≡ link moves.from = subst (λ (c : Change). h.words.value c.word ≡ c.old) moves.change stands.old in
      let tail = sym (value_at (address x.shape (queue_tail moves.queue)) (tail_counted moves.queue moves.within)) ∙ old in
      let none = next_at moves.from placed ∙ new.tails moves.queue moves.from moves.within node.0 tail in
      zero_not (link moves.to) (sym holds.next.0 ∙ none) holds.next.1
    where
      tail_counted : (queue : ℕ) → queue < x.shape.queues → IsCounted x.shape (address x.shape (queue_tail queue))
      tail_counted queue within = (counted_by_place x.shape (queue_tail queue) within).1 refl

      zero_not : (value : ℕ) → value ≡ 0 → IsTrue (not (value == 0)) → ⊥
      zero_not value is not_zero = true≢false (sym not_zero ∙ ap not (eq-eqb value 0 is))

-- so nothing is to be tidied when a field is opened so
pub untouched_opens : (o : Origin) → IsUntouched o.shape o.words → OpensWithNothingToTidy store o
untouched_opens o new x shape words can t bare tidies stands =
    let same : IsUntouched x.shape x.words = subst (λ (s : Shape). IsUntouched s x.words) (sym shape) (subst (IsUntouched o.shape) (sym words) new) in
    ⊎_elim (none_unlinked x can same t stands) (none_moved x can same t stands) tidies
