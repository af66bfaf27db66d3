-- What a value that was met in a word of a bucket names in the heap as it is.
use Rattle.std.proofs.Common.{◌≡◌, ◌<◌, ℕ, false, refl, sym, ap, ◌∙◌, subst, inl, inr, ⊎_elim}
use Rattle.md_words.specs.declared.shape.Shape.{Shape}
use Rattle.md_words.specs.Layout.{IsNode}
use Rattle.md_words.specs.Link.{is_marked, linked_node}
use Rattle.md_machine.specs.declared.node.Structure.{Structure}
use Rattle.md_machine.specs.declared.node.Structure.TheVariants.{Bucket}
use Rattle.md_machine.specs.LogicalHeap.{LogicalHeap}
use Rattle.md_machine.specs.Meaning.{Meaning}
use Rattle.md_nbtc_law.specs.Known.{WasThere}
use Rattle.md_list_law.specs.Certificates.{key_fact, node_fact}
use Rattle.md_list_law.specs.HasLists.{HasListsOf}
use Rattle.md_list_law.specs.ListShape.{IsIn, IsList, IsOnward, Names, NamesOnward, head_word, next_word}

module _ (M : Meaning) (lists : HasListsOf M) (h : LogicalHeap) (map bucket : ℕ) (is_map : map < h.words.shape.maps) (is_bucket : bucket < h.words.shape.buckets) where
  abbrev list : Structure
  list = Bucket map bucket

  -- the bucket in the heap in which it was met
  bucket_then : (word value : ℕ) (was : WasThere M h word value) → IsList was.heap list (head_word was.heap.words.shape map bucket)
  bucket_then word value was = (lists.buckets was.heap map bucket was.valid (subst (λ (s : Shape). map < s.maps) (sym was.shape) is_map)
      (subst (λ (s : Shape). bucket < s.buckets) (sym was.shape) is_bucket)).list

  -- a node of the bucket in that heap is one here, with the same key
  still_in : (word value : ℕ) (was : WasThere M h word value) (node : ℕ) → IsIn was.heap list node → IsIn h list node × (h.words.key_of node ≡ was.heap.words.key_of node)
  still_in word value was node placed =
      let holds = was.facts (key_fact list node (was.heap.words.key_of node)) (record { placed = placed; key = refl; value = tt; next = tt }) in
      (holds.placed, holds.key)

  -- a node whose next word it is was placed then, and is placed
  pub placed_then : (word value : ℕ) (was : WasThere M h word value) (node : ℕ) → IsNode h.words.shape node → word ≡ next_word h.words.shape node
      → (s : Structure) × IsIn was.heap s node × IsIn h s node
  placed_then word value was node exists is =
      let placed = was.rooted node (subst (λ (s : Shape). IsNode s node) (sym was.shape) exists) (is ∙ ap (λ (s : Shape). next_word s node) (sym was.shape)) in
      let holds = was.facts (node_fact placed.0 node) (record { placed = placed.1; key = tt; value = tt; next = tt }) in
      (placed.0, placed.1, holds.placed)

  -- in the head: no node, or one of the bucket; it is unmarked
  pub met_in_head : (value : ℕ) → WasThere M h (head_word h.words.shape map bucket) value → (is_marked value ≡ false) × Names h list value
  met_in_head value was =
      let word = head_word h.words.shape map bucket in
      let stood = bucket_then word value was in
      let is = ap (λ (s : Shape). was.heap.words.value (head_word s map bucket)) was.shape ∙ was.is in (
        ap is_marked (sym is) ∙ stood.unmarked,
        ⊎_elim inl (λ placed. inr (still_in word value was (linked_node value) placed).0) (subst (Names was.heap list) is stood.first),
      )

  -- in the next word of a node of the bucket: no node, or one whose key is onward
  pub met_in_next : (node value : ℕ) → IsNode h.words.shape node → WasThere M h (next_word h.words.shape node) value → IsIn h list node
      → NamesOnward h list (h.words.key_of node) value
  met_in_next node value exists was placed =
      let word = next_word h.words.shape node in
      let stood = bucket_then word value was in
      let root = placed_then word value was node exists refl in
      let now = root.2 in
      let same : root.0 ≡ list = cc (now, placed) in
      let there = subst (λ s. IsIn was.heap s node) same root.1 in
      let is = ap (λ (s : Shape). was.heap.words.value (next_word s node)) was.shape ∙ was.is in
      let key = (still_in word value was node there).1 in
      ⊎_elim inl
      (λ above.
      let stays = still_in word value was (linked_node value) above.0 in
      inr (
        stays.0,
        subst (λ k. IsOnward (is_marked value) k (h.words.key_of (linked_node value))) (sym key)
            (subst (IsOnward (is_marked value) (was.heap.words.key_of node)) (sym stays.1) above.1),
      ))
      (subst (NamesOnward was.heap list (was.heap.words.key_of node)) is (stood.rises node there))
