-- What a walk sees in a word of a bucket: it names no node, or a node of the bucket whose key is onward, after the ended
-- operations of the transaction. So it is also for a transaction that can no longer commit.
use Rattle.std.proofs.Common.{◌≡◌, ◌<◌, ℕ, false, List, Option, refl, sym, ap, ◌∙◌, subst, inl, inr, ⊎_elim}
use Rattle.std.specs.List.{All}
use Rattle.md_words.specs.declared.shape.Shape.{Shape}
use Rattle.md_words.specs.Content.{value_of}
use Rattle.md_words.specs.Layout.{IsNode}
use Rattle.md_words.specs.Link.{is_marked, linked_node}
use Rattle.md_machine.specs.declared.certificate.Certificate.{Certificate}
use Rattle.md_machine.specs.declared.certificate.TidyChange.{TidyChange}
use Rattle.md_machine.specs.declared.node.Structure.{Structure}
use Rattle.md_machine.specs.declared.node.Structure.TheVariants.{Bucket}
use Rattle.md_machine.specs.Certified.{after_wholes}
use Rattle.md_machine.specs.LogicalHeap.{LogicalHeap}
use Rattle.md_machine.specs.Meaning.{Lawful, Meaning}
use Rattle.md_machine.proofs.chain.Agree.{tidies_shape, wholes_shape}
use Rattle.md_machine.proofs.chain.SameNodes.{next_alone}
use Rattle.md_nbtc_law.specs.declared.seen.Seen.{Seen}
use Rattle.md_nbtc_law.specs.Going.{IsFoundThere, IsGoing, IsUnplaced}
use Rattle.md_nbtc_law.specs.Known.{Known, WasThere, found_by}
use Rattle.md_nbtc_law.specs.Seeing.{Gave}
use Rattle.md_nbtc_law.specs.State.{TxnState, shape_in, writes_in}
use Rattle.md_nbtc_law.specs.Tidied.{HasTidied, tidied}
use Rattle.md_nbtc_law.proofs.preparing.Heaps.{heap_valid}
use Rattle.md_nbtc_law.proofs.structures.NodesKnown.{fact_after, shape_known}
use Rattle.md_nbtc_law.proofs.structures.SeenValues.{seen_or_met}
use Rattle.md_nbtc_law.proofs.structures.StoodThen.{stood_then, tidied_then}
use Rattle.md_nbtc_law.proofs.structures.Tidying.{bare_keys, bare_placed}
use Rattle.std.proofs.lemmas.List.Elements.{All-contains}
use Rattle.md_list_law.specs.Certificates.{key_fact, node_fact}
use Rattle.md_list_law.specs.HasLists.{HasListsOf}
use Rattle.md_list_law.specs.ListShape.{IsIn, IsOnward, IsRank, Names, NamesOnward, head_word, next_word}
use Rattle.md_list_law.specs.Rising.{BucketRises, FoundRising, LinksRise}
use Rattle.md_list_law.proofs.Links.{head_is_no_next}
use Rattle.md_list_law.proofs.RisingAlong.{rises_along, rises_at_first, rises_tidied}
use Rattle.md_list.proofs.walking.MetInBuckets.{met_in_head, met_in_next, placed_then}

module _ (M : Meaning) (lawful : Lawful M) (lists : HasListsOf M) (t : TxnState) (map bucket : ℕ) (is_map : map < (shape_in t).maps) (is_bucket : bucket < (shape_in t).buckets)
    (cs : List Certificate) (going : IsGoing M t cs) where
  abbrev list : Structure
  list = Bucket map bucket

  abbrev head : ℕ
  head = head_word (shape_in t) map bucket

  map_there : Known M t (λ u h. map < h.words.shape.maps)
  map_there u later prepared h of = subst (λ (s : Shape). map < s.maps) (sym (shape_known M lawful t u later prepared h of)) is_map

  bucket_there : Known M t (λ u h. bucket < h.words.shape.buckets)
  bucket_there u later prepared h of = subst (λ (s : Shape). bucket < s.buckets) (sym (shape_known M lawful t u later prepared h of)) is_bucket

  -- contents that were found first name nodes with rising keys
  found_rising : Known M t (λ u h. FoundRising t.reads (writes_in t) h map bucket)
  found_rising u later prepared h of =
      let shape = shape_known M lawful t u later prepared h of in
      let m = map_there u later prepared h of in
      let b = bucket_there u later prepared h of in
      record {
        head = λ content first. ⊎_elim
            (λ own. absurd (head_is_no_next (shape_in t) map bucket own.0.node is_map is_bucket own.2.0
            (sym own.2.1 ∙ ap (λ (s : Shape). head_word s map bucket) shape)))
            (λ met. met_in_head M lists h map bucket m b (value_of content) (met u later prepared h of))
            (going.first (head_word h.words.shape map bucket) content first);
        next = λ node content placed first.
            let exists = lists.nodes h node (heap_valid M lawful u h of) (list, placed) in
            ⊎_elim
            (λ own.
            let same = next_alone (shape_in t) node own.0.node (subst (λ (s : Shape). IsNode s node) shape exists) own.2.0
            (ap (λ (s : Shape). next_word s node) (sym shape) ∙ own.2.1) in
            let free = (All-contains (IsUnplaced M t) t.nodes own.0 going.nodes own.1).unplaced u later prepared h of in
            absurd (cc (free, placed, same)))
            (λ met. met_in_next M lists h map bucket m b node (value_of content) exists (met u later prepared h of) placed)
            (going.first (next_word h.words.shape node) content first);
      }

  -- so keys rise along all links that its ended operations leave, and the nodes have ranks
  rises_after : Known M t (λ u h. BucketRises (after_wholes (found_by t h) cs) (after_wholes h cs) map bucket)
  rises_after u later prepared h of =
      let shape = shape_known M lawful t u later prepared h of in
      let first = rises_at_first M lists h map bucket t.reads (writes_in t) (heap_valid M lawful u h of) (map_there u later prepared h of) (bucket_there u later prepared h of)
      (found_rising u later prepared h of) in
      rises_along M lists (found_by t h) h map bucket cs (map_there u later prepared h of) (bucket_there u later prepared h of)
      (subst (λ s. All (M.certifies s) cs) (sym shape) going.course.certifies)
      (subst (λ s. All (λ (c : Certificate). All (M.tidies s) c.tidy) cs) (sym shape) going.course.tidies)
      (stood_then M t cs going.course u later prepared h of) first

  pub order_known : Known M t (λ u h. (rank : ℕ → ℕ) × IsRank (after_wholes h cs) list rank)
  order_known u later prepared h of = let after = rises_after u later prepared h of in (after.rank, after.ranks)

  module _ (ts : List TidyChange) (has : HasTidied M t cs ts) where
    -- and along those that its tidy changes leave
    links_rise : Known M t (λ u h. LinksRise (tidied h cs ts) list (head_word (after_wholes h cs).words.shape map bucket))
    links_rise u later prepared h of =
        let shape = shape_known M lawful t u later prepared h of in
        let after = wholes_shape h cs ∙ shape in
        let last = rises_tidied M lists (after_wholes (found_by t h) cs) (after_wholes h cs) map bucket ts
        (subst (λ (s : Shape). map < s.maps) (sym after) is_map) (subst (λ (s : Shape). bucket < s.buckets) (sym after) is_bucket)
        (subst (λ s. All (M.tidies s) ts) (sym after) has.tidies)
        (tidied_then M t cs going.course ts has u later prepared h of) (rises_after u later prepared h of) in
        subst (λ (s : Shape). LinksRise (tidied h cs ts) list (head_word s map bucket)) (tidies_shape (after_wholes h cs) ts) last.there

    -- what a value names in the heap it names after the ended operations
    still_onward : Known M t (λ u h. (key value : ℕ) → NamesOnward h list key value → NamesOnward (after_wholes h cs) list key value)
    still_onward u later prepared h of key value = ⊎_elim inl (λ above.
        let node = linked_node value in
        let exists = subst (λ (s : Shape). IsNode s node) (shape_known M lawful t u later prepared h of) (lists.nodes h node (heap_valid M lawful u h of) (list, above.0)) in
        let after = fact_after M lawful t cs going u later prepared h of (key_fact list node (h.words.key_of node)) refl exists
        (record { placed = above.0; key = refl; value = tt; next = tt }) in
        inr (after.placed, subst (IsOnward (is_marked value) key) (sym after.key) above.1))

    still_named : Known M t (λ u h. (value : ℕ) → Names h list value → Names (after_wholes h cs) list value)
    still_named u later prepared h of value = ⊎_elim inl (λ placed.
        let node = linked_node value in
        let exists = subst (λ (s : Shape). IsNode s node) (shape_known M lawful t u later prepared h of) (lists.nodes h node (heap_valid M lawful u h of) (list, placed)) in
        let after = fact_after M lawful t cs going u later prepared h of (node_fact list node) refl exists (record { placed = placed; key = tt; value = tt; next = tt }) in
        inr after.placed)

    -- and so it does with the tidy changes
    named_before : (h : LogicalHeap) (value : ℕ) → Names (tidied h cs ts) list value → Names (after_wholes h cs) list value
    named_before h value = ⊎_elim inl (λ placed. inr (ap (λ (f : ℕ → Option Structure). f (linked_node value)) (sym (bare_placed (after_wholes h cs) ts has.bare)) ∙ placed))

    onward_before : (h : LogicalHeap) (key value : ℕ) → NamesOnward (tidied h cs ts) list key value → NamesOnward (after_wholes h cs) list key value
    onward_before h key value = ⊎_elim inl (λ above. inr (
      ap (λ (f : ℕ → Option Structure). f (linked_node value)) (sym (bare_placed (after_wholes h cs) ts has.bare)) ∙ above.0,
      subst (λ (f : ℕ → ℕ). IsOnward (is_marked value) key (f (linked_node value))) (bare_keys (after_wholes h cs) ts has.bare) above.1,
    ))

    -- a node of the bucket in whose next word a value was met was one of the bucket then, and is one
    pub met_node : (node value : ℕ) → IsNode (shape_in t) node → Known M t (λ u h. IsIn (after_wholes h cs) list node)
        → Known M t (λ u h. (was : WasThere M h (next_word h.words.shape node) value) → IsIn was.heap list node × IsIn h list node)
    met_node node value exists placed u later prepared h of was =
        let is_node = subst (λ (s : Shape). IsNode s node) (sym (shape_known M lawful t u later prepared h of)) exists in
        let root = placed_then M lists h map bucket (map_there u later prepared h of) (bucket_there u later prepared h of) (next_word h.words.shape node) value was node is_node refl in
        let after = (fact_after M lawful t cs going u later prepared h of (node_fact root.0 node) refl exists (record { placed = root.2; key = tt; value = tt; next = tt })).placed in
        let now = placed u later prepared h of in
        let same : root.0 ≡ list = cc (after, now) in
        (subst (λ s. IsIn was.heap s node) same root.1, subst (λ s. IsIn h s node) same root.2)

    module _ (seen : Seen) where
      -- what is seen in the head is unmarked, and names no node or one of the bucket
      pub head_names : Gave t head seen → IsFoundThere M t head seen → Known M t (λ u h. (is_marked seen.value ≡ false) × Names (after_wholes h cs) list seen.value)
      head_names gave there = ⊎_elim
          (λ known u later prepared h of.
          let rise = links_rise u later prepared h of in
          let is = ap (λ (s : Shape). (tidied h cs ts).words.value (head_word s map bucket)) (wholes_shape h cs ∙ shape_known M lawful t u later prepared h of)
          ∙ known u later prepared h of in
          (ap is_marked (sym is) ∙ rise.unmarked, named_before h seen.value (subst (Names (tidied h cs ts) list) is rise.first)))
          (λ met u later prepared h of.
          let found = met_in_head M lists h map bucket (map_there u later prepared h of) (bucket_there u later prepared h of) seen.value
          (subst (λ (s : Shape). WasThere M h (head_word s map bucket) seen.value) (sym (shape_known M lawful t u later prepared h of)) (met u later prepared h of)) in
          (found.0, still_named u later prepared h of seen.value found.1))
          (seen_or_met M lawful t cs going ts has head seen gave there)

      -- what is seen in the next word of a node of the bucket names no node, or one of the bucket whose key is onward
      pub next_names : (node : ℕ) → IsNode (shape_in t) node → Known M t (λ u h. IsIn (after_wholes h cs) list node)
          → Gave t (next_word (shape_in t) node) seen → IsFoundThere M t (next_word (shape_in t) node) seen
          → Known M t (λ u h. NamesOnward (after_wholes h cs) list ((after_wholes h cs).words.key_of node) seen.value)
      next_names node exists placed gave there = ⊎_elim
          (λ known u later prepared h of.
          let rise = links_rise u later prepared h of in
          let shape = tidies_shape (after_wholes h cs) ts ∙ wholes_shape h cs ∙ shape_known M lawful t u later prepared h of in
          let is = ap (λ (s : Shape). (tidied h cs ts).words.value (next_word s node)) shape ∙ known u later prepared h of in
          let there = ap (λ (f : ℕ → Option Structure). f node) (bare_placed (after_wholes h cs) ts has.bare) ∙ placed u later prepared h of in
          subst (λ (f : ℕ → ℕ). NamesOnward (after_wholes h cs) list (f node) seen.value) (bare_keys (after_wholes h cs) ts has.bare)
          (onward_before h ((tidied h cs ts).words.key_of node) seen.value
          (subst (NamesOnward (tidied h cs ts) list ((tidied h cs ts).words.key_of node)) is (rise.rises node there))))
          (λ met u later prepared h of.
          let shape = shape_known M lawful t u later prepared h of in
          let is_node = subst (λ (s : Shape). IsNode s node) (sym shape) exists in
          let was = subst (λ (s : Shape). WasThere M h (next_word s node) seen.value) (sym shape) (met u later prepared h of) in
          let in_list = (met_node node seen.value exists placed u later prepared h of was).1 in
          let key = (fact_after M lawful t cs going u later prepared h of (key_fact list node (h.words.key_of node)) refl exists
          (record { placed = in_list; key = refl; value = tt; next = tt })).key in
          subst (λ k. NamesOnward (after_wholes h cs) list k seen.value) (sym key)
          (still_onward u later prepared h of (h.words.key_of node) seen.value
          (met_in_next M lists h map bucket (map_there u later prepared h of) (bucket_there u later prepared h of) node seen.value is_node was in_list)))
          (seen_or_met M lawful t cs going ts has (next_word (shape_in t) node) seen gave there)
