-- A field whose nodes are laid is untouched.
use Rattle.std.proofs.Common.{◌≡◌, ◌≤◌, ◌+◌, ◌⊎◌, ℕ, false, List, [], ◌∷◌, length, get_or, sym, ap, ◌∙◌, subst, inl, inr, ⊎_elim, arith}
use Rattle.std.specs.Prelude.{IsTrue}
use Rattle.std.specs.List.{Contains}
use Rattle.std.proofs.lemmas.Bool.{cases_lt, false≢true}
use Rattle.md_words.specs.declared.shape.Shape.{Shape}
use Rattle.md_words.specs.Content.{count_of, value_of}
use Rattle.md_words.specs.Layout.{Exists, IsNode}
use Rattle.md_words.specs.Link.{is_marked, link_value, linked_node}
use Rattle.md_words.specs.Place.{Place, is_counted, base_word, bucket_head, queue_head, queue_tail, node_key, node_value, node_next, desc_status, read_word, read_content, slot_word, slot_old, slot_new}
use Rattle.md_words.specs.PlaceAt.{place_at}
use Rattle.md_words.proofs.Places.{address-place_at}
use Rattle.md_words.proofs.Words.{count_of-counted_word, is_marked-link_value, zero_is_empty}
use Rattle.md_queue_law.specs.Laws.Words.{linked_node-link}
use Rattle.md_machine.specs.declared.node.Structure.TheVariants.{Bucket, Queue}
use Rattle.md_machine.specs.Machine.{word_at}
use Rattle.md_machine.proofs.lists.Rising.{in_cons, in_none}
use Rattle.md_store_law.specs.Laid.{Chained, IsLaid, LaidNode, head_place, last_of, naming, numbers_of}
use Rattle.md_store_law.specs.Untouched.{IsUntouched}
use Rattle.md_store_layout.proofs.Chains.{unmarked-zero, value_of-naming, value_of-zero}
use Rattle.md_store_layout.proofs.Numbers.{placed_numbers}
use Rattle.md_store_layout.proofs.Opening.{placed_some}
use Rattle.md_store_layout.proofs.Stores.{StandFor}

-- a word is 0, or names a node with the count 0
abbrev IsPlainWord : ℕ → Type 0
IsPlainWord held = (held ≡ 0) ⊎ ((node : ℕ) × (held ≡ naming node))

plain_count : (held : ℕ) → IsPlainWord held → count_of held ≡ 0
plain_count held = ⊎_elim
    (λ none. ap count_of none ∙ zero_is_empty.1)
    (λ named. ap count_of named.1 ∙ count_of-counted_word (link_value named.0 false) 0 (omega arith))

plain_unmarked : (held : ℕ) → IsPlainWord held → is_marked (value_of held) ≡ false
plain_unmarked held = ⊎_elim
    (λ none. ap (λ x. is_marked (value_of x)) none ∙ ap is_marked value_of-zero ∙ unmarked-zero)
    (λ named. ap (λ x. is_marked (value_of x)) named.1 ∙ ap is_marked (value_of-naming named.0) ∙ is_marked-link_value named.0 false)

module _ (shape : Shape) (words : List ℕ) (nodes : List LaidNode) (pairs : ℕ → ℕ → List (ℕ × ℕ)) (values : ℕ → List ℕ)
    (laid : IsLaid shape words nodes) (for : StandFor shape nodes pairs values) where
  chain_plain : (place : Place) (ns : List ℕ) → Chained shape words place ns → IsPlainWord (word_at shape words place)
  chain_plain place [] c = inl c
  chain_plain place (n ∷ ns) c = inr (n, c.0)

  next_plain : (place : Place) (ns : List ℕ) (node : ℕ) → Chained shape words place ns → Contains ns node → IsPlainWord (word_at shape words (node_next node))
  next_plain place [] node c has = absurd (in_none node has)
  next_plain place (n ∷ ns) node c has = ⊎_elim
      (λ e. subst (λ x. IsPlainWord (word_at shape words (node_next x))) e (chain_plain (node_next n) ns c.1))
      (λ later. next_plain (node_next n) ns node c.1 later)
      (in_cons n ns node has)

  node_plain : (node : ℕ) → IsNode shape node → IsPlainWord (word_at shape words (node_next node))
  node_plain node is = ⊎_elim
      (λ low. let t = placed_some 1 nodes node is.0 (omega arith) in
      next_plain (head_place t.0) (numbers_of nodes t.0) node (laid.chains t.0 (for.inside node t.0 t.1)) (placed_numbers 1 nodes t.0 node t.1))
      (λ high. inl (laid.unused node (omega arith) is.1).next)
      (cases_lt node (length nodes + 1))

  place_plain : (p : Place) → Exists shape p → IsTrue (is_counted p) → IsPlainWord (word_at shape words p)
  place_plain (bucket_head map bucket) is counted = chain_plain (bucket_head map bucket) _ (laid.chains (Bucket map bucket) is)
  place_plain (queue_head queue) is counted = chain_plain (queue_head queue) _ (laid.chains (Queue queue) is)
  place_plain (queue_tail queue) is counted = inr (_, laid.tails queue is)
  place_plain (node_next node) is counted = node_plain node is
  place_plain base_word is counted = absurd (false≢true counted)
  place_plain (node_key node) is counted = absurd (false≢true counted)
  place_plain (node_value node) is counted = absurd (false≢true counted)
  place_plain (desc_status desc) is counted = absurd (false≢true counted)
  place_plain (read_word desc i) is counted = absurd (false≢true counted)
  place_plain (read_content desc i) is counted = absurd (false≢true counted)
  place_plain (slot_word desc j) is counted = absurd (false≢true counted)
  place_plain (slot_old desc j) is counted = absurd (false≢true counted)
  place_plain (slot_new desc j) is counted = absurd (false≢true counted)

  -- the last node of a chain names none
  last_next : (place : Place) (n : ℕ) (ns : List ℕ) → Chained shape words place (n ∷ ns) → word_at shape words (node_next (last_of n ns)) ≡ 0
  last_next place n [] c = c.1
  last_next place n (x ∷ ns) c = last_next (node_next n) x ns c.1

  tail_next : (place : Place) (ns : List ℕ) (node : ℕ) → Chained shape words place ns → 1 ≤ node → last_of 0 ns ≡ node → word_at shape words (node_next node) ≡ 0
  tail_next place [] node c some is = absurd (omega (arith, some, is))
  tail_next place (n ∷ ns) node c some is = ap (λ x. word_at shape words (node_next x)) (sym is) ∙ last_next place n ns c

  pub laid_untouched : IsUntouched shape words
  laid_untouched = record {
    counts = λ word counted.
        let found = address-place_at shape word counted.0 in
        subst (λ x. count_of (get_or words x 0) ≡ 0) found.1 (plain_count _ (place_plain (place_at shape word) found.0 counted.1));
    unmarked = λ node is. plain_unmarked _ (node_plain node is);
    tails = λ queue node within some named.
        let last : last_of 0 (numbers_of nodes (Queue queue)) ≡ node =
        sym (linked_node-link (last_of 0 (numbers_of nodes (Queue queue)))) ∙ ap linked_node (sym (value_of-naming (last_of 0 (numbers_of nodes (Queue queue)))) ∙ ap value_of (sym (laid.tails queue within)) ∙ named) ∙ linked_node-link node in
        ap value_of (tail_next (queue_head queue) (numbers_of nodes (Queue queue)) node (laid.chains (Queue queue) within) some last) ∙ value_of-zero;
  }
