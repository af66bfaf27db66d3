-- A field whose nodes are laid may be opened.
use Rattle.std.proofs.Common.{◌≡◌, ℕ, zero, suc, ◌+◌, ◌<◌, ◌≤◌, true, false, List, [], ◌∷◌, length, get_or, refl, sym, ap, ◌∙◌, subst, ⊎_elim, Option, Some, None, arith}
use Rattle.std.specs.Prelude.{IsTrue}
use Rattle.std.specs.List.{Contains}
use Rattle.std.proofs.lemmas.Bool.{cases_eq, cases_lt, cond-true, cond-false, eq-eqb, ne_eqb, false≢true}
use Rattle.md_words.specs.declared.shape.Shape.{Shape}
use Rattle.md_words.specs.Content.{count_of, is_even}
use Rattle.md_words.specs.Link.{link_value}
use Rattle.md_words.specs.Place.{Place, is_counted, base_word, bucket_head, queue_head, queue_tail, node_key, node_value, node_next, desc_status, read_word, read_content, slot_word, slot_old, slot_new}
use Rattle.md_words.specs.PlaceAt.{place_at, IsCounted}
use Rattle.md_words.specs.Layout.{Exists, IsNode}
use Rattle.md_words.proofs.Places.{address-place_at}
use Rattle.md_words.proofs.Words.{count_of-counted_word, is_even-zero, zero_is_empty}
use Rattle.md_words.proofs.Owners.{owner_of_node}
use Rattle.md_history.specs.State.{State}
use Rattle.md_machine.specs.declared.node.PlacedNode.{PlacedNode}
use Rattle.md_machine.specs.declared.node.Structure.{Structure}
use Rattle.md_machine.specs.declared.node.Structure.TheVariants.{Bucket, Queue}
use Rattle.md_machine.specs.declared.opening.Opening.{Opening}
use Rattle.md_machine.specs.Event.{CanOpen, opened}
use Rattle.md_machine.specs.LogicalHeap.{AgreeWherePlaced}
use Rattle.md_machine.specs.Machine.{word_at}
use Rattle.md_machine.specs.Resolution.{logical_heap, structure_in, or_else}
use Rattle.md_machine.proofs.lists.Rising.{in_none, in_cons}
use Rattle.md_store_law.specs.Store.{store, state_of_store}
use Rattle.md_store_law.specs.Field.{logical_words, IsStoreField}
use Rattle.md_store_law.specs.EvenFields.{IsEvenMachine}
use Rattle.md_store_law.specs.Opens.{OpensWith}
use Rattle.md_store_law.specs.Laid.{LaidNode, IsLaid, Chained, head_place, numbers_of, naming}
use Rattle.md_store_law.specs.Laws.StoreLaws.{store_lawful}
use Rattle.md_store_law.proofs.EvenFields.{even_value}
use Rattle.md_store_layout.proofs.Numbers.{placed_from, placed_numbers}
use Rattle.md_store_layout.proofs.Stores.{StandFor, AreSorted, laid_heap, laid_store}

-- a word with an even count
abbrev IsEvenWord : ℕ → Type 0
IsEvenWord word = is_even (count_of word) ≡ true

even-zero : IsEvenWord 0
even-zero = ap is_even zero_is_empty.1 ∙ is_even-zero

even-naming : (node : ℕ) → IsEvenWord (naming node)
even-naming node = ap is_even (count_of-counted_word (link_value node false) 0 (omega arith)) ∙ is_even-zero

-- where the nodes are, by number
pub length-placed : (k : ℕ) (nodes : List LaidNode) → length (placed_from k nodes) ≡ length nodes
length-placed k [] = refl
length-placed k (n ∷ nodes) = ap suc (length-placed (k + 1) nodes)

placed_node : (k : ℕ) (nodes : List LaidNode) (i : ℕ) (d : PlacedNode) → i < length (placed_from k nodes) → (get_or (placed_from k nodes) i d).node ≡ k + i
placed_node k [] i d below = absurd (omega arith)
placed_node k (n ∷ nodes) zero d below = omega arith
placed_node k (n ∷ nodes) (suc i) d below = let e = placed_node (k + 1) nodes i d (omega arith) in omega (arith, e)

pub placed_some : (k : ℕ) (nodes : List LaidNode) (node : ℕ) → k ≤ node → node < k + length nodes → (s : Structure) × (structure_in (placed_from k nodes) node ≡ Some s)
placed_some k [] node low high = absurd (omega arith)
placed_some k (n ∷ nodes) node low high = ⊎_elim
    (λ e. (n.structure, cond-true _ (Some n.structure) (structure_in (placed_from (k + 1) nodes) node) (eq-eqb k node e)))
    (λ ne. let t = placed_some (k + 1) nodes node (omega arith) (omega arith) in
    (t.0, cond-false _ (Some n.structure) (structure_in (placed_from (k + 1) nodes) node) (ne_eqb k node ne) ∙ t.1))
    (cases_eq k node)

or_else-none : (x : Option Structure) → or_else x None ≡ x
or_else-none (Some s) = refl
or_else-none None = refl

module _ (shape : Shape) (words : List ℕ) (nodes : List LaidNode) (pairs : ℕ → ℕ → List (ℕ × ℕ)) (values : ℕ → List ℕ)
    (laid : IsLaid shape words nodes) (for : StandFor shape nodes pairs values) (sorted : AreSorted shape pairs) where
  chain_even : (place : Place) (ns : List ℕ) → Chained shape words place ns → IsEvenWord (word_at shape words place)
  chain_even place [] c = subst IsEvenWord (sym c) even-zero
  chain_even place (n ∷ ns) c = subst IsEvenWord (sym c.0) (even-naming n)

  next_even : (place : Place) (ns : List ℕ) (node : ℕ) → Chained shape words place ns → Contains ns node → IsEvenWord (word_at shape words (node_next node))
  next_even place [] node c has = absurd (in_none node has)
  next_even place (n ∷ ns) node c has = ⊎_elim
      (λ e. subst (λ x. IsEvenWord (word_at shape words (node_next x))) e (chain_even (node_next n) ns c.1))
      (λ later. next_even (node_next n) ns node c.1 later)
      (in_cons n ns node has)

  node_even : (node : ℕ) → IsNode shape node → IsEvenWord (word_at shape words (node_next node))
  node_even node is = ⊎_elim
      (λ low. let t = placed_some 1 nodes node is.0 (omega arith) in
      next_even (head_place t.0) (numbers_of nodes t.0) node (laid.chains t.0 (for.inside node t.0 t.1)) (placed_numbers 1 nodes t.0 node t.1))
      (λ high. subst IsEvenWord (sym (laid.unused node (omega arith) is.1).next) even-zero)
      (cases_lt node (length nodes + 1))

  place_even : (p : Place) → Exists shape p → IsTrue (is_counted p) → IsEvenWord (word_at shape words p)
  place_even (bucket_head map bucket) is counted = chain_even (bucket_head map bucket) _ (laid.chains (Bucket map bucket) is)
  place_even (queue_head queue) is counted = chain_even (queue_head queue) _ (laid.chains (Queue queue) is)
  place_even (queue_tail queue) is counted = subst IsEvenWord (sym (laid.tails queue is)) (even-naming _)
  place_even (node_next node) is counted = node_even node is
  place_even base_word is counted = absurd (false≢true counted)
  place_even (node_key node) is counted = absurd (false≢true counted)
  place_even (node_value node) is counted = absurd (false≢true counted)
  place_even (desc_status desc) is counted = absurd (false≢true counted)
  place_even (read_word desc i) is counted = absurd (false≢true counted)
  place_even (read_content desc i) is counted = absurd (false≢true counted)
  place_even (slot_word desc j) is counted = absurd (false≢true counted)
  place_even (slot_old desc j) is counted = absurd (false≢true counted)
  place_even (slot_new desc j) is counted = absurd (false≢true counted)

  even : (word : ℕ) → IsCounted shape word → IsEvenWord (get_or words word 0)
  even word counted =
      let found = address-place_at shape word counted.0 in
      subst (λ x. IsEvenWord (get_or words x 0)) found.1 (place_even (place_at shape word) found.0 counted.1)

  abbrev opening : Opening
  opening = record { shape = shape; words = words; placed = placed_from 1 nodes }

  even_machine : IsEvenMachine (opened opening)
  even_machine = record { field = laid.field; even = even }

  agree : AgreeWherePlaced (laid_heap shape words nodes pairs values laid for sorted) (logical_heap (opened opening) [])
  agree = record {
    shape = refl;
    placed = λ node. or_else-none (structure_in (placed_from 1 nodes) node);
    value = λ word counted next. sym (even_value (opened opening) [] word even_machine counted);
    key_of = λ node placed. refl;
    value_of_node = λ node placed. refl;
  }

  pub can_open : CanOpen store opening
  can_open =
      let room = for.room in
      let count = length-placed 1 nodes in
      record {
        field = laid.field;
        base = laid.base;
        even = even;
        placed = λ i d below. let e = placed_node 1 nodes i d below in (omega arith, omega arith);
        once = λ i j d less below.
            let e = placed_node 1 nodes i d (omega arith) in
            let f = placed_node 1 nodes j d below in
            λ same. omega (arith, e, f, same);
        unused = λ lane node own. let is = (owner_of_node shape lane node).0 own in let zero_is = laid.unused node (omega (arith, is.0)) is.1 in
            record { key = zero_is.key; value = zero_is.value; next = zero_is.next };
        descs = laid.descs;
        valid = (store_lawful.frame (laid_heap shape words nodes pairs values laid for sorted) (logical_heap (opened opening) [])
            (laid_store shape words nodes pairs values laid for sorted) agree).0;
      }

  -- the field is a store
  pub store_field : IsStoreField shape words
  store_field = record {
    field = laid.field;
    even = even;
    placed = structure_in (placed_from 1 nodes);
    store = laid_store shape words nodes pairs values laid for sorted;
  }

  -- it may be opened with the state of its words
  pub laid_opens : (s : State) → state_of_store (logical_words shape words) ≡ s → OpensWith shape words s
  laid_opens s e = record { placed = placed_from 1 nodes; can_open = can_open; state = e }
