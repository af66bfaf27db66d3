-- The small field is a store.
use Rattle.std.proofs.Common.{◌≡◌, ◌≢◌, ◌⊎◌, ℕ, suc, ◌+◌, ◌-◌, ◌*◌, ◌<◌, ◌≤◌, true, false, List, slice_index, length, set, replicate, eqb, refl, sym, ap, ◌∙◌, subst, inl, inr, ⊎_elim, arith, Some, None, lit≤}
use Rattle.std.specs.List.{Contains}
use Rattle.std.proofs.lemmas.Bool.{cases_eq, cond-true, cond-false, eq-eqb, ne_eqb}
use Rattle.std.proofs.lemmas.List.{length-set, length-replicate}
use Rattle.md_words.specs.declared.shape.Shape.{Shape}
use Rattle.md_words.specs.Content.{value_of, count_of, is_even}
use Rattle.md_words.specs.Link.{linked_node, is_marked, link_value}
use Rattle.md_words.specs.Place.{node_key, node_value}
use Rattle.md_words.specs.PlaceAt.{IsCounted}
use Rattle.md_words.specs.Layout.{HasNumbers, words_of, bucket_of}
use Rattle.md_machine.specs.declared.node.Structure.{Structure}
use Rattle.md_machine.specs.declared.node.Structure.TheVariants.{Bucket, Queue}
use Rattle.md_machine.specs.LogicalHeap.{LogicalHeap, next_of}
use Rattle.md_machine.proofs.lists.Options.{some_same}
use Rattle.md_list_law.specs.Walk.{walk}
use Rattle.md_list_law.specs.ListShape.{head_word, IsIn, IsBucket, NamesNone}
use Rattle.md_list_law.proofs.Walks.{walk_first}
use Rattle.md_queue_law.specs.QueueShape.{link, IsOf, head_of, tail_of, StandInLine, QueueShape}
use Rattle.md_store_law.specs.Store.{IsStore}
use Rattle.md_store_law.specs.Field.{logical_words, IsStoreField}
use Rattle.md_store_law_tests.proofs.RowPlaces.{after_set, all_zero, nodes_are, node_is, key_word, value_word, no_count}
use Rattle.md_store_law_tests.proofs.RowPlaces as places
use Rattle.md_store_law_tests.specs.Row.{row_word, row_words, row_placed}

-- a placed node is one of the three
placed_cases : (node : ℕ) (s : Structure) → row_placed node ≡ Some s
    → ((node ≡ 1) × (s ≡ Queue 0)) ⊎ (((node ≡ 2) × (s ≡ Bucket 0 5)) ⊎ ((node ≡ 3) × (s ≡ Queue 0)))
placed_cases node s e = ⊎_elim
    (λ one. inl (one, some_same _ _ (sym e ∙ cond-true (eqb node 1) _ _ (eq-eqb node 1 one))))
    (λ not_one. ⊎_elim
    (λ two. inr (inl (two, some_same _ _ (sym e ∙ cond-false (eqb node 1) _ _ (ne_eqb node 1 not_one) ∙ cond-true (eqb node 2) _ _ (eq-eqb node 2 two)))))
    (λ not_two. ⊎_elim
    (λ three. inr (inr (
      three,
      some_same _ _ (sym e ∙ cond-false (eqb node 1) _ _ (ne_eqb node 1 not_one)
          ∙ cond-false (eqb node 2) _ _ (ne_eqb node 2 not_two) ∙ cond-true (eqb node 3) _ _ (eq-eqb node 3 three)),
    )))
    (λ not_three. absurd (none_some (sym (cond-false (eqb node 1) _ _ (ne_eqb node 1 not_one)
    ∙ cond-false (eqb node 2) _ _ (ne_eqb node 2 not_two) ∙ cond-false (eqb node 3) _ _ (ne_eqb node 3 not_three)) ∙ e)))
    (cases_eq node 3))
    (cases_eq node 2))
    (cases_eq node 1)
  where
    none_some : None ≡ Some s → ⊥
    none_some e = cc

-- what the other words hold
row_zero : (word : ℕ) → word ≢ 6 → word ≢ 65 → word ≢ 66 → word ≢ 69 → word ≢ 70 → word ≢ 71 → word ≢ 73 → word ≢ 74 → row_word word ≡ 0
row_zero word a b c d e f g i =
    cond-false (eqb word 6) _ _ (ne_eqb word 6 a) ∙ cond-false (eqb word 65) _ _ (ne_eqb word 65 b) ∙ cond-false (eqb word 66) _ _ (ne_eqb word 66 c)
    ∙ cond-false (eqb word 69) _ _ (ne_eqb word 69 d) ∙ cond-false (eqb word 70) _ _ (ne_eqb word 70 e) ∙ cond-false (eqb word 71) _ _ (ne_eqb word 71 f)
    ∙ cond-false (eqb word 73) _ _ (ne_eqb word 73 g) ∙ cond-false (eqb word 74) _ _ (ne_eqb word 74 i)

pub row_length : (size : ℕ) → length (row_words size) ≡ size
row_length size = simp (length-set, length-replicate)

-- the writes make the words of the row
pub row_written : (size : ℕ) → 75 ≤ size → (word : ℕ) → slice_index (row_words size) word ≡ row_word word
row_written size fits word =
    let z = replicate size 0 in
    let l0 : length z ≡ size = length-replicate size 0 in
    let a = set z 74 9 in
    let l1 : length a ≡ size = simp (length-set, length-replicate) in
    let b = set a 73 1 in
    let l2 : length b ≡ size = simp (length-set, length-replicate) in
    let c = set b 71 6 in
    let l3 : length c ≡ size = simp (length-set, length-replicate) in
    let d = set c 70 5 in
    let l4 : length d ≡ size = simp (length-set, length-replicate) in
    let e = set d 69 25769803776 in
    let l5 : length e ≡ size = simp (length-set, length-replicate) in
    let f = set e 66 25769803776 in
    let l6 : length f ≡ size = simp (length-set, length-replicate) in
    let g = set f 65 8589934592 in
    let l7 : length g ≡ size = simp (length-set, length-replicate) in
    after_set g 6 17179869184 word _ (omega arith) (after_set f 65 8589934592 word _ (omega arith) (after_set e 66 25769803776 word _ (omega arith)
    (after_set d 69 25769803776 word _ (omega arith) (after_set c 70 5 word _ (omega arith) (after_set b 71 6 word _ (omega arith)
    (after_set a 73 1 word _ (omega arith) (after_set z 74 9 word 0 (omega arith) (all_zero size word))))))))

module _ (shape : Shape) (n : HasNumbers shape 2 16 3 4 1 64 1) (words : List ℕ) (at : (word : ℕ) → slice_index words word ≡ row_word word) where
  abbrev h : LogicalHeap
  h = record { words = logical_words shape words; placed = row_placed }

  key_at : (node word : ℕ) → 67 + 3 * (node - 1) ≡ word → h.words.key_of node ≡ row_word word
  key_at = places.key_at shape n words row_word at

  next_at : (node word : ℕ) → 67 + 3 * (node - 1) + 2 ≡ word → next_of h.words node ≡ value_of (row_word word)
  next_at = places.next_at shape n words row_word at

  -- the values that stand in the words
  values_are : (value_of 0 ≡ 0) × (value_of 17179869184 ≡ 4) × (value_of 8589934592 ≡ 2) × (value_of 25769803776 ≡ 6)
  unfolding value_of
  values_are = (refl, refl, refl, refl)

  links_are : (link 1 ≡ 2) × (link 3 ≡ 6) × (linked_node 0 ≡ 0) × (linked_node 4 ≡ 2) × (is_marked 0 ≡ false) × (is_marked 4 ≡ false)
  unfolding link_value linked_node is_marked
  links_are = (refl, refl, refl, refl, refl, refl)

  -- bucket 5 names node 2, and the others none
  head_at : (bucket : ℕ) → bucket < 64 → h.words.value (head_word shape 0 bucket) ≡ value_of (row_word (1 + bucket))
  head_at = places.head_at shape n words row_word at

  other_head : (bucket : ℕ) → bucket < 64 → bucket ≢ 5 → row_word (1 + bucket) ≡ 0
  other_head bucket below ne =
      row_zero (1 + bucket) (omega arith) (omega arith) (omega arith) (omega arith) (omega arith) (omega arith) (omega arith) (omega arith)

  -- only node 2 is in a bucket, in bucket 5
  in_bucket : (map bucket node : ℕ) → IsIn h (Bucket map bucket) node → (node ≡ 2) × (map ≡ 0) × (bucket ≡ 5)
  in_bucket map bucket node i = ⊎_elim
      (λ t. let e : Bucket map bucket ≡ Queue 0 = t.1 in absurd cc)
      (λ r. ⊎_elim
      (λ t. let e : Bucket map bucket ≡ Bucket 0 5 = t.1 in (t.0, cc, cc))
      (λ t. let e : Bucket map bucket ≡ Queue 0 = t.1 in absurd cc) r)
      (placed_cases node (Bucket map bucket) i)

  -- nodes 1 and 3 are in the queue
  in_queue : (queue node : ℕ) → IsOf h queue node → ((node ≡ 1) ⊎ (node ≡ 3)) × (queue ≡ 0)
  in_queue queue node i = ⊎_elim
      (λ t. let e : Queue queue ≡ Queue 0 = t.1 in (inl t.0, cc))
      (λ r. ⊎_elim
      (λ t. let e : Queue queue ≡ Bucket 0 5 = t.1 in absurd cc)
      (λ t. let e : Queue queue ≡ Queue 0 = t.1 in (inr t.0, cc)) r)
      (placed_cases node (Queue queue) i)

  no_next : next_of h.words 2 ≡ 0
  no_next = next_at 2 72 refl ∙ values_are.0

  ends : (bucket node : ℕ) → IsIn h (Bucket 0 bucket) node → NamesNone (next_of h.words node)
  ends bucket node i = let is = in_bucket 0 bucket node i in ap linked_node (ap (next_of h.words) is.0 ∙ no_next) ∙ links_are.2

  bucket_is : (bucket : ℕ) → bucket < 64 → IsBucket h 0 bucket
  unfolding bucket_of
  bucket_is bucket below = record {
    list = record {
      nodes = λ node i. let is = in_bucket 0 bucket node i in let e = is.0 in node_is shape n node (omega arith) (omega arith);
      unmarked = ⊎_elim
          (λ five. ap is_marked (head_at bucket below ∙ ap (λ b. value_of (row_word (1 + b))) five ∙ values_are.1) ∙ links_are.5)
          (λ ne. ap is_marked (head_at bucket below ∙ ap value_of (other_head bucket below ne) ∙ values_are.0) ∙ links_are.4)
          (cases_eq bucket 5);
      first = ⊎_elim
          (λ five. inr (ap row_placed (ap linked_node (head_at bucket below ∙ ap (λ b. value_of (row_word (1 + b))) five ∙ values_are.1) ∙ links_are.3)
          ∙ ap (λ b. Some (Bucket 0 b)) (sym five)))
          (λ ne. inl (ap linked_node (head_at bucket below ∙ ap value_of (other_head bucket below ne) ∙ values_are.0) ∙ links_are.2))
          (cases_eq bucket 5);
      rises = λ node i. inl (ends bucket node i);
      rank = λ node. 0;
      ranks = λ node i. inl (ends bucket node i);
      reached = λ node i plain. let is = in_bucket 0 bucket node i in let e = is.0 in
          let named : linked_node (h.words.value (head_word shape 0 bucket)) ≡ node =
          ap linked_node (head_at bucket below ∙ ap (λ b. value_of (row_word (1 + b))) is.2 ∙ values_are.1) ∙ links_are.3 ∙ sym is.0 in
          subst (λ most. Contains (walk h.words most (h.words.value (head_word shape 0 bucket))) node) (sym (nodes_are shape n))
          (walk_first h.words 34 (h.words.value (head_word shape 0 bucket)) node named (omega arith));
    };
    keys = λ node i. let is = in_bucket 0 bucket node i in
        ap (bucket_of shape) (ap h.words.key_of is.0 ∙ key_at 2 70 refl) ∙ rw n.5 (sym is.2);
  }

  key_1 : h.words.key_of 1 ≡ 0
  key_1 = key_at 1 67 refl

  key_3 : h.words.key_of 3 ≡ 1
  key_3 = key_at 3 73 refl

  line_is : StandInLine h 0 2 (λ rank. 1 + 2 * rank)
  line_is = record {
    exist = λ node i. ⊎_elim (λ e. node_is shape n node (omega arith) (omega arith)) (λ e. node_is shape n node (omega arith) (omega arith)) (in_queue 0 node i).0;
    ranked = λ node i. ⊎_elim
        (λ e. let k : h.words.key_of node ≡ 0 = ap h.words.key_of e ∙ key_1 in (omega (arith, k), omega (arith, k, e)))
        (λ e. let k : h.words.key_of node ≡ 1 = ap h.words.key_of e ∙ key_3 in (omega (arith, k), omega (arith, k, e)))
        (in_queue 0 node i).0;
    placed = λ rank below. ⊎_elim
        (λ e. let one : 1 + 2 * rank ≡ 1 = omega arith in (ap row_placed one, ap h.words.key_of one ∙ key_1 ∙ sym e))
        (λ ne. let is : rank ≡ 1 = omega arith in let three : 1 + 2 * rank ≡ 3 = omega arith in (ap row_placed three, ap h.words.key_of three ∙ key_3 ∙ sym is))
        (cases_eq rank 0);
    next = λ rank below. let is : rank ≡ 0 = omega arith in
        ap (λ r. next_of h.words (1 + 2 * r)) is ∙ next_at 1 69 refl ∙ values_are.3 ∙ sym links_are.1 ∙ ap (λ r. link (1 + 2 * suc r)) (sym is);
    last = λ rank end. let is : rank ≡ 1 = omega arith in ap (λ r. next_of h.words (1 + 2 * r)) is ∙ next_at 3 75 refl ∙ values_are.0;
  }

  head_is : head_of h.words 0 ≡ link 1
  head_is = places.queue_head_at shape n words row_word at ∙ values_are.2 ∙ sym links_are.0

  tail_is : tail_of h.words 0 ≡ link 3
  tail_is = places.queue_tail_at shape n words row_word at ∙ values_are.3 ∙ sym links_are.1

  queue_is : QueueShape h 0
  queue_is = record { count = 2; node_of = λ rank. 1 + 2 * rank; line = line_is; head = (1, refl, head_is); tail = (3, refl, tail_is) }

  row_store : IsStore h
  row_store = record {
    buckets = λ map bucket m b. let zeroth : map ≡ 0 = omega (arith, n.4) in
        subst (λ k. IsBucket h k bucket) (sym zeroth) (bucket_is bucket (omega (arith, n.5)));
    queues = λ queue q. let zeroth : queue ≡ 0 = omega (arith, n.6) in subst (QueueShape h) (sym zeroth) queue_is;
    alone = λ node s e. ⊎_elim
        (λ t. inr (0, omega (arith, n.6), t.1))
        (λ r. ⊎_elim (λ t. inl (0, 5, omega (arith, n.4), omega (arith, n.5), t.1)) (λ t. inr (0, omega (arith, n.6), t.1)) r)
        (placed_cases node s e);
  }

  evens : (is_even (count_of 17179869184) ≡ true) × (is_even (count_of 8589934592) ≡ true)
      × (is_even (count_of 25769803776) ≡ true) × (is_even (count_of 0) ≡ true)
  unfolding is_even count_of
  evens = (refl, refl, refl, refl)

  row_even : (word : ℕ) → IsCounted shape word → is_even (count_of (row_word word)) ≡ true
  row_even word counted =
      let counts : ℕ → ℕ = λ w. count_of (row_word w) in
      ⊎_elim (λ a. ap (λ w. is_even (counts w)) a ∙ evens.0) (λ a.
      ⊎_elim (λ b. ap (λ w. is_even (counts w)) b ∙ evens.1) (λ b.
      ⊎_elim (λ c. ap (λ w. is_even (counts w)) c ∙ evens.2) (λ c.
      ⊎_elim (λ d. ap (λ w. is_even (counts w)) d ∙ evens.2) (λ d.
      ⊎_elim (λ e. absurd (no_count shape n (node_key 2) word (node_is shape n 2 (lit≤ tt) (lit≤ tt)) refl (key_word shape n 2 70 refl ∙ sym e) counted)) (λ e.
      ⊎_elim (λ f. absurd (no_count shape n (node_value 2) word (node_is shape n 2 (lit≤ tt) (lit≤ tt)) refl (value_word shape n 2 71 refl ∙ sym f) counted)) (λ f.
      ⊎_elim (λ g. absurd (no_count shape n (node_key 3) word (node_is shape n 3 (lit≤ tt) (lit≤ tt)) refl (key_word shape n 3 73 refl ∙ sym g) counted)) (λ g.
      ⊎_elim (λ i. absurd (no_count shape n (node_value 3) word (node_is shape n 3 (lit≤ tt) (lit≤ tt)) refl (value_word shape n 3 74 refl ∙ sym i) counted)) (λ i.
      ap (λ w. is_even (count_of w)) (row_zero word a b c d e f g i) ∙ evens.3)
      (cases_eq word 74)) (cases_eq word 73)) (cases_eq word 71)) (cases_eq word 70))
      (cases_eq word 69)) (cases_eq word 66)) (cases_eq word 65)) (cases_eq word 6)

  pub row_is : length words ≡ words_of shape → IsStoreField shape words
  row_is field = record {
    field = field;
    even = λ word counted. ap (λ w. is_even (count_of w)) (at word) ∙ row_even word counted;
    placed = row_placed;
    store = row_store;
  }
