-- The field after use is a store.
use Rattle.std.proofs.Common.{◌≡◌, ◌≢◌, ◌⊎◌, ℕ, zero, suc, ◌+◌, ◌*◌, ◌<◌, ◌≤◌, ◌%◌, ◌++◌, ◌&&◌, ◌||◌, cond, Bool, true, false, List, [], ◌∷◌, slice_index, length, get_or, set, replicate, eqb, ltb, refl, sym, ap, ◌∙◌, subst, inl, inr, ⊎_elim, arith, Some, None}
use Rattle.std.specs.Prelude.{IsTrue}
use Rattle.std.specs.List.{Contains, AllByRecursion, range_with_len}
use Rattle.std.proofs.lemmas.Bool.{cases_eq, cases_lt, cases_Bool, cond-true, cond-false, eq-eqb, ne_eqb, false≢true, lt-ltb, le-ltb, ltb-true}
use Rattle.std.proofs.lemmas.List.{length-set, length-replicate}
use Rattle.md_words.specs.declared.shape.Shape.{Shape}
use Rattle.md_words.specs.Content.{value_of, count_of, is_even}
use Rattle.md_words.specs.Link.{linked_node, is_marked, link_value}
use Rattle.md_words.specs.Place.{node_key}
use Rattle.md_words.specs.PlaceAt.{IsCounted}
use Rattle.md_words.specs.Layout.{HasNumbers, words_of, bucket_of}
use Rattle.md_machine.specs.declared.node.Structure.{Structure}
use Rattle.md_machine.specs.declared.node.Structure.TheVariants.{Bucket, Queue}
use Rattle.md_machine.specs.LogicalHeap.{LogicalHeap, next_of}
use Rattle.md_machine.proofs.lists.Options.{some_same}
use Rattle.md_list_law.specs.Walk.{walk}
use Rattle.md_list_law.specs.ListShape.{head_word, IsIn, IsBucket, Names, NamesAbove}
use Rattle.md_list_law.proofs.Order.{after_above, onward_above}
use Rattle.md_list_law.proofs.Walks.{walk_first, walk_later}
use Rattle.md_queue_law.specs.QueueShape.{link, IsOf, StandInLine, QueueShape}
use Rattle.md_store_law.specs.Store.{IsStore}
use Rattle.md_store_law.specs.Field.{logical_words, IsStoreField}
use Rattle.md_store_law_tests.specs.UsedRow.{used_row, used_word, used_words, used_placed, after_writes, written, are_below}
use Rattle.md_store_law_tests.proofs.RowPlaces.{after_set, all_zero, nodes_are, node_is, key_word, no_count, key_at, next_at, head_at, queue_head_at, queue_tail_at}

-- what a list holds after writes, and how long it is
pub length-written : (ws : List (ℕ × ℕ)) (xs : List ℕ) → length (written ws xs) ≡ length xs
length-written [] xs = refl
length-written (w ∷ ws) xs = length-written ws (set xs w.0 w.1) ∙ length-set xs w.0 w.1

below_first : (size : ℕ) (w : ℕ × ℕ) (ws : List (ℕ × ℕ)) → are_below size (w ∷ ws) ≡ true → (w.0 < size) × (are_below size ws ≡ true)
below_first size w ws e = ⊎_elim
    (λ yes. (ltb-true w.0 size yes, sym (ap (λ b. b && are_below size ws) yes) ∙ e))
    (λ no. absurd (false≢true (sym (ap (λ b. b && are_below size ws) no) ∙ e)))
    (cases_Bool (ltb w.0 size))

holds_after : (ws : List (ℕ × ℕ)) (xs : List ℕ) (size word was : ℕ) → are_below size ws ≡ true → size ≤ length xs → get_or xs word 0 ≡ was
    → get_or (written ws xs) word 0 ≡ after_writes ws word was
holds_after [] xs size word was below fits e = e
holds_after (w ∷ ws) xs size word was below fits e =
    let b = below_first size w ws below in
    holds_after ws (set xs w.0 w.1) size word (cond (eqb word w.0) w.1 was) b.1 (omega (arith, length-set xs w.0 w.1))
    (after_set xs w.0 w.1 word was (omega (arith, b.0)) e)

pub used_length : (size : ℕ) → length (used_words size) ≡ size
used_length size = length-written used_row (replicate size 0) ∙ length-replicate size 0

pub used_written : (size : ℕ) → 94 ≤ size → (word : ℕ) → slice_index (used_words size) word ≡ used_word word
used_written size fits word = holds_after used_row (replicate size 0) 94 word 0 refl (omega (arith, length-replicate {A = ℕ} size 0)) (all_zero size word)

-- what holds of each of a few numbers
among : (P : ℕ → Type 0) (a n x : ℕ) → AllByRecursion P (range_with_len a n) → a ≤ x → x < a + n → P x
among P a zero x all low high = absurd (omega (arith, low, high))
among P a (suc n) x all low high = ⊎_elim
    (λ e. subst P e all.0)
    (λ ne. among P (a + 1) n x all.1 (omega (arith, low, ne)) (omega (arith, high)))
    (cases_eq a x)

-- a word that no write names is as it was
abbrev are_others : List (ℕ × ℕ) → Bool
are_others [] = true
are_others (w ∷ ws) = (eqb w.0 7 || ltb 64 w.0) && are_others ws

unwritten : (ws : List (ℕ × ℕ)) (word was : ℕ) → are_others ws ≡ true → word ≢ 7 → word ≤ 64 → after_writes ws word was ≡ was
unwritten [] word was all ne low = refl
unwritten (w ∷ ws) word was all ne low = ⊎_elim
    (λ yes. ap (after_writes ws word) (cond-false (eqb word w.0) w.1 was (ne_eqb word w.0 (apart yes))) ∙ unwritten ws word was (sym (ap (λ x. x && are_others ws) yes) ∙ all) ne low)
    (λ no. absurd (false≢true (sym (ap (λ x. x && are_others ws) no) ∙ all)))
    (cases_Bool (eqb w.0 7 || ltb 64 w.0))
  where
    apart : (eqb w.0 7 || ltb 64 w.0) ≡ true → word ≢ w.0
    apart first e = ⊎_elim
        (λ seven. ne (e ∙ seven))
        (λ other. false≢true (sym (ap (λ x. x || ltb 64 w.0) (ne_eqb w.0 7 other) ∙ le-ltb 64 w.0 (omega (arith, e))) ∙ first))
        (cases_eq w.0 7)

-- one more write
pub written_push : (ws : List (ℕ × ℕ)) (w : ℕ × ℕ) (xs : List ℕ) → written (ws ++ w ∷ []) xs ≡ set (written ws xs) w.0 w.1
written_push [] w xs = refl
written_push (v ∷ ws) w xs = written_push ws w (set xs v.0 v.1)

pub below_at : (size : ℕ) (ws : List (ℕ × ℕ)) (i : ℕ) → IsTrue (are_below size ws) → i < length ws → (get_or ws i (0, 0)).0 < size
below_at size [] i below inside = absurd (omega (arith, inside))
below_at size (w ∷ ws) zero below inside = (below_first size w ws below).0
below_at size (w ∷ ws) (suc i) below inside = below_at size ws i (below_first size w ws below).1 (omega (arith, inside))

-- each placed node is of the queue or of the bucket
placed_cases : (node : ℕ) (s : Structure) → used_placed node ≡ Some s
    → ((1 ≤ node) × (node < 6) × (s ≡ Queue 0)) ⊎ ((6 ≤ node) × (node < 10) × (s ≡ Bucket 0 6))
placed_cases node s e = ⊎_elim
    (λ none. absurd (none_some (sym (cond-true (eqb node 0) None _ (eq-eqb node 0 none)) ∙ e)))
    (λ some. let f = sym (cond-false (eqb node 0) None _ (ne_eqb node 0 some)) ∙ e in ⊎_elim
    (λ low. inl (omega (arith, some), low, some_same _ _ (sym f ∙ cond-true (ltb node 6) _ _ (lt-ltb node 6 low))))
    (λ high. let g = sym (cond-false (ltb node 6) _ _ (le-ltb node 6 high)) ∙ f in ⊎_elim
    (λ low. inr (high, low, some_same _ _ (sym g ∙ cond-true (ltb node 10) _ _ (lt-ltb node 10 low))))
    (λ past. absurd (none_some (sym (cond-false (ltb node 10) _ _ (le-ltb node 10 past)) ∙ g)))
    (cases_lt node 10))
    (cases_lt node 6))
    (cases_eq node 0)
  where
    none_some : None ≡ Some s → ⊥
    none_some e = cc

-- the words but those of two keys hold even counts
abbrev are_even : List (ℕ × ℕ) → Bool
are_even [] = true
are_even (w ∷ ws) = (is_even (count_of w.1) || (eqb w.0 70 || eqb w.0 76)) && are_even ws

even_first : (w : ℕ × ℕ) (ws : List (ℕ × ℕ)) → are_even (w ∷ ws) ≡ true → w.0 ≢ 70 → w.0 ≢ 76 → is_even (count_of w.1) ≡ true
even_first w ws e a b = ⊎_elim
    (λ yes. yes)
    (λ no. absurd (false≢true (sym (ap (λ x. (x || (eqb w.0 70 || eqb w.0 76)) && are_even ws) no
    ∙ ap (λ x. (x || eqb w.0 76) && are_even ws) (ne_eqb w.0 70 a) ∙ ap (λ x. x && are_even ws) (ne_eqb w.0 76 b)) ∙ e)))
    (cases_Bool (is_even (count_of w.1)))

even_rest : (w : ℕ × ℕ) (ws : List (ℕ × ℕ)) → are_even (w ∷ ws) ≡ true → are_even ws ≡ true
even_rest w ws e = ⊎_elim
    (λ yes. sym (ap (λ x. x && are_even ws) yes) ∙ e)
    (λ no. absurd (false≢true (sym (ap (λ x. x && are_even ws) no) ∙ e)))
    (cases_Bool (is_even (count_of w.1) || (eqb w.0 70 || eqb w.0 76)))

even_after : (ws : List (ℕ × ℕ)) (word was : ℕ) → are_even ws ≡ true → word ≢ 70 → word ≢ 76 → is_even (count_of was) ≡ true
    → is_even (count_of (after_writes ws word was)) ≡ true
even_after [] word was all a b even = even
even_after (w ∷ ws) word was all a b even = even_after ws word (cond (eqb word w.0) w.1 was) (even_rest w ws all) a b (⊎_elim
    (λ e. ap (λ x. is_even (count_of x)) (cond-true (eqb word w.0) w.1 was (eq-eqb word w.0 e)) ∙ even_first w ws all (λ x. a (e ∙ x)) (λ x. b (e ∙ x)))
    (λ ne. ap (λ x. is_even (count_of x)) (cond-false (eqb word w.0) w.1 was (ne_eqb word w.0 ne)) ∙ even)
    (cases_eq word w.0))

plain_even : (word : ℕ) → word ≢ 70 → word ≢ 76 → is_even (count_of (used_word word)) ≡ true
unfolding is_even count_of
plain_even word a b = even_after used_row word 0 refl a b refl

-- only the head of bucket 6 was written
other_head : (bucket : ℕ) → bucket < 64 → bucket ≢ 6 → used_word (1 + bucket) ≡ 0
other_head bucket below ne = unwritten used_row (1 + bucket) 0 refl (omega (arith, ne)) (omega arith)

module _ (shape : Shape) (n : HasNumbers shape 2 16 3 4 1 64 1) (words : List ℕ) (at : (word : ℕ) → slice_index words word ≡ used_word word) where
  abbrev h : LogicalHeap
  h = record { words = logical_words shape words; placed = used_placed }

  -- the next words of the nodes, and their keys
  abbrev next_value : ℕ → ℕ
  next_value node = get_or (0 ∷ 4 ∷ 6 ∷ 8 ∷ 10 ∷ 0 ∷ 14 ∷ 17 ∷ 0 ∷ 17 ∷ []) node 0

  abbrev key_value : ℕ → ℕ
  key_value node = get_or (0 ∷ 0 ∷ 1 ∷ 2 ∷ 3 ∷ 4 ∷ 6 ∷ 70 ∷ 134 ∷ 70 ∷ []) node 0

  next_is : (node : ℕ) → 1 ≤ node → node < 10 → next_of h.words node ≡ next_value node
  unfolding value_of
  next_is node low high = let reads = next_at shape n words used_word at in among (λ (x : ℕ). next_of h.words x ≡ next_value x) 1 9 node (
    reads 1 69 refl,
    (reads 2 72 refl, (reads 3 75 refl, (reads 4 78 refl, (reads 5 81 refl, (reads 6 84 refl, (reads 7 87 refl, (reads 8 90 refl, (reads 9 93 refl, tt)))))))),
  ) low high

  key_is : (node : ℕ) → 1 ≤ node → node < 10 → h.words.key_of node ≡ key_value node
  key_is node low high = let reads = key_at shape n words used_word at in among (λ (x : ℕ). h.words.key_of x ≡ key_value x) 1 9 node (
    reads 1 67 refl,
    (reads 2 70 refl, (reads 3 73 refl, (reads 4 76 refl, (reads 5 79 refl, (reads 6 82 refl, (reads 7 85 refl, (reads 8 88 refl, (reads 9 91 refl, tt)))))))),
  ) low high

  -- nodes 6 to 9 are in a bucket, in bucket 6, and nodes 1 to 5 in the queue
  in_bucket : (map bucket node : ℕ) → IsIn h (Bucket map bucket) node → (6 ≤ node) × (node < 10) × (map ≡ 0) × (bucket ≡ 6)
  in_bucket map bucket node i = ⊎_elim
      (λ t. let e : Bucket map bucket ≡ Queue 0 = t.2 in absurd cc)
      (λ t. let e : Bucket map bucket ≡ Bucket 0 6 = t.2 in (t.0, t.1, cc, cc))
      (placed_cases node (Bucket map bucket) i)

  in_queue : (queue node : ℕ) → IsOf h queue node → (1 ≤ node) × (node < 6) × (queue ≡ 0)
  in_queue queue node i = ⊎_elim
      (λ t. let e : Queue queue ≡ Queue 0 = t.2 in (t.0, t.1, cc))
      (λ t. let e : Queue queue ≡ Bucket 0 6 = t.2 in absurd cc)
      (placed_cases node (Queue queue) i)

  -- the head of bucket 6 names node 6, and the others none
  six : h.words.value (head_word shape 0 6) ≡ 12
  unfolding value_of
  six = head_at shape n words used_word at 6 (omega arith)

  none : (bucket : ℕ) → bucket < 64 → bucket ≢ 6 → h.words.value (head_word shape 0 bucket) ≡ 0
  unfolding value_of
  none bucket below ne = head_at shape n words used_word at bucket below ∙ ap value_of (other_head bucket below ne)

  head_is : (P : ℕ → Type 0) (bucket : ℕ) → bucket < 64 → (bucket ≡ 6 → P 12) → P 0 → P (h.words.value (head_word shape 0 bucket))
  head_is P bucket below this other = ⊎_elim
      (λ e. subst P (sym (ap (λ b. h.words.value (head_word shape 0 b)) e ∙ six)) (this e))
      (λ ne. subst P (sym (none bucket below ne)) other)
      (cases_eq bucket 6)

  -- along next words keys rise
  above : (node other : ℕ) → 6 ≤ node → node < 10 → 6 ≤ other → other < 10 → linked_node (next_value node) ≡ other → key_value node < key_value other
      → used_placed other ≡ Some (Bucket 0 6) → NamesAbove h (Bucket 0 6) (h.words.key_of node) (next_of h.words node)
  above node other low high from to names less placed =
      let named : linked_node (next_of h.words node) ≡ other = ap linked_node (next_is node (omega (arith, low)) high) ∙ names in
      inr (
        ap used_placed named ∙ placed,
        omega (arith, key_is node (omega (arith, low)) high, key_is other (omega (arith, from)) to, less, ap h.words.key_of named),
      )

  rises : (node : ℕ) → 6 ≤ node → node < 10 → NamesAbove h (Bucket 0 6) (h.words.key_of node) (next_of h.words node)
  unfolding linked_node
  rises node low high = among (λ (x : ℕ). NamesAbove h (Bucket 0 6) (h.words.key_of x) (next_of h.words x)) 6 4 node (
    above 6 7 (omega arith) (omega arith) (omega arith) (omega arith) refl (omega arith) refl,
    (
      above 7 8 (omega arith) (omega arith) (omega arith) (omega arith) refl (omega arith) refl,
      (
        inl (ap linked_node (next_is 8 (omega arith) (omega arith))),
        (above 9 8 (omega arith) (omega arith) (omega arith) (omega arith) refl (omega arith) refl, tt),
      ),
    ),
  ) low high

  -- a walk from the head of bucket 6 passes node 6, and then nodes 7 and 8
  to_six : linked_node (h.words.value (head_word shape 0 6)) ≡ 6
  unfolding linked_node
  to_six = ap linked_node six

  to_seven : linked_node (next_of h.words 6) ≡ 7
  unfolding linked_node
  to_seven = ap linked_node (next_is 6 (omega arith) (omega arith))

  to_eight : linked_node (next_of h.words 7) ≡ 8
  unfolding linked_node
  to_eight = ap linked_node (next_is 7 (omega arith) (omega arith))

  past_seven : Contains (walk h.words 34 (next_of h.words 6)) 8
  past_seven = walk_later h.words 33 (next_of h.words 6) 8 (λ e. omega (arith, to_seven, e))
      (subst (λ (x : ℕ). Contains (walk h.words 33 (next_of h.words x)) 8) (sym to_seven)
      (walk_first h.words 32 (next_of h.words 7) 8 to_eight (omega arith)))

  past_six : Contains (walk h.words 35 (h.words.value (head_word shape 0 6))) 8
  past_six = walk_later h.words 34 (h.words.value (head_word shape 0 6)) 8 (λ e. omega (arith, to_six, e))
      (subst (λ (x : ℕ). Contains (walk h.words 34 (next_of h.words x)) 8) (sym to_six) past_seven)

  -- the unmarked nodes are reached: node 6 first, and node 8 past it and node 7
  reached : (node : ℕ) → 6 ≤ node → node < 10 → is_marked (next_of h.words node) ≡ false
      → Contains (walk h.words 35 (h.words.value (head_word shape 0 6))) node
  unfolding is_marked
  reached node low high = among
      (λ (x : ℕ). is_marked (next_of h.words x) ≡ false → Contains (walk h.words 35 (h.words.value (head_word shape 0 6))) x) 6 4 node (
        (λ plain. walk_first h.words 34 _ 6 to_six (omega arith)),
        (
          (λ plain. absurd (false≢true (sym plain ∙ ap is_marked (next_is 7 (omega arith) (omega arith))))),
          (
            (λ plain. past_six),
            ((λ plain. absurd (false≢true (sym plain ∙ ap is_marked (next_is 9 (omega arith) (omega arith))))), tt),
          ),
        ),
      ) low high

  home : (node : ℕ) → 6 ≤ node → node < 10 → bucket_of shape (h.words.key_of node) ≡ 6
  unfolding bucket_of
  home node low high = ap (λ k. k % shape.buckets) (key_is node (omega (arith, low)) high) ∙ ap (λ b. key_value node % b) n.5
      ∙ among (λ (x : ℕ). key_value x % 64 ≡ 6) 6 4 node (refl, (refl, (refl, (refl, tt)))) low high

  bucket_is : (bucket : ℕ) → bucket < 64 → IsBucket h 0 bucket
  unfolding is_marked linked_node
  bucket_is bucket below = record {
    list = record {
      nodes = λ node i. let is = in_bucket 0 bucket node i in node_is shape n node (omega (arith, is.0)) (omega (arith, is.1));
      unmarked = head_is (λ v. is_marked v ≡ false) bucket below (λ e. refl) refl;
      first = head_is (Names h (Bucket 0 bucket)) bucket below (λ e. inr (ap (λ b. Some (Bucket 0 b)) (sym e))) (inl refl);
      rises = λ node i. let is = in_bucket 0 bucket node i in
          onward_above h (Bucket 0 bucket) (h.words.key_of node) (next_of h.words node)
          (subst (λ (b : ℕ). NamesAbove h (Bucket 0 b) (h.words.key_of node) (next_of h.words node)) (sym is.3) (rises node is.0 is.1));
      rank = λ node. 0;
      ranks = λ node i. let is = in_bucket 0 bucket node i in after_above h (λ n. 0) (Bucket 0 6) node (next_of h.words node) (rises node is.0 is.1);
      reached = λ node i plain. let is = in_bucket 0 bucket node i in
          subst (λ (most : ℕ). Contains (walk h.words most (h.words.value (head_word shape 0 bucket))) node) (sym (nodes_are shape n))
          (subst (λ (b : ℕ). Contains (walk h.words 35 (h.words.value (head_word shape 0 b))) node) (sym is.3) (reached node is.0 is.1 plain));
    };
    keys = λ node i. let is = in_bucket 0 bucket node i in home node is.0 is.1 ∙ sym is.3;
  }

  -- the ranks of the queue's nodes, and the nodes that they name
  rank_is : (node : ℕ) → 1 ≤ node → node < 6 → h.words.key_of node + 1 ≡ node
  rank_is node low high = let k = key_is node low (omega (arith, high)) in
      let e = among (λ (x : ℕ). key_value x + 1 ≡ x) 1 5 node (refl, (refl, (refl, (refl, (refl, tt))))) low high in
      omega (arith, k, e)

  line_next : (node : ℕ) → 1 ≤ node → node < 5 → next_of h.words node ≡ link (node + 1)
  unfolding link_value
  line_next node low high = next_is node low (omega (arith, high))
      ∙ among (λ (x : ℕ). next_value x ≡ (x + 1) * 2 + 0) 1 4 node (refl, (refl, (refl, (refl, tt)))) low (omega (arith, high))

  queued : (node : ℕ) → 1 ≤ node → node < 6 → used_placed node ≡ Some (Queue 0)
  queued node low high = among (λ (x : ℕ). used_placed x ≡ Some (Queue 0)) 1 5 node (refl, (refl, (refl, (refl, (refl, tt))))) low high

  line_is : StandInLine h 0 5 (λ rank. rank + 1)
  line_is = record {
    exist = λ node i. let is = in_queue 0 node i in node_is shape n node is.0 (omega (arith, is.1));
    ranked = λ node i. let is = in_queue 0 node i in let e = rank_is node is.0 is.1 in (omega (arith, e, is.1), e);
    placed = λ rank below. let e = rank_is (rank + 1) (omega arith) (omega (arith, below)) in
        (queued (rank + 1) (omega arith) (omega (arith, below)), omega (arith, e));
    next = λ rank below. line_next (rank + 1) (omega arith) (omega (arith, below)) ∙ ap link (omega arith);
    last = λ rank end. let e : rank ≡ 4 = omega (arith, end) in ap (λ r. next_of h.words (r + 1)) e ∙ next_is 5 (omega arith) (omega arith);
  }

  queue_is : QueueShape h 0
  unfolding value_of link_value
  queue_is = record {
    count = 5;
    node_of = λ rank. rank + 1;
    line = line_is;
    head = (3, refl, queue_head_at shape n words used_word at);
    tail = (4, refl, queue_tail_at shape n words used_word at);
  }

  used_store : IsStore h
  used_store = record {
    buckets = λ map bucket m b. let zeroth : map ≡ 0 = omega (arith, n.4) in
        subst (λ (k : ℕ). IsBucket h k bucket) (sym zeroth) (bucket_is bucket (omega (arith, n.5)));
    queues = λ queue q. let zeroth : queue ≡ 0 = omega (arith, n.6) in subst (QueueShape h) (sym zeroth) queue_is;
    alone = λ node s e. ⊎_elim
        (λ t. inr (0, omega (arith, n.6), t.2))
        (λ t. inl (0, 6, omega (arith, n.4), omega (arith, n.5), t.2))
        (placed_cases node s e);
  }

  used_even : (word : ℕ) → IsCounted shape word → is_even (count_of (used_word word)) ≡ true
  used_even word counted = plain_even word
      (λ e. no_count shape n (node_key 2) word (node_is shape n 2 (omega arith) (omega arith)) refl (key_word shape n 2 70 refl ∙ sym e) counted)
      (λ e. no_count shape n (node_key 4) word (node_is shape n 4 (omega arith) (omega arith)) refl (key_word shape n 4 76 refl ∙ sym e) counted)

  pub used_is : length words ≡ words_of shape → IsStoreField shape words
  used_is field = record {
    field = field;
    even = λ word counted. ap (λ w. is_even (count_of w)) (at word) ∙ used_even word counted;
    placed = used_placed;
    store = used_store;
  }
