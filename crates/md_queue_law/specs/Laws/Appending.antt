-- A new node behind the last one of a queue.
use Rattle.std.proofs.Common.{◌≡◌, ◌≢◌, ℕ, zero, suc, ◌+◌, ◌<◌, ◌⊎◌, [], ◌∷◌, ◌++◌, true, eqb, not, refl, sym, ap, ◌∙◌, subst, inl, inr, ⊎_elim, Some, None, arith, eq-eqb}
use Rattle.std.proofs.lemmas.Bool.{cases_eq, cases_lt, both_ways, not-true}
use Rattle.std.specs.Prelude.{IsTrue}
use Rattle.md_words.specs.Place.{node_next, queue_head, queue_tail}
use Rattle.md_words.specs.Layout.{address, IsNode}
use Rattle.md_machine.specs.declared.node.Structure.{Structure}
use Rattle.md_machine.specs.declared.node.Structure.TheVariants.{Queue}
use Rattle.md_machine.specs.LogicalHeap.{LogicalWords, LogicalHeap, next_of, put, after_node, is_settled}
use Rattle.md_machine.specs.Meaning.{KeepsFacts}
use Rattle.md_queue_law.specs.QueueShape.{link, head_of, tail_of, IsOf, NamesOneOf, StandInLine, QueueShape, QueuesStand}
use Rattle.md_queue_law.specs.QueueValues.{queue_values}
use Rattle.md_queue_law.specs.QueueCertificates.{next_change, new_node}
use Rattle.md_queue_law.specs.Laws.Words.{next_same, head_not_next, tail_not_next}
use Rattle.md_queue_law.specs.Laws.Walk.{ranked_values}
use Rattle.md_queue_law.specs.Laws.Agreement.{PlacedExist, NodesAgree, keeps_facts, queue_values-line, ranked_values-same, past}
use Rattle.md_queue_law.specs.Laws.Named.{ends_is_last}
use Rattle.md_queue_law.specs.Laws.RootChanges.{after_change}
use Rattle.md_queue_law.specs.Laws.Following.{put_same, put_other, IsNoNext, QueueFollows, RootsStay, queues_stand, queue_lists-set}

-- one more rank is one more value at the end
ranked_values-end : (w : LogicalWords) (node_of : ℕ → ℕ) (rank left : ℕ)
    → ranked_values w node_of rank (suc left) ≡ ranked_values w node_of rank left ++ w.value_of_node (node_of (rank + left)) ∷ []
ranked_values-end w node_of rank zero = ap (λ r. w.value_of_node (node_of r) ∷ []) (omega arith)
ranked_values-end w node_of rank (suc left) = ap (λ vs. w.value_of_node (node_of rank) ∷ vs)
    (ranked_values-end w node_of (suc rank) left ∙ ap (λ r. ranked_values w node_of (suc rank) left ++ w.value_of_node (node_of r) ∷ []) (omega arith))

module _ (h : LogicalHeap) (exist : PlacedExist h) (stand : QueuesStand h) (queue : ℕ) (within : queue < h.words.shape.queues) (last node value : ℕ)
    (of : IsOf h queue last) (ends : next_of h.words last ≡ 0) (fresh : h.placed node ≡ None) (is : IsNode h.words.shape node) where
  abbrev rank : ℕ
  rank = h.words.key_of last

  abbrev next : ℕ → ℕ
  next n = address h.words.shape (node_next n)

  -- the heap after the last node names the new one
  abbrev pub appended : LogicalHeap
  appended = after_node (after_change h (next_change h.words.shape last 0 (link node))) (new_node queue node (rank + 1) value)

  not_new : (n : ℕ) (s : Structure) → h.placed n ≡ Some s → n ≢ node
  not_new n s at e = let both : Some s ≡ None = sym at ∙ ap h.placed e ∙ fresh in cc

  not_new_next : (n : ℕ) (s : Structure) → h.placed n ≡ Some s → next n ≢ next node
  not_new_next n s at e = not_new n s at (next_same h.words.shape n node (exist n s at) is e)

  -- of a placed node only the next word of the last one has changed
  next_kept : (n : ℕ) (s : Structure) → h.placed n ≡ Some s → n ≢ last → next_of appended.words n ≡ next_of h.words n
  next_kept n s at ne = put_other (put h.words.value (next last) (link node)) (next node) 0 (next n) (not_new_next n s at)
      ∙ put_other h.words.value (next last) (link node) (next n) (λ e. ne (next_same h.words.shape n last (exist n s at) (exist last (Queue queue) of) e))

  next_last : next_of appended.words last ≡ link node
  next_last = put_other (put h.words.value (next last) (link node)) (next node) 0 (next last) (not_new_next last (Queue queue) of)
      ∙ put_same h.words.value (next last) (link node) (next last) refl

  next_new : next_of appended.words node ≡ 0
  next_new = put_same (put h.words.value (next last) (link node)) (next node) 0 (next node) refl

  -- a word that is no node's next word stays
  word_kept : (word : ℕ) → IsNoNext h.words.shape word → appended.words.value word ≡ h.words.value word
  word_kept word apart = put_other (put h.words.value (next last) (link node)) (next node) 0 word (λ e. apart node is (sym e))
      ∙ put_other h.words.value (next last) (link node) word (λ e. apart last (exist last (Queue queue) of) (sym e))

  placed_kept : (n : ℕ) (s : Structure) → h.placed n ≡ Some s → appended.placed n ≡ Some s
  placed_kept n s at = put_other h.placed node (Some (Queue queue)) n (not_new n s at) ∙ at

  key_kept : (n : ℕ) (s : Structure) → h.placed n ≡ Some s → appended.words.key_of n ≡ h.words.key_of n
  key_kept n s at = put_other h.words.key_of node (rank + 1) n (not_new n s at)

  value_kept : (n : ℕ) (s : Structure) → h.placed n ≡ Some s → appended.words.value_of_node n ≡ h.words.value_of_node n
  value_kept n s at = put_other h.words.value_of_node node value n (not_new n s at)

  -- the last node's next word wasn't settled
  zero_not_settled : (s : Structure) (v : ℕ) → h.placed last ≡ Some s → next_of h.words last ≡ v → IsTrue (is_settled s v) → ⊥
  zero_not_settled s v at e settled =
      let same : s ≡ Queue queue = cc in
      let zero_v : v ≡ 0 = sym e ∙ ends in
      let t : not (eqb v 0) ≡ true = subst (λ (x : Structure). is_settled x v ≡ true) same settled in
      both_ways (eqb v 0) (not-true (eqb v 0) t) (eq-eqb v 0 zero_v)

  appended_facts : KeepsFacts h appended
  appended_facts = keeps_facts h appended (λ n s at. record {
    placed = placed_kept n s at;
    key_of = key_kept n s at;
    value_of_node = value_kept n s at;
    next = λ v e settled. ⊎_elim
        (λ e_last. absurd (zero_not_settled s v (ap h.placed (sym e_last) ∙ at) (ap (next_of h.words) (sym e_last) ∙ e) settled))
        (λ ne. next_kept n s at ne ∙ e)
        (cases_eq n last);
  })

  -- what is placed now is the new node, or was placed
  placed_cases : (n : ℕ) (s : Structure) → appended.placed n ≡ Some s → ((n ≡ node) × (s ≡ Queue queue)) ⊎ ((n ≢ node) × (h.placed n ≡ Some s))
  placed_cases n s at = ⊎_elim
      (λ e. let here : Some s ≡ Some (Queue queue) = sym at ∙ put_same h.placed node (Some (Queue queue)) n e in inl (e, cc))
      (λ ne. inr (ne, sym (put_other h.placed node (Some (Queue queue)) n ne) ∙ at))
      (cases_eq n node)

  appended_nodes : (s : Structure) → s ≢ Queue queue → NodesAgree h appended s
  appended_nodes s other = record {
    shape = refl;
    placed = λ n at. placed_kept n s at;
    only = λ n at. ⊎_elim (λ t. absurd (other t.1)) (λ t. t.1) (placed_cases n s at);
    key_of = λ n at. key_kept n s at;
    value_of_node = λ n at. value_kept n s at;
    next = λ n at. next_kept n s at (λ e. other (let here : Some s ≡ Some (Queue queue) = sym at ∙ ap h.placed e ∙ of in cc));
  }

  abbrev old_shape : QueueShape h queue
  old_shape = stand queue within

  abbrev count : ℕ
  count = old_shape.count

  last_rank : suc rank ≡ count
  last_rank = ends_is_last h queue count old_shape.node_of old_shape.line last of ends

  -- the line with the new node at its end
  abbrev node_of : ℕ → ℕ
  node_of = put old_shape.node_of count node

  node_new : node_of count ≡ node
  node_new = put_same old_shape.node_of count node count refl

  node_old : (r : ℕ) → r < count → node_of r ≡ old_shape.node_of r
  node_old r b = put_other old_shape.node_of count node r (λ e. omega arith)

  key_new : appended.words.key_of node ≡ count
  key_new = put_same h.words.key_of node (rank + 1) node refl ∙ (let e = last_rank in omega arith)

  old_placed : (r : ℕ) → r < count → IsOf h queue (old_shape.node_of r)
  old_placed r b = (old_shape.line.placed r b).0

  -- of the ranks below the count, the last one's node is `last`
  node_last : old_shape.node_of rank ≡ last
  node_last = (old_shape.line.ranked last of).1

  not_last : (r : ℕ) → suc r < count → old_shape.node_of r ≢ last
  not_last r b e = let same : r ≡ rank = sym (old_shape.line.placed r (omega arith)).1 ∙ ap h.words.key_of e in let l = last_rank in omega arith

  appended_line : StandInLine appended queue (suc count) node_of
  appended_line = record {
    exist = λ n at. ⊎_elim (λ t. subst (IsNode h.words.shape) (sym t.0) is) (λ t. exist n (Queue queue) t.1) (placed_cases n (Queue queue) at);
    ranked = λ n at. ⊎_elim
        (λ t. let key : appended.words.key_of n ≡ count = ap appended.words.key_of t.0 ∙ key_new in
        (omega arith, ap node_of key ∙ node_new ∙ sym t.0))
        (λ t. let r = old_shape.line.ranked n t.1 in let below = r.0 in let key = key_kept n (Queue queue) t.1 in
        (omega arith, ap node_of key ∙ node_old (h.words.key_of n) below ∙ r.1))
        (placed_cases n (Queue queue) at);
    placed = λ r b. ⊎_elim
        (λ lt. let p = old_shape.line.placed r lt in (
          placed_kept (node_of r) (Queue queue) (ap h.placed (node_old r lt) ∙ p.0),
          key_kept (node_of r) (Queue queue) (ap h.placed (node_old r lt) ∙ p.0) ∙ ap h.words.key_of (node_old r lt) ∙ p.1,
        ))
        (λ ge. let e : r ≡ count = omega arith in (
          ap (λ x. appended.placed (node_of x)) e ∙ ap appended.placed node_new ∙ put_same h.placed node (Some (Queue queue)) node refl,
          ap (λ x. appended.words.key_of (node_of x)) e ∙ ap appended.words.key_of node_new ∙ key_new ∙ sym e,
        ))
        (cases_lt r count);
    next = λ r b. ⊎_elim
        (λ lt. ap (next_of appended.words) (node_old r (omega arith))
        ∙ next_kept (old_shape.node_of r) (Queue queue) (old_placed r (omega arith)) (not_last r lt)
        ∙ old_shape.line.next r lt ∙ ap link (sym (node_old (suc r) lt)))
        (λ ge. let e : suc r ≡ count = omega arith in let l = last_rank in let same : r ≡ rank = omega arith in
        ap (next_of appended.words) (node_old r (omega arith) ∙ ap old_shape.node_of same ∙ node_last)
        ∙ next_last ∙ ap link (sym node_new ∙ ap node_of (sym e)))
        (cases_lt (suc r) count);
    last = λ r e. let same : r ≡ count = omega arith in ap (next_of appended.words) (ap node_of same ∙ node_new) ∙ next_new;
  }

  head_no : (q : ℕ) → q < h.words.shape.queues → IsNoNext h.words.shape (address h.words.shape (queue_head q))
  head_no q b n is_n e = head_not_next h.words.shape q n b is_n (sym e)

  tail_no : (q : ℕ) → q < h.words.shape.queues → IsNoNext h.words.shape (address h.words.shape (queue_tail q))
  tail_no q b n is_n e = tail_not_next h.words.shape q n b is_n (sym e)

  root_kept : (value : ℕ) → NamesOneOf h queue value → NamesOneOf appended queue value
  root_kept value one = (one.0, placed_kept one.0 (Queue queue) one.1, one.2)

  appended_shape : QueueShape appended queue
  appended_shape = record {
    count = suc count;
    node_of = node_of;
    line = appended_line;
    head = let one = root_kept (head_of h.words queue) old_shape.head in (one.0, one.1, word_kept _ (head_no queue within) ∙ one.2);
    tail = let one = root_kept (tail_of h.words queue) old_shape.tail in (one.0, one.1, word_kept _ (tail_no queue within) ∙ one.2);
  }

  appended_values : queue_values appended.words queue ≡ queue_values h.words queue ++ value ∷ []
  appended_values =
      let head = old_shape.head.0 in let head_is = old_shape.head.1 in
      let from = h.words.key_of head in
      let rest = past h queue count old_shape.node_of old_shape.line head head_is in
      let e = rest.1 in
      queue_values-line appended queue (suc count) node_of head from (suc rest.0) appended_line
      (placed_kept head (Queue queue) head_is) (key_kept head (Queue queue) head_is)
      (word_kept _ (head_no queue within) ∙ old_shape.head.2) (omega arith)
      ∙ ranked_values-end appended.words node_of (suc from) rest.0
      ∙ ap (λ x. x ++ appended.words.value_of_node (node_of (suc from + rest.0)) ∷ [])
      (ranked_values-same h.words appended.words old_shape.node_of node_of (suc from) rest.0
      (λ r b. ap appended.words.value_of_node (node_old r (omega arith)) ∙ value_kept (old_shape.node_of r) (Queue queue) (old_placed r (omega arith)))
      ∙ sym (queue_values-line h queue count old_shape.node_of head from rest.0 old_shape.line head_is refl old_shape.head.2 e))
      ∙ ap (λ x. queue_values h.words queue ++ x ∷ [])
      (ap (λ r. appended.words.value_of_node (node_of r)) e ∙ ap appended.words.value_of_node node_new ∙ put_same h.words.value_of_node node value node refl)

  appended_roots : RootsStay h appended queue
  appended_roots = record {
    head = λ q b ne. word_kept _ (head_no q b);
    tail = λ q b ne. word_kept _ (tail_no q b);
  }

  pub append_follows : QueueFollows h queue (queue_values h.words queue ++ value ∷ []) appended
  append_follows = record {
    shape = refl;
    stand = queues_stand h appended queue refl stand appended_shape appended_nodes appended_roots;
    lists = queue_lists-set h appended queue _ within refl stand appended_values appended_nodes appended_roots;
    facts = appended_facts;
    nodes = appended_nodes;
    words = λ word apart head tail. word_kept word apart;
  }
