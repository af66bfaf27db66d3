-- Keys still rise along a list's links after one change of a word, and after one more node.
use Rattle.std.proofs.Common.{◌≡◌, ℕ, ◌≢◌, ◌<◌, ◌⊎◌, false, Some, None, refl, sym, ap, ◌∙◌, subst, inl, inr, ⊎_elim}
use Rattle.std.proofs.lemmas.Bool.{cases_eq}
use Rattle.md_words.specs.declared.shape.Shape.{Shape}
use Rattle.md_words.specs.Link.{linked_node, is_marked}
use Rattle.md_words.specs.Layout.{IsNode}
use Rattle.md_machine.specs.declared.node.Structure.{Structure}
use Rattle.md_machine.specs.declared.certificate.Change.{Change}
use Rattle.md_machine.specs.declared.certificate.NewNode.{NewNode}
use Rattle.md_machine.specs.LogicalHeap.{LogicalHeap, IsPlaced, changed, after_node}
use Rattle.md_machine.specs.SeesNodes.{SeesNodes}
use Rattle.md_machine.proofs.chain.Along.{nodes_changed, nodes_placed}
use Rattle.md_list_law.specs.ListShape.{next_word, IsIn, IsOnward, IsRank, Names, NamesAbove, NamesAfter, NamesOnward}
use Rattle.md_list_law.specs.Rising.{LinksRise, BothRise}
use Rattle.md_list_law.proofs.Links.{next_words_differ}
use Rattle.md_list_law.proofs.Puts.{put_same, put_other}
use Rattle.md_list_law.proofs.Order.{after_above, onward_above}
use Rattle.md_list_law.proofs.ListKept.{Extends, names_kept, above_kept, after_kept, onward_kept}
use Rattle.md_list_law.proofs.Elsewhere.{IsNoNext}
use Rattle.md_list_law.proofs.Changing.{after_change}

-- a value that a word of a list may get: in the head an unmarked one that names a node of the list, in a next word one
-- that names a node whose key is onward. It may be a node of a later heap
pub record MayGet (h k : LogicalHeap) (list : Structure) (head word new : ℕ) : Type 0 where
  pub in_head : word ≡ head → (is_marked new ≡ false) × Names k list new
  pub in_next : (node : ℕ) → IsIn h list node → word ≡ next_word h.words.shape node
      → NamesOnward k list (h.words.key_of node) new

-- and one that names a node which comes after the word's node, by the ranks of a later heap
abbrev pub KeepsRank : (h k : LogicalHeap) → Structure → (rank : ℕ → ℕ) → (word new : ℕ) → Type 0
KeepsRank h k list rank word new = (node : ℕ) → IsIn h list node → word ≡ next_word h.words.shape node → NamesAfter k rank node new

-- where the key is greater the ranks stay
pub keeps_above : (h k : LogicalHeap) (list : Structure) (rank : ℕ → ℕ) (word new : ℕ) → ((node : ℕ) → IsIn h list node → k.words.key_of node ≡ h.words.key_of node)
    → ((node : ℕ) → IsIn h list node → word ≡ next_word h.words.shape node → NamesAbove k list (h.words.key_of node) new) → KeepsRank h k list rank word new
keeps_above h k list rank word new same above node i e = after_above k rank list node new
    (subst (λ key. NamesAbove k list key new) (sym (same node i)) (above node i e))

-- a change of a word, and a new node, of the list or of another, that leave keys rising; and the ranks afterwards
pub record MayPlace (h : LogicalHeap) (list : Structure) (head : ℕ) (rank : ℕ → ℕ) (c : Change) (n : NewNode) : Type 0 where
  pub may : MayGet h (after_node (after_change h c) n) list head c.word c.new
  pub above : n.structure ≡ list → NamesAbove h list n.key n.next
  pub later : ℕ → ℕ
  pub stay : (node : ℕ) → IsIn h list node → later node ≡ rank node
  pub keeps : KeepsRank h (after_node (after_change h c) n) list later c.word c.new

module _ (h : LogicalHeap) (list : Structure) (head : ℕ) (r : LinksRise h list head) (c : Change) where
  -- a word after the change
  new_or_same : (word : ℕ)
      → ((c.word ≡ word) × ((changed h.words c).value word ≡ c.new)) ⊎ ((changed h.words c).value word ≡ h.words.value word)
  new_or_same word = ⊎_elim
      (λ e. inl (sym e, put_same h.words.value c.word c.new word e))
      (λ ne. inr (put_other h.words.value c.word c.new word ne))
      (cases_eq word c.word)

  links_changed : MayGet h h list head c.word c.new → LinksRise (after_change h c) list head
  links_changed may = record {
    unmarked = ⊎_elim (λ t. ap is_marked t.1 ∙ (may.in_head t.0).0) (λ e. ap is_marked e ∙ r.unmarked) (new_or_same head);
    first = ⊎_elim
        (λ t. subst (Names h list) (sym t.1) (may.in_head t.0).1)
        (λ e. subst (Names h list) (sym e) r.first)
        (new_or_same head);
    rises = λ node i. ⊎_elim
        (λ t. subst (NamesOnward h list (h.words.key_of node)) (sym t.1) (may.in_next node i t.0))
        (λ e. subst (NamesOnward h list (h.words.key_of node)) (sym e) (r.rises node i))
        (new_or_same (next_word h.words.shape node));
  }

  -- the nodes have the same order, if the new value keeps it
  ranks_changed : (rank : ℕ → ℕ) → IsRank h list rank → KeepsRank h h list rank c.word c.new → IsRank (after_change h c) list rank
  ranks_changed rank ranks keeps node i = ⊎_elim
      (λ t. subst (NamesAfter h rank node) (sym t.1) (keeps node i t.0))
      (λ e. subst (NamesAfter h rank node) (sym e) (ranks node i))
      (new_or_same (next_word h.words.shape node))

  module _ (exist : (node : ℕ) → IsPlaced h node → IsNode h.words.shape node) (apart : IsNoNext h.words.shape head) (n : NewNode)
      (is_node : IsNode h.words.shape n.node) (fresh : h.placed n.node ≡ None) where
    abbrev with_new : LogicalHeap
    with_new = after_node (after_change h c) n

    not_new : (node : ℕ) → IsPlaced h node → node ≢ n.node
    not_new node placed e = let i = placed.1 in absurd (cc (ap h.placed e, i, fresh))

    extends : Extends h with_new list
    extends = record {
      grows = λ node i. put_other h.placed n.node (Some n.structure) node (not_new node (list, i)) ∙ i;
      key_of = λ node i. put_other h.words.key_of n.node n.key node (not_new node (list, i));
      value_of_node = λ node i. put_other h.words.value_of_node n.node n.value node (not_new node (list, i));
    }

    -- a word that isn't the new node's next word
    word_kept : (word : ℕ) → word ≢ next_word h.words.shape n.node
        → with_new.words.value word ≡ (changed h.words c).value word
    word_kept word ne = put_other (changed h.words c).value (next_word h.words.shape n.node) n.next word ne

    -- and so is one of an earlier node
    next_kept : (node : ℕ) → IsIn h list node → with_new.words.value (next_word h.words.shape node) ≡ (changed h.words c).value (next_word h.words.shape node)
    next_kept node i = word_kept (next_word h.words.shape node)
        (next_words_differ h.words.shape node n.node (exist node (list, i)) is_node (not_new node (list, i)))

    -- the new node's next word
    next_new : (node : ℕ) → node ≡ n.node → with_new.words.value (next_word h.words.shape node) ≡ n.next
    next_new node e = put_same (changed h.words c).value (next_word h.words.shape n.node) n.next (next_word h.words.shape node) (ap (next_word h.words.shape) e)

    new_rises : (node : ℕ) → node ≡ n.node → IsIn with_new list node
        → (n.structure ≡ list → NamesOnward h list n.key n.next)
        → NamesOnward with_new list (with_new.words.key_of node) (with_new.words.value (next_word h.words.shape node))
    new_rises node e i may =
        let at = put_same h.placed n.node (Some n.structure) node e in
        let structure : n.structure ≡ list = cc (at, i) in
        subst (λ key. NamesOnward with_new list key (with_new.words.value (next_word h.words.shape node)))
        (sym (put_same h.words.key_of n.node n.key node e))
        (subst (NamesOnward with_new list n.key) (sym (next_new node e))
        (onward_kept h with_new list extends n.key n.next (may structure)))

    old_rises : (node : ℕ) → IsIn h list node → MayGet h with_new list head c.word c.new
        → NamesOnward with_new list (with_new.words.key_of node) (with_new.words.value (next_word h.words.shape node))
    old_rises node i may =
        let word = next_word h.words.shape node in
        subst (λ key. NamesOnward with_new list key (with_new.words.value word)) (sym (extends.key_of node i))
        (subst (NamesOnward with_new list (h.words.key_of node)) (sym (next_kept node i))
        (⊎_elim
        (λ t. subst (NamesOnward with_new list (h.words.key_of node)) (sym t.1) (may.in_next node i t.0))
        (λ e. subst (NamesOnward with_new list (h.words.key_of node)) (sym e)
        (onward_kept h with_new list extends (h.words.key_of node) (h.words.value word) (r.rises node i)))
        (new_or_same word)))

    links_placed : MayGet h with_new list head c.word c.new → (n.structure ≡ list → NamesOnward h list n.key n.next)
        → LinksRise with_new list head
    links_placed may new =
        let kept = word_kept head (λ e. apart n.node is_node (sym e)) in
        record {
          unmarked = ap is_marked kept ∙ ⊎_elim (λ t. ap is_marked t.1 ∙ (may.in_head t.0).0) (λ e. ap is_marked e ∙ r.unmarked) (new_or_same head);
          first = subst (Names with_new list) (sym kept) (⊎_elim
              (λ t. subst (Names with_new list) (sym t.1) (may.in_head t.0).1)
              (λ e. subst (Names with_new list) (sym e) (names_kept h with_new list extends (h.words.value head) r.first))
              (new_or_same head));
          rises = λ node i. ⊎_elim
              (λ e. new_rises node e i new)
              (λ ne. old_rises node (sym (put_other h.placed n.node (Some n.structure) node ne) ∙ i) may)
              (cases_eq node n.node);
        }

    -- the ranks that a new node may have
    ranks_placed : (rank : ℕ → ℕ) → IsRank h list rank → (m : MayPlace h list head rank c n) → IsRank with_new list m.later
    ranks_placed rank ranks m node i = ⊎_elim
        (λ e.
        let at = put_same h.placed n.node (Some n.structure) node e in
        let structure : n.structure ≡ list = cc (at, i) in
        subst (NamesAfter with_new m.later node) (sym (next_new node e))
        (after_above with_new m.later list node n.next (subst (λ key. NamesAbove with_new list key n.next) (sym (put_same h.words.key_of n.node n.key node e))
        (above_kept h with_new list extends n.key n.next (m.above structure)))))
        (λ ne.
        let was = sym (put_other h.placed n.node (Some n.structure) node ne) ∙ i in
        let word = next_word h.words.shape node in
        subst (NamesAfter with_new m.later node) (sym (next_kept node was)) (⊎_elim
        (λ t. subst (NamesAfter with_new m.later node) (sym t.1) (m.keeps node was t.0))
        (λ e. subst (NamesAfter with_new m.later node) (sym e) (after_kept h with_new list extends rank m.later m.stay node (h.words.value word) was
        (⊎_elim inl (λ above. inr above.0) (r.rises node was)) (ranks node was)))
        (new_or_same word)))
        (cases_eq node n.node)

    -- where keys are greater the ranks stay
    pub placed_above : (rank : ℕ → ℕ) → (c.word ≡ head → (is_marked c.new ≡ false) × Names with_new list c.new)
        → ((node : ℕ) → IsIn h list node → c.word ≡ next_word h.words.shape node → NamesAbove with_new list (h.words.key_of node) c.new)
        → (n.structure ≡ list → NamesAbove h list n.key n.next) → MayPlace h list head rank c n
    placed_above rank in_head in_next new = record {
      may = record { in_head = in_head; in_next = λ node i e. onward_above with_new list _ _ (in_next node i e) };
      above = new;
      later = rank;
      stay = λ node i. refl;
      keeps = keeps_above h with_new list rank c.word c.new extends.key_of in_next;
    }

-- what a value names in a heap it names in what a transaction sees of it
pub names_seen : (own h : LogicalHeap) (list : Structure) → SeesNodes own h → (value : ℕ) → Names h list value
    → Names own list value
names_seen own h list same value = ⊎_elim inl (λ i. inr (same.placed (linked_node value) ∙ i))

pub onward_seen : (own h : LogicalHeap) (list : Structure) → SeesNodes own h → (key value : ℕ)
    → NamesOnward h list key value → NamesOnward own list key value
onward_seen own h list same key value = ⊎_elim inl
    (λ t. inr (same.placed (linked_node value) ∙ t.0, subst (IsOnward (is_marked value) key) (sym (same.key_of (linked_node value))) t.1))

-- and the other way round
pub above_there : (own h : LogicalHeap) (list : Structure) → SeesNodes own h → (key value : ℕ)
    → NamesAbove own list key value → NamesAbove h list key value
above_there own h list same key value = ⊎_elim inl
    (λ t. inr (sym (same.placed (linked_node value)) ∙ t.0, subst (λ (n : ℕ). key < n) (same.key_of (linked_node value)) t.1))

may_get_seen : (own h later k : LogicalHeap) (list : Structure) (head word new : ℕ) → SeesNodes own h
    → SeesNodes later k
    → MayGet h k list head word new → MayGet own later list head word new
may_get_seen own h later k list head word new same after may = record {
  in_head = λ e. let t = may.in_head e in (t.0, names_seen later k list after new t.1);
  in_next = λ node i e. subst (λ key. NamesOnward later list key new) (sym (same.key_of node))
      (onward_seen later k list after (h.words.key_of node) new
      (may.in_next node (sym (same.placed node) ∙ i) (e ∙ ap (λ (s : Shape). next_word s node) same.shape)));
}

module _ (own h : LogicalHeap) (list : Structure) (head : ℕ) (b : BothRise own h list head) (c : Change) where
  pub both_changed : MayGet h h list head c.word c.new → KeepsRank h h list b.rank c.word c.new → BothRise (after_change own c) (after_change h c) list head
  both_changed may keeps = record {
    nodes = nodes_changed own h c b.nodes;
    seen = links_changed own list head b.seen c (may_get_seen own h own h list head c.word c.new b.nodes b.nodes may);
    there = links_changed h list head b.there c may;
    rank = b.rank;
    ranks = ranks_changed h list head b.there c b.rank b.ranks keeps;
  }

  pub both_placed : IsNoNext h.words.shape head → (n : NewNode) → IsNode h.words.shape n.node → h.placed n.node ≡ None
      → MayPlace h list head b.rank c n → BothRise (after_node (after_change own c) n) (after_node (after_change h c) n) list head
  both_placed apart n is_node fresh m =
      let after = nodes_placed (after_change own c) (after_change h c) n is_node (nodes_changed own h c b.nodes) in
      record {
        nodes = after;
        seen = links_placed own list head b.seen c
            (λ node placed. subst (λ (s : Shape). IsNode s node) (sym b.nodes.shape) (b.nodes.exist node (placed.0, sym (b.nodes.placed node) ∙ placed.1)))
            (subst (λ (s : Shape). IsNoNext s head) (sym b.nodes.shape) apart) n
            (subst (λ (s : Shape). IsNode s n.node) (sym b.nodes.shape) is_node) (b.nodes.placed n.node ∙ fresh)
            (may_get_seen own h (after_node (after_change own c) n) (after_node (after_change h c) n) list head c.word c.new b.nodes after m.may)
            (λ e. onward_seen own h list b.nodes n.key n.next (onward_above h list n.key n.next (m.above e)));
        there = links_placed h list head b.there c b.nodes.exist apart n is_node fresh m.may (λ e. onward_above h list n.key n.next (m.above e));
        rank = m.later;
        ranks = ranks_placed h list head b.there c b.nodes.exist apart n is_node fresh b.rank b.ranks m;
      }

-- a word that is none of a list's: neither its head nor a next word, or the next word of a node of another structure
abbrev pub IsAway : LogicalHeap → Structure → (head word : ℕ) → Type 0
IsAway h list head word =
    ((word ≢ head) × IsNoNext h.words.shape word)
    ⊎ ((node : ℕ) × (s : Structure) × (h.placed node ≡ Some s) × (s ≢ list) × (word ≡ next_word h.words.shape node))

module _ (own h : LogicalHeap) (list : Structure) (head : ℕ) (b : BothRise own h list head) (word : ℕ) (away : IsAway h list head word) where
  -- it is no next word of a node of the list
  pub away_apart : (node : ℕ) → IsIn h list node → word ≢ next_word h.words.shape node
  away_apart node i e = ⊎_elim
      (λ t. t.1 node (b.nodes.exist node (list, i)) (sym e))
      (λ t. ⊎_elim
      (λ same. let there = t.2 in let ne = t.3 in ne (cc (same, there, i)))
      (λ other. next_words_differ h.words.shape t.0 node (b.nodes.exist t.0 (t.1, t.2)) (b.nodes.exist node (list, i)) other (sym t.4 ∙ e))
      (cases_eq t.0 node))
      away

  -- it may get any value
  pub away_may : IsNoNext h.words.shape head → (k : LogicalHeap) (new : ℕ) → MayGet h k list head word new
  away_may apart k new = record {
    in_head = λ e. ⊎_elim (λ t. absurd (t.0 e)) (λ t. absurd (apart t.0 (b.nodes.exist t.0 (t.1, t.2)) (sym t.4 ∙ e))) away;
    in_next = λ node i e. absurd (away_apart node i e);
  }
