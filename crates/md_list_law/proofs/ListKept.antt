-- A list after a change: what has to be shown again, and what a change of one list leaves of all else.
use Rattle.std.proofs.Common.{◌≡◌, ℕ, zero, suc, ◌≢◌, ◌<◌, ◌⊎◌, false, refl, sym, ap, ◌∙◌, subst, inl, inr, ⊎_elim, arith}
use Rattle.std.specs.List.{Contains}
use Rattle.std.specs.Ordering.{nat_cmp}
use Rattle.std.specs.FinMap as fin
use Rattle.md_words.specs.declared.shape.Shape.{Shape}
use Rattle.md_words.specs.Link.{linked_node, is_marked}
use Rattle.md_words.specs.Layout.{IsNode, node_count}
use Rattle.md_machine.specs.declared.node.Structure.{Structure}
use Rattle.md_machine.specs.LogicalHeap.{LogicalWords, LogicalHeap, next_of}
use Rattle.md_machine.proofs.lists.Rising.{in_none}
use Rattle.md_list_law.specs.Walk.{walk, pairs_from}
use Rattle.md_list_law.specs.ListShape.{IsIn, IsList, IsOnward, Names, NamesAbove, NamesAfter, NamesOnward}
use Rattle.md_list_law.proofs.Keys.{same_option}
use Rattle.md_list_law.proofs.Walks.{Reaches, passes, reaches_first, reaches_later}
use Rattle.md_list_law.proofs.Order.{onward_names}
use Rattle.md_list_law.proofs.Chains.{Rises, not_null, reached_at_all}
use Rattle.md_list_law.proofs.Pairs.{HasPair, rises_of, pair-found, found-pair}

-- values that name the same node
pub names_link : (h : LogicalHeap) (list : Structure) (value other : ℕ) → linked_node other ≡ linked_node value → Names h list value → Names h list other
names_link h list value other e = subst (λ (node : ℕ). (node ≡ 0) ⊎ IsIn h list node) (sym e)

pub above_link : (h : LogicalHeap) (list : Structure) (key value other : ℕ) → linked_node other ≡ linked_node value → NamesAbove h list key value
    → NamesAbove h list key other
above_link h list key value other e = subst (λ (node : ℕ). (node ≡ 0) ⊎ (IsIn h list node × (key < h.words.key_of node))) (sym e)

-- the nodes of a list are still there, with their keys and values
pub record Extends (h k : LogicalHeap) (list : Structure) : Type 0 where
  pub grows : (node : ℕ) → IsIn h list node → IsIn k list node
  pub key_of : (node : ℕ) → IsIn h list node → k.words.key_of node ≡ h.words.key_of node
  pub value_of_node : (node : ℕ) → IsIn h list node → k.words.value_of_node node ≡ h.words.value_of_node node

module _ (h k : LogicalHeap) (list : Structure) (x : Extends h k list) where
  pub names_kept : (value : ℕ) → Names h list value → Names k list value
  names_kept value = ⊎_elim inl (λ i. inr (x.grows (linked_node value) i))

  pub above_kept : (key value : ℕ) → NamesAbove h list key value → NamesAbove k list key value
  above_kept key value = ⊎_elim inl (λ t. inr (x.grows (linked_node value) t.0, subst (λ (n : ℕ). key < n) (sym (x.key_of (linked_node value) t.0)) t.1))

  pub onward_kept : (key value : ℕ) → NamesOnward h list key value → NamesOnward k list key value
  onward_kept key value = ⊎_elim inl
      (λ t. inr (x.grows (linked_node value) t.0, subst (IsOnward (is_marked value) key) (sym (x.key_of (linked_node value) t.0)) t.1))

  -- their order is the same, if their ranks are
  pub after_kept : (rank later : ℕ → ℕ) → ((node : ℕ) → IsIn h list node → later node ≡ rank node) → (node value : ℕ) → IsIn h list node
      → Names h list value → NamesAfter h rank node value → NamesAfter k later node value
  after_kept rank later stay node value i names = ⊎_elim inl (λ p. ⊎_elim inl
      (λ j.
      let here = x.key_of node i in
      let there = x.key_of (linked_node value) j in
      let low = stay node i in
      let high = stay (linked_node value) j in
      inr (⊎_elim
      (λ less. inl (omega (arith, less, here, there)))
      (λ same. let less = same.1 in inr (here ∙ same.0 ∙ sym there, omega (arith, less, low, high)))
      p))
      names)

-- what was reached is reached, if a step from each node of the list still leads on to it
pub reach_kept : (h : LogicalHeap) (w : LogicalWords) (list : Structure) (node : ℕ) → Rises h list → node ≢ 0
    → ((y : ℕ) → IsIn h list y → Reaches w (next_of h.words y) node → Reaches w (next_of w y) node)
    → (n value : ℕ) → Names h list value → Contains (walk h.words n value) node → Reaches w value node
reach_kept h w list node r some on zero value names c = absurd (in_none node c)
reach_kept h w list node r some on (suc n) value names c =
    let p = passes h.words n value node c in
    let y = linked_node value in
    let i : IsIn h list y = ⊎_elim (λ none. absurd (p.some none)) (λ i. i) names in
    ⊎_elim
    (λ e. reaches_first w value node e some)
    (λ later. reaches_later w value node p.some (on y i (reach_kept h w list node r some on n (next_of h.words y)
    (onward_names h list _ _ (r.rises y i)) later)))
    p.here_or_later

-- so a heap has the list again
pub list_again : (k : LogicalHeap) (list : Structure) (head : ℕ) → Rises k list → is_marked (k.words.value head) ≡ false → Names k list (k.words.value head)
    → ((node : ℕ) → IsIn k list node → is_marked (next_of k.words node) ≡ false → Reaches k.words (k.words.value head) node) → IsList k list head
list_again k list head r unmarked first reach = record {
  nodes = r.nodes;
  unmarked = unmarked;
  first = first;
  rises = r.rises;
  rank = r.rank;
  ranks = r.ranks;
  reached = λ node i plain. reached_at_all k list r (k.words.value head) node first (reach node i plain);
}

-- two lists with the same pairs find the same
pub finds_same : (h k : LogicalHeap) (list : Structure) (head : ℕ) → IsList h list head → IsList k list head → (q : ℕ)
    → ((v : ℕ) → HasPair h list q v → HasPair k list q v) → ((v : ℕ) → HasPair k list q v → HasPair h list q v)
    → fin.find nat_cmp q (pairs_from k.words head) ≡ fin.find nat_cmp q (pairs_from h.words head)
finds_same h k list head in_h in_k q there back = same_option _ _
    (λ v e. pair-found h list head in_h q v (back v (found-pair k list head in_k q v e)))
    (λ v e. pair-found k list head in_k q v (there v (found-pair h list head in_h q v e)))

-- one heap has the list as another has it
pub record SameList (h k : LogicalHeap) (list : Structure) (head : ℕ) : Type 0 where
  pub shape : k.words.shape ≡ h.words.shape
  pub there : (node : ℕ) → IsIn h list node → IsIn k list node
  pub back : (node : ℕ) → IsIn k list node → IsIn h list node
  pub first : k.words.value head ≡ h.words.value head
  pub next : (node : ℕ) → IsIn h list node → next_of k.words node ≡ next_of h.words node
  pub key_of : (node : ℕ) → IsIn h list node → k.words.key_of node ≡ h.words.key_of node
  pub value_of_node : (node : ℕ) → IsIn h list node → k.words.value_of_node node ≡ h.words.value_of_node node

module _ (h k : LogicalHeap) (list : Structure) (head : ℕ) (same : SameList h k list head) (is : IsList h list head) where
  extends : Extends h k list
  extends = record { grows = same.there; key_of = same.key_of; value_of_node = same.value_of_node }

  pub list_same : IsList k list head
  list_same = list_again k list head
      (record {
        nodes = λ node i. subst (λ (shape : Shape). IsNode shape node) (sym same.shape) (is.nodes node (same.back node i));
        rises = λ node i. let j = same.back node i in
            subst (λ key. NamesOnward k list key (next_of k.words node)) (sym (same.key_of node j))
            (subst (NamesOnward k list (h.words.key_of node)) (sym (same.next node j)) (onward_kept h k list extends _ _ (is.rises node j)));
        rank = is.rank;
        ranks = λ node i. let j = same.back node i in
            subst (NamesAfter k is.rank node) (sym (same.next node j))
            (after_kept h k list extends is.rank is.rank (λ n w. refl) node _ j (onward_names h list _ _ (is.rises node j)) (is.ranks node j));
      })
      (ap is_marked same.first ∙ is.unmarked)
      (subst (Names k list) (sym same.first) (names_kept h k list extends _ is.first))
      (λ node i plain. let j = same.back node i in
      subst (λ value. Reaches k.words value node) (sym same.first)
      (reach_kept h k.words list node (rises_of h list head is) (not_null h list (rises_of h list head is) node j)
      (λ y iy r. subst (λ value. Reaches k.words value node) (sym (same.next y iy)) r)
      (node_count h.words.shape) (h.words.value head) is.first (is.reached node j (ap is_marked (sym (same.next node j)) ∙ plain))))

  pub pairs_same : (q : ℕ) → fin.find nat_cmp q (pairs_from k.words head) ≡ fin.find nat_cmp q (pairs_from h.words head)
  pairs_same q = finds_same h k list head is list_same q
      (λ v p. record {
        node = p.node;
        is_in = same.there p.node p.is_in;
        unmarked = ap is_marked (same.next p.node p.is_in) ∙ p.unmarked;
        has_key = same.key_of p.node p.is_in ∙ p.has_key;
        has_value = same.value_of_node p.node p.is_in ∙ p.has_value;
      })
      (λ v p. let j = same.back p.node p.is_in in record {
        node = p.node;
        is_in = j;
        unmarked = ap is_marked (sym (same.next p.node j)) ∙ p.unmarked;
        has_key = sym (same.key_of p.node j) ∙ p.has_key;
        has_value = sym (same.value_of_node p.node j) ∙ p.has_value;
      })
