-- A new node enters the list where an unmarked word gets a value that names it, and its next word the word's old value.
use Rattle.std.proofs.Common.{◌≡◌, ℕ, ◌≢◌, ◌<◌, ◌⊎◌, true, false, cond, Some, None, refl, sym, ap, ◌∙◌, subst, inl, inr, ⊎_elim, arith}
use Rattle.std.specs.Ordering.{nat_cmp, eq_by_cmp}
use Rattle.std.specs.FinMap as fin
use Rattle.std.proofs.lemmas.Bool.{both_ways, cases_eq}
use Rattle.md_words.specs.Link.{linked_node, is_marked}
use Rattle.md_words.specs.Layout.{IsNode, node_count}
use Rattle.md_machine.specs.declared.node.Structure.{Structure}
use Rattle.md_machine.specs.declared.certificate.Change.{Change}
use Rattle.md_machine.specs.declared.certificate.NewNode.{NewNode}
use Rattle.md_machine.specs.LogicalHeap.{LogicalHeap, next_of, changed, after_node, IsPlaced}
use Rattle.md_list_law.specs.Walk.{pairs_from}
use Rattle.md_list_law.specs.ListShape.{next_word, IsIn, IsList, IsOnward, Names, NamesAbove, NamesAfter, NamesOnward, Precedes}
use Rattle.md_list_law.proofs.Keys.{same_ties, apart_ties}
use Rattle.md_list_law.proofs.Links.{next_words_differ}
use Rattle.md_list_law.proofs.Order.{after_above, onward_above, onward_more, onward_names}
use Rattle.md_list_law.proofs.Walks.{Reaches, reaches_first, reaches_later, reaches_on}
use Rattle.md_list_law.proofs.Chains.{Rises, not_null}
use Rattle.md_list_law.proofs.Pairs.{HasPair, rises_of, pair-found}
use Rattle.md_list_law.proofs.Puts.{put_same, put_other, changed_or_same}
use Rattle.md_list_law.proofs.ListKept.{Extends, names_kept, above_kept, after_kept, onward_kept, reach_kept, list_again, finds_same}
use Rattle.md_list_law.proofs.Elsewhere.{ChangesOnly, IsNoNext}
use Rattle.md_list_law.proofs.Changing.{IsListWord, after_change}

-- the word's node has a smaller key and gets no mark; or it has the same key, gets a mark, and comes before the new node
abbrev pub ComesBefore : LogicalHeap → (rank : ℕ → ℕ) → Change → NewNode → (node : ℕ) → Type 0
ComesBefore h rank c n node = ((h.words.key_of node < n.key) × (is_marked c.new ≡ false))
    ⊎ ((h.words.key_of node ≡ n.key) × (is_marked c.new ≡ true) × (rank node < rank n.node))

-- how a new node enters a list whose nodes have ranks
pub record Enters (h : LogicalHeap) (list : Structure) (head : ℕ) (rank : ℕ → ℕ) (c : Change) (n : NewNode) : Type 0 where
  pub stands : h.words.value c.word ≡ c.old
  pub plain : is_marked c.old ≡ false
  pub word : IsListWord h list head c.word
  pub names : linked_node c.new ≡ n.node
  pub in_head : head ≡ c.word → is_marked c.new ≡ false
  pub is_node : IsNode h.words.shape n.node
  pub fresh : h.placed n.node ≡ None
  pub structure : n.structure ≡ list
  pub next : n.next ≡ c.old
  pub above : NamesAbove h list n.key c.old
  -- the ranks afterwards
  pub later : ℕ → ℕ
  pub stay : (node : ℕ) → IsIn h list node → later node ≡ rank node
  pub before : (node : ℕ) → IsIn h list node → next_word h.words.shape node ≡ c.word → ComesBefore h later c n node

module _ (h : LogicalHeap) (list : Structure) (head : ℕ) (is : IsList h list head) (apart : IsNoNext h.words.shape head) (c : Change) (n : NewNode)
    (enters : Enters h list head is.rank c n) where
  rise : Rises h list
  rise = rises_of h list head is

  -- a placed node is another than the new one
  other_node : (node : ℕ) → IsPlaced h node → node ≢ n.node
  other_node node placed e = let i = placed.1 in let fresh = enters.fresh in absurd (cc (ap h.placed e, i, fresh))

  abbrev with_new : LogicalHeap
  with_new = after_node (after_change h c) n

  placed_before : (node : ℕ) → node ≢ n.node → with_new.placed node ≡ h.placed node
  placed_before node ne = put_other h.placed n.node (Some n.structure) node ne

  placed_now : with_new.placed n.node ≡ Some list
  placed_now = put_same h.placed n.node (Some n.structure) n.node refl ∙ ap (λ (s : Structure). Some s) enters.structure

  key_now : with_new.words.key_of n.node ≡ n.key
  key_now = put_same h.words.key_of n.node n.key n.node refl

  next_now : next_of with_new.words n.node ≡ c.old
  next_now = put_same (changed h.words c).value (next_word h.words.shape n.node) n.next (next_word h.words.shape n.node) refl ∙ enters.next

  extends : Extends h with_new list
  extends = record {
    grows = λ node i. placed_before node (other_node node (list, i)) ∙ i;
    key_of = λ node i. put_other h.words.key_of n.node n.key node (other_node node (list, i));
    value_of_node = λ node i. put_other h.words.value_of_node n.node n.value node (other_node node (list, i));
  }

  some_node : n.node ≢ 0
  some_node e = let positive = enters.is_node.0 in omega (arith, positive, e)

  -- of a node that was there the next word isn't the new node's
  next_apart : (node : ℕ) → IsIn h list node → next_word h.words.shape node ≢ next_word h.words.shape n.node
  next_apart node i = next_words_differ h.words.shape node n.node (is.nodes node i) enters.is_node (other_node node (list, i))

  -- a word that isn't the new node's is the changed one, or as it was
  pub record IsEntry (u : ℕ) : Type 0 where
    pub here : u ≡ c.word
    pub was : h.words.value u ≡ c.old
    pub now : with_new.words.value u ≡ c.new

  entry_or_same : (u : ℕ) → u ≢ next_word h.words.shape n.node → IsEntry u ⊎ (with_new.words.value u ≡ h.words.value u)
  entry_or_same u ne =
      let e : with_new.words.value u ≡ (changed h.words c).value u = put_other (changed h.words c).value (next_word h.words.shape n.node) n.next u ne in ⊎_elim
      (λ at. inl (record { here = at.here; was = at.old; now = e ∙ at.new }))
      (λ other. inr (e ∙ other.1))
      (changed_or_same h.words c u enters.stands)

  in_either : (node : ℕ) → IsIn with_new list node → (node ≡ n.node) ⊎ IsIn h list node
  in_either node i = ⊎_elim inl (λ ne. inr (sym (placed_before node ne) ∙ i)) (cases_eq node n.node)

  new_above : (node : ℕ) → node ≡ n.node → NamesAbove with_new list (with_new.words.key_of node) (next_of with_new.words node)
  new_above node e = subst (λ m. NamesAbove with_new list (with_new.words.key_of m) (next_of with_new.words m)) (sym e)
      (subst (λ key. NamesAbove with_new list key (next_of with_new.words n.node)) (sym key_now)
      (subst (NamesAbove with_new list n.key) (sym next_now) (above_kept h with_new list extends n.key c.old enters.above)))

  -- past the word's node the new one's key is onward, and it comes later
  entry_onward : (node : ℕ) → IsIn h list node → next_word h.words.shape node ≡ c.word → NamesOnward with_new list (h.words.key_of node) c.new
  entry_onward node i e = subst (λ (m : ℕ). (m ≡ 0) ⊎ (IsIn with_new list m × IsOnward (is_marked c.new) (h.words.key_of node) (with_new.words.key_of m))) (sym enters.names)
      (inr (
        placed_now,
        subst (IsOnward (is_marked c.new) (h.words.key_of node)) (sym key_now) (⊎_elim
            (λ less. onward_more (is_marked c.new) (h.words.key_of node) n.key less.0)
            (λ same. subst (λ b. IsOnward b (h.words.key_of node) n.key) (sym same.1) (let key = same.0 in omega (arith, key)))
            (enters.before node i e)),
      ))

  entry_after : (node : ℕ) → IsIn h list node → next_word h.words.shape node ≡ c.word → NamesAfter with_new enters.later node c.new
  entry_after node i e = subst (λ (m : ℕ). (m ≡ 0) ⊎ Precedes with_new enters.later node m) (sym enters.names) (inr (⊎_elim
      (λ less. inl (let below = less.0 in omega (arith, below, key_now, extends.key_of node i)))
      (λ same. inr (extends.key_of node i ∙ same.0 ∙ sym key_now, same.2))
      (enters.before node i e)))

  rises_old : (node : ℕ) → IsIn h list node → NamesOnward with_new list (h.words.key_of node) (next_of with_new.words node)
  rises_old node i = ⊎_elim
      (λ at. subst (NamesOnward with_new list (h.words.key_of node)) (sym at.now) (entry_onward node i at.here))
      (λ same. subst (NamesOnward with_new list (h.words.key_of node)) (sym same) (onward_kept h with_new list extends _ _ (is.rises node i)))
      (entry_or_same (next_word h.words.shape node) (next_apart node i))

  rises_now : (node : ℕ) → IsIn with_new list node → NamesOnward with_new list (with_new.words.key_of node) (next_of with_new.words node)
  rises_now node i = ⊎_elim
      (λ e. onward_above with_new list _ _ (new_above node e))
      (λ j. subst (λ key. NamesOnward with_new list key (next_of with_new.words node)) (sym (extends.key_of node j)) (rises_old node j))
      (in_either node i)

  ranks_old : (node : ℕ) → IsIn h list node → NamesAfter with_new enters.later node (next_of with_new.words node)
  ranks_old node i = ⊎_elim
      (λ at. subst (NamesAfter with_new enters.later node) (sym at.now) (entry_after node i at.here))
      (λ same. subst (NamesAfter with_new enters.later node) (sym same)
      (after_kept h with_new list extends is.rank enters.later enters.stay node _ i (onward_names h list _ _ (is.rises node i)) (is.ranks node i)))
      (entry_or_same (next_word h.words.shape node) (next_apart node i))

  ranks_now : (node : ℕ) → IsIn with_new list node → NamesAfter with_new enters.later node (next_of with_new.words node)
  ranks_now node i = ⊎_elim
      (λ e. after_above with_new enters.later list node _ (new_above node e))
      (ranks_old node)
      (in_either node i)

  nodes_now : (node : ℕ) → IsIn with_new list node → IsNode h.words.shape node
  nodes_now node i = ⊎_elim (λ e. subst (IsNode h.words.shape) (sym e) enters.is_node) (λ j. is.nodes node j) (in_either node i)

  head_apart : head ≢ next_word h.words.shape n.node
  head_apart e = apart n.node enters.is_node (sym e)

  -- a way through the word goes on through the new node
  through : (node : ℕ) → Reaches with_new.words c.old node → Reaches with_new.words c.new node
  through node r = reaches_later with_new.words c.new node (λ none. some_node (sym enters.names ∙ none))
      (subst (λ m. Reaches with_new.words (next_of with_new.words m) node) (sym enters.names)
      (subst (λ value. Reaches with_new.words value node) (sym next_now) r))

  along : (u node : ℕ) → u ≢ next_word h.words.shape n.node → Reaches with_new.words (h.words.value u) node
      → Reaches with_new.words (with_new.words.value u) node
  along u node ne r = ⊎_elim
      (λ at. subst (λ value. Reaches with_new.words value node) (sym at.now) (through node (subst (λ value. Reaches with_new.words value node) at.was r)))
      (λ same. subst (λ value. Reaches with_new.words value node) (sym same) r)
      (entry_or_same u ne)

  -- what is unmarked was before, and what was unmarked is, but for the word of a node with the new key
  plain_before : (u : ℕ) → u ≢ next_word h.words.shape n.node → is_marked (with_new.words.value u) ≡ false → is_marked (h.words.value u) ≡ false
  plain_before u ne q = ⊎_elim (λ at. ap is_marked at.was ∙ enters.plain) (λ same. ap is_marked (sym same) ∙ q) (entry_or_same u ne)

  plain_head : is_marked (with_new.words.value head) ≡ false
  plain_head = ⊎_elim (λ at. ap is_marked at.now ∙ enters.in_head at.here) (λ same. ap is_marked same ∙ is.unmarked) (entry_or_same head head_apart)

  plain_other : (node : ℕ) → IsIn h list node → h.words.key_of node ≢ n.key → is_marked (next_of h.words node) ≡ false
      → is_marked (with_new.words.value (next_word h.words.shape node)) ≡ false
  plain_other node i other q = ⊎_elim
      (λ at. ap is_marked at.now ∙ ⊎_elim (λ less. less.1) (λ same. absurd (other same.0)) (enters.before node i at.here))
      (λ same. ap is_marked same ∙ q)
      (entry_or_same (next_word h.words.shape node) (next_apart node i))

  -- what was reached is reached
  reach_old : (node : ℕ) → IsIn h list node → is_marked (next_of h.words node) ≡ false → Reaches with_new.words (with_new.words.value head) node
  reach_old node i plain = along head node head_apart
      (reach_kept h with_new.words list node rise (not_null h list rise node i) (λ y iy r. along (next_word h.words.shape y) node (next_apart y iy) r)
      (node_count h.words.shape) (h.words.value head) is.first (is.reached node i plain))

  -- and so is the new node, from the word
  from_word : (u : ℕ) → u ≢ next_word h.words.shape n.node → u ≡ c.word → Reaches with_new.words (with_new.words.value u) n.node
  from_word u ne e = reaches_first with_new.words (with_new.words.value u) n.node
      (ap linked_node (put_other (changed h.words c).value (next_word h.words.shape n.node) n.next u ne ∙ put_same h.words.value c.word c.new u e)
      ∙ enters.names) some_node

  reach_new : Reaches with_new.words (with_new.words.value head) n.node
  reach_new = ⊎_elim
      (λ at_head. from_word head head_apart (sym at_head))
      (λ t. let r = reach_old t.0 t.1 (ap is_marked (ap h.words.value (sym t.2) ∙ enters.stands) ∙ enters.plain) in
      reaches_on with_new.words r.0 (with_new.words.value head) t.0 n.node r.1 (from_word (next_word h.words.shape t.0) (next_apart t.0 t.1) (sym t.2)))
      enters.word

  pub entered : IsList with_new list head
  entered = list_again with_new list head (record { nodes = nodes_now; rises = rises_now; rank = enters.later; ranks = ranks_now })
      plain_head
      (⊎_elim
      (λ at. subst (Names with_new list) (sym at.now) (inr (subst (IsIn with_new list) (sym enters.names) placed_now)))
      (λ same. subst (Names with_new list) (sym same) (names_kept h with_new list extends _ is.first))
      (entry_or_same head head_apart))
      (λ node i plain. ⊎_elim
      (λ e. subst (Reaches with_new.words (with_new.words.value head)) (sym e) reach_new)
      (λ j. reach_old node j (plain_before (next_word h.words.shape node) (next_apart node j) plain))
      (in_either node i))

  others_same : (q : ℕ) → q ≢ n.key → fin.find nat_cmp q (pairs_from with_new.words head) ≡ fin.find nat_cmp q (pairs_from h.words head)
  others_same q ne = finds_same h with_new list head is entered q
      (λ v p. record {
        node = p.node;
        is_in = extends.grows p.node p.is_in;
        unmarked = plain_other p.node p.is_in (λ e. ne (sym p.has_key ∙ e)) p.unmarked;
        has_key = extends.key_of p.node p.is_in ∙ p.has_key;
        has_value = extends.value_of_node p.node p.is_in ∙ p.has_value;
      })
      (λ v p. ⊎_elim
      (λ e. absurd (ne (sym p.has_key ∙ ap with_new.words.key_of e ∙ key_now)))
      (λ j. record {
        node = p.node;
        is_in = j;
        unmarked = plain_before (next_word h.words.shape p.node) (next_apart p.node j) p.unmarked;
        has_key = sym (extends.key_of p.node j) ∙ p.has_key;
        has_value = sym (extends.value_of_node p.node j) ∙ p.has_value;
      })
      (in_either p.node p.is_in))

  new_pair : HasPair with_new list n.key n.value
  new_pair = record {
    node = n.node;
    is_in = placed_now;
    unmarked = ap is_marked next_now ∙ enters.plain;
    has_key = key_now;
    has_value = put_same h.words.value_of_node n.node n.value n.node refl;
  }

  -- its key has its value afterwards, and each other key what it had
  pub entered_finds : (q : ℕ) → fin.find nat_cmp q (pairs_from with_new.words head) ≡ cond (eq_by_cmp nat_cmp q n.key) (Some n.value)
      (fin.find nat_cmp q (pairs_from h.words head))
  entered_finds q = ⊎_elim
      (λ e. subst (λ k. fin.find nat_cmp k (pairs_from with_new.words head) ≡ Some n.value) (sym e)
      (pair-found with_new list head entered n.key n.value new_pair)
      ∙ sym (ap (λ b. cond b (Some n.value) (fin.find nat_cmp q (pairs_from h.words head))) (same_ties q n.key e)))
      (λ ne. others_same q ne ∙ sym (ap (λ b. cond b (Some n.value) (fin.find nat_cmp q (pairs_from h.words head))) (apart_ties q n.key ne)))
      (cases_eq q n.key)

  pub enters_only : ChangesOnly h with_new list head
  enters_only = record {
    shape = refl;
    placed = λ node. ⊎_elim
        (λ e. inr (ap h.placed e ∙ enters.fresh, subst (IsIn with_new list) (sym e) placed_now))
        (λ ne. inl (placed_before node ne))
        (cases_eq node n.node);
    elsewhere = λ u. ⊎_elim
        (λ e. inr (inr (n.node, placed_now, enters.is_node, e)))
        (λ ne. ⊎_elim
        (λ at. inr (⊎_elim (λ e. inl (at.here ∙ e)) (λ t. inr (t.0, extends.grows t.0 t.1, is.nodes t.0 t.1, at.here ∙ t.2)) enters.word))
        inl
        (entry_or_same u ne))
        (cases_eq u (next_word h.words.shape n.node));
    marked = λ node i m. ⊎_elim
        (λ at. absurd (both_ways (is_marked c.old) enters.plain (ap is_marked (sym at.was) ∙ m)))
        (λ same. same)
        (entry_or_same (next_word h.words.shape node) (next_apart node i));
    key_of = λ node placed. put_other h.words.key_of n.node n.key node (other_node node placed);
    value_of_node = λ node placed. put_other h.words.value_of_node n.node n.value node (other_node node placed);
  }

  -- a node of the list was one before, or has the new key
  pub entered_nodes : (node : ℕ) → IsIn with_new list node → IsIn h list node ⊎ (with_new.words.key_of node ≡ n.key)
  entered_nodes node i = ⊎_elim (λ e. inr (ap with_new.words.key_of e ∙ key_now)) inl (in_either node i)
