-- An unlink leaves the list, with the same pairs.
use Rattle.std.proofs.Common.{◌≡◌, ℕ, ◌+◌, ◌≢◌, ◌<◌, true, false, sym, ap, ◌∙◌, subst, ⊎_elim}
use Rattle.std.specs.Ordering.{nat_cmp}
use Rattle.std.specs.FinMap as fin
use Rattle.std.proofs.lemmas.Bool.{both_ways}
use Rattle.md_words.specs.Link.{link_value, linked_node, is_marked}
use Rattle.md_words.specs.Layout.{node_count}
use Rattle.md_words.proofs.Words.{linked_node-link_value, is_marked-link_value}
use Rattle.md_machine.specs.declared.node.Structure.{Structure}
use Rattle.md_machine.specs.declared.certificate.Change.{Change}
use Rattle.md_machine.specs.LogicalHeap.{LogicalHeap, next_of, changed}
use Rattle.md_list_law.specs.Walk.{pairs_from}
use Rattle.md_list_law.specs.ListShape.{next_word, IsIn, IsList, Names, NamesAbove, NamesAfter, NamesOnward, Precedes}
use Rattle.md_list_law.proofs.Links.{linked_node-marked, is_marked-marked}
use Rattle.md_list_law.proofs.Order.{above_onward, above_unmarked, after_link, after_over, onward_above, onward_names}
use Rattle.md_list_law.proofs.Walks.{Reaches, reaches_link, reached_past}
use Rattle.md_list_law.proofs.Chains.{Rises, not_null}
use Rattle.md_list_law.proofs.Pairs.{rises_of}
use Rattle.md_list_law.proofs.Puts.{changed_or_same}
use Rattle.md_list_law.proofs.ListKept.{names_link, above_link, reach_kept, list_again, finds_same}
use Rattle.md_list_law.proofs.Elsewhere.{ChangesOnly}
use Rattle.md_list_law.proofs.Changing.{IsListWord, after_change, change_only, marked_same}

module _ (h : LogicalHeap) (list : Structure) (head : ℕ) (is : IsList h list head) (c : Change) (x : ℕ) (in_list : IsIn h list x)
    (word : IsListWord h list head c.word) (old : c.old ≡ link_value x false) (stands : h.words.value c.word ≡ c.old)
    (unmarked : is_marked c.new ≡ false) (marked : next_of h.words x ≡ c.new + 1) where
  rise : Rises h list
  rise = rises_of h list head is

  old_names : linked_node c.old ≡ x
  old_names = ap linked_node old ∙ linked_node-link_value x false

  old_plain : is_marked c.old ≡ false
  old_plain = ap is_marked old ∙ is_marked-link_value x false

  x_marked : is_marked (next_of h.words x) ≡ true
  x_marked = ap is_marked marked ∙ is_marked-marked c.new unmarked

  new_names : linked_node c.new ≡ linked_node (next_of h.words x)
  new_names = sym (ap linked_node marked ∙ linked_node-marked c.new unmarked)

  -- the new value names what the unlinked node's next word names
  names_x : Names h list c.new
  names_x = names_link h list (next_of h.words x) c.new new_names (onward_names h list _ _ (is.rises x in_list))

  above_x : (less : ℕ) → less < h.words.key_of x → NamesAbove h list less c.new
  above_x less below = above_link h list less (next_of h.words x) c.new new_names
      (above_onward h list (h.words.key_of x) (next_of h.words x) less below (is.rises x in_list))

  key_below : (key : ℕ) → NamesAbove h list key c.old → key < h.words.key_of x
  key_below key = ⊎_elim (λ none. absurd (not_null h list rise x in_list (sym old_names ∙ none))) (λ t. subst (λ n. key < h.words.key_of n) old_names t.1)

  still_rises : (node : ℕ) → IsIn h list node → NamesOnward h list (h.words.key_of node) ((changed h.words c).value (next_word h.words.shape node))
  still_rises node i = ⊎_elim
      (λ at. subst (NamesOnward h list (h.words.key_of node)) (sym at.new)
      (onward_above h list (h.words.key_of node) c.new (above_x (h.words.key_of node)
      (key_below (h.words.key_of node) (above_unmarked h list (h.words.key_of node) c.old old_plain
      (subst (NamesOnward h list (h.words.key_of node)) at.old (is.rises node i)))))))
      (λ other. subst (NamesOnward h list (h.words.key_of node)) (sym other.1) (is.rises node i))
      (changed_or_same h.words c (next_word h.words.shape node) stands)

  -- a node before the unlinked one comes before what that one's next word names
  before_x : (node : ℕ) → NamesAfter h is.rank node c.old → Precedes h is.rank node x
  before_x node = ⊎_elim (λ none. absurd (not_null h list rise x in_list (sym old_names ∙ none))) (subst (Precedes h is.rank node) old_names)

  after_x : NamesAfter h is.rank x c.new
  after_x = after_link h is.rank x (next_of h.words x) c.new new_names (is.ranks x in_list)

  still_ranked : (node : ℕ) → IsIn h list node → NamesAfter h is.rank node ((changed h.words c).value (next_word h.words.shape node))
  still_ranked node i = ⊎_elim
      (λ at. subst (NamesAfter h is.rank node) (sym at.new)
      (after_over h is.rank node x c.new (before_x node (subst (NamesAfter h is.rank node) at.old (is.ranks node i))) after_x))
      (λ other. subst (NamesAfter h is.rank node) (sym other.1) (is.ranks node i))
      (changed_or_same h.words c (next_word h.words.shape node) stands)

  -- what is unmarked after it was unmarked before, and the other way round
  plain_before : (u : ℕ) → is_marked ((changed h.words c).value u) ≡ false → is_marked (h.words.value u) ≡ false
  plain_before u p = ⊎_elim (λ at. ap is_marked at.old ∙ old_plain) (λ other. ap is_marked (sym other.1) ∙ p) (changed_or_same h.words c u stands)

  plain_after : (u : ℕ) → is_marked (h.words.value u) ≡ false → is_marked ((changed h.words c).value u) ≡ false
  plain_after u p = ⊎_elim (λ at. ap is_marked at.new ∙ unmarked) (λ other. ap is_marked other.1 ∙ p) (changed_or_same h.words c u stands)

  -- a way through the unlinked node goes on without it
  around : (node : ℕ) → x ≢ node → Reaches (changed h.words c) c.old node → Reaches (changed h.words c) c.new node
  around node apart r = reaches_link (changed h.words c) (next_of h.words x) c.new node new_names
      (subst (λ value. Reaches (changed h.words c) value node) (marked_same h list head is c stands old_plain word (next_word h.words.shape x) x_marked)
      (subst (λ n. Reaches (changed h.words c) (next_of (changed h.words c) n) node) old_names
      (reached_past (changed h.words c) c.old node (λ e. apart (sym old_names ∙ e)) r)))

  along : (u node : ℕ) → x ≢ node → Reaches (changed h.words c) (h.words.value u) node → Reaches (changed h.words c) ((changed h.words c).value u) node
  along u node apart r = ⊎_elim
      (λ at. subst (λ value. Reaches (changed h.words c) value node) (sym at.new)
      (around node apart (subst (λ value. Reaches (changed h.words c) value node) at.old r)))
      (λ other. subst (λ value. Reaches (changed h.words c) value node) (sym other.1) r)
      (changed_or_same h.words c u stands)

  pub unlinked : IsList (after_change h c) list head
  unlinked = list_again (after_change h c) list head (record { nodes = is.nodes; rises = still_rises; rank = is.rank; ranks = still_ranked })
      (plain_after head is.unmarked)
      (⊎_elim
      (λ at. subst (Names h list) (sym at.new) names_x)
      (λ other. subst (Names h list) (sym other.1) is.first)
      (changed_or_same h.words c head stands))
      (λ node i plain.
      let before = plain_before (next_word h.words.shape node) plain in
      let apart : x ≢ node = λ e. both_ways (is_marked (next_of h.words x)) (ap (λ n. is_marked (next_of h.words n)) e ∙ before) x_marked in
      along head node apart (reach_kept h (changed h.words c) list node rise (not_null h list rise node i)
      (λ y iy r. along (next_word h.words.shape y) node apart r)
      (node_count h.words.shape) (h.words.value head) is.first (is.reached node i before)))

  pub unlinked_same : (q : ℕ) → fin.find nat_cmp q (pairs_from (changed h.words c) head) ≡ fin.find nat_cmp q (pairs_from h.words head)
  unlinked_same q = finds_same h (after_change h c) list head is unlinked q
      (λ v p. record {
        node = p.node;
        is_in = p.is_in;
        unmarked = plain_after (next_word h.words.shape p.node) p.unmarked;
        has_key = p.has_key;
        has_value = p.has_value;
      })
      (λ v p. record {
        node = p.node;
        is_in = p.is_in;
        unmarked = plain_before (next_word h.words.shape p.node) p.unmarked;
        has_key = p.has_key;
        has_value = p.has_value;
      })

  pub unlink_only : ChangesOnly h (after_change h c) list head
  unlink_only = change_only h list head is c stands old_plain word
