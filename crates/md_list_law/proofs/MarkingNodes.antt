-- A mark takes the key of its node out of the list.
use Rattle.std.proofs.Common.{◌≡◌, ℕ, ◌+◌, ◌≢◌, true, false, cond, Some, None, sym, ap, ◌∙◌, subst, inr, ⊎_elim}
use Rattle.std.specs.Ordering.{nat_cmp, eq_by_cmp}
use Rattle.std.specs.FinMap as fin
use Rattle.std.proofs.lemmas.Bool.{both_ways, cases_eq}
use Rattle.md_words.specs.Link.{linked_node, is_marked}
use Rattle.md_words.specs.Layout.{node_count}
use Rattle.md_machine.specs.declared.node.Structure.{Structure}
use Rattle.md_machine.specs.declared.certificate.Change.{Change}
use Rattle.md_machine.specs.LogicalHeap.{LogicalHeap, next_of, changed}
use Rattle.md_list_law.specs.Walk.{pairs_from}
use Rattle.md_list_law.specs.ListShape.{next_word, IsIn, IsList, NamesOnward}
use Rattle.md_list_law.proofs.Keys.{same_ties, apart_ties, none_unless}
use Rattle.md_list_law.proofs.Links.{linked_node-marked, is_marked-marked, next_words_differ}
use Rattle.md_list_law.proofs.Order.{above_unmarked, after_link, onward_above}
use Rattle.md_list_law.proofs.Walks.{reaches_link}
use Rattle.md_list_law.proofs.Chains.{Rises, not_null, same_key}
use Rattle.md_list_law.proofs.Pairs.{HasPair, rises_of, found-pair}
use Rattle.md_list_law.proofs.Puts.{changed_or_same}
use Rattle.md_list_law.proofs.ListKept.{names_link, above_link, reach_kept, list_again, finds_same}
use Rattle.md_list_law.proofs.Elsewhere.{ChangesOnly, IsNoNext}
use Rattle.md_list_law.proofs.Changing.{after_change, change_only}

module _ (h : LogicalHeap) (list : Structure) (head : ℕ) (is : IsList h list head) (apart : IsNoNext h.words.shape head) (c : Change) (p : ℕ)
    (in_list : IsIn h list p)
    (word : c.word ≡ next_word h.words.shape p) (stands : h.words.value c.word ≡ c.old) (plain : is_marked c.old ≡ false) (new : c.new ≡ c.old + 1) where
  rise : Rises h list
  rise = rises_of h list head is

  same_node : linked_node c.new ≡ linked_node c.old
  same_node = ap linked_node new ∙ linked_node-marked c.old plain

  now_marked : is_marked c.new ≡ true
  now_marked = ap is_marked new ∙ is_marked-marked c.old plain

  -- each word names what it named
  same_link : (u : ℕ) → linked_node ((changed h.words c).value u) ≡ linked_node (h.words.value u)
  same_link u = ⊎_elim
      (λ at. ap linked_node at.new ∙ same_node ∙ ap linked_node (sym at.old))
      (λ other. ap linked_node other.1)
      (changed_or_same h.words c u stands)

  plain_before : (u : ℕ) → is_marked ((changed h.words c).value u) ≡ false → is_marked (h.words.value u) ≡ false
  plain_before u q = ⊎_elim
      (λ at. absurd (both_ways (is_marked c.new) (ap is_marked (sym at.new) ∙ q) now_marked))
      (λ other. ap is_marked (sym other.1) ∙ q)
      (changed_or_same h.words c u stands)

  head_same : (changed h.words c).value head ≡ h.words.value head
  head_same = ⊎_elim
      (λ at. absurd (apart p (is.nodes p in_list) (sym (at.here ∙ word))))
      (λ other. other.1)
      (changed_or_same h.words c head stands)

  -- of another node the next word is as it was
  next_same : (node : ℕ) → IsIn h list node → p ≢ node → (changed h.words c).value (next_word h.words.shape node) ≡ next_of h.words node
  next_same node i ne = ⊎_elim
      (λ at. absurd (next_words_differ h.words.shape p node (is.nodes p in_list) (is.nodes node i) ne (sym word ∙ sym at.here)))
      (λ other. other.1)
      (changed_or_same h.words c (next_word h.words.shape node) stands)

  -- the marked word named a node with a greater key
  still_onward : (node : ℕ) → IsIn h list node → NamesOnward h list (h.words.key_of node) ((changed h.words c).value (next_word h.words.shape node))
  still_onward node i = ⊎_elim
      (λ at. onward_above h list (h.words.key_of node) _ (above_link h list (h.words.key_of node) _ _ (same_link (next_word h.words.shape node))
      (above_unmarked h list (h.words.key_of node) _ (ap is_marked at.old ∙ plain) (is.rises node i))))
      (λ other. subst (NamesOnward h list (h.words.key_of node)) (sym other.1) (is.rises node i))
      (changed_or_same h.words c (next_word h.words.shape node) stands)

  pub marked_list : IsList (after_change h c) list head
  marked_list = list_again (after_change h c) list head
      (record {
        nodes = is.nodes;
        rises = still_onward;
        rank = is.rank;
        ranks = λ node i. after_link h is.rank node _ _ (same_link (next_word h.words.shape node)) (is.ranks node i);
      })
      (ap is_marked head_same ∙ is.unmarked)
      (names_link h list _ _ (same_link head) is.first)
      (λ node i q. reaches_link (changed h.words c) _ _ node (same_link head)
      (reach_kept h (changed h.words c) list node rise (not_null h list rise node i)
      (λ y iy r. reaches_link (changed h.words c) _ _ node (same_link (next_word h.words.shape y)) r)
      (node_count h.words.shape) (h.words.value head) is.first (is.reached node i (plain_before (next_word h.words.shape node) q))))

  -- the node is the only unmarked one with its key
  only_node : (node : ℕ) → IsIn h list node → is_marked (next_of h.words node) ≡ false → h.words.key_of p ≡ h.words.key_of node → p ≡ node
  only_node node i q e = same_key h list rise (node_count h.words.shape) (h.words.value head) p node is.first
      (is.reached p in_list plain_p) (is.reached node i q) plain_p q e
    where
      plain_p : is_marked (next_of h.words p) ≡ false
      plain_p = ap is_marked (ap h.words.value (sym word) ∙ stands) ∙ plain

  -- afterwards nothing is found at its key
  gone : (v : ℕ) → HasPair (after_change h c) list (h.words.key_of p) v → ⊥
  gone v q =
      let e = only_node q.node q.is_in (plain_before (next_word h.words.shape q.node) q.unmarked) (sym q.has_key) in
      let at : (changed h.words c).value (next_word h.words.shape q.node) ≡ c.new = ⊎_elim (λ at. at.new)
      (λ other. absurd (other.0 (ap (next_word h.words.shape) (sym e) ∙ sym word))) (changed_or_same h.words c (next_word h.words.shape q.node) stands) in
      both_ways (is_marked c.new) (ap is_marked (sym at) ∙ q.unmarked) now_marked

  others_same : (q : ℕ) → q ≢ h.words.key_of p → fin.find nat_cmp q (pairs_from (changed h.words c) head) ≡ fin.find nat_cmp q (pairs_from h.words head)
  others_same q ne = finds_same h (after_change h c) list head is marked_list q
      (λ v r. let other : p ≢ r.node = λ e. ne (sym (ap h.words.key_of e ∙ r.has_key)) in
      record {
        node = r.node;
        is_in = r.is_in;
        unmarked = ap is_marked (next_same r.node r.is_in other) ∙ r.unmarked;
        has_key = r.has_key;
        has_value = r.has_value;
      })
      (λ v r. record {
        node = r.node;
        is_in = r.is_in;
        unmarked = plain_before (next_word h.words.shape r.node) r.unmarked;
        has_key = r.has_key;
        has_value = r.has_value;
      })

  pub marked_finds : (q : ℕ) → fin.find nat_cmp q (pairs_from (changed h.words c) head) ≡ cond (eq_by_cmp nat_cmp q (h.words.key_of p)) None
      (fin.find nat_cmp q (pairs_from h.words head))
  marked_finds q = ⊎_elim
      (λ e. none_unless _ (λ v f. gone v (found-pair (after_change h c) list head marked_list (h.words.key_of p) v
      (subst (λ k. fin.find nat_cmp k (pairs_from (changed h.words c) head) ≡ Some v) e f)))
      ∙ sym (ap (λ b. cond b None (fin.find nat_cmp q (pairs_from h.words head))) (same_ties q (h.words.key_of p) e)))
      (λ ne. others_same q ne ∙ sym (ap (λ b. cond b None (fin.find nat_cmp q (pairs_from h.words head))) (apart_ties q (h.words.key_of p) ne)))
      (cases_eq q (h.words.key_of p))

  pub mark_only : ChangesOnly h (after_change h c) list head
  mark_only = change_only h list head is c stands plain (inr (p, in_list, word))
