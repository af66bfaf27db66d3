-- The pairs of a list are those of its unmarked nodes.
use Rattle.std.proofs.Common.{◌≡◌, ℕ, true, false, List, [], ◌∷◌, Some, None, refl, sym, ap, ◌∙◌, subst, ⊎_elim, arith}
use Rattle.std.specs.List.{Contains}
use Rattle.std.specs.Ordering.{nat_cmp}
use Rattle.std.specs.FinMap as fin
use Rattle.std.proofs.lemmas.Bool.{cases_eq, cases_Bool, cond-true, cond-false, both_ways}
use Rattle.md_words.specs.Link.{is_marked}
use Rattle.md_words.specs.Layout.{node_count}
use Rattle.md_machine.specs.declared.node.Structure.{Structure}
use Rattle.md_machine.specs.LogicalHeap.{LogicalWords, LogicalHeap, next_of}
use Rattle.md_machine.proofs.lists.Rising.{in_none, in_cons, here, there}
use Rattle.md_machine.proofs.lists.Options.{some_same}
use Rattle.md_list_law.specs.Walk.{walk, reached_nodes, unmarked_pairs, pairs_from}
use Rattle.md_list_law.specs.ListShape.{IsIn, IsList, NamesAbove}
use Rattle.md_list_law.specs.Gaps.{IsGap}
use Rattle.md_list_law.proofs.Keys.{find-here, find-further, none_unless}
use Rattle.md_list_law.proofs.Chains.{Rises, walked, walked_above, same_key, reached_from}

-- a node with a marked next word adds no pair
pairs-marked : (w : LogicalWords) (n : ℕ) (ns : List ℕ) → is_marked (next_of w n) ≡ true → unmarked_pairs w (n ∷ ns) ≡ unmarked_pairs w ns
pairs-marked w n ns e = cond-true (is_marked (next_of w n)) (unmarked_pairs w ns) ((w.key_of n, w.value_of_node n) ∷ unmarked_pairs w ns) e

pairs-unmarked : (w : LogicalWords) (n : ℕ) (ns : List ℕ) → is_marked (next_of w n) ≡ false
    → unmarked_pairs w (n ∷ ns) ≡ (w.key_of n, w.value_of_node n) ∷ unmarked_pairs w ns
pairs-unmarked w n ns e = cond-false (is_marked (next_of w n)) (unmarked_pairs w ns) ((w.key_of n, w.value_of_node n) ∷ unmarked_pairs w ns) e

-- an unmarked node is found by its key, if no other unmarked node has it
find-pairs : (w : LogicalWords) (ns : List ℕ) (a : ℕ) → Contains ns a → is_marked (next_of w a) ≡ false
    → ((b : ℕ) → Contains ns b → is_marked (next_of w b) ≡ false → w.key_of a ≡ w.key_of b → a ≡ b)
    → fin.find nat_cmp (w.key_of a) (unmarked_pairs w ns) ≡ Some (w.value_of_node a)
find-pairs w [] a c unmarked only = absurd (in_none a c)
find-pairs w (x ∷ xs) a c unmarked only =
    let rest : Contains xs a → fin.find nat_cmp (w.key_of a) (unmarked_pairs w xs) ≡ Some
    (w.value_of_node a) = λ later. find-pairs w xs a later unmarked (λ b d. only b (there x xs b d)) in
    ⊎_elim
    (λ marked. ap (fin.find nat_cmp (w.key_of a)) (pairs-marked w x xs marked) ∙ ⊎_elim
    (λ e. absurd (both_ways (is_marked (next_of w a)) unmarked (ap (λ n. is_marked (next_of w n)) (sym e) ∙ marked)))
    rest
    (in_cons x xs a c))
    (λ plain. ap (fin.find nat_cmp (w.key_of a)) (pairs-unmarked w x xs plain) ∙ ⊎_elim
    (λ same. find-here (w.key_of a) (w.key_of x) (w.value_of_node x) (unmarked_pairs w xs) same
    ∙ ap (λ n. Some (w.value_of_node n)) (sym (only x (here x xs) plain same)))
    (λ other. find-further (w.key_of a) (w.key_of x) (w.value_of_node x) (unmarked_pairs w xs) other ∙ ⊎_elim
    (λ e. absurd (other (ap w.key_of (sym e))))
    rest
    (in_cons x xs a c))
    (cases_eq (w.key_of a) (w.key_of x)))
    (cases_Bool (is_marked (next_of w x)))

-- what is found is the value of an unmarked node with that key
pub record IsPairIn (w : LogicalWords) (ns : List ℕ) (key value : ℕ) : Type 0 where
  pub node : ℕ
  pub among : Contains ns node
  pub unmarked : is_marked (next_of w node) ≡ false
  pub has_key : w.key_of node ≡ key
  pub has_value : w.value_of_node node ≡ value

pair_later : (w : LogicalWords) (x : ℕ) (xs : List ℕ) (key value : ℕ) → IsPairIn w xs key value → IsPairIn w (x ∷ xs) key value
pair_later w x xs key value p = record { node = p.node; among = there x xs p.node p.among; unmarked = p.unmarked; has_key = p.has_key; has_value = p.has_value }

pairs-find : (w : LogicalWords) (ns : List ℕ) (q v : ℕ) → fin.find nat_cmp q (unmarked_pairs w ns) ≡ Some v → IsPairIn w ns q v
pairs-find w [] q v e = absurd (cc e)
pairs-find w (x ∷ xs) q v e = ⊎_elim
    (λ marked. pair_later w x xs q v (pairs-find w xs q v (sym (ap (fin.find nat_cmp q) (pairs-marked w x xs marked)) ∙ e)))
    (λ plain. let f : fin.find nat_cmp q ((w.key_of x, w.value_of_node x) ∷ unmarked_pairs w xs) ≡ Some v = sym
    (ap (fin.find nat_cmp q) (pairs-unmarked w x xs plain)) ∙ e in ⊎_elim
    (λ same. record {
      node = x;
      among = here x xs;
      unmarked = plain;
      has_key = sym same;
      has_value = some_same _ _ (sym (find-here q (w.key_of x) (w.value_of_node x) (unmarked_pairs w xs) same) ∙ f);
    })
    (λ other. pair_later w x xs q v (pairs-find w xs q v (sym (find-further q (w.key_of x) (w.value_of_node x) (unmarked_pairs w xs) other) ∙ f)))
    (cases_eq q (w.key_of x)))
    (cases_Bool (is_marked (next_of w x)))

-- an unmarked node of a list
pub record HasPair (h : LogicalHeap) (list : Structure) (key value : ℕ) : Type 0 where
  pub node : ℕ
  pub is_in : IsIn h list node
  pub unmarked : is_marked (next_of h.words node) ≡ false
  pub has_key : h.words.key_of node ≡ key
  pub has_value : h.words.value_of_node node ≡ value

module _ (h : LogicalHeap) (list : Structure) (head : ℕ) (is : IsList h list head) where
  pub rises_of : Rises h list
  rises_of = record { nodes = is.nodes; rises = is.rises; rank = is.rank; ranks = is.ranks }

  -- the list finds the pairs of its unmarked nodes, and no others
  pub pair-found : (key value : ℕ) → HasPair h list key value → fin.find nat_cmp key (pairs_from h.words head) ≡ Some value
  pair-found key value p = subst (λ k. fin.find nat_cmp k (pairs_from h.words head) ≡ Some value) p.has_key
      (find-pairs h.words (reached_nodes h.words head) p.node c p.unmarked
      (λ b d plain. same_key h list rises_of (node_count h.words.shape) (h.words.value head) p.node b is.first c d p.unmarked plain) ∙ ap Some p.has_value)
    where
      c : Contains (reached_nodes h.words head) p.node
      c = is.reached p.node p.is_in p.unmarked

  pub found-pair : (key value : ℕ) → fin.find nat_cmp key (pairs_from h.words head) ≡ Some value → HasPair h list key value
  found-pair key value e =
      let p = pairs-find h.words (reached_nodes h.words head) key value e in
      record {
        node = p.node;
        is_in = walked h list rises_of (node_count h.words.shape) (h.words.value head) p.node is.first p.among;
        unmarked = p.unmarked;
        has_key = p.has_key;
        has_value = p.has_value;
      }

  -- a gap leaves no room for the key
  pub gap_empty : (key word : ℕ) → IsGap h list head key word → fin.find nat_cmp key (pairs_from h.words head) ≡ None
  gap_empty key word g = none_unless (fin.find nat_cmp key (pairs_from h.words head)) (λ v e. no_pair (found-pair key v e))
    where
      above : (n value node : ℕ) → NamesAbove h list key value → Contains (walk h.words n value) node → h.words.key_of node ≡ key → ⊥
      above n value node names c e = let more = walked_above h list rises_of n key value node names c in omega (arith, more, e)

      no_pair : {v : ℕ} → HasPair h list key v → ⊥
      no_pair p = ⊎_elim
          (λ at_head. above (node_count h.words.shape) (h.words.value head) p.node
          (subst (λ w. NamesAbove h list key (h.words.value w)) at_head g.before) (is.reached p.node p.is_in p.unmarked) p.has_key)
          (λ t. let less = t.2 in
          let r = reached_from h list rises_of (node_count h.words.shape) (h.words.value head) t.0 p.node is.first
          (is.reached t.0 t.1 (ap (λ w. is_marked (h.words.value w)) (sym t.3) ∙ g.unmarked)) (is.reached p.node p.is_in p.unmarked)
          (omega (arith, less, p.has_key)) in
          above r.0 (next_of h.words t.0) p.node (subst (λ w. NamesAbove h list key (h.words.value w)) t.3 g.before) r.1 p.has_key)
          g.after

  -- a node shows its key
  pub node_found : (node : ℕ) → IsIn h list node → is_marked (next_of h.words node) ≡ false
      → fin.find nat_cmp (h.words.key_of node) (pairs_from h.words head) ≡ Some (h.words.value_of_node node)
  node_found node i unmarked = pair-found (h.words.key_of node) (h.words.value_of_node node)
      (record { node = node; is_in = i; unmarked = unmarked; has_key = refl; has_value = refl })
