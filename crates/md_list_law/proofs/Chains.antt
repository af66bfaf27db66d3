-- What a walk along rising keys passes: nodes of the list, each once, in the order of their keys and ranks.
use Rattle.std.proofs.Common.{◌≡◌, ℕ, zero, suc, ◌+◌, ◌≢◌, ◌<◌, ◌≤◌, false, List, [], ◌∷◌, length, eqb, sym, ap, ◌∙◌, subst, inl, inr, ⊎_elim, ne_eqb, arith}
use Rattle.std.specs.List.{Contains, AllByRecursion, IsDistinct}
use Rattle.std.proofs.lemmas.Bool.{cases_eq, eqb-true}
use Rattle.std.proofs.lemmas.List.Elements.{Contains-get_or, recursion_from_All}
use Rattle.std.proofs.lemmas.Map.Keys.{IsDistinct-cons}
use Rattle.std.proofs.lemmas.Map.Steps.{length-le_from_distinct_below}
use Rattle.std.proofs.lemmas.Map.Views.{Contains-from_any}
use Rattle.md_words.specs.Link.{linked_node, is_marked}
use Rattle.md_words.specs.Layout.{IsNode, node_count}
use Rattle.md_machine.specs.declared.node.Structure.{Structure}
use Rattle.md_machine.specs.LogicalHeap.{LogicalHeap, next_of}
use Rattle.md_machine.proofs.lists.Rising.{in_none, in_cons}
use Rattle.md_list_law.specs.Walk.{walk}
use Rattle.md_list_law.specs.ListShape.{IsIn, IsRank, Names, NamesAbove, NamesAfter, NamesOnward, Precedes}
use Rattle.md_list_law.proofs.Order.{above_onward, above_unmarked, after_over, onward_least, onward_names, precedes_itself}
use Rattle.md_list_law.proofs.Walks.{Reaches, walk-none, walk-some, passes, walk_first, walk_later}

-- what holds of each element
all_from : (P : ℕ → Type 0) (xs : List ℕ) → ((y : ℕ) → Contains xs y → P y) → AllByRecursion P xs
all_from P xs each = recursion_from_All P xs (λ k d below. each _ (Contains-get_or xs k d below))

none_distinct : IsDistinct eqb []
unfolding IsDistinct
none_distinct = tt

-- nodes of a list along whose next words keys rise, with their ranks
pub record Rises (h : LogicalHeap) (list : Structure) : Type 0 where
  pub nodes : (node : ℕ) → IsIn h list node → IsNode h.words.shape node
  pub rises : (node : ℕ) → IsIn h list node → NamesOnward h list (h.words.key_of node) (next_of h.words node)
  pub rank : ℕ → ℕ
  pub ranks : IsRank h list rank

module _ (h : LogicalHeap) (list : Structure) (r : Rises h list) where
  -- it is not null
  pub not_null : (node : ℕ) → IsIn h list node → node ≢ 0
  not_null node i e = let positive = (r.nodes node i).0 in omega (arith, positive, e)

  named : (value : ℕ) → Names h list value → linked_node value ≢ 0 → IsIn h list (linked_node value)
  named value n ne = ⊎_elim (λ none. absurd (ne none)) (λ i. i) n

  -- the next word of a named node
  onward : (value : ℕ) → Names h list value → linked_node value ≢ 0
      → NamesOnward h list (h.words.key_of (linked_node value)) (next_of h.words (linked_node value))
  onward value n ne = r.rises (linked_node value) (named value n ne)

  -- a walk passes nodes of the list
  pub walked : (n value node : ℕ) → Names h list value → Contains (walk h.words n value) node → IsIn h list node
  walked zero value node s c = absurd (in_none node c)
  walked (suc n) value node s c = let p = passes h.words n value node c in ⊎_elim
      (λ e. subst (IsIn h list) e (named value s p.some))
      (λ later. walked n (next_of h.words (linked_node value)) node (onward_names h list _ _ (onward value s p.some)) later)
      p.here_or_later

  named_above : (key value : ℕ) → NamesAbove h list key value → Names h list value
  named_above key value = ⊎_elim inl (λ t. inr t.0)

  -- of keys that rise
  pub walked_above : (n key value node : ℕ) → NamesAbove h list key value → Contains (walk h.words n value) node → key < h.words.key_of node
  walked_above zero key value node s c = absurd (in_none node c)
  walked_above (suc n) key value node s c = let p = passes h.words n value node c in
      let above : key < h.words.key_of (linked_node value) = ⊎_elim (λ none. absurd (p.some none)) (λ t. t.1) s in
      ⊎_elim
      (λ e. subst (λ x. key < h.words.key_of x) e above)
      (λ later. walked_above n key (next_of h.words (linked_node value)) node
      (above_onward h list (h.words.key_of (linked_node value)) (next_of h.words (linked_node value)) key above (onward value (named_above key value s) p.some)) later)
      p.here_or_later

  -- or don't fall
  walked_onward : (n key value node : ℕ) → NamesOnward h list key value → Contains (walk h.words n value) node → key ≤ h.words.key_of node
  walked_onward zero key value node s c = absurd (in_none node c)
  walked_onward (suc n) key value node s c = let p = passes h.words n value node c in
      let least : key ≤ h.words.key_of (linked_node value) = ⊎_elim (λ none. absurd (p.some none)) (λ t. onward_least (is_marked value) key _ t.1) s in
      ⊎_elim
      (λ e. subst (λ x. key ≤ h.words.key_of x) e least)
      (λ later. let more = walked_onward n (h.words.key_of (linked_node value)) (next_of h.words (linked_node value)) node
      (onward value (onward_names h list key value s) p.some) later in omega (arith, least, more))
      p.here_or_later

  -- and a node before all of them comes before each
  walked_past : (n x value node : ℕ) → Names h list value → NamesAfter h r.rank x value → Contains (walk h.words n value) node → Precedes h r.rank x node
  walked_past zero x value node s a c = absurd (in_none node c)
  walked_past (suc n) x value node s a c = let p = passes h.words n value node c in
      let first : Precedes h r.rank x (linked_node value) = ⊎_elim (λ none. absurd (p.some none)) (λ q. q) a in
      let next = next_of h.words (linked_node value) in
      ⊎_elim
      (λ e. subst (Precedes h r.rank x) e first)
      (λ later. walked_past n x next node (onward_names h list _ _ (onward value s p.some))
      (after_over h r.rank x (linked_node value) next first (r.ranks (linked_node value) (named value s p.some))) later)
      p.here_or_later

  -- past an unmarked node keys rise
  unmarked_above : (value a : ℕ) → Names h list value → linked_node value ≢ 0 → linked_node value ≡ a → is_marked (next_of h.words a) ≡ false
      → NamesAbove h list (h.words.key_of (linked_node value)) (next_of h.words (linked_node value))
  unmarked_above value a s some first plain = above_unmarked h list (h.words.key_of (linked_node value)) (next_of h.words (linked_node value))
      (ap (λ x. is_marked (next_of h.words x)) first ∙ plain) (onward value s some)

  -- two unmarked nodes that it passes are one, if their keys are equal
  pub same_key : (n value a b : ℕ) → Names h list value → Contains (walk h.words n value) a → Contains (walk h.words n value) b
      → is_marked (next_of h.words a) ≡ false → is_marked (next_of h.words b) ≡ false → h.words.key_of a ≡ h.words.key_of b → a ≡ b
  same_key zero value a b s c d plain_a plain_b e = absurd (in_none a c)
  same_key (suc n) value a b s c d plain_a plain_b e =
      let p = passes h.words n value a c in
      let q = passes h.words n value b d in
      let next = next_of h.words (linked_node value) in
      ⊎_elim
      (λ first. ⊎_elim
      (λ second. sym first ∙ second)
      (λ later. let more = walked_above n (h.words.key_of (linked_node value)) next b (unmarked_above value a s p.some first plain_a) later in
      absurd (omega (arith, more, e, ap h.words.key_of first)))
      q.here_or_later)
      (λ later. ⊎_elim
      (λ second. let more = walked_above n (h.words.key_of (linked_node value)) next a (unmarked_above value b s p.some second plain_b) later in
      absurd (omega (arith, more, e, ap h.words.key_of second)))
      (λ also. same_key n next a b (onward_names h list _ _ (onward value s p.some)) later also plain_a plain_b e)
      q.here_or_later)
      p.here_or_later

  -- of two nodes that it passes the one with the greater key is reached from the other
  pub reached_from : (n value a b : ℕ) → Names h list value → Contains (walk h.words n value) a → Contains (walk h.words n value) b
      → h.words.key_of a < h.words.key_of b → Reaches h.words (next_of h.words a) b
  reached_from zero value a b s c d less = absurd (in_none a c)
  reached_from (suc n) value a b s c d less =
      let p = passes h.words n value a c in
      let q = passes h.words n value b d in
      let next = next_of h.words (linked_node value) in
      let on = onward value s p.some in
      ⊎_elim
      (λ first. ⊎_elim
      (λ second. absurd (omega (arith, less, ap h.words.key_of first, ap h.words.key_of second)))
      (λ later. (n, subst (λ x. Contains (walk h.words n (next_of h.words x)) b) first later))
      q.here_or_later)
      (λ later. ⊎_elim
      (λ second. let more = walked_onward n (h.words.key_of (linked_node value)) next a on later in absurd (omega (arith, less, more, ap h.words.key_of second)))
      (λ also. reached_from n next a b (onward_names h list _ _ on) later also less)
      q.here_or_later)
      p.here_or_later

  -- no node twice
  walk_distinct : (n value : ℕ) → Names h list value → IsDistinct eqb (walk h.words n value)
  walk_distinct zero value s = none_distinct
  walk_distinct (suc n) value s = ⊎_elim
      (λ none. subst (IsDistinct eqb) (sym (walk-none h.words (suc n) value none)) (none_distinct))
      (λ some. let next = next_of h.words (linked_node value) in let on = onward value s some in
      subst (IsDistinct eqb) (sym (walk-some h.words n value some))
      (IsDistinct-cons eqb (linked_node value) (walk h.words n next)
      (all_from (λ y. eqb (linked_node value) y ≡ false) (walk h.words n next)
      (λ y c. let later = walked_past n (linked_node value) next y (onward_names h list _ _ on) (r.ranks (linked_node value) (named value s some)) c in
      ne_eqb (linked_node value) y (λ e. precedes_itself h r.rank y (subst (λ x. Precedes h r.rank x y) e later))))
      (walk_distinct n next (onward_names h list _ _ on))))
      (cases_eq (linked_node value) 0)

  -- so a walk passes no more nodes than there are
  walk_short : (n value : ℕ) → Names h list value → length (walk h.words n value) ≤ node_count h.words.shape
  walk_short n value s =
      let w = walk h.words n value in
      let distinct : IsDistinct eqb (0 ∷ w) = IsDistinct-cons eqb 0 w
      (all_from (λ y. eqb 0 y ≡ false) w (λ y c. ne_eqb 0 y (λ e. not_null y (walked n value y s c) (sym e)))) (walk_distinct n value s) in
      let fits : length (0 ∷ w) ≤ node_count h.words.shape + 1 = length-le_from_distinct_below (0 ∷ w) (node_count h.words.shape + 1) distinct
      (λ q found. ⊎_elim
      (λ zeroth. omega (arith, zeroth))
      (λ c. let below = (r.nodes q (walked n value q s c)).1 in omega (arith, below))
      (in_cons 0 w q (Contains-from_any eqb-true q (0 ∷ w) found))) in
      omega (arith, fits)

  -- a step that adds no node ends the walk
  walk_ends : (n value : ℕ) → length (walk h.words (suc n) value) ≤ n → walk h.words (suc n) value ≡ walk h.words n value
  walk_ends zero value fits = ⊎_elim
      (λ none. walk-none h.words 1 value none)
      (λ some. absurd (omega (arith, fits, ap length (walk-some h.words 0 value some))))
      (cases_eq (linked_node value) 0)
  walk_ends (suc n) value fits = ⊎_elim
      (λ none. walk-none h.words (suc (suc n)) value none ∙ sym (walk-none h.words (suc n) value none))
      (λ some. walk-some h.words (suc n) value some
      ∙ ap (λ nodes. linked_node value ∷ nodes) (walk_ends n (next_of h.words (linked_node value))
      (omega (arith, fits, ap length (walk-some h.words (suc n) value some))))
      ∙ sym (walk-some h.words n value some))
      (cases_eq (linked_node value) 0)

  walk_more : (n value node : ℕ) → Contains (walk h.words n value) node → Contains (walk h.words (suc n) value) node
  walk_more zero value node c = absurd (in_none node c)
  walk_more (suc n) value node c = let p = passes h.words n value node c in ⊎_elim
      (λ e. walk_first h.words (suc n) value node e (λ z. p.some (e ∙ z)))
      (λ later. walk_later h.words (suc n) value node p.some (walk_more n (next_of h.words (linked_node value)) node later))
      p.here_or_later

  walk_longer : (k n value node : ℕ) → Contains (walk h.words n value) node → Contains (walk h.words (k + n) value) node
  walk_longer zero n value node c = let e : n ≡ zero + n = omega arith in subst (λ m. Contains (walk h.words m value) node) e c
  walk_longer (suc k) n value node c = let e : suc (k + n) ≡ suc k + n = omega arith in
      subst (λ m. Contains (walk h.words m value) node) e (walk_more (k + n) value node (walk_longer k n value node c))

  walk_enough : (k value node : ℕ) → Names h list value → Contains (walk h.words (k + node_count h.words.shape) value) node
      → Contains (walk h.words (node_count h.words.shape) value) node
  walk_enough zero value node s c = let e : zero + node_count h.words.shape ≡ node_count h.words.shape = omega arith in subst
      (λ m. Contains (walk h.words m value) node) e c
  walk_enough (suc k) value node s c =
      let e : suc k + node_count h.words.shape ≡ suc (k + node_count h.words.shape) = omega arith in
      let short = walk_short (suc (k + node_count h.words.shape)) value s in
      walk_enough k value node s (subst (λ nodes. Contains nodes node) (walk_ends (k + node_count h.words.shape) value (omega (arith, short)))
      (subst (λ m. Contains (walk h.words m value) node) e c))

  -- what some walk reaches is reached in as many steps as there are nodes
  pub reached_at_all : (value node : ℕ) → Names h list value → Reaches h.words value node → Contains (walk h.words (node_count h.words.shape) value) node
  reached_at_all value node s t =
      let e : node_count h.words.shape + t.0 ≡ t.0 + node_count h.words.shape = omega arith in
      walk_enough t.0 value node s (subst (λ m. Contains (walk h.words m value) node) e (walk_longer (node_count h.words.shape) t.0 value node t.1))
