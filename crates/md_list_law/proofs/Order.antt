-- The order of a list's nodes: keys along its words, and ranks of nodes with the same key.
use Rattle.std.proofs.Common.{◌≡◌, ℕ, Bool, true, false, ◌<◌, ◌≤◌, ◌⊎◌, ◌∙◌, subst, sym, inl, inr, ⊎_elim, arith}
use Rattle.md_words.specs.Link.{linked_node, is_marked}
use Rattle.md_machine.specs.declared.node.Structure.{Structure}
use Rattle.md_machine.specs.LogicalHeap.{LogicalHeap}
use Rattle.md_list_law.specs.ListShape.{IsIn, IsOnward, Names, NamesAbove, NamesAfter, NamesOnward, Precedes}

-- a key that is onward isn't smaller, and a greater one is onward
pub onward_least : (marked : Bool) (key next : ℕ) → IsOnward marked key next → key ≤ next
onward_least true key next o = o
onward_least false key next o = omega (arith, o)

pub onward_more : (marked : Bool) (key next : ℕ) → key < next → IsOnward marked key next
onward_more true key next less = omega (arith, less)
onward_more false key next less = omega (arith, less)

module _ (h : LogicalHeap) (list : Structure) (key value : ℕ) where
  pub onward_names : NamesOnward h list key value → Names h list value
  onward_names = ⊎_elim inl (λ t. inr t.0)

  -- a value that names no node, or one with a greater key
  pub onward_above : NamesAbove h list key value → NamesOnward h list key value
  onward_above = ⊎_elim inl (λ t. inr (t.0, onward_more (is_marked value) key (h.words.key_of (linked_node value)) t.1))

  -- as an unmarked one does
  pub above_unmarked : is_marked value ≡ false → NamesOnward h list key value → NamesAbove h list key value
  above_unmarked plain = ⊎_elim inl (λ t. inr (t.0, subst (λ b. IsOnward b key (h.words.key_of (linked_node value))) plain t.1))

  -- and as any does for a smaller key
  pub above_onward : (less : ℕ) → less < key → NamesOnward h list key value → NamesAbove h list less value
  above_onward less below = ⊎_elim inl
      (λ t. let least = onward_least (is_marked value) key (h.words.key_of (linked_node value)) t.1 in inr (t.0, omega (arith, below, least)))

  -- values that name the same node with the same mark
  pub onward_link : (other : ℕ) → linked_node other ≡ linked_node value → is_marked other ≡ is_marked value → NamesOnward h list key value
      → NamesOnward h list key other
  onward_link other same mark names = subst (λ (node : ℕ). (node ≡ 0) ⊎ (IsIn h list node × IsOnward (is_marked other) key (h.words.key_of node))) (sym same)
      (subst (λ b. (linked_node value ≡ 0) ⊎ (IsIn h list (linked_node value) × IsOnward b key (h.words.key_of (linked_node value)))) (sym mark) names)

module _ (h : LogicalHeap) (rank : ℕ → ℕ) where
  -- no node comes before itself
  pub precedes_itself : (node : ℕ) → Precedes h rank node node → ⊥
  precedes_itself node = ⊎_elim (λ less. absurd (omega (arith, less))) (λ same. let less = same.1 in absurd (omega (arith, less)))

  -- what comes before a node comes before all that come after that one
  pub precedes_over : (a b c : ℕ) → Precedes h rank a b → Precedes h rank b c → Precedes h rank a c
  precedes_over a b c = ⊎_elim
      (λ less. ⊎_elim
      (λ more. inl (omega (arith, less, more)))
      (λ same. let key = same.0 in inl (omega (arith, less, key))))
      (λ one. let key = one.0 in ⊎_elim
      (λ more. inl (omega (arith, key, more)))
      (λ same. let other = same.0 in let less = one.1 in let more = same.1 in inr (key ∙ other, omega (arith, less, more))))

  -- values that name the same node
  pub after_link : (node value other : ℕ) → linked_node other ≡ linked_node value → NamesAfter h rank node value → NamesAfter h rank node other
  after_link node value other e = subst (λ (n : ℕ). (n ≡ 0) ⊎ Precedes h rank node n) (sym e)

  pub after_over : (a b value : ℕ) → Precedes h rank a b → NamesAfter h rank b value → NamesAfter h rank a value
  after_over a b value p = ⊎_elim inl (λ q. inr (precedes_over a b (linked_node value) p q))

  -- a node with a greater key comes later, whatever the ranks are
  pub after_above : (list : Structure) (node value : ℕ) → NamesAbove h list (h.words.key_of node) value → NamesAfter h rank node value
  after_above list node value = ⊎_elim inl (λ t. inr (inl t.1))
