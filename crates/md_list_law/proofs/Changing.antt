-- A change of an unmarked word of a list touches nothing else.
use Rattle.std.proofs.Common.{◌≡◌, ℕ, ◌⊎◌, List, true, false, refl, sym, ap, ◌∙◌, inl, inr, ⊎_elim}
use Rattle.std.proofs.lemmas.Bool.{both_ways}
use Rattle.md_words.specs.Link.{is_marked}
use Rattle.md_machine.specs.declared.node.Structure.{Structure}
use Rattle.md_machine.specs.declared.certificate.Change.{Change}
use Rattle.md_machine.specs.declared.certificate.NewNode.{NewNode}
use Rattle.md_machine.specs.LogicalHeap.{LogicalHeap, after_nodes, changed, changed_all}
use Rattle.md_list_law.specs.ListShape.{next_word, IsIn, IsList}
use Rattle.md_list_law.proofs.Puts.{changed_or_same}
use Rattle.md_list_law.proofs.Elsewhere.{ChangesOnly}

-- a word of the list: its head, or the next word of one of its nodes
abbrev pub IsListWord : LogicalHeap → Structure → (head word : ℕ) → Type 0
IsListWord h list head word = (word ≡ head) ⊎ ((node : ℕ) × IsIn h list node × (word ≡ next_word h.words.shape node))

abbrev pub after_change : LogicalHeap → Change → LogicalHeap
after_change h c = record { words = changed h.words c; placed = h.placed }

-- the heap after changes and nodes
abbrev pub heap_after : LogicalHeap → List Change → List NewNode → LogicalHeap
heap_after h cs ns = after_nodes (record { words = changed_all h.words cs; placed = h.placed }) ns

module _ (h : LogicalHeap) (list : Structure) (head : ℕ) (is : IsList h list head) (c : Change) (stands : h.words.value c.word ≡ c.old)
    (plain : is_marked c.old ≡ false) (word : IsListWord h list head c.word) where
  -- a marked word isn't the changed one
  pub marked_same : (u : ℕ) → is_marked (h.words.value u) ≡ true → (changed h.words c).value u ≡ h.words.value u
  marked_same u marked = ⊎_elim
      (λ at. absurd (both_ways (is_marked c.old) plain (ap is_marked (sym at.old) ∙ marked)))
      (λ other. other.1)
      (changed_or_same h.words c u stands)

  pub change_only : ChangesOnly h (after_change h c) list head
  change_only = record {
    shape = refl;
    placed = λ node. inl refl;
    elsewhere = λ u. ⊎_elim
        (λ at. inr (⊎_elim (λ e. inl (at.here ∙ e)) (λ t. inr (t.0, t.1, is.nodes t.0 t.1, at.here ∙ t.2)) word))
        (λ other. inl other.1)
        (changed_or_same h.words c u stands);
    marked = λ node i marked. marked_same (next_word h.words.shape node) marked;
    key_of = λ node i. refl;
    value_of_node = λ node i. refl;
  }
