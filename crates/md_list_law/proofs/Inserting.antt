-- A new node enters the list in a gap, and adds its pair.
use Rattle.std.proofs.Common.{◌≡◌, ℕ, ◌<◌, false, None, refl, sym, ap, ◌∙◌, subst, inl, inr, ⊎_elim}
use Rattle.std.proofs.lemmas.Bool.{cases_eq}
use Rattle.md_words.specs.Link.{link_value, is_marked}
use Rattle.md_words.specs.Layout.{IsNode}
use Rattle.md_words.proofs.Words.{linked_node-link_value, is_marked-link_value}
use Rattle.md_machine.specs.declared.node.Structure.{Structure}
use Rattle.md_machine.specs.LogicalHeap.{LogicalHeap}
use Rattle.md_list_law.specs.ListShape.{next_word, IsIn, IsList, NamesAbove}
use Rattle.md_list_law.specs.Gaps.{IsGap}
use Rattle.md_list_law.proofs.Links.{next_words_differ}
use Rattle.md_list_law.proofs.Elsewhere.{IsNoNext}
use Rattle.md_list_law.proofs.Entering.{Enters}

module _ (h : LogicalHeap) (list : Structure) (head : ℕ) (is : IsList h list head) (apart : IsNoNext h.words.shape head) where
  -- the node before the gap has a smaller key
  key_before : (key word : ℕ) → IsGap h list head key word → (node : ℕ) → IsIn h list node → next_word h.words.shape node ≡ word → h.words.key_of node < key
  key_before key word gap node i e = ⊎_elim
      (λ at_head. absurd (apart node (is.nodes node i) (e ∙ at_head)))
      (λ t. ⊎_elim
      (λ same. subst (λ m. h.words.key_of m < key) (sym same) t.2)
      (λ ne. absurd (next_words_differ h.words.shape node t.0 (is.nodes node i) (is.nodes t.0 t.1) ne (e ∙ t.3)))
      (cases_eq node t.0))
      gap.after

  -- the ranks stay
  pub enters_gap : (key value word old node : ℕ) → IsGap h list head key word → h.words.value word ≡ old → IsNode h.words.shape node → h.placed node ≡ None
      → Enters h list head is.rank (record { word = word; old = old; new = link_value node false })
      (record { node = node; structure = list; key = key; value = value; next = old })
  enters_gap key value word old node gap stands is_node fresh = record {
    stands = stands;
    plain = ap is_marked (sym stands) ∙ gap.unmarked;
    word = ⊎_elim inl (λ t. inr (t.0, t.1, t.3)) gap.after;
    names = linked_node-link_value node false;
    in_head = λ e. is_marked-link_value node false;
    is_node = is_node;
    fresh = fresh;
    structure = refl;
    next = refl;
    above = subst (NamesAbove h list key) stands gap.before;
    later = is.rank;
    stay = λ other i. refl;
    before = λ other i e. inl (key_before key word gap other i e, is_marked-link_value node false);
  }
