-- A new node enters the list after the node with its key, which gets a mark.
use Rattle.std.proofs.Common.{◌≡◌, ℕ, suc, false, true, None, refl, sym, ap, ◌∙◌, subst, inr, ⊎_elim, arith}
use Rattle.std.proofs.lemmas.Bool.{cases_eq}
use Rattle.md_words.specs.Link.{link_value, is_marked}
use Rattle.md_words.specs.Layout.{IsNode}
use Rattle.md_words.proofs.Words.{linked_node-link_value, is_marked-link_value}
use Rattle.md_machine.specs.declared.node.Structure.{Structure}
use Rattle.md_machine.specs.declared.certificate.Change.{Change}
use Rattle.md_machine.specs.declared.certificate.NewNode.{NewNode}
use Rattle.md_machine.specs.LogicalHeap.{LogicalHeap, next_of, put}
use Rattle.md_list_law.specs.ListShape.{next_word, IsIn, IsList, NamesOnward}
use Rattle.md_list_law.proofs.Links.{next_words_differ}
use Rattle.md_list_law.proofs.Order.{above_unmarked}
use Rattle.md_list_law.proofs.Puts.{put_same, put_other}
use Rattle.md_list_law.proofs.Elsewhere.{IsNoNext}
use Rattle.md_list_law.proofs.Entering.{ComesBefore, Enters}

module _ (h : LogicalHeap) (list : Structure) (head : ℕ) (is : IsList h list head) (apart : IsNoNext h.words.shape head) (key value node next new : ℕ)
    (in_list : IsIn h list node) (has_key : h.words.key_of node ≡ key) (stands : next_of h.words node ≡ next) (plain : is_marked next ≡ false)
    (is_node : IsNode h.words.shape new) (fresh : h.placed new ≡ None) where
  abbrev pub replacing : Change
  replacing = record { word = next_word h.words.shape node; old = next; new = link_value new true }

  abbrev pub replacement : NewNode
  replacement = record { node = new; structure = list; key = key; value = value; next = next }

  -- its rank is the next one
  abbrev ranked : ℕ → ℕ
  ranked = put is.rank new (suc (is.rank node))

  ranks_stay : (other : ℕ) → IsIn h list other → ranked other ≡ is.rank other
  ranks_stay other i = put_other is.rank new (suc (is.rank node)) other (λ e. absurd (cc (ap h.placed e, i, fresh)))

  only_word : (other : ℕ) → IsIn h list other → next_word h.words.shape other ≡ next_word h.words.shape node → other ≡ node
  only_word other i e = ⊎_elim (λ same. same)
      (λ ne. absurd (next_words_differ h.words.shape other node (is.nodes other i) (is.nodes node in_list) ne e)) (cases_eq other node)

  replaced_before : (other : ℕ) → IsIn h list other → next_word h.words.shape other ≡ next_word h.words.shape node
      → ComesBefore h ranked replacing replacement other
  replaced_before other i e =
      let same = only_word other i e in
      inr (
        ap h.words.key_of same ∙ has_key,
        is_marked-link_value new true,
        omega (arith, ranks_stay other i, ap is.rank same, put_same is.rank new (suc (is.rank node)) new refl),
      )

  pub enters_after : Enters h list head is.rank replacing replacement
  enters_after = record {
    stands = stands;
    plain = plain;
    word = inr (node, in_list, refl);
    names = linked_node-link_value new true;
    in_head = λ e. absurd (apart node (is.nodes node in_list) (sym e));
    is_node = is_node;
    fresh = fresh;
    structure = refl;
    next = refl;
    above = above_unmarked h list key next plain (subst (NamesOnward h list key) stands
        (subst (λ k. NamesOnward h list k (next_of h.words node)) has_key (is.rises node in_list)));
    later = ranked;
    stay = ranks_stay;
    before = replaced_before;
  }
