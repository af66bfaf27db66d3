-- A change of one list leaves the other lists and every fact.
use Rattle.std.proofs.Common.{◌≡◌, ℕ, ◌≢◌, ◌⊎◌, true, Option, Some, None, sym, ap, ◌∙◌, subst, inl, inr, ⊎_elim}
use Rattle.std.specs.Prelude.{IfSome, IsTrue}
use Rattle.std.proofs.lemmas.Bool.{cases_eq}
use Rattle.md_words.specs.declared.shape.Shape.{Shape}
use Rattle.md_words.specs.Link.{is_marked}
use Rattle.md_words.specs.Layout.{IsNode}
use Rattle.md_machine.specs.declared.node.Structure.{Structure}
use Rattle.md_machine.specs.declared.node.Structure.TheVariants.{Bucket}
use Rattle.md_machine.specs.LogicalHeap.{LogicalHeap, next_of, IsPlaced, is_settled}
use Rattle.md_machine.specs.Meaning.{KeepsFacts}
use Rattle.md_list_law.specs.ListShape.{next_word, IsIn, IsList}
use Rattle.md_list_law.proofs.Links.{next_words_differ}
use Rattle.md_list_law.proofs.ListKept.{SameList}

-- no node's next word is this word
abbrev pub IsNoNext : Shape → (word : ℕ) → Type 0
IsNoNext shape word = (node : ℕ) → IsNode shape node → next_word shape node ≢ word

-- a word of a list: its head, or the next word of one of its nodes
abbrev pub IsWordOf : LogicalHeap → Structure → (head word : ℕ) → Type 0
IsWordOf h list head word = (word ≡ head) ⊎ ((node : ℕ) × IsIn h list node × IsNode h.words.shape node × (word ≡ next_word h.words.shape node))

-- one heap differs from another in words of a list alone, and may have more nodes of it
pub record ChangesOnly (h k : LogicalHeap) (list : Structure) (head : ℕ) : Type 0 where
  pub shape : k.words.shape ≡ h.words.shape
  pub placed : (node : ℕ) → (k.placed node ≡ h.placed node) ⊎ ((h.placed node ≡ None) × IsIn k list node)
  pub elsewhere : (word : ℕ) → (k.words.value word ≡ h.words.value word) ⊎ IsWordOf k list head word
  pub marked : (node : ℕ) → IsIn h list node → is_marked (next_of h.words node) ≡ true → next_of k.words node ≡ next_of h.words node
  pub key_of : (node : ℕ) → IsPlaced h node → k.words.key_of node ≡ h.words.key_of node
  pub value_of_node : (node : ℕ) → IsPlaced h node → k.words.value_of_node node ≡ h.words.value_of_node node

module _ (h k : LogicalHeap) (list : Structure) (head : ℕ) (only : ChangesOnly h k list head) (apart : IsNoNext h.words.shape head) where
  -- a placed node stays where it is
  pub stays : (node : ℕ) (s : Structure) → h.placed node ≡ Some s → k.placed node ≡ Some s
  stays node s i = ⊎_elim (λ e. e ∙ i) (λ t. let none = t.0 in absurd (cc (i, none))) (only.placed node)

  -- the next word of a placed node is as it was, or the node is of the list
  pub next_same : (node : ℕ) → IsNode h.words.shape node → (next_of k.words node ≡ next_of h.words node) ⊎ IsIn k list node
  next_same node is_node = ⊎_elim
      (λ e. inl (ap (λ (shape : Shape). k.words.value (next_word shape node)) only.shape ∙ e))
      (λ word. ⊎_elim
      (λ at_head. absurd (apart node is_node at_head))
      (λ t. ⊎_elim
      (λ same. inr (subst (IsIn k list) (sym same) t.1))
      (λ other. absurd (next_words_differ h.words.shape node t.0 is_node (subst (λ (shape : Shape). IsNode shape t.0) only.shape t.2) other
      (t.3 ∙ ap (λ (shape : Shape). next_word shape t.0) only.shape)))
      (cases_eq node t.0))
      word)
      (only.elsewhere (next_word h.words.shape node))

  module _ (other : Structure) (other_head : ℕ) (apart_list : other ≢ list) (apart_head : other_head ≢ head) (no_next : IsNoNext h.words.shape other_head) where
    not_both : (node : ℕ) → k.placed node ≡ Some other → k.placed node ≡ Some list → ⊥
    not_both node i j = apart_list (cc (i, j))

    -- another list is the same
    pub same_elsewhere : IsList h other other_head → SameList h k other other_head
    same_elsewhere is = record {
      shape = only.shape;
      there = λ node i. stays node other i;
      back = λ node i. ⊎_elim (λ e. sym e ∙ i) (λ t. absurd (not_both node i t.1)) (only.placed node);
      first = ⊎_elim (λ e. e)
          (λ word. ⊎_elim (λ e. absurd (apart_head e))
          (λ t. absurd (no_next t.0 (subst (λ (shape : Shape). IsNode shape t.0) only.shape t.2)
          (sym (t.3 ∙ ap (λ (shape : Shape). next_word shape t.0) only.shape)))) word)
          (only.elsewhere other_head);
      next = λ node i. ⊎_elim (λ e. e) (λ j. absurd (not_both node (stays node other i) j)) (next_same node (is.nodes node i));
      key_of = λ node i. only.key_of node (other, i);
      value_of_node = λ node i. only.value_of_node node (other, i);
    }

-- what is known of a next word that is settled
next_known : (was now : ℕ) (s : Structure) (o : Option ℕ) → ((v : ℕ) → was ≡ v → is_settled s v ≡ true → now ≡ v)
    → IfSome o (λ v. (was ≡ v) × IsTrue (is_settled s v)) → IfSome o (λ v. (now ≡ v) × IsTrue (is_settled s v))
next_known was now s None kept known = known
next_known was now s (Some v) kept known = (kept v known.0 known.1, known.1)

module _ (h k : LogicalHeap) (map bucket head : ℕ) (only : ChangesOnly h k (Bucket map bucket) head) (apart : IsNoNext h.words.shape head) where
  -- a fact on a placed node stays
  pub facts_kept : ((node : ℕ) → IsPlaced h node → IsNode h.words.shape node) → KeepsFacts h k
  facts_kept nodes f known = record {
    placed = stays h k (Bucket map bucket) head only apart f.node f.structure known.placed;
    key = subst (λ (n : ℕ). IfSome f.key (λ key. n ≡ key)) (sym (only.key_of f.node (f.structure, known.placed))) known.key;
    value = subst (λ (n : ℕ). IfSome f.value (λ value. n ≡ value)) (sym (only.value_of_node f.node (f.structure, known.placed))) known.value;
    next = next_known (next_of h.words f.node) (next_of k.words f.node) f.structure f.next kept known.next;
  }
    where
      in_list : IsIn k (Bucket map bucket) f.node → f.structure ≡ Bucket map bucket
      in_list i = let j = stays h k (Bucket map bucket) head only apart f.node f.structure known.placed in cc (i, j)

      kept : (v : ℕ) → next_of h.words f.node ≡ v → is_settled f.structure v ≡ true → next_of k.words f.node ≡ v
      kept v e settled = ⊎_elim
          (λ same. same ∙ e)
          (λ i. let s = in_list i in only.marked f.node (subst (λ (t : Structure). h.placed f.node ≡ Some t) s known.placed)
          (ap is_marked e ∙ subst (λ (t : Structure). is_settled t v ≡ true) s settled) ∙ e)
          (next_same h k (Bucket map bucket) head only apart f.node (nodes f.node (f.structure, known.placed)))
