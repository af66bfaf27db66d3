-- The values of words, as the transaction sees them after its ended operations and the tidy changes since: of written
-- words, of an own node's next word, and of others.
use Rattle.std.proofs.Common.{◌≡◌, ◌≢◌, ◌==◌, ◌++◌, ℕ, true, false, List, Some, None, refl, sym, ap, ◌∙◌, subst, ⊎_elim, eq-eqb}
use Rattle.std.proofs.lemmas.Bool.{cases_eq, cond-true, true≢false}
use Rattle.std.proofs.lemmas.List.Elements.{All-contains, All-nil}
use Rattle.std.specs.List.{All, AllPairs, Contains, list_any}
use Rattle.md_words.specs.declared.shape.Shape.{Shape}
use Rattle.md_words.specs.Layout.{IsNode, address}
use Rattle.md_words.specs.Place.{node_next}
use Rattle.md_machine.specs.declared.attempt.Write.{Write}
use Rattle.md_machine.specs.declared.certificate.Certificate.{Certificate}
use Rattle.md_machine.specs.declared.certificate.Change.{Change}
use Rattle.md_machine.specs.declared.certificate.NewNode.{NewNode}
use Rattle.md_machine.specs.declared.certificate.TidyChange.{TidyChange}
use Rattle.md_machine.specs.Certified.{after_wholes, all_changes, all_nodes, changes_of_tidy, is_written}
use Rattle.md_machine.specs.LogicalHeap.{IsPlaced, LogicalHeap, after_node, changed}
use Rattle.md_machine.specs.Meaning.{Meaning}
use Rattle.md_machine.proofs.chain.Agree.{put_stays, wholes_keep, wholes_shape}
use Rattle.md_machine.proofs.chain.SameNodes.{next_alone}
use Rattle.md_nbtc_law.specs.Course.{IsCourse, last_new}
use Rattle.md_nbtc_law.specs.State.{TxnState, shape_in, writes_in}
use Rattle.md_nbtc_law.specs.Tidied.{HasTidied, tidied}
use Rattle.md_nbtc_law.proofs.Values.{IsApart, last_append, tidies_value}
use Rattle.md_nbtc_law.proofs.operations.EndedCourse.{by_last}
use Rattle.md_nbtc_law.proofs.ready.Lookups.{all_of, one_of}
use Rattle.md_nbtc_law.proofs.ready.Standing.{new_placed}
use Rattle.md_nbtc_law.proofs.structures.StoodThen.{changes_word}
use Rattle.md_nbtc_law.proofs.structures.Tidying.{bare_nodes, tidied_changes, tidied_is, tidied_nodes, with_tidies}

module _ (M : Meaning) (t : TxnState) (cs : List Certificate) (course : IsCourse M t cs) (ts : List TidyChange) (has : HasTidied M t cs ts) where
  -- all changes that were made are those of the slots
  pub changes_are : all_changes (with_tidies cs ts) ≡ all_changes cs ++ t.hand.changes
  changes_are = tidied_changes cs ts ∙ ap (λ l. all_changes cs ++ l) has.changes

  pub nodes_are : all_nodes (with_tidies cs ts) ≡ all_nodes cs
  nodes_are = tidied_nodes cs ts has.bare

  -- a written word has its slot's new value, in whatever heap
  pub written_value : (k : LogicalHeap) → k.words.shape ≡ shape_in t → (w : Write) → Contains (writes_in t) w → (tidied k cs ts).words.value w.word ≡ w.new
  written_value k is w among =
      let last = All-contains (λ (v : Write). last_new (all_changes cs ++ t.hand.changes) v.word ≡ Some v.new) (writes_in t) w course.changes.last among in
      let made = sym (last_append (all_changes cs) (changes_of_tidy ts) w.word) ∙ ap (λ l. last_new (all_changes cs ++ l) w.word) has.changes ∙ last in
      tidies_value (shape_in t) w.word (after_wholes k cs) (wholes_shape k cs ∙ is) ts
      (subst (All (IsApart (shape_in t) w.word)) (sym (bare_nodes ts has.bare)) (All-nil (IsApart (shape_in t) w.word)))
      ∙ by_last (last_new (changes_of_tidy ts) w.word) (last_new (all_changes cs) w.word) ((after_wholes k cs).words.value w.word) w.new made
      (course.last k is w.word w.new)

  abbrev pub NotOf : ℕ → Change → Type 0
  NotOf word c = c.word ≢ word

  pub unchanged : (word : ℕ) → is_written (writes_in t) word ≡ false → All (NotOf word) (all_changes (with_tidies cs ts))
  unchanged word unwritten = subst (All (NotOf word)) (sym changes_are) (all_of (NotOf word) (all_changes cs ++ t.hand.changes)
      (λ c among e. true≢false (sym (subst (λ w. list_any (λ (d : Change). d.word == w) (all_changes cs ++ t.hand.changes) ≡ true) e (changes_word (all_changes cs ++ t.hand.changes) c among))
      ∙ sym (course.changes.exactly word) ∙ unwritten)))

  abbrev ValueIs : (word value : ℕ) → LogicalHeap → Type 0
  ValueIs word value k = (k.words.shape ≡ shape_in t) × (k.words.value word ≡ value)

  over : (word value : ℕ) (k : LogicalHeap) (c : Change) → NotOf word c → ValueIs word value k → ValueIs word value (record { words = changed k.words c; placed = k.placed })
  over word value k c other is = (is.0, put_stays k.words.value c.word c.new word value is.1 (λ e. absurd (other (sym e))))

  placing : (word value : ℕ) (k : LogicalHeap) (n : NewNode) → IsApart (shape_in t) word n → ValueIs word value k → ValueIs word value (after_node k n)
  placing word value k n apart is = (
    is.0,
    put_stays k.words.value (address k.words.shape (node_next n.node)) n.next word value is.1
        (λ e. absurd (apart (e ∙ ap (λ (s : Shape). address s (node_next n.node)) is.0))),
  )

  -- a word that isn't written, and is no own node's next word, has its value in the heap
  pub unwritten_value : (k : LogicalHeap) → k.words.shape ≡ shape_in t → (word : ℕ) → is_written (writes_in t) word ≡ false
      → All (IsApart (shape_in t) word) (all_nodes cs) → (tidied k cs ts).words.value word ≡ k.words.value word
  unwritten_value k is word unwritten apart =
      let kept = wholes_keep (ValueIs word (k.words.value word)) (NotOf word) (IsApart (shape_in t) word) (over word (k.words.value word)) (placing word (k.words.value word))
      k (with_tidies cs ts) (unchanged word unwritten) (subst (All (IsApart (shape_in t) word)) (sym nodes_are) apart) (is, refl) in
      ap (λ (h : LogicalHeap). h.words.value word) (sym (tidied_is k cs ts)) ∙ kept.1

  -- an own node's next word that isn't written has the value that was stored there
  module _ (exist : All (λ (n : NewNode). IsNode (shape_in t) n.node) (all_nodes cs)) (differ : AllPairs (λ (n k : NewNode). n.node ≢ k.node) (all_nodes cs))
      (n : NewNode) (among : Contains (all_nodes cs) n) where
    abbrev word_of : ℕ
    word_of = address (shape_in t) (node_next n.node)

    abbrev OncePlaced : LogicalHeap → Type 0
    OncePlaced k = (k.words.shape ≡ shape_in t) × (IsPlaced k n.node → k.words.value word_of ≡ n.next)

    abbrev IsNew : NewNode → Type 0
    IsNew m = Contains (all_nodes cs) m

    over_once : (k : LogicalHeap) (c : Change) → NotOf word_of c → OncePlaced k → OncePlaced (record { words = changed k.words c; placed = k.placed })
    over_once k c other is = (is.0, λ placed. put_stays k.words.value c.word c.new word_of n.next (is.1 placed) (λ e. absurd (other (sym e))))

    next_in : (m : NewNode) (k : LogicalHeap) → k.words.shape ≡ shape_in t → address k.words.shape (node_next m.node) ≡ address (shape_in t) (node_next m.node)
    next_in m k is = ap (λ (s : Shape). address s (node_next m.node)) is

    node_exists : (m : NewNode) → IsNew m → IsNode (shape_in t) m.node
    node_exists m new = All-contains (λ (x : NewNode). IsNode (shape_in t) x.node) (all_nodes cs) m exist new

    placing_once : (k : LogicalHeap) (m : NewNode) → IsNew m → OncePlaced k → OncePlaced (after_node k m)
    placing_once k m new is = (
      is.0,
      λ placed. ⊎_elim
          (λ same.
          let one = one_of (λ (x : NewNode). x.node) (all_nodes cs) differ m n new among same in
          cond-true (word_of == address k.words.shape (node_next m.node)) m.next (k.words.value word_of)
          (eq-eqb word_of (address k.words.shape (node_next m.node)) (ap (λ x. address (shape_in t) (node_next x)) (sym same) ∙ sym (next_in m k is.0)))
          ∙ ap (λ (x : NewNode). x.next) one)
          (λ other. put_stays k.words.value (address k.words.shape (node_next m.node)) m.next word_of n.next
          (is.1 (placed.0, sym (put_stays k.placed m.node (Some m.structure) n.node (k.placed n.node) refl (λ e. absurd (other (sym e)))) ∙ placed.1))
          (λ e. absurd (other (sym (next_alone (shape_in t) n.node m.node (node_exists n among) (node_exists m new) (e ∙ next_in m k is.0))))))
          (cases_eq m.node n.node),
    )

    pub stored_value : (k : LogicalHeap) → k.words.shape ≡ shape_in t → k.placed n.node ≡ None → is_written (writes_in t) word_of ≡ false
        → (tidied k cs ts).words.value word_of ≡ n.next
    stored_value k is free unwritten =
        let kept = wholes_keep OncePlaced (NotOf word_of) IsNew over_once placing_once k (with_tidies cs ts) (unchanged word_of unwritten)
        (subst (All IsNew) (sym nodes_are) (all_of IsNew (all_nodes cs) (λ m c. c))) (is, λ placed. absurd (cc (free, placed.1))) in
        let there = new_placed k (with_tidies cs ts) n (subst (λ l. Contains l n) (sym nodes_are) among) in
        ap (λ (h : LogicalHeap). h.words.value word_of) (sym (tidied_is k cs ts)) ∙ kept.1 there
