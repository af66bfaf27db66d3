-- A fact on a placed node still holds after certificates that place other nodes and don't change its next word, whether
-- their old values stand in the heap or not. So facts of a heap are facts of what a doomed transaction makes of it.
use Rattle.std.proofs.Common.{◌≡◌, ◌≢◌, ◌⊎◌, ℕ, List, Option, None, Some, refl, sym, ap, ◌∙◌, inl, inr, ⊎_elim, IfSome, IsTrue}
use Rattle.std.specs.List.{All}
use Rattle.std.proofs.lemmas.Option.{IfSome_then}
use Rattle.md_words.specs.declared.shape.Shape.{Shape}
use Rattle.md_words.specs.Place.{node_next}
use Rattle.md_words.specs.Layout.{address, IsNode}
use Rattle.md_machine.specs.declared.certificate.Certificate.{Certificate}
use Rattle.md_machine.specs.declared.certificate.Change.{Change}
use Rattle.md_machine.specs.declared.certificate.Fact.{Fact}
use Rattle.md_machine.specs.declared.certificate.NewNode.{NewNode}
use Rattle.md_machine.specs.declared.node.Structure.{Structure}
use Rattle.md_machine.specs.LogicalHeap.{Holds, LogicalHeap, after_node, changed, is_settled, next_of}
use Rattle.md_machine.specs.Certified.{after_wholes, all_changes, all_nodes}
use Rattle.md_machine.proofs.chain.Agree.{put_stays, wholes_keep}
use Rattle.md_machine.proofs.chain.SameNodes.{next_alone}

-- what is known of a next word, if anything is
next_kept : (o : Option ℕ) (s : Structure) (was now : ℕ) → (o ≡ None) ⊎ ((v : ℕ) → was ≡ v → now ≡ v)
    → IfSome o (λ v. (was ≡ v) × IsTrue (is_settled s v)) → IfSome o (λ v. (now ≡ v) × IsTrue (is_settled s v))
next_kept None s was now kept known = tt
next_kept (Some v) s was now kept known = (⊎_elim (λ none. absurd cc) (λ keep. keep v known.0) kept, known.1)

module _ (h : LogicalHeap) (f : Fact) (exists : IsNode h.words.shape f.node) where
  -- a change leaves what the fact says of a next word, and a new node is another one
  abbrev pub LeavesNext : Change → Type 0
  LeavesNext c = (f.next ≡ None) ⊎ (c.word ≢ address h.words.shape (node_next f.node))

  abbrev pub IsOther : NewNode → Type 0
  IsOther n = IsNode h.words.shape n.node × (n.node ≢ f.node)

  abbrev Still : LogicalHeap → Type 0
  Still k = (k.words.shape ≡ h.words.shape) × Holds k f

  -- the fact's next word in a heap of this shape
  next_word : (k : LogicalHeap) → k.words.shape ≡ h.words.shape
      → address k.words.shape (node_next f.node) ≡ address h.words.shape (node_next f.node)
  next_word k shape = ap (λ (s : Shape). address s (node_next f.node)) shape

  over : (k : LogicalHeap) (c : Change) → LeavesNext c → Still k → Still (record { words = changed k.words c; placed = k.placed })
  over k c leaves still = (
    still.0,
    let holds = still.1 in record {
      placed = holds.placed;
      key = holds.key;
      value = holds.value;
      next = next_kept f.next f.structure (next_of k.words f.node) ((changed k.words c).value (address k.words.shape (node_next f.node)))
          (⊎_elim inl (λ ne. inr (λ v e. put_stays k.words.value c.word c.new _ v e (λ at. absurd (ne (sym at ∙ next_word k still.0))))) leaves) holds.next;
    },
  )

  placing : (k : LogicalHeap) (n : NewNode) → IsOther n → Still k → Still (after_node k n)
  placing k n other still = (
    still.0,
    let holds = still.1 in record {
      placed = put_stays k.placed n.node (Some n.structure) f.node (Some f.structure) holds.placed (λ e. absurd (other.1 (sym e)));
      key = IfSome_then f.key holds.key (λ x e. put_stays k.words.key_of n.node n.key f.node x e (λ at. absurd (other.1 (sym at))));
      value = IfSome_then f.value holds.value (λ x e. put_stays k.words.value_of_node n.node n.value f.node x e (λ at. absurd (other.1 (sym at))));
      next = next_kept f.next f.structure (next_of k.words f.node) (next_of (after_node k n).words f.node)
          (inr (λ v e. put_stays k.words.value (address k.words.shape (node_next n.node)) n.next _ v e
          (λ at. absurd (other.1 (sym (next_alone h.words.shape f.node n.node exists other.0
          (sym (next_word k still.0) ∙ at ∙ ap (λ (s : Shape). address s (node_next n.node)) still.0)))))))
          holds.next;
    },
  )

  pub fact_along : (cs : List Certificate) → All LeavesNext (all_changes cs) → All IsOther (all_nodes cs) → Holds h f
      → Holds (after_wholes h cs) f
  fact_along cs changes nodes holds = let last = wholes_keep Still LeavesNext IsOther over placing h cs changes nodes (refl, holds) in last.1
