-- What nodes are after the ended operations: those that they placed have the words that were stored, and facts on others
-- still hold.
use Rattle.std.proofs.Common.{◌≡◌, ◌≢◌, ◌==◌, ℕ, List, Some, None, refl, sym, ◌∙◌, subst, ⊎_elim, eq-eqb}
use Rattle.std.proofs.lemmas.Bool.{cases_eq, cond-true}
use Rattle.std.specs.List.{All, AllPairs, Contains}
use Rattle.md_machine.specs.declared.certificate.Certificate.{Certificate}
use Rattle.md_machine.specs.declared.certificate.Change.{Change}
use Rattle.md_machine.specs.declared.certificate.Fact.{Fact}
use Rattle.md_machine.specs.declared.certificate.NewNode.{NewNode}
use Rattle.md_machine.specs.Certified.{after_wholes, all_nodes}
use Rattle.md_machine.specs.LogicalHeap.{Holds, IsPlaced, LogicalHeap, after_node, changed, put}
use Rattle.md_machine.proofs.chain.Agree.{put_stays, wholes_keep}
use Rattle.md_nbtc_law.proofs.ready.Lookups.{all_of, one_of}
use Rattle.md_nbtc_law.proofs.ready.Standing.{new_placed}

-- what holds of an own node once it is placed
abbrev pub own_fact : NewNode → Fact
own_fact n = record { node = n.node; structure = n.structure; key = Some n.key; value = Some n.value; next = None }

module _ (ns : List NewNode) (differ : AllPairs (λ (n k : NewNode). n.node ≢ k.node) ns) (n : NewNode) (among : Contains ns n) where
  abbrev IsNew : NewNode → Type 0
  IsNew m = Contains ns m

  abbrev OncePlaced : LogicalHeap → Type 0
  OncePlaced k = IsPlaced k n.node → Holds k (own_fact n)

  put_at : {A : Type 0} (f : ℕ → A) (at : ℕ) (x : A) (y : ℕ) → y ≡ at → put f at x y ≡ x
  put_at f at x y same = cond-true (y == at) x (f y) (eq-eqb y at same)

  placed_here : (k : LogicalHeap) → (n.node ≡ n.node) → Holds (after_node k n) (own_fact n)
  placed_here k same = record {
    placed = put_at k.placed n.node (Some n.structure) n.node refl;
    key = put_at k.words.key_of n.node n.key n.node refl;
    value = put_at k.words.value_of_node n.node n.value n.node refl;
    next = tt;
  }

  placing : (k : LogicalHeap) (m : NewNode) → IsNew m → OncePlaced k → OncePlaced (after_node k m)
  placing k m new is placed = ⊎_elim
      (λ same. subst (λ (x : NewNode). Holds (after_node k x) (own_fact n)) (sym (one_of (λ (x : NewNode). x.node) ns differ m n new among same)) (placed_here k refl))
      (λ other.
      let apart : n.node ≢ m.node = λ e. other (sym e) in
      let was = is (placed.0, sym (put_stays k.placed m.node (Some m.structure) n.node (k.placed n.node) refl (λ e. absurd (apart e))) ∙ placed.1) in
      record {
        placed = put_stays k.placed m.node (Some m.structure) n.node (Some n.structure) was.placed (λ e. absurd (apart e));
        key = put_stays k.words.key_of m.node m.key n.node n.key was.key (λ e. absurd (apart e));
        value = put_stays k.words.value_of_node m.node m.value n.node n.value was.value (λ e. absurd (apart e));
        next = tt;
      })
      (cases_eq m.node n.node)

  over : (k : LogicalHeap) (c : Change) → Unit {0} → OncePlaced k → OncePlaced (record { words = changed k.words c; placed = k.placed })
  over k c _ is placed = let was = is placed in record { placed = was.placed; key = was.key; value = was.value; next = tt }

  -- a node that certificates place has its words after them
  pub own_holds : (h : LogicalHeap) (cs : List Certificate) → all_nodes cs ≡ ns → h.placed n.node ≡ None → Holds (after_wholes h cs) (own_fact n)
  own_holds h cs are free = wholes_keep OncePlaced (λ (c : Change). Unit {0}) IsNew over placing h cs (λ i d below. tt)
      (subst (All IsNew) (sym are) (all_of IsNew ns (λ m c. c))) (λ placed. absurd (cc (free, placed.1)))
      (new_placed h cs n (subst (λ l. Contains l n) (sym are) among))
