-- An own node that is prepared is placed in no heap, and has the key and the value that were stored there.
use Rattle.std.proofs.Common.{◌≡◌, ℕ, true, false, refl, sym, ap, ◌∙◌, subst, inl, inr, Option, Some, None, is_none, ⊎_elim}
use Rattle.std.proofs.lemmas.Bool.{cases_Bool}
use Rattle.std.proofs.lemmas.List.Elements.{All-contains, Contains-append_left}
use Rattle.std.specs.List.{Contains}
use Rattle.md_words.specs.Layout.{IsNode, address}
use Rattle.md_words.specs.Place.{Place, node_key, node_value}
use Rattle.md_machine.specs.declared.step.Step.{Step}
use Rattle.md_machine.specs.LogicalHeap.{LogicalHeap}
use Rattle.md_machine.specs.Machine.{Machine, content, shape_of}
use Rattle.md_machine.specs.Meaning.{Lawful, Meaning}
use Rattle.md_machine.specs.Own.{HasNode, IsDataOf}
use Rattle.md_machine.specs.Resolution.{always_placed, never_placed, placed_under}
use Rattle.md_machine.specs.Theorem.{IsKept}
use Rattle.md_machine.specs.clauses.nodes.OwnWords.{IsPlain, LastLeft}
use Rattle.md_machine.proofs.resolutions.Placing.{always_not_never, never_means}
use Rattle.md_rule.proofs.Moves.{is_kept, is_meant}
use Rattle.md_nbtc_law.specs.Going.{IsUnplaced}
use Rattle.md_nbtc_law.specs.Known.{IsHeapOf, IsLater}
use Rattle.md_nbtc_law.specs.Prepared.{IsPrepared, IsPreparedNode, LeftLast}
use Rattle.md_nbtc_law.specs.State.{OwnNode, TxnState, shape_in}
use Rattle.md_nbtc_law.proofs.ready.Nodes.{last_left}

none_of : {A : Type 0} (o : Option A) → is_none o ≡ true → o ≡ None
none_of None is = refl
none_of (Some x) is = absurd (false_true is)
  where
    false_true : false ≡ true → ⊥
    false_true e = cc

module _ (M : Meaning) (lawful : Lawful M) (t : TxnState) (n : OwnNode) (among : Contains t.nodes n) (exists : IsNode (shape_in t) n.node) where
  -- of a heap of a later state that is prepared
  module _ (v : TxnState) (later : IsLater t v) (prepared : IsPrepared v) (h : LogicalHeap) (of : IsHeapOf M v h) where
    abbrev m : Machine
    m = of.machine

    node : IsPreparedNode v n
    node = All-contains (IsPreparedNode v) v.nodes n prepared.nodes
        (subst (λ l. Contains l n) (sym later.nodes.is) (Contains-append_left t.nodes later.nodes.rest n among))

    kept : IsKept m
    kept = is_kept M v.field.origin m of.admitted

    own : HasNode (shape_of m) v.pass.view n.node
    own = subst (λ s. HasNode s v.pass.view n.node) (sym of.admitted.shape) node.own

    never : never_placed m n.node ≡ true
    never = kept.free_nodes of.pass v.pass.view of.acts.at n.node own node.unplaced

    not_always : always_placed m n.node ≡ false
    not_always = ⊎_elim
        (λ always. absurd (always_not_never m n.node (is_meant M v.field.origin lawful m of.admitted).fated always never))
        (λ not. not)
        (cases_Bool (always_placed m n.node))

    pub placed_nowhere : h.placed n.node ≡ None
    placed_nowhere = ap (λ (x : LogicalHeap). x.placed n.node) of.is
        ∙ none_of (placed_under m of.choice n.node) ((never_means m n.node (is_meant M v.field.origin lawful m of.admitted).fated).0 never of.choice of.resolves)

    -- what was left last in its key or its value stands there
    stands : (place : Place) → IsDataOf n.node place → (held : ℕ) → LeftLast (address (shape_in v) place) held v.pass.view.trail
        → content m (address (shape_of m) place) ≡ held
    stands place is held last =
        let word = address (shape_of m) place in
        let same : address (shape_in v) place ≡ word = ap (λ s. address s place) (sym of.admitted.shape) in
        let left = subst (LastLeft place word (content m word)) last.order (kept.own_words of.pass v.pass.view of.acts.at n.node own not_always place (inl is)) in
        last_left place word (content m word) last.earlier last.step last.later left (last.leaves.there ∙ same) (plain place is last.step.after)
        (λ x c there. All-contains (λ (y : Step). y.word ≡ address (shape_in v) place → y.before ≡ y.after) last.later x last.unchanged c (there ∙ sym same))
        ∙ last.leaves.after
      where
        plain : (p : Place) → IsDataOf n.node p → (held : ℕ) → IsPlain p held
        plain p is held = ⊎_elim (λ e. subst (λ x. IsPlain x held) (sym e) tt) (λ e. subst (λ x. IsPlain x held) (sym e) tt) is

  pub own_unplaced : IsUnplaced M t n
  own_unplaced = record {
    exists = exists;
    unplaced = placed_nowhere;
    key = λ v later prepared h of. ap (λ (x : LogicalHeap). x.words.key_of n.node) of.is
        ∙ stands v later prepared h of (node_key n.node) (inl refl) n.key (node v later prepared h of).key;
    value = λ v later prepared h of. ap (λ (x : LogicalHeap). x.words.value_of_node n.node) of.is
        ∙ stands v later prepared h of (node_value n.node) (inr refl) n.value (node v later prepared h of).value;
  }
