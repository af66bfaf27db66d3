-- A node that is left is none of which a transaction knows: no word that it recorded is one of its words.
use Rattle.std.proofs.Common.{◌≡◌, ◌≢◌, ◌==◌, ◌++◌, ◌∷◌, ℕ, true, false, List, [], map, Some, None, is_none, sym, ap, ◌∙◌, subst, ⊎_elim, eqb-true}
use Rattle.std.proofs.lemmas.Bool.{cases_Bool, cond-false, false≢true, true≢false}
use Rattle.std.proofs.lemmas.List.Elements.{All-contains, Contains-append_right}
use Rattle.std.proofs.lemmas.List.Folds.{list_any_none}
use Rattle.std.specs.List.{All, Contains, list_any}
use Rattle.md_words.specs.Content.{value_of}
use Rattle.md_words.specs.Layout.{IsNode, address}
use Rattle.md_words.specs.Place.{Place, is_counted, node_key, node_next, node_value}
use Rattle.md_words.specs.PlaceAt.{IsCounted, place_at}
use Rattle.md_words.proofs.Owners.{own_node_exists}
use Rattle.md_words.proofs.Places.{place_at-address}
use Rattle.md_machine.specs.declared.certificate.Certificate.{Certificate}
use Rattle.md_machine.specs.declared.certificate.Fact.{Fact}
use Rattle.md_machine.specs.declared.certificate.NewNode.{NewNode}
use Rattle.md_machine.specs.declared.step.Step.{Step}
use Rattle.md_machine.specs.Certified.{all_nodes, first_content}
use Rattle.md_machine.specs.FreeToReturn.{KnowsFree}
use Rattle.md_machine.specs.LogicalHeap.{LogicalHeap}
use Rattle.md_machine.specs.declared.node.Structure.{Structure}
use Rattle.md_machine.specs.Meaning.{Lawful, Meaning}
use Rattle.md_machine.specs.Own.{HasNode}
use Rattle.md_machine.specs.events.Store.{and_node}
use Rattle.md_machine.proofs.chain.SameNodes.{next_alone}
use Rattle.md_machine.proofs.lists.Rising.{in_map}
use Rattle.md_machine.proofs.resolutions.Placing.{never_means}
use Rattle.md_rule.proofs.Moves.{is_kept, is_meant}
use Rattle.md_nbtc_law.specs.Going.{IsFoundFirst, IsGoing}
use Rattle.md_nbtc_law.specs.Known.{IsHeapOf, WasThere}
use Rattle.md_nbtc_law.specs.State.{OwnNode, TxnState, shape_in, writes_in}
use Rattle.md_nbtc_law.proofs.nodes.GrownPrepared.{IsOnNode}
use Rattle.md_nbtc_law.proofs.preparing.Heaps.{known_now}
use Rattle.md_nbtc_law.proofs.ready.Lookups.{all_of}

module _ (M : Meaning) (lawful : Lawful M) (t : TxnState) (cs : List Certificate) (going : IsGoing M t cs) (node : ℕ) (free : KnowsFree (shape_in t) t.pass.view node)
    (new : (k : OwnNode) → Contains t.nodes k → k.node ≢ node) where
  exists : IsNode (shape_in t) node
  exists = own_node_exists (shape_in t) free.own.0 node free.own.2

  -- a heap of the transaction doesn't place it
  not_there : (h : LogicalHeap) → IsHeapOf M t h → (s : Structure) → h.placed node ≡ Some s → ⊥
  not_there h of s is =
      let k = is_kept M t.field.origin of.machine of.admitted in
      let never = k.free_nodes of.pass t.pass.view of.acts.at node (subst (λ x. HasNode x t.pass.view node) (sym of.admitted.shape) free.own) free.unplaced in
      let none = (never_means of.machine node (is_meant M t.field.origin lawful of.machine of.admitted).fated).0 never of.choice of.resolves in
      false≢true (ap (λ o. is_none o) (sym (sym (ap (λ (x : LogicalHeap). x.placed node) of.is) ∙ is)) ∙ none)

  -- what was found first in a word shows that it isn't the node's next word
  pub not_next : (word value : ℕ) → IsFoundFirst M t word value → word ≢ address (shape_in t) (node_next node)
  not_next word value first is = ⊎_elim
      (λ own. new own.0 own.1 (next_alone (shape_in t) own.0.node node own.2.0 exists (sym own.2.1 ∙ is)))
      (λ met.
      let now = known_now M lawful (λ u h. WasThere M h word value) t cs going met in
      let was = now.2 in
      let shape : was.heap.words.shape ≡ shape_in t = was.shape ∙ ap (λ (x : LogicalHeap). x.words.shape) now.1.is ∙ now.1.admitted.shape in
      let placed = was.rooted node (subst (λ s. IsNode s node) (sym shape) exists) (is ∙ ap (λ s. address s (node_next node)) (sym shape)) in
      let fact : Fact = record { node = node; structure = placed.0; key = None; value = None; next = None } in
      not_there now.0 now.1 placed.0 (was.facts fact (record { placed = placed.1; key = tt; value = tt; next = tt })).placed)
      first

  -- so steps on the node's words leave each counted word but its next word
  pub counted_apart : (steps : List Step) → All (IsOnNode (shape_in t) node) steps → (word : ℕ) → IsCounted (shape_in t) word → word ≢ address (shape_in t) (node_next node)
      → All (λ s. s.word ≡ word → s.before ≡ s.after) steps
  counted_apart steps on word counted other = all_of (λ s. s.word ≡ word → s.before ≡ s.after) steps (λ s in_steps at. ⊎_elim
      (λ look. look.same)
      (λ store.
      let place = store.1.0 in
      let there : word ≡ address (shape_in t) place = sym at ∙ store.1.2 in
      let its : (p : Place) → p ≡ place → IsNode (shape_in t) node → place_at (shape_in t) (address (shape_in t) p) ≡ p → is_counted p ≡ true
      = λ p e n at_p. ap is_counted (sym (ap (place_at (shape_in t)) (there ∙ ap (address (shape_in t)) (sym e)) ∙ at_p)) ∙ counted.1 in
      absurd (⊎_elim
      (λ d. ⊎_elim
      (λ key. true≢false (sym (its (node_key node) (sym key) exists (place_at-address (shape_in t) (node_key node) exists))))
      (λ value. true≢false (sym (its (node_value node) (sym value) exists (place_at-address (shape_in t) (node_value node) exists)))) d)
      (λ next. other (there ∙ ap (address (shape_in t)) next))
      store.1.1))
      (All-contains (IsOnNode (shape_in t) node) steps s on in_steps))

  -- and each word that was recorded or written
  pub found_apart : (steps : List Step) → All (IsOnNode (shape_in t) node) steps → (word content : ℕ) → first_content t.reads (writes_in t) word ≡ Some content
      → IsCounted (shape_in t) word → All (λ s. s.word ≡ word → s.before ≡ s.after) steps
  found_apart steps on word content found counted = counted_apart steps on word counted (not_next word (value_of content) (going.first word content found))

  -- and the node comes last of those that were stored
  pub stored_last : and_node t.hand.stored node ≡ t.hand.stored ++ node ∷ []
  stored_last = cond-false (list_any (λ (n : ℕ). n == node) t.hand.stored) t.hand.stored (t.hand.stored ++ node ∷ [])
      (list_any_none (λ (n : ℕ). n == node) t.hand.stored (all_of (λ (n : ℕ). (n == node) ≡ false) t.hand.stored (λ x c. ⊎_elim
      (λ same. absurd (own x c (eqb-true x node same)))
      (λ not. not)
      (cases_Bool (x == node)))))
    where
      own : (x : ℕ) → Contains t.hand.stored x → x ≢ node
      own x c e =
          let k = in_map (λ (n : OwnNode). n.node) t.nodes x
          (subst (λ l. Contains l x) (sym going.course.order) (Contains-append_right (map (λ (n : NewNode). n.node) (all_nodes cs)) t.hand.stored x c)) in
          new k.0 k.1 (k.2 ∙ e)
