-- What a transaction knows of nodes after its ended operations: what it knows of placed nodes still holds then, and of its
-- own nodes it knows all that it stored.
use Rattle.std.proofs.Common.{◌≡◌, ◌≢◌, ◌++◌, ◌⊎◌, ℕ, false, List, [], ◌∷◌, map, Option, Some, None, refl, sym, ap, ◌∙◌, subst, inl, inr, ⊎_elim, append-nil, IfSome}
use Rattle.std.proofs.lemmas.Bool.{cases_eq}
use Rattle.std.proofs.lemmas.Option.{IfSome_then}
use Rattle.std.proofs.lemmas.List.Elements.{All-contains}
use Rattle.std.specs.List.{All, AllPairs, Contains}
use Rattle.md_words.specs.declared.shape.Shape.{Shape}
use Rattle.md_words.specs.Layout.{IsNode, address}
use Rattle.md_words.specs.Place.{node_next}
use Rattle.md_machine.specs.declared.certificate.Certificate.{Certificate}
use Rattle.md_machine.specs.declared.certificate.Change.{Change}
use Rattle.md_machine.specs.declared.certificate.Fact.{Fact}
use Rattle.md_machine.specs.declared.certificate.NewNode.{NewNode}
use Rattle.md_machine.specs.declared.certificate.TidyChange.{TidyChange}
use Rattle.md_machine.specs.declared.node.Structure.{Structure}
use Rattle.md_machine.specs.Certified.{after_wholes, all_changes, all_nodes, is_written}
use Rattle.md_machine.specs.LogicalHeap.{Holds, LogicalHeap}
use Rattle.md_machine.specs.Meaning.{Lawful, Meaning}
use Rattle.md_machine.proofs.chain.Agree.{put_stays, wholes_keep}
use Rattle.md_machine.proofs.chain.FactsAlong.{IsOther, LeavesNext, fact_along}
use Rattle.md_machine.proofs.lists.Differ.{pairs_left}
use Rattle.md_machine.proofs.lists.Rising.{here, in_cons, in_map, in_none, map_in, there}
use Rattle.md_nbtc_law.specs.Course.{IsStoredNode, stored_words}
use Rattle.md_nbtc_law.specs.Going.{IsGoing, IsUnplaced}
use Rattle.md_nbtc_law.specs.Known.{IsLater, Known, KnowsFact, KnowsPlaced}
use Rattle.md_nbtc_law.specs.State.{OwnNode, TxnState, shape_in, writes_in}
use Rattle.md_nbtc_law.specs.Tidied.{HasTidied, tidied}
use Rattle.md_nbtc_law.proofs.preparing.Heaps.{heap_shape}
use Rattle.md_nbtc_law.proofs.ready.Lookups.{all_of, one_of}
use Rattle.md_nbtc_law.proofs.ready.Standing.{pairs_map, pairs_of_map}
use Rattle.md_nbtc_law.proofs.structures.Nodes.{own_fact, own_holds}
use Rattle.md_nbtc_law.proofs.structures.Tidying.{tidied_is, with_tidies}
use Rattle.md_nbtc_law.proofs.structures.Words.{NotOf, nodes_are, unchanged}

-- one of these nodes has the number, or none has
among_them : (node : ℕ) (ns : List NewNode) → ((n : NewNode) × Contains ns n × (n.node ≡ node)) ⊎ ((n : NewNode) → Contains ns n → n.node ≢ node)
among_them node [] = inr (λ n among. absurd (in_none n among))
among_them node (m ∷ ns) = ⊎_elim
    (λ same. inl (m, here m ns, same))
    (λ other. ⊎_elim
    (λ found. inl (found.0, there m ns found.0 found.1, found.2))
    (λ others. inr (λ n among. ⊎_elim (λ e same. other (ap (λ (x : NewNode). x.node) e ∙ same)) (λ later. others n later) (in_cons m ns n among)))
    (among_them node ns))
    (cases_eq m.node node)

-- the field's shape stays
pub shape_later : (t u : TxnState) → IsLater t u → shape_in u ≡ shape_in t
shape_later t u later = ap (λ f. f.origin.shape) later.field

module _ (M : Meaning) (lawful : Lawful M) (t : TxnState) where
  pub shape_known : Known M t (λ u h. h.words.shape ≡ shape_in t)
  shape_known u later prepared h of = heap_shape M lawful u h of ∙ shape_later t u later

  module _ (cs : List Certificate) (going : IsGoing M t cs) where
    -- an own node that the certificates place, as it was stored
    stored_there : (n : NewNode) → Contains (all_nodes cs) n → IsUnplaced M t (stored_words n)
    stored_there n among = All-contains (IsUnplaced M t) t.nodes (stored_words n) going.nodes
        (All-contains (IsStoredNode t) (all_nodes cs) n going.course.nodes among).own

    pub new_exist : All (λ (n : NewNode). IsNode (shape_in t) n.node) (all_nodes cs)
    new_exist = all_of (λ (n : NewNode). IsNode (shape_in t) n.node) (all_nodes cs) (λ n among. (stored_there n among).exists)

    pub new_differ : AllPairs (λ (n k : NewNode). n.node ≢ k.node) (all_nodes cs)
    new_differ = pairs_of_map (λ (n : NewNode). n.node) (all_nodes cs)
        (pairs_left (λ (a b : ℕ). a ≢ b) (map (λ (n : NewNode). n.node) (all_nodes cs)) t.hand.stored
        (subst (AllPairs (λ (a b : ℕ). a ≢ b)) going.course.order (pairs_map (λ (n : OwnNode). n.node) t.nodes going.prepared.has.nodes_differ)))

    pub new_free : (n : NewNode) → Contains (all_nodes cs) n → Known M t (λ u h. h.placed n.node ≡ None)
    new_free n among = (stored_there n among).unplaced

    -- it has its words after them
    pub own_known : (n : NewNode) → Contains (all_nodes cs) n → Known M t (λ u h. Holds (after_wholes h cs) (own_fact n))
    own_known n among u later prepared h of = own_holds (all_nodes cs) new_differ n among h cs refl (new_free n among u later prepared h of)

    -- a node of a fact is none of them
    is_other : (f : Fact) → Known M t (λ u h. h.placed f.node ≡ Some f.structure → All (λ (n : NewNode). IsNode h.words.shape n.node × (n.node ≢ f.node)) (all_nodes cs))
    is_other f u later prepared h of placed = all_of (λ (n : NewNode). IsNode h.words.shape n.node × (n.node ≢ f.node)) (all_nodes cs)
        (λ n among. (
          subst (λ (s : Shape). IsNode s n.node) (sym (shape_known u later prepared h of)) (stored_there n among).exists,
          λ same.
              let free = new_free n among u later prepared h of in
              absurd (cc (free, placed, same)),
        ))

    -- what holds of a placed node's key and value still holds after them
    pub fact_after : Known M t (λ u h. (f : Fact) → f.next ≡ None → IsNode (shape_in t) f.node → Holds h f → Holds (after_wholes h cs) f)
    fact_after u later prepared h of f none exists holds =
        let is_node = subst (λ (s : Shape). IsNode s f.node) (sym (shape_known u later prepared h of)) exists in
        fact_along h f is_node cs (all_of (LeavesNext h f is_node) (all_changes cs) (λ c among. inl none)) (is_other f u later prepared h of holds.placed) holds

    pub fact_known : (f : Fact) → f.next ≡ None → IsNode (shape_in t) f.node → KnowsFact M t f → Known M t (λ u h. Holds (after_wholes h cs) f)
    fact_known f none exists known u later prepared h of = fact_after u later prepared h of f none exists (known u later prepared h of)

    -- and so does what is known of its next word, if that isn't written, after the tidy changes too
    pub fact_tidied : (ts : List TidyChange) → HasTidied M t cs ts → (f : Fact) → IsNode (shape_in t) f.node
        → (f.next ≡ None) ⊎ (is_written (writes_in t) (address (shape_in t) (node_next f.node)) ≡ false)
        → KnowsFact M t f → Known M t (λ u h. Holds (tidied h cs ts) f)
    fact_tidied ts has f exists leaves known u later prepared h of =
        let holds = known u later prepared h of in
        let shape = shape_known u later prepared h of in
        let is_node = subst (λ (s : Shape). IsNode s f.node) (sym shape) exists in
        subst (λ k. Holds k f) (tidied_is h cs ts) (fact_along h f is_node (with_tidies cs ts)
        (all_of (LeavesNext h f is_node) (all_changes (with_tidies cs ts)) (λ c among. ⊎_elim inl
        (λ unwritten. inr (λ e. All-contains (NotOf M t cs going.course ts has (address (shape_in t) (node_next f.node))) (all_changes (with_tidies cs ts)) c
        (unchanged M t cs going.course ts has (address (shape_in t) (node_next f.node)) unwritten) among
        (e ∙ ap (λ (s : Shape). address s (node_next f.node)) shape)))
        leaves))
        (subst (All (IsOther h f is_node)) (sym (nodes_are M t cs going.course ts has)) (is_other f u later prepared h of holds.placed)) holds)

    -- a node that is none of theirs is placed as it was
    pub placed_before : (h : LogicalHeap) (node : ℕ) → ((n : NewNode) → Contains (all_nodes cs) n → n.node ≢ node) → (after_wholes h cs).placed node ≡ h.placed node
    placed_before h node others = wholes_keep (λ k. k.placed node ≡ h.placed node) (λ (c : Change). Unit {0}) (λ (n : NewNode). n.node ≢ node) (λ k c _ is. is)
        (λ k n other is. put_stays k.placed n.node (Some n.structure) node (h.placed node) is (λ e. absurd (other (sym e)))) h cs (λ i d below. tt)
        (all_of (λ (n : NewNode). n.node ≢ node) (all_nodes cs) others) refl

    -- a node that is placed after them is known to be placed, or one that they placed
    pub placed_or_own : (node : ℕ) (structure : Structure) → Known M t (λ u h. (after_wholes h cs).placed node ≡ Some structure)
        → KnowsPlaced M t node structure ⊎ ((n : NewNode) × Contains (all_nodes cs) n × (n.node ≡ node))
    placed_or_own node structure known = ⊎_elim inr
        (λ others. inl (λ u later prepared h of. sym (placed_before h node others) ∙ known u later prepared h of))
        (among_them node (all_nodes cs))

    -- what is known of the key and of the value of a node that is placed after them holds then
    pub data_known : (node : ℕ) (structure : Structure) (key value : Option ℕ) → IsNode (shape_in t) node
        → Known M t (λ u h. (after_wholes h cs).placed node ≡ Some structure)
        → Known M t (λ u h. IfSome key (λ k. h.words.key_of node ≡ k)) → Known M t (λ u h. IfSome value (λ v. h.words.value_of_node node ≡ v))
        → Known M t (λ u h. Holds (after_wholes h cs) (record { node = node; structure = structure; key = key; value = value; next = None }))
    data_known node structure key value exists placed key_is value_is = ⊎_elim
        (λ known. fact_known (record { node = node; structure = structure; key = key; value = value; next = None }) refl exists
        (λ u later prepared h of. record {
          placed = known u later prepared h of;
          key = key_is u later prepared h of;
          value = value_is u later prepared h of;
          next = tt;
        }))
        (λ own u later prepared h of.
        let n = own.0 in
        let holds = own_known n own.1 u later prepared h of in
        let stored = stored_there n own.1 in
        record {
          placed = placed u later prepared h of;
          key = IfSome_then key (key_is u later prepared h of) (λ k e. ap (after_wholes h cs).words.key_of (sym own.2) ∙ holds.key
              ∙ sym (stored.key u later prepared h of) ∙ ap h.words.key_of own.2 ∙ e);
          value = IfSome_then value (value_is u later prepared h of) (λ v e. ap (after_wholes h cs).words.value_of_node (sym own.2) ∙ holds.value
              ∙ sym (stored.value u later prepared h of) ∙ ap h.words.value_of_node own.2 ∙ e);
          next = tt;
        })
        (placed_or_own node structure placed)

    -- an own node that isn't one of this operation is placed by them
    pub own_is_new : t.hand.stored ≡ [] → (n : OwnNode) → Contains t.nodes n → (m : NewNode) × Contains (all_nodes cs) m × (stored_words m ≡ n)
    own_is_new none n among =
        let numbers = subst (λ l. Contains l n.node) (going.course.order ∙ ap (λ l. map (λ (m : NewNode). m.node) (all_nodes cs) ++ l) none
        ∙ append-nil (map (λ (m : NewNode). m.node) (all_nodes cs))) (map_in (λ (x : OwnNode). x.node) t.nodes n among) in
        let found = in_map (λ (m : NewNode). m.node) (all_nodes cs) n.node numbers in (
          found.0,
          found.1,
          one_of (λ (x : OwnNode). x.node) t.nodes going.prepared.has.nodes_differ (stored_words found.0) n
              (All-contains (IsStoredNode t) (all_nodes cs) found.0 going.course.nodes found.1).own among found.2,
        )
