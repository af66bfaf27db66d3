-- Where a walk along a list stands: at a word of the list, past the nodes that it visited.
use Rattle.std.proofs.Common.{◌≡◌, ◌≢◌, ◌⊎◌, ℕ, List, Some, refl, sym, ap, ◌∙◌, subst, inl, inr, ⊎_elim}
use Rattle.std.specs.List.{All, AllPairs, Contains}
use Rattle.md_words.specs.declared.shape.Shape.{Shape}
use Rattle.md_words.specs.Layout.{IsNode}
use Rattle.md_words.specs.Link.{linked_node}
use Rattle.md_machine.specs.declared.certificate.Certificate.{Certificate}
use Rattle.md_machine.specs.declared.certificate.NewNode.{NewNode}
use Rattle.md_machine.specs.declared.node.PlacedNode.{PlacedNode}
use Rattle.md_machine.specs.declared.node.Structure.{Structure}
use Rattle.md_machine.specs.declared.node.Structure.TheVariants.{Bucket}
use Rattle.md_machine.specs.Certified.{all_changes, all_nodes, after_wholes}
use Rattle.md_machine.specs.LogicalHeap.{LogicalHeap}
use Rattle.md_machine.specs.Meaning.{Lawful, Meaning}
use Rattle.md_machine.proofs.lists.Rising.{in_map}
use Rattle.std.proofs.lemmas.List.Elements.{All-contains}
use Rattle.md_nbtc_law.specs.declared.seen.Seen.{Seen}
use Rattle.md_nbtc_law.specs.Calls.{GoesOn}
use Rattle.md_nbtc_law.specs.Cleaning.{IsPlacedIn}
use Rattle.md_nbtc_law.specs.Going.{IsFoundThere, IsGoing}
use Rattle.md_nbtc_law.specs.Known.{IsLater, Known}
use Rattle.md_nbtc_law.specs.Seeing.{IsInPlace, IsNextOf, Looks}
use Rattle.md_nbtc_law.specs.State.{OwnNode, TxnState, shape_in}
use Rattle.md_rule.specs.Views.{PassState}
use Rattle.md_nbtc_law.proofs.preparing.Heaps.{heap_valid, known_now}
use Rattle.md_nbtc_law.proofs.preparing.Later.{known_later}
use Rattle.md_nbtc_law.proofs.structures.Growing.{tidied_later}
use Rattle.md_nbtc_law.proofs.structures.NodesKnown.{fact_after, new_exist, own_known, placed_or_own, shape_known}
use Rattle.md_list_law.specs.Certificates.{node_fact}
use Rattle.md_list_law.specs.HasLists.{HasListsOf}
use Rattle.md_list_law.specs.ListShape.{IsIn, IsRank, NamesNone, Precedes, next_word}
use Rattle.md_list_law.proofs.Links.{head_is_no_next}
use Rattle.md_list.specs.declared.walk.Found.{Found}
use Rattle.md_list.specs.Walking.{Gives, HasFound, IsBefore, IsHead, IsWalking}
use Rattle.md_list.proofs.charges.Charging.{charged_later}

-- the state after steps that change the pass alone
abbrev pub stepped : TxnState → PassState → TxnState
stepped t p = record t { pass = p }

-- whatever ranks the nodes of a list have, each that was visited comes before this one
abbrev pub AreBefore : LogicalHeap → Structure → List ℕ → (node : ℕ) → Type 0
AreBefore h list visited node = (rank : ℕ → ℕ) → IsRank h list rank → All (λ other. Precedes h rank other node) visited

-- a value names no node, or a node of the list that comes after all that were visited
abbrev pub NamesPast : LogicalHeap → Structure → List ℕ → (value : ℕ) → Type 0
NamesPast h list visited value = NamesNone value ⊎ (IsIn h list (linked_node value) × AreBefore h list visited (linked_node value))

module _ (M : Meaning) where
  -- the word is the head, or the next word of a visited node
  abbrev pub IsBehind : TxnState → List ℕ → (head word : ℕ) → Type 0
  IsBehind t visited head word = (word ≡ head) ⊎ ((node : ℕ) × Contains visited node × (word ≡ next_word (shape_in t) node))

  pub record IsAt (t : TxnState) (head key : ℕ) (visited : List ℕ) (prev : ℕ) (at : Seen) : Type 0 where
    pub walking : IsWalking M t head
    pub before : IsBefore M t walking.certificates (Bucket walking.map walking.bucket) head key prev
    pub behind : IsBehind t visited head prev
    pub gives : Gives M t prev at
    pub exist : All (IsNode (shape_in t)) visited
    pub differ : AllPairs (λ (a b : ℕ). a ≢ b) visited
    pub named : Known M t (λ u h. NamesPast (after_wholes h walking.certificates) (Bucket walking.map walking.bucket) visited at.value)

  -- with these certificates of the ended operations
  abbrev pub IsAtBy : (t : TxnState) → List Certificate → (head key : ℕ) → List ℕ → (prev : ℕ) → Seen → Type 0
  IsAtBy t cs head key visited prev at = (a : IsAt t head key visited prev at) × (a.walking.certificates ≡ cs)

  abbrev pub HasFoundBy : (t : TxnState) → List Certificate → (head key : ℕ) → Found → Type 0
  HasFoundBy t cs head key found = (h : HasFound M t head key found) × (h.walking.certificates ≡ cs)

  pub found_over : (t : TxnState) (head key : ℕ) (found : Found) (cs ds : List Certificate) → HasFoundBy t cs head key found → cs ≡ ds → HasFoundBy t ds head key found
  found_over t head key found cs ds has same = (has.0, has.1 ∙ same)

  -- what was found first stays found
  pub found_stays : (t : TxnState) (p : PassState) → IsLater t (stepped t p) → (word : ℕ) (seen : Seen) → IsFoundThere M t word seen → IsFoundThere M (stepped t p) word seen
  found_stays t p later word seen there other = ⊎_elim inl (λ met. inr (known_later M _ t (stepped t p) later met)) (there other)

  -- what a look gives was found there, if the word is no unplaced node's next word but an own one's
  pub looked_there : (t : TxnState) (p : PassState) (word : ℕ) (seen : Seen) → Looks M t (stepped t p) word seen
      → IsInPlace M t word ⊎ ((n : OwnNode) × Contains t.nodes n × IsNextOf t word n.node) → IsFoundThere M (stepped t p) word seen
  looked_there t p word seen looks place other = ⊎_elim
      (λ placed. inr (looks.met other placed))
      (λ own. inl (own.0, own.1, own.2, looks.own_node other own.0 own.1 own.2))
      place

  module _ (lawful : Lawful M) (lists : HasListsOf M) where
    -- the head is no node's next word
    pub head_in_place : (t : TxnState) (map bucket head : ℕ) → IsHead (shape_in t) map bucket head → IsInPlace M t head
    head_in_place t map bucket head is node next = absurd (head_is_no_next (shape_in t) map bucket node is.is_map is.is_bucket next.0 (sym next.1 ∙ is.is))

    -- a walk that is under way stays so
    abbrev pub walking_on : (t : TxnState) (p : PassState) (head : ℕ) → GoesOn M t (stepped t p) → IsWalking M t head → IsWalking M (stepped t p) head
    walking_on t p head on w = record {
      operates = w.operates;
      certificates = w.certificates;
      going = on.going w.certificates w.going;
      map = w.map;
      bucket = w.bucket;
      is_head = w.is_head;
      changes = w.changes;
      tidied = tidied_later M t w.certificates w.changes w.tidied (stepped t p) on.later refl;
      unlinks = w.unlinks;
      charged = charged_later t (stepped t p) on.later (all_changes w.certificates) w.changes w.charged;
    }

    -- what is known after the ended operations stays known
    pub before_on : (t : TxnState) (p : PassState) (cs : List Certificate) (list : Structure) (head key word : ℕ) → IsLater t (stepped t p)
        → IsBefore M t cs list head key word → IsBefore M (stepped t p) cs list head key word
    before_on t p cs list head key word later = ⊎_elim inl
        (λ node. inr (node.0, node.1, node.2, known_later M _ t (stepped t p) later node.3, node.4, node.5))

    -- a node that is known to be one of a list after them is a node of the field
    pub node_exists : (t : TxnState) (cs : List Certificate) → IsGoing M t cs → (list : Structure) (node : ℕ)
        → Known M t (λ u h. IsIn (after_wholes h cs) list node) → IsNode (shape_in t) node
    node_exists t cs going list node placed = ⊎_elim
        (λ known.
        let now = known_now M lawful (λ u h. (h.placed node ≡ Some list) × M.valid h × (h.words.shape ≡ shape_in t)) t cs going
        (λ u later prepared h of. (known u later prepared h of, heap_valid M lawful u h of, shape_known M lawful t u later prepared h of)) in
        subst (λ (s : Shape). IsNode s node) now.2.2 (lists.nodes now.0 node now.2.1 (list, now.2.0)))
        (λ own. subst (IsNode (shape_in t)) own.2 (All-contains (λ (n : NewNode). IsNode (shape_in t) n.node) (all_nodes cs) own.0 (new_exist M lawful t cs going) own.1))
        (placed_or_own M lawful t cs going node list placed)

    -- a node that is known to be placed, or that an ended operation placed, is placed after them
    pub placed_after : (t : TxnState) (cs : List Certificate) → IsGoing M t cs → (node : ℕ) (s : Structure) → IsPlacedIn M t cs node s
        → Known M t (λ u h. (after_wholes h cs).placed node ≡ Some s)
    placed_after t cs going node s = ⊎_elim
        (λ known u later prepared h of.
        let placed = known u later prepared h of in
        let exists = subst (λ (x : Shape). IsNode x node) (shape_known M lawful t u later prepared h of) (lists.nodes h node (heap_valid M lawful u h of) (s, placed)) in
        (fact_after M lawful t cs going u later prepared h of (node_fact s node) refl exists (record { placed = placed; key = tt; value = tt; next = tt })).placed)
        (λ own u later prepared h of.
        let new = in_map (λ (n : NewNode). record { node = n.node; structure = n.structure }) (all_nodes cs) (record { node = node; structure = s }) own in
        let placed = (own_known M lawful t cs going new.0 new.1 u later prepared h of).placed in
        let one = ap (λ (x : PlacedNode). x.node) new.2 in
        let two = ap (λ (x : PlacedNode). x.structure) new.2 in
        cc (placed, one, two))
