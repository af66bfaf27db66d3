-- What a content that a step met tells for good: settled values, and the nodes of the heap in which it was.
use Rattle.std.proofs.Common.{◌≡◌, ℕ, true, length, refl, sym, ap, ◌∙◌, subst, Some, None, is_some, IsTrue}
use Rattle.md_words.specs.Content.{value_of}
use Rattle.md_words.specs.Layout.{address, IsNode}
use Rattle.md_words.specs.Place.{node_next}
use Rattle.md_words.specs.PlaceAt.{IsCounted}
use Rattle.md_machine.specs.declared.certificate.Fact.{Fact}
use Rattle.md_machine.specs.declared.node.Structure.{Structure}
use Rattle.md_machine.specs.declared.pass.PassView.{PassView}
use Rattle.md_machine.specs.LogicalHeap.{Holds, IsPlaced, LogicalHeap, is_settled}
use Rattle.md_machine.specs.Machine.{IsAt, Machine, shape_of}
use Rattle.md_machine.specs.Meaning.{Lawful, Meaning, NamesPlaced}
use Rattle.md_machine.specs.Resolution.{InEveryResolution, always_placed, least}
use Rattle.md_machine.specs.PlacedNodes.{NodesExist}
use Rattle.md_machine.specs.clauses.words.WasIn.{MeetsEven, MetWereIn, SettledStay, WasIn}
use Rattle.md_machine.specs.events.Exchange.{FoundNext}
use Rattle.md_machine.proofs.chain.SameNodes.{next_counted}
use Rattle.md_machine.proofs.replay.Nodes.{placed_exists}
use Rattle.md_machine.proofs.replay.WasIn.{placed_fact}
use Rattle.md_machine.proofs.resolutions.Placing.{least_resolves}

-- the facts on a node of a heap: its key and value, and the value, if it is settled, of its next word
abbrev pub node_fact : LogicalHeap → (node : ℕ) → Structure → Fact
node_fact h node structure = record {
  node = node;
  structure = structure;
  key = Some (h.words.key_of node);
  value = Some (h.words.value_of_node node);
  next = None;
}

abbrev pub next_fact : (node : ℕ) → Structure → (next : ℕ) → Fact
next_fact node structure next = record { node = node; structure = structure; key = None; value = None; next = Some next }

module _ (M : Meaning) (m : Machine) (word value : ℕ) (was : WasIn M m word value) where
  -- a node that is placed in the heap is placed in every resolution, with its structure, its key and its value
  pub node_stays : (node : ℕ) (structure : Structure) → was.heap.placed node ≡ Some structure
      → InEveryResolution m (λ h. Holds h (node_fact was.heap node structure))
  node_stays node structure placed choice r =
      was.facts choice r (node_fact was.heap node structure) (record { placed = placed; key = refl; value = refl; next = tt })

  -- so it counts as placed in every resolution: the next step on one of its words is flagged
  pub node_always : length m.fates ≡ length m.history → (node : ℕ) → IsPlaced was.heap node → always_placed m node ≡ true
  node_always fated node placed = ap is_some (node_stays node placed.0 placed.1 (least m.fates) (least_resolves m.history m.fates fated)).placed

  -- where the word is a link, its value names no node, or one that is placed in the heap
  pub named_placed : Lawful M → IsCounted (shape_of m) word → M.links (shape_of m) word → NamesPlaced was.heap value
  named_placed lawful counted links = subst (NamesPlaced was.heap) was.is
      (lawful.link was.heap word was.valid (subst (λ s. IsCounted s word) (sym was.shape) counted) (subst (λ s. M.links s word) (sym was.shape) links) was.rooted)

  -- a settled value of the next word of a node is there in every resolution
  pub next_stays : (node : ℕ) (structure : Structure) → was.heap.placed node ≡ Some structure
      → word ≡ address (shape_of m) (node_next node) → IsTrue (is_settled structure value)
      → InEveryResolution m (λ h. Holds h (next_fact node structure value))
  next_stays node structure placed there settled choice r = was.facts choice r (next_fact node structure value) (record {
    placed = placed;
    key = tt;
    value = tt;
    next = (ap (λ s. was.heap.words.value (address s (node_next node))) was.shape ∙ ap was.heap.words.value (sym there) ∙ was.is, settled);
  })

  -- a node that is placed now, in every resolution, was placed so where the word is its next word
  pub was_placed : length m.fates ≡ length m.history → (node : ℕ) (structure : Structure) → IsNode (shape_of m) node
      → word ≡ address (shape_of m) (node_next node) → InEveryResolution m (λ h. h.placed node ≡ Some structure)
      → was.heap.placed node ≡ Some structure
  was_placed fated node structure exists there now =
      let of_least = least_resolves m.history m.fates fated in
      let before = was.rooted node (subst (λ s. IsNode s node) (sym was.shape) exists)
      (there ∙ ap (λ s. address s (node_next node)) (sym was.shape)) in
      let kept = was.facts (least m.fates) of_least (placed_fact node before.0) (record { placed = before.1; key = tt; value = tt; next = tt }) in
      before.1 ∙ sym kept.placed ∙ now (least m.fates) of_least

-- so a settled value is there by the structure that the node has now
module _ (M : Meaning) (m : Machine) (exist : NodesExist m) (fated : length m.fates ≡ length m.history) (was : MetWereIn M m) where
  pub settled-kept : SettledStay m
  settled-kept pass p at node structure placed segment c s i held meets is choice r =
      let word = address (shape_of m) (node_next node) in
      let w = was pass p at segment c s i word held meets in
      let exists = placed_exists m choice exist node (structure, placed choice r) in
      let before = was_placed M m word (value_of held) w fated node structure exists refl placed in
      (next_stays M m word (value_of held) w node structure before refl is choice r).next.0

-- so where a pass found a settled value of a node's next word, as a tidy change's condition has it, the fact holds in
-- every resolution
pub found_holds : (m : Machine) → SettledStay m → (pass : ℕ) (p : PassView) → IsAt m pass p
    → (node : ℕ) (structure : Structure) (value : ℕ) → IsNode (shape_of m) node
    → InEveryResolution m (λ h. h.placed node ≡ Some structure) → FoundNext (shape_of m) p node value → IsTrue (is_settled structure value)
    → InEveryResolution m (λ h. Holds h (next_fact node structure value))
found_holds m stay pass p at node structure value exists placed (held, is, even, (segment, c, (s, i, (met, flag)))) is_set choice r =
    let shape = shape_of m in
    let meets : MeetsEven shape (address shape (node_next node)) held s = record {
      counted = next_counted shape node exists;
      even = even;
      met = met;
      flagged = λ _ _. flag;
    } in
    let now = stay pass p at node structure placed segment c s i held meets (subst (λ v. IsTrue (is_settled structure v)) (sym is) is_set) choice r in
    record { placed = placed choice r; key = tt; value = tt; next = (now ∙ is, is_set) }
