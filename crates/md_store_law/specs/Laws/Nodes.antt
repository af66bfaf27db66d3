-- The placed nodes of a store.
use Rattle.std.proofs.Common.{ℕ, Some, ap, ◌∙◌, ⊎_elim}
use Rattle.md_words.specs.Layout.{IsNode}
use Rattle.md_machine.specs.declared.node.Structure.{Structure}
use Rattle.md_machine.specs.LogicalHeap.{LogicalHeap, IsPlaced}
use Rattle.md_queue_law.specs.Laws.Agreement.{PlacedExist}
use Rattle.md_store_law.specs.Store.{IsStore}

-- each is a node of the field
pub placed_exist : (h : LogicalHeap) → IsStore h → PlacedExist h
placed_exist h v node s at = ⊎_elim
    (λ t. (v.buckets t.0 t.1 t.2 t.3).list.nodes node (at ∙ ap (λ (x : Structure). Some x) t.4))
    (λ t. (v.queues t.0 t.1).line.exist node (at ∙ ap (λ (x : Structure). Some x) t.2))
    (v.alone node s at)

pub node_exists : (h : LogicalHeap) → IsStore h → (node : ℕ) → IsPlaced h node → IsNode h.words.shape node
node_exists h v node placed = placed_exist h v node placed.0 placed.1
