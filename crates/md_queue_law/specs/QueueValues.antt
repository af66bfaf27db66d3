-- What a queue holds: the values of the nodes after the head's, along next words.
use Rattle.std.specs.Prelude.{◌==◌, ℕ, zero, suc, List, [], ◌∷◌, map, if◌then◌else◌}
use Rattle.std.specs.List.{range_with_len}
use Rattle.md_words.specs.Link.{linked_node}
use Rattle.md_words.specs.Layout.{node_count}
use Rattle.md_machine.specs.LogicalHeap.{LogicalWords, next_of}
use Rattle.md_queue_law.specs.QueueShape.{head_of}

-- the node after a node
abbrev pub node_after : LogicalWords → ℕ → ℕ
node_after w node = linked_node (next_of w node)

-- the values of the nodes after a node, at most so many
abbrev pub values_after : LogicalWords → (most node : ℕ) → List ℕ
values_after w zero node = []
values_after w (suc most) node =
    if next_of w node == 0 then [] else w.value_of_node (node_after w node) ∷ values_after w most (node_after w node)

-- the values of a queue: it has no more nodes than the field
abbrev pub queue_values : LogicalWords → (queue : ℕ) → List ℕ
queue_values w queue = values_after w (node_count w.shape) (linked_node (head_of w queue))

-- those of every queue
abbrev pub queue_lists : LogicalWords → List (List ℕ)
queue_lists w = map (queue_values w) (range_with_len 0 w.shape.queues)
