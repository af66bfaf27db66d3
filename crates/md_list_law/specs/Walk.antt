-- The nodes that next words reach from a word, and the pairs that they stand for.
use Rattle.std.specs.Prelude.{◌==◌, ℕ, zero, suc, List, [], ◌∷◌, if◌then◌else◌}
use Rattle.std.specs.FinMap as fin
use Rattle.md_words.specs.Link.{linked_node, is_marked}
use Rattle.md_words.specs.Layout.{node_count}
use Rattle.md_history.specs.State.{Table}
use Rattle.md_machine.specs.LogicalHeap.{LogicalWords, next_of}

-- the node that a value names, the one that its next word names, and so on: up to the first value that names none, and
-- at most so many
abbrev pub walk : LogicalWords → (at_most value : ℕ) → List ℕ
walk w zero value = []
walk w (suc n) value = if linked_node value == 0 then [] else linked_node value ∷ walk w n (next_of w (linked_node value))

-- the nodes that are reached from a word
abbrev pub reached_nodes : LogicalWords → (head : ℕ) → List ℕ
reached_nodes w head = walk w (node_count w.shape) (w.value head)

-- the keys and values of the nodes whose next words are unmarked
abbrev pub unmarked_pairs : LogicalWords → (nodes : List ℕ) → List (ℕ × ℕ)
unmarked_pairs w [] = []
unmarked_pairs w (n ∷ ns) =
    if is_marked (next_of w n) then unmarked_pairs w ns else (w.key_of n, w.value_of_node n) ∷ unmarked_pairs w ns

-- the pairs that the list of a head stands for
abbrev pub pairs_from : LogicalWords → (head : ℕ) → List (ℕ × ℕ)
pairs_from w head = unmarked_pairs w (reached_nodes w head)

-- pairs as a finite map
abbrev pub map_of_pairs : List (ℕ × ℕ) → Table
map_of_pairs pairs = fin.from_entries pairs
