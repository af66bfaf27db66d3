-- How far a field is laid from the pairs of its buckets and the values of its queues: by map, then bucket, and then by
-- queue.
use Rattle.std.specs.Prelude.{◌≡◌, ◌+◌, ◌++◌, ℕ, List, length}
use Rattle.std.specs.List.{flat_map, range_with_len}
use Rattle.md_words.specs.declared.shape.Shape.{Shape}
use Rattle.md_store_law.specs.Laid.{LaidNode, IsLaid, dummies, pair_nodes, nodes_of_maps, nodes_of_queues}

-- the dummies, and the nodes of the maps below a number
abbrev pub maps_below : Shape → (pairs : ℕ → ℕ → List (ℕ × ℕ)) → (map : ℕ) → List LaidNode
maps_below shape pairs map = dummies shape.queues ++ nodes_of_maps shape pairs map

-- with those of the next map's buckets below a number
abbrev pub buckets_below : Shape → (pairs : ℕ → ℕ → List (ℕ × ℕ)) → (map bucket : ℕ) → List LaidNode
buckets_below shape pairs map bucket =
    maps_below shape pairs map ++ flat_map (λ b. pair_nodes map b (pairs map b)) (range_with_len 0 bucket)

-- the nodes of all maps, with those of the queues below a number
abbrev pub queues_below : Shape → (pairs : ℕ → ℕ → List (ℕ × ℕ)) → (values : ℕ → List ℕ) → (queue : ℕ) → List LaidNode
queues_below shape pairs values queue = maps_below shape pairs shape.maps ++ nodes_of_queues values queue

-- these nodes are laid, and the next one has this number
pub record LaidUpTo (shape : Shape) (words : List ℕ) (nodes : List LaidNode) (next : ℕ) : Type 0 where
  pub laid : IsLaid shape words nodes
  pub first_free : length nodes + 1 ≡ next
