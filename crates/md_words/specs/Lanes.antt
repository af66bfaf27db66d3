-- Which nodes and which descriptor a lane owns. Base nodes belong to no lane.
use Rattle.std.specs.Prelude.{◌≡◌, ℕ, ◌+◌, ◌-◌, ◌*◌, ◌/◌, ◌<◌, ◌≤◌}
use Rattle.md_words.specs.declared.shape.Shape.{Shape}

-- node i of a lane, counted from 0
unfoldable pub node_of : Shape → ℕ → ℕ → ℕ
node_of shape lane i = shape.base + lane * shape.nodes + i + 1

-- the one descriptor of a lane has the lane's number
abbrev pub desc_of : ℕ → ℕ
desc_of lane = lane

-- the lane owns the node, and the descriptor
unfoldable pub OwnsNode : Shape → ℕ → ℕ → Type 0
OwnsNode shape lane node =
    (lane < shape.lanes) × (shape.base + lane * shape.nodes < node) × (node ≤ shape.base + (lane + 1) * shape.nodes)

unfoldable pub OwnsDesc : Shape → ℕ → ℕ → Type 0
OwnsDesc shape lane desc =
    (lane < shape.lanes) × (desc ≡ desc_of lane)

-- the lane of a node that is no base node, and of a descriptor
unfoldable pub lane_of_node : Shape → ℕ → ℕ
lane_of_node shape node = (node - shape.base - 1) / shape.nodes

unfoldable pub lane_of_desc : Shape → ℕ → ℕ
lane_of_desc shape desc = desc
