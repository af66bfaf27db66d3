-- Which lane owns a node or a descriptor.
use Rattle.std.proofs.Common.{◌≡◌, ℕ, ◌+◌, ◌-◌, ◌*◌, ◌/◌, ◌<◌, ◌≤◌, ◌↔◌, sym, subst, arith}
use Rattle.std.proofs.lemmas.Nat.{rows}
use Rattle.md_words.specs.Layout.{node_count, desc_count}
use Rattle.md_words.specs.Lanes.{node_of, OwnsNode, OwnsDesc, lane_of_node, lane_of_desc}
use Rattle.md_words.specs.LayoutLaws.{BaseNodesExist, NodeHasLane, DescHasLane, OwnNodeExists, OwnDescExists, NodeInLane, NodeNumber, NodesRise, OneDesc}

-- among n rows of k, x lies in a row exactly where the row is its quotient
row_of : (n k row x : ℕ) → 0 < k → ((row < n) × (row * k ≤ x) × (x < (row + 1) * k)) ↔ ((x < n * k) × (x / k ≡ row))
row_of n k row x h =
    ((λ f. let a = f.0 in let b = f.1 in let c = f.2 in grind (arith, rows)), (λ f. let a = f.0 in let b = f.1 in grind (arith, rows)))

pub owner_of_desc : DescHasLane
unfolding OwnsDesc desc_count lane_of_desc
owner_of_desc shape lane desc = ((λ h. (subst (λ d. d < shape.lanes) (sym h.1) h.0, h.1)), (λ h. (subst (λ d. d < shape.lanes) h.1 h.0, h.1)))

pub base_nodes_exist : BaseNodesExist
unfolding node_count
base_nodes_exist shape = omega arith

pub owner_of_node : NodeHasLane
unfolding OwnsNode node_count lane_of_node
owner_of_node shape lane node =
    let row = row_of shape.lanes shape.nodes lane (node - shape.base - 1) (omega arith) in (
      (λ h. let a = h.0 in let b = h.1 in let c = h.2 in
          let f = row.0 (a, omega arith, omega arith) in
          (omega arith, omega (arith, f.0), f.1)),
      (λ h. let a = h.0 in let b = h.1 in
          let f = row.1 (omega arith, h.2) in
          (f.0, omega (arith, f.1), omega (arith, f.2))),
    )

pub own_node_exists : OwnNodeExists
own_node_exists shape lane node h =
    let k = (owner_of_node shape lane node).0 h in
    (omega (arith, k.0), k.1)

pub own_desc_exists : OwnDescExists
own_desc_exists shape lane desc h = ((owner_of_desc shape lane desc).0 h).0

pub node_in_lane : NodeInLane
unfolding OwnsNode node_of
node_in_lane shape lane i h k = (h, omega arith, grind arith)

pub node_number : NodeNumber
unfolding OwnsNode node_of
node_number shape lane node h =
    let a = h.1 in let b = h.2 in
    (node - shape.base - lane * shape.nodes - 1, grind arith, omega arith)

pub nodes_rise : NodesRise
unfolding node_of
nodes_rise shape lane i j h = omega arith

pub one_desc : OneDesc
unfolding OwnsDesc
one_desc shape lane desc h = ((λ own. own.1), (λ is. (h, is)))
