-- What is a pass's own, and which words it may change.
use Rattle.std.specs.Prelude.{◌≡◌, ℕ, true, Contains, ◌⊎◌}
use Rattle.md_words.specs.declared.shape.Shape.{Shape}
use Rattle.md_words.specs.Lanes.{OwnsNode, OwnsDesc}
use Rattle.md_words.specs.Place.{Place, bucket_head, queue_head, queue_tail, node_key, node_value, node_next}
use Rattle.md_machine.specs.declared.pass.PassView.{PassView}
use Rattle.md_machine.specs.Machine.{Machine, shape_of}
use Rattle.md_machine.specs.Resolution.{always_placed, never_placed}

-- the node, or the descriptor, is of one of the pass's lanes
abbrev pub HasNode : Shape → PassView → ℕ → Type 0
HasNode shape p node = (lane : ℕ) × Contains p.lanes lane × OwnsNode shape lane node

abbrev pub HasDesc : Shape → PassView → ℕ → Type 0
HasDesc shape p desc = (lane : ℕ) × Contains p.lanes lane × OwnsDesc shape lane desc

-- an own node is one of the pass's lanes that is placed in no resolution
abbrev pub IsOwnNode : Machine → PassView → ℕ → Type 0
IsOwnNode m p node = HasNode (shape_of m) p node × (never_placed m node ≡ true)

-- the place is the key or the value of a node, or its next word
abbrev pub IsDataOf : ℕ → Place → Type 0
IsDataOf node place = (place ≡ node_key node) ⊎ (place ≡ node_value node)

abbrev pub IsWordOf : ℕ → Place → Type 0
IsWordOf node place = IsDataOf node place ⊎ (place ≡ node_next node)

-- where a plain exchange may be made: a head, a tail, or the next word of a node that is placed in every resolution
abbrev pub MayExchangeAt : Machine → Place → Type 0
MayExchangeAt m (bucket_head map bucket) = Unit {0}
MayExchangeAt m (queue_head queue) = Unit {0}
MayExchangeAt m (queue_tail queue) = Unit {0}
MayExchangeAt m (node_next node) = always_placed m node ≡ true
MayExchangeAt m _ = ⊥

-- where an install may be made: there, or in the next word of an own node
abbrev pub MayInstallAt : Machine → PassView → Place → Type 0
MayInstallAt m p (node_next node) = (always_placed m node ≡ true) ⊎ IsOwnNode m p node
MayInstallAt m p place = MayExchangeAt m place
