-- Whether there are as many maps and queues as a book needs.
use Rattle.std.proofs.Common.{◌≤◌, length, arith}
use Rattle.md_history.specs.State.{State}
use Rattle.md_book.specs.declared.maps.TheConstants.{LEVELS, MAPS}
use Rattle.md_book.specs.Stands.{IsBookSized}

-- a state has a map for each of a book's and a queue for each level; there may be more
pub record HasMapsAndQueues (s : State) : Type 0 where
  pub maps : MAPS ≤ length s.maps
  pub queues : LEVELS ≤ length s.queues

-- a book's own sizes are enough
pub sized-room : (s : State) → IsBookSized s → HasMapsAndQueues s
sized-room s sized = record { maps = omega (arith, sized.maps); queues = omega (arith, sized.queues) }
