use Rattle.std.proofs.Common.{◌≡◌, ◌≤◌, ◌*◌, take, map, length}
use Rattle.std.specs.Prelude.{sum}
use Rattle.md_orders.specs.Lists.{items_in}
use Rattle.md_report_replies.specs.Rooms.{room_of}
use Rattle.md_report_replies.proofs.rooms.room_sizes.Given as goal

abbrev pub invariant-loop-segment : goal.invariant-loop-segment
invariant-loop-segment l = record {
  sizes : l.sizes.items ≡ map room_of (items_in (take l.segment-index l.earlier));
  small : sum l.sizes.items ≤ 256 * length (items_in (take l.segment-index l.earlier));
}
