use Rattle.std.proofs.Common.{◌≡◌, ◌≤◌, ◌*◌, ◌++◌, take, map}
use Rattle.std.specs.Prelude.{sum}
use Rattle.md_report_replies.specs.Rooms.{room_of}
use Rattle.md_report_replies.proofs.rooms.add_sizes.Given as goal

abbrev pub invariant-loop-command : goal.invariant-loop-command
invariant-loop-command l = record {
  sizes : l.sizes.items ≡ l.fn.sizes.items ++ map room_of (take l.command-index l.script);
  small : sum (map room_of (take l.command-index l.script)) ≤ 256 * l.command-index;
}
