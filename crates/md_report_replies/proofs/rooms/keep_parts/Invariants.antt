use Rattle.std.proofs.Common.{◌≡◌, take, drop, map, get_or}
use Rattle.md_report_replies.specs.Rooms.{part_number}
use Rattle.md_report_replies.proofs.rooms.keep_parts.Given as goal

abbrev pub invariant-loop-place : goal.invariant-loop-place
invariant-loop-place l = record {
  kept : take l.place (drop 1 l.room) ≡ map part_number (take l.place l.parts);
  first : get_or l.room 0 0 ≡ get_or l.initial.room 0 0;
}
