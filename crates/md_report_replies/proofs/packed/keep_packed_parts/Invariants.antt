use Rattle.std.proofs.Common.{◌≡◌, take, drop, map, get_or}
use Rattle.std.specs.Prelude.{min}
use Rattle.md_book.specs.declared.limits.TheConstants.{MAX_PARTS}
use Rattle.md_book.specs.Book.{padded}
use Rattle.md_report_replies.specs.Packed.{parts_of}
use Rattle.md_report_replies.specs.Rooms.{part_number}
use Rattle.md_report_replies.proofs.packed.keep_packed_parts.Given as goal

abbrev pub invariant-loop-place : goal.invariant-loop-place
invariant-loop-place l = record {
  kept : take l.place (drop 1 l.room) ≡ map part_number (take l.place (padded (parts_of (min l.kept MAX_PARTS) (drop 1 l.numbers))));
  first : get_or l.room 0 0 ≡ get_or l.initial.room 0 0;
}
