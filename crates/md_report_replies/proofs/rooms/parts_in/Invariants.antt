use Rattle.std.proofs.Common.{◌≡◌, take, drop, map}
use Rattle.md_book.specs.Book.{padded}
use Rattle.md_report_replies.specs.Rooms.{part_in}
use Rattle.md_report_replies.proofs.rooms.parts_in.Given as goal

abbrev pub invariant-loop-place : goal.invariant-loop-place
invariant-loop-place l = l.parts ≡ padded (map part_in (take l.place (drop 1 l.room)))
