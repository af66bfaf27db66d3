use Rattle.std.proofs.Common.{◌≡◌}
use Rattle.md_report_replies.specs.Rooms.{unset_rooms_after}
use Rattle.md_report_replies.proofs.all_rooms.rooms_of_callers.Given as goal

abbrev pub invariant-loop-earlier : goal.invariant-loop-earlier
invariant-loop-earlier l = l.rooms.items ≡ unset_rooms_after l.scripts l.before l.earlier
