use Rattle.std.proofs.Common.{◌≡◌, take}
use Rattle.std.specs.Prelude.{sum}
use Rattle.md_report_replies.specs.Rooms.{starts_of}
use Rattle.md_report_replies.proofs.rooms.starts_of.Given as goal

abbrev pub invariant-loop-size : goal.invariant-loop-size
invariant-loop-size l = record {
  starts : l.starts.items ≡ starts_of 0 (take l.size-index l.sizes);
  end : l.end ≡ sum (take l.size-index l.sizes);
}
