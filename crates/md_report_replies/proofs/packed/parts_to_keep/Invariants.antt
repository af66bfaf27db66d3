use Rattle.std.proofs.Common.{◌≡◌, ◌≤◌, take}
use Rattle.md_book.specs.declared.limits.TheConstants.{MAX_PARTS}
use Rattle.md_book.specs.Book.{padded}
use Rattle.md_report_replies.proofs.packed.parts_to_keep.Given as goal

abbrev pub invariant-loop-kept : goal.invariant-loop-kept
invariant-loop-kept l = record {
  few : l.kept ≤ MAX_PARTS;
  rest : padded (take l.kept l.parts) ≡ l.parts;
}

abbrev pub decreases-loop-kept : goal.decreases-loop-kept
decreases-loop-kept l = l.kept
