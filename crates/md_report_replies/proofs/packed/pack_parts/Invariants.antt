use Rattle.std.proofs.Common.{◌≡◌, ◌≤◌, ◌+◌, ◌*◌, ◌++◌, All, take, length}
use Rattle.std.specs.Prelude.{vec_len, vec_capacity}
use Rattle.md_report_replies.specs.Packed.{IsPackable, numbers_of}
use Rattle.md_report_replies.proofs.packed.pack_parts.Given as goal

abbrev pub invariant-loop-part : goal.invariant-loop-part
invariant-loop-part l = record {
  room : vec_len l.numbers + 2 * length l.parts ≤ vec_capacity l.numbers + 2 * l.part-index;
  items : l.numbers.items ≡ l.initial.numbers.items ++ numbers_of (take l.part-index l.parts);
  small : All IsPackable (take l.part-index l.parts);
}
