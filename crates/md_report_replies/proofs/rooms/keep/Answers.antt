use Rattle.std.proofs.Common.{◌≡◌, ◌+◌, ◌*◌, ◌/◌, ◌%◌, ◌^◌, ◌∙◌, Some, length, take, drop, map, get_or, ap, sym, arith, get_or-set_same}
use Rattle.md_report_replies.specs.Rooms.{part_number}
use Rattle.md_report_replies.proofs.PartNumbers.{parts-kept}
use Rattle.md_report_replies.proofs.rooms.keep.Goals as goal

pub returns-in-Filled : goal.returns-in-Filled
returns-in-Filled c =
    let filled = rw c.in-Filled.is at c.requires in
    let few = filled.0 in
    let room = c.keep_parts.new.room in
    let count_is = c.from-in-Filled-2.ensures in
    let kept : take (length (take c.in-Filled.count c.in-Filled.parts)) (drop 1 room) ≡ map part_number (take c.in-Filled.count c.in-Filled.parts) = rw count_is at c.keep_parts.ensures.parts in
    let first : get_or room 0 0 ≡ c.from.result * 2 ^ 32 + c.from-in-Filled.result = c.keep_parts.ensures.first ∙ get_or-set_same c.args.room.now 0 _ 0 (omega arith) in
    let taken : get_or room 0 0 / 2 ^ 32 ≡ c.in-Filled.taken = omega (arith, c.from.ensures, c.from-in-Filled.ensures) in
    let rest : get_or room 0 0 % 2 ^ 32 ≡ c.in-Filled.rest = omega (arith, c.from.ensures, c.from-in-Filled.ensures) in
    let parts = parts-kept c.in-Filled.count c.in-Filled.parts room filled.1 kept in
    rw (taken, rest, parts) (sym (ap Some c.in-Filled.is))
