use Rattle.std.proofs.Common.{◌≡◌, ◌∙◌, List, Some, length, take, drop, map, get_or, ap, sym, arith, get_or-set_same}
use Rattle.std.specs.Prelude.{min}
use Rattle.md_book.specs.declared.commands.Part.{Part}
use Rattle.md_book.specs.declared.limits.TheConstants.{MAX_PARTS}
use Rattle.md_book.specs.Book.{padded}
use Rattle.md_report_replies.specs.Packed.{parts_of, unpacked}
use Rattle.md_report_replies.specs.Rooms.{part_number}
use Rattle.std.proofs.lemmas.List.{length-take-le}
use Rattle.md_report_replies.proofs.PartNumbers.{parts-kept}
use Rattle.md_report_replies.proofs.Unpacked.{length-filled}
use Rattle.md_report_replies.proofs.packed.keep_packed.Goals as goal

pub returns-in-Filled : goal.returns-in-Filled
returns-in-Filled c =
    let filled = rw c.in-Filled.is at c.requires in
    let few = filled.1.few in
    let room = c.keep_packed_parts.new.room in
    let numbers = c.args.numbers.now in
    let parts : List Part = padded (parts_of (min c.in-Filled.kept MAX_PARTS) (drop 1 numbers)) in
    let filled_size : length parts ≡ MAX_PARTS = length-filled (min c.in-Filled.kept MAX_PARTS) (drop 1 numbers) (omega arith) in
    let told : length (take c.in-Filled.count parts) ≡ c.in-Filled.count = length-take-le c.in-Filled.count parts (omega (arith, filled_size)) in
    let kept : take (length (take c.in-Filled.count parts)) (drop 1 room) ≡ map part_number (take c.in-Filled.count parts) = ap (λ n. take n (drop 1 room)) told ∙ c.keep_packed_parts.ensures.parts in
    let first : get_or room 0 0 ≡ get_or numbers 0 0 = c.keep_packed_parts.ensures.first ∙ get_or-set_same c.args.room.now 0 _ 0 (omega (arith, filled.0)) ∙ c.number_at.ensures in
    let parts_are = parts-kept c.in-Filled.count parts room filled.1 kept in
    rw (first, parts_are) (sym (ap (λ h. Some (unpacked h numbers)) c.in-Filled.is))
