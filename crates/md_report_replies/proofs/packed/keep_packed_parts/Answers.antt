use Rattle.std.proofs.Common.{◌≡◌, ◌+◌, ◌∙◌, ◌++◌, ◌∷◌, [], List, length, take, drop, set, map, get_or, ap, ap₂, sym, refl, arith, get_or-set_other}
use Rattle.std.specs.Prelude.{min}
use Rattle.std.proofs.lemmas.Grind.{take_at_read, take-set_at}
use Rattle.std.proofs.lemmas.List.{drop-set-add, length-drop, map-append}
use Rattle.md_book.specs.declared.commands.Part.{Part}
use Rattle.md_book.specs.declared.limits.TheConstants.{MAX_PARTS}
use Rattle.md_book.specs.Book.{padded}
use Rattle.md_report_replies.specs.Packed.{no_part, parts_of}
use Rattle.md_report_replies.specs.Rooms.{part_number}
use Rattle.md_report_replies.proofs.Unpacked.{length-filled}
use Rattle.md_report_replies.proofs.packed.keep_packed_parts.Goals as goal

pub loop-place-preserved : goal.loop-place-preserved
loop-place-preserved c =
    let inv = c.loop-place.invariant in
    let room = c.loop-place.room in
    let place = c.loop-place.place in
    let n = c.part_number.result in
    let parts : List Part = padded (parts_of (min c.args.kept MAX_PARTS) (drop 1 c.args.numbers.now)) in
    let filled : length parts ≡ MAX_PARTS = length-filled (min c.args.kept MAX_PARTS) (drop 1 c.args.numbers.now) (omega arith) in
    let size = length-drop 1 room in
    let shift : place + 1 ≡ 1 + place = omega arith in
    record {
      kept = ap (λ k. take (place + 1) (drop 1 (set room k n))) shift ∙ ap (take (place + 1)) (drop-set-add 1 room place n)
          ∙ take-set_at (drop 1 room) place (place + 1) n refl (omega arith)
          ∙ ap₂ (λ ns m. ns ++ m ∷ []) inv.kept (c.part_number.ensures ∙ ap part_number c.part_at.ensures)
          ∙ sym (map-append part_number (take place parts) (get_or parts place no_part ∷ []))
          ∙ sym (ap (map part_number) (take_at_read parts place no_part (omega arith)).1);
      first = get_or-set_other room (place + 1) 0 n 0 (omega arith) ∙ inv.first;
    }
