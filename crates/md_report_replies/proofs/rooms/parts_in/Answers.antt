use Rattle.std.proofs.Common.{◌≡◌, ◌∙◌, ◌+◌, List, take, drop, map, set, get_or, ap, sym, arith}
use Rattle.std.proofs.lemmas.List.{length-drop, get_or-drop}
use Rattle.md_book.specs.declared.commands.Part.{Part}
use Rattle.md_book.specs.Book.{padded}
use Rattle.md_report_replies.specs.Rooms.{part_in}
use Rattle.md_report_replies.proofs.PartNumbers.{parts-more}
use Rattle.md_report_replies.proofs.rooms.parts_in.Goals as goal

pub loop-place-preserved : goal.loop-place-preserved
loop-place-preserved c =
    let room = c.args.room.now in
    let place = c.loop-place.place in
    let size = length-drop 1 room in
    let shift : 1 + place ≡ place + 1 = omega arith in
    let read = get_or-drop 1 room place 0 ∙ ap (λ k. get_or room k 0) shift in
    ap (λ (ps : List Part). set ps place c.part_in.result) c.loop-place.invariant
    ∙ ap (set (padded (map part_in (take place (drop 1 room)))) place) (c.part_in.ensures ∙ ap part_in (sym read))
    ∙ parts-more (drop 1 room) place (omega (arith, c.min-told.ensures, c.saturating_sub.ensures)) (omega (arith, c.min-told.ensures, c.min.ensures))
