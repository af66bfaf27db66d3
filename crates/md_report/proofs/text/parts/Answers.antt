use Rattle.std.proofs.Common.{◌≡◌, ◌-◌, ◌∙◌, ◌++◌, ap, sym, arith, append_assoc, take, drop}
use Rattle.std.specs.Prelude.{flat_map, min}
use Rattle.md_book.specs.declared.limits.TheConstants.{MAX_PARTS}
use Rattle.md_report.specs.Report.{part_text}
use Rattle.md_report_replies.specs.Rooms.{part_in, parts_in}
use Rattle.md_report_replies.proofs.PartNumbers.{told-next}
use Rattle.md_report.proofs.text.parts.Goals as goal

pub loop-after-preserved : goal.loop-after-preserved
loop-after-preserved c =
    let told = c.min-told.result in
    let after = c.loop-after.after in
    let least : told ≡ min c.args.count MAX_PARTS = c.min-told.ensures ∙ ap (λ n. min n MAX_PARTS) c.from.ensures in
    let rest = flat_map part_text (drop (told - after) (take c.args.count (parts_in c.args.count c.args.room.now))) in
    let next = told-next c.args.count told after c.args.room.now c.part_in.result least c.loop-after-test.true
    (c.part_in.ensures ∙ ap part_in c.number_at.ensures) in
    record {
      text = c.part.ensures.text ∙ ap (λ t. part_text c.part_in.result ++ t) c.loop-after.invariant.text
          ∙ sym (append_assoc (part_text c.part_in.result) rest c.args.line.now)
          ∙ ap (λ ps. flat_map part_text ps ++ c.args.line.now) (sym next);
      short = omega (arith, c.part.ensures.short, c.loop-after.invariant.short);
    }
