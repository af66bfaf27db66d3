use Rattle.std.proofs.Common.{◌+◌, ◌*◌, ◌∙◌, drop, get_or, ap, sym, arith}
use Rattle.std.specs.Prelude.{min}
use Rattle.md_book.specs.declared.limits.TheConstants.{MAX_PARTS}
use Rattle.md_report_replies.specs.Packed.{part_of}
use Rattle.md_report_replies.proofs.Unpacked.{padded-within, padded-past}
use Rattle.md_report_replies.proofs.packed.part_at.Goals as goal

pub returns : goal.returns
returns c =
    let kept = min c.args.kept MAX_PARTS in
    ap (λ n. part_of n c.number_at-2.result) c.number_at.ensures ∙ ap (part_of (get_or c.args.numbers.now (2 * c.args.place + 1) 0)) c.number_at-2.ensures
    ∙ sym (padded-within kept c.args.place c.args.numbers.now (omega arith))

pub returns-then-place-min : goal.returns-then-place-min
returns-then-place-min c = sym (padded-past (min c.args.kept MAX_PARTS) c.args.place (drop 1 c.args.numbers.now) (omega (arith, c.if-place-min.true, c.min.ensures, c.from.ensures)))
