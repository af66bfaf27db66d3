use Rattle.std.proofs.Common.{◌∙◌, ◌++◌, ◌∷◌, [], take, get_or, sym, ap, arith, zero-add}
use Rattle.std.specs.Prelude.{sum}
use Rattle.std.proofs.lemmas.List.{take_more}
use Rattle.std.proofs.lemmas.List.Sums.{sum_by_more}
use Rattle.md_report_replies.specs.Rooms.{starts_of}
use Rattle.md_report_replies.proofs.Apart.{starts-more}
use Rattle.md_report_replies.proofs.rooms.starts_of.Goals as goal

pub loop-size-preserved : goal.loop-size-preserved
loop-size-preserved c =
    let inv = c.loop-size.invariant in
    let sizes = c.args.sizes.now in
    let index = c.loop-size.size-index in
    let before = take index sizes in
    let size = get_or sizes index 0 in
    let more = take_more sizes index 0 c.loop-size-test.true in
    let sum_more = sum_by_more (λ n. n) sizes index 0 c.loop-size-test.true in
    record {
      starts = c.in_ok-push.ensures.items ∙ ap (λ ss. ss ++ c.loop-size.end ∷ []) inv.starts ∙ ap (λ n. starts_of 0 before ++ n ∷ []) (inv.end ∙ sym (zero-add (sum before)))
          ∙ sym (starts-more 0 size before) ∙ ap (starts_of 0) (sym more);
      end = omega (arith, inv.end, c.from-end.ensures);
    }
