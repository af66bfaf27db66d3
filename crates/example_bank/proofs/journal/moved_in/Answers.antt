use Rattle.std.proofs.Common.{◌∙◌, ◌+◌, ◌%◌, ◌^◌, ap, length, slice_index_or, count_by, arith}
use Rattle.example_bank.specs.Journal.{is_moved}
use Rattle.example_bank.proofs.Sums.{moved-more}
use Rattle.example_bank.proofs.journal.moved_in.Goals as goal

pub loop-outcomes-preserved : goal.loop-outcomes-preserved
loop-outcomes-preserved g c =
    let at = c.loop-outcomes in
    let v = c.outcomes-item.result in
    let value = c.deref-outcomes-items.ensures.value in
    ap (λ n. (at.moved + n) % 2 ^ 64) (c.moved_of.ensures ∙ ap (count_by is_moved) c.deref.ensures.value)
    ∙ moved-more c.args.many.now.replies.items at.outcomes-index at.moved v
    (omega (arith, c.loop-outcomes-test.true, ap length value))
    (c.outcomes-item.is ∙ ap (λ xs. slice_index_or xs at.outcomes-index v) value) at.invariant
