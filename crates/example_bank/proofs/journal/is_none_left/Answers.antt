use Rattle.std.proofs.Common.{◌∙◌, ◌+◌, sym, arith}
use Rattle.example_bank.proofs.Journals.{left-at, something-left}
use Rattle.example_bank.proofs.journal.is_none_left.Goals as goal

pub returns-then-is_some : goal.returns-then-is_some
returns-then-is_some c = (
  λ e. cc,
  λ all. absurd (something-left (c.loop-place.place + 1) c.deref.result.now c.next_moved.result
      (sym c.is_some.ensures ∙ c.if-is_some.true)
      (sym (left-at c.args.replies.now c.args.past.now c.loop-place.place (c.loop-place.place + 1) c.index-replies-place.result
      c.deref.result.now c.next_moved.result c.loop-place-test.true (omega arith) c.index-replies-place.is c.deref.ensures.value
      c.next_moved.ensures.next) ∙ all (c.loop-place.place + 1))),
)
