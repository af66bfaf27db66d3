use Rattle.std.proofs.lemmas.Result.{err_from_is_err_and}
use Rattle.md_history.specs.Script.{done}
use Rattle.md_history.specs.ScriptLaws.{at-begin, at-more, at-part, at-broke_part, at-done}
use Rattle.md_book.specs.declared.commands.BookReply.TheVariants.{Placed}
use Rattle.md_book.specs.Scripts.{place}
use Rattle.md_book.proofs.place.place.Goals as goal

pub returns-in_err-raise-clause-plays : goal.returns-in_err-raise-clause-plays
returns-in_err-raise-clause-plays g c =
    let p = err_from_is_err_and c.from_residual-in_err-raise.result c.from_residual-in_err-raise.ensures.1 in
    let at0 = at-begin (place c.args.name c.args.account c.args.side c.args.price c.args.quantity) (g.T.TxCalls.acts c.args.t.now) in
    let at1 = at-more at0 (rw c.packed-order.ensures at c.in_ok-insert.ensures.ok) in
    let at2 = at-more at1 (rw c.level-level.ensures.level at c.in_ok-enqueue.ensures.ok) in
    rw (p.1, p.2) (at-broke_part (λ _. done Placed) at2 (rw c.level-level.ensures.level at c.in_err-raise.ensures.plays))

pub returns-clause-plays : goal.returns-clause-plays
returns-clause-plays g c =
    let at0 = at-begin (place c.args.name c.args.account c.args.side c.args.price c.args.quantity) (g.T.TxCalls.acts c.args.t.now) in
    let at1 = at-more at0 (rw c.packed-order.ensures at c.in_ok-insert.ensures.ok) in
    let at2 = at-more at1 (rw c.level-level.ensures.level at c.in_ok-enqueue.ensures.ok) in
    let raised = rw c.level-level.ensures.level at c.in_ok-raise.ensures.plays in
    (raised.0, at-done (at-part (λ _. done Placed) at2 raised.1))
