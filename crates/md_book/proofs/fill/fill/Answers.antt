use Rattle.std.proofs.lemmas.Result.{err_from_is_err_and}
use Rattle.md_history.specs.Script.{done}
use Rattle.md_history.specs.ScriptLaws.{at-begin, at-part, at-broke_part, at-done}
use Rattle.md_book.specs.Book.{level_of}
use Rattle.md_book.specs.Filling.{filled_reply, finish, fill}
use Rattle.md_book.proofs.fill.fill.Goals as goal

pub returns-in_err-rest-clause-plays : goal.returns-in_err-rest-clause-plays
returns-in_err-rest-clause-plays g c =
    let p = err_from_is_err_and c.from_residual.result c.from_residual.ensures.1 in
    let at0 = at-begin (fill c.args.account c.args.side c.args.price c.args.quantity c.args.places) (g.T.TxCalls.acts c.args.t.now) in
    rw (p.1, p.2) (at-broke_part (finish c.args.account c.args.side (level_of c.args.side c.args.price) c.args.quantity) at0 (rw c.level-level.ensures.level at c.in_err-rest.ensures.plays))

pub returns-in_err-book_taken-clause-plays : goal.returns-in_err-book_taken-clause-plays
returns-in_err-book_taken-clause-plays g c =
    let p = err_from_is_err_and c.from_residual-in_err-book_taken.result c.from_residual-in_err-book_taken.ensures.1 in
    let at0 = at-begin (fill c.args.account c.args.side c.args.price c.args.quantity c.args.places) (g.T.TxCalls.acts c.args.t.now) in
    let at1 = at-part (finish c.args.account c.args.side (level_of c.args.side c.args.price) c.args.quantity) at0 (rw c.level-level.ensures.level at c.in_ok-rest.ensures.plays.1) in
    rw (p.1, p.2) (at-broke_part (λ _. done (filled_reply c.args.quantity c.in_ok-rest.field-0)) at1 (rw c.level-level.ensures.level at c.in_err-book_taken.ensures.plays))

pub returns-clause-plays : goal.returns-clause-plays
returns-clause-plays g c =
    let at0 = at-begin (fill c.args.account c.args.side c.args.price c.args.quantity c.args.places) (g.T.TxCalls.acts c.args.t.now) in
    let at1 = at-part (finish c.args.account c.args.side (level_of c.args.side c.args.price) c.args.quantity) at0 (rw c.level-level.ensures.level at c.in_ok-rest.ensures.plays.1) in
    let booked = rw c.level-level.ensures.level at c.in_ok-book_taken.ensures.plays in
    (booked.0, at-done (at-part (λ _. done (filled_reply c.args.quantity c.in_ok-rest.field-0)) at1 booked.1))
