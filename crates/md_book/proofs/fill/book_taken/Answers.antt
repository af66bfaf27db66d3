use Rattle.std.proofs.lemmas.Result.{err_from_is_err_and}
use Rattle.md_history.specs.ScriptLaws.{at-begin, at-rest, at-part, at-tail, at-broke_part, at-broke_tail}
use Rattle.md_book.specs.declared.maps.TheConstants.{DEPTHS}
use Rattle.md_book.specs.Scripts.{lower}
use Rattle.md_book.specs.Filling.{book_taken}
use Rattle.md_book.proofs.steps.Fills.{book_taken-some}
use Rattle.md_book.proofs.fill.book_taken.Goals as goal

pub returns-in_err-raise-clause-plays : goal.returns-in_err-raise-clause-plays
returns-in_err-raise-clause-plays g c =
    let p = err_from_is_err_and c.from_residual.result c.from_residual.ensures.1 in
    let at0 = at-rest (at-begin (book_taken c.args.side c.args.level c.args.account c.args.taken) (g.T.TxCalls.acts c.args.t.now)) (book_taken-some c.args.side c.args.level c.args.account c.args.taken c.if-taken-ne0.true) in
    rw (p.1, p.2) (at-broke_part (λ _. lower DEPTHS c.args.level c.args.taken) at0 (rw c.taker_sums.ensures at c.in_err-raise.ensures.plays))

pub returns-in_err-lower-clause-plays : goal.returns-in_err-lower-clause-plays
returns-in_err-lower-clause-plays g c =
    let p = err_from_is_err_and c.from_residual-in_err-lower.result c.from_residual-in_err-lower.ensures.1 in
    let at0 = at-rest (at-begin (book_taken c.args.side c.args.level c.args.account c.args.taken) (g.T.TxCalls.acts c.args.t.now)) (book_taken-some c.args.side c.args.level c.args.account c.args.taken c.if-taken-ne0.true) in
    let raised = rw c.taker_sums.ensures at c.in_ok-raise.ensures.plays in
    rw (p.1, p.2) (at-broke_tail (at-part (λ _. lower DEPTHS c.args.level c.args.taken) at0 raised.1) c.in_err-lower.ensures.plays)

pub returns-in_ok-lower-clause-plays : goal.returns-in_ok-lower-clause-plays
returns-in_ok-lower-clause-plays g c =
    let at0 = at-rest (at-begin (book_taken c.args.side c.args.level c.args.account c.args.taken) (g.T.TxCalls.acts c.args.t.now)) (book_taken-some c.args.side c.args.level c.args.account c.args.taken c.if-taken-ne0.true) in
    let raised = rw c.taker_sums.ensures at c.in_ok-raise.ensures.plays in
    (c.in_ok-lower.ensures.plays.0, at-tail (at-part (λ _. lower DEPTHS c.args.level c.args.taken) at0 raised.1) c.in_ok-lower.ensures.plays.1)
