use Rattle.std.proofs.Common.{ap}
use Rattle.std.proofs.lemmas.Result.{err_from_is_err_and}
use Rattle.md_history.specs.ScriptLaws.{at-begin, at-rest, at-more, at-part, at-done, at-broke_part}
use Rattle.md_history.proofs.Parts.{tail-plays}
use Rattle.md_book.specs.Killing.{fill_or_kill, kill}
use Rattle.md_book.proofs.kill.kill.Goals as goal

pub returns-in_err-have_left-clause-plays : goal.returns-in_err-have_left-clause-plays
returns-in_err-have_left-clause-plays g c =
    let p = err_from_is_err_and c.from_residual-in_err-have_left.result c.from_residual-in_err-have_left.ensures.1 in
    let then = fill_or_kill c.args.account c.args.side c.args.price c.args.quantity c.args.places in
    let at0 = at-begin (kill c.args.account c.args.side c.args.price c.args.quantity c.args.places) (g.T.TxCalls.acts c.args.t.now) in
    let at1 = at-more at0 (rw c.level.ensures.level at c.in_ok-line.ensures.ok) in
    rw (p.1, p.2) (at-broke_part then at1 (rw c.names_in.ensures at c.in_err-have_left.ensures.plays))

pub returns-then-not-branch-clause-plays : goal.returns-then-not-branch-clause-plays
returns-then-not-branch-clause-plays g c =
    let then = fill_or_kill c.args.account c.args.side c.args.price c.args.quantity c.args.places in
    let at0 = at-begin (kill c.args.account c.args.side c.args.price c.args.quantity c.args.places) (g.T.TxCalls.acts c.args.t.now) in
    let at1 = at-more at0 (rw c.level.ensures.level at c.in_ok-line.ensures.ok) in
    let looked = rw c.names_in.ensures at c.in_ok-have_left.ensures.plays in
    (looked.0, at-done (at-rest (at-part then at1 looked.1) (ap then c.if-not-branch.true)))

pub returns-clause-plays : goal.returns-clause-plays
returns-clause-plays g c =
    let then = fill_or_kill c.args.account c.args.side c.args.price c.args.quantity c.args.places in
    let at0 = at-begin (kill c.args.account c.args.side c.args.price c.args.quantity c.args.places) (g.T.TxCalls.acts c.args.t.now) in
    let at1 = at-more at0 (rw c.level.ensures.level at c.in_ok-line.ensures.ok) in
    let looked = rw c.names_in.ensures at c.in_ok-have_left.ensures.plays in
    let at2 = at-rest (at-part then at1 looked.1) (ap then c.if-not-branch.false) in
    tail-plays g.T.TxCalls.acts g.T.TxCalls.stop c.args.t.now c.have_left.new.t c.fill.new.t at2 c.fill.result c.fill.ensures.plays
