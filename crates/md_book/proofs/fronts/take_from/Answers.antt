use Rattle.std.proofs.lemmas.Result.{err_from_is_err_and}
use Rattle.md_history.specs.Script.{done, bind}
use Rattle.md_history.specs.ScriptLaws.{at-begin, at-part, at-broke_part, at-done}
use Rattle.md_book.specs.declared.fronts.Look.TheVariants.{Live}
use Rattle.md_book.specs.Stands.{account_in}
use Rattle.md_book.specs.Scripts.{raise}
use Rattle.md_book.specs.Filling.{take_from, resting_sums}
use Rattle.md_book.proofs.fronts.take_from.Goals as goal

pub returns-in_err-take_out-clause-plays : goal.returns-in_err-take_out-clause-plays
returns-in_err-take_out-clause-plays g c =
    let p = err_from_is_err_and c.from_residual.result c.from_residual.ensures.1 in
    let at0 = at-begin (take_from c.args.side c.args.level c.args.name c.args.order c.args.taken) (g.T.TxCalls.acts c.args.t.now) in
    rw (p.1, p.2) (at-broke_part (λ _. bind (raise (resting_sums c.args.side) (account_in c.args.order) c.args.taken) (λ _. done (Live (record { name = c.args.name; taken = c.args.taken })))) at0 c.in_err-take_out.ensures.plays)

pub returns-in_err-raise-clause-plays : goal.returns-in_err-raise-clause-plays
returns-in_err-raise-clause-plays g c =
    let p = err_from_is_err_and c.from_residual-in_err-raise.result c.from_residual-in_err-raise.ensures.1 in
    let at0 = at-begin (take_from c.args.side c.args.level c.args.name c.args.order c.args.taken) (g.T.TxCalls.acts c.args.t.now) in
    let at1 = at-part (λ _. bind (raise (resting_sums c.args.side) (account_in c.args.order) c.args.taken) (λ _. done (Live (record { name = c.args.name; taken = c.args.taken })))) at0 c.in_ok-take_out.ensures.plays.1 in
    rw (p.1, p.2) (at-broke_part (λ _. done (Live (record { name = c.args.name; taken = c.args.taken }))) at1 (rw (c.resting_sums.ensures, c.account_in.ensures) at c.in_err-raise.ensures.plays))

pub returns-clause-plays : goal.returns-clause-plays
returns-clause-plays g c =
    let at0 = at-begin (take_from c.args.side c.args.level c.args.name c.args.order c.args.taken) (g.T.TxCalls.acts c.args.t.now) in
    let at1 = at-part (λ _. bind (raise (resting_sums c.args.side) (account_in c.args.order) c.args.taken) (λ _. done (Live (record { name = c.args.name; taken = c.args.taken })))) at0 c.in_ok-take_out.ensures.plays.1 in
    let raised = rw (c.resting_sums.ensures, c.account_in.ensures) at c.in_ok-raise.ensures.plays in
    (raised.0, at-done (at-part (λ _. done (Live (record { name = c.args.name; taken = c.args.taken }))) at1 raised.1))
