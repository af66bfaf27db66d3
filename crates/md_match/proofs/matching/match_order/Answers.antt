use Rattle.std.proofs.Common.{ℕ, ◌-◌}
use Rattle.std.proofs.lemmas.Result.{err_from_is_err_and}
use Rattle.md_history.specs.Script.{Script, done, bind}
use Rattle.md_history.specs.ScriptLaws.{at-begin, at-part, at-broke_part, at-done}
use Rattle.md_book.specs.declared.commands.Side.{Side}
use Rattle.md_match.specs.declared.commands.MatchReply.{MatchReply}
use Rattle.md_match.specs.declared.commands.MatchReply.TheVariants.{Matched}
use Rattle.md_match.specs.declared.sweeping.Sweep.{Sweep}
use Rattle.md_match.specs.Sweeping.{place_rest, finish, match_order}
use Rattle.md_match.proofs.matching.match_order.Goals as goal

-- the reply, by what was placed
abbrev replying : ℕ → Sweep → ℕ → Script MatchReply
replying quantity f placed = done (Matched (quantity - f.rest) placed (f.rest - placed) f.count f.parts)

-- what is done once the taker's sum is raised
abbrev then_place : ℕ → ℕ → Side → ℕ → ℕ → Sweep → Script MatchReply
then_place name account side price quantity f = bind (place_rest name account side price f) (replying quantity f)

pub returns-in_err-swept-clause-plays : goal.returns-in_err-swept-clause-plays
returns-in_err-swept-clause-plays g c =
    let p = err_from_is_err_and c.from_residual.result c.from_residual.ensures.1 in
    let at0 = at-begin (match_order c.args.name c.args.account c.args.side c.args.price c.args.quantity) (g.T.TxCalls.acts c.args.t.now) in
    rw (p.1, p.2) (at-broke_part (finish c.args.name c.args.account c.args.side c.args.price c.args.quantity) at0 c.in_err-swept.ensures.plays)

pub returns-in_err-book_taker-clause-plays : goal.returns-in_err-book_taker-clause-plays
returns-in_err-book_taker-clause-plays g c =
    let p = err_from_is_err_and c.from_residual-in_err-book_taker.result c.from_residual-in_err-book_taker.ensures.1 in
    let at0 = at-begin (match_order c.args.name c.args.account c.args.side c.args.price c.args.quantity) (g.T.TxCalls.acts c.args.t.now) in
    let at1 = at-part (finish c.args.name c.args.account c.args.side c.args.price c.args.quantity) at0 c.in_ok-swept.ensures.plays.1 in
    rw (p.1, p.2) (at-broke_part (λ _. then_place c.args.name c.args.account c.args.side c.args.price c.args.quantity c.in_ok-swept.swept) at1 (rw c.opposite.ensures at c.in_err-book_taker.ensures.plays))

pub returns-in_err-placed-clause-plays : goal.returns-in_err-placed-clause-plays
returns-in_err-placed-clause-plays g c =
    let p = err_from_is_err_and c.from_residual-in_err-placed.result c.from_residual-in_err-placed.ensures.1 in
    let at0 = at-begin (match_order c.args.name c.args.account c.args.side c.args.price c.args.quantity) (g.T.TxCalls.acts c.args.t.now) in
    let at1 = at-part (finish c.args.name c.args.account c.args.side c.args.price c.args.quantity) at0 c.in_ok-swept.ensures.plays.1 in
    let booked = rw c.opposite.ensures at c.in_ok-book_taker.ensures.plays in
    let at2 = at-part (λ _. then_place c.args.name c.args.account c.args.side c.args.price c.args.quantity c.in_ok-swept.swept) at1 booked.1 in
    rw (p.1, p.2) (at-broke_part (replying c.args.quantity c.in_ok-swept.swept) at2 c.in_err-placed.ensures.plays)

pub returns-clause-plays : goal.returns-clause-plays
returns-clause-plays g c =
    let at0 = at-begin (match_order c.args.name c.args.account c.args.side c.args.price c.args.quantity) (g.T.TxCalls.acts c.args.t.now) in
    let at1 = at-part (finish c.args.name c.args.account c.args.side c.args.price c.args.quantity) at0 c.in_ok-swept.ensures.plays.1 in
    let booked = rw c.opposite.ensures at c.in_ok-book_taker.ensures.plays in
    let at2 = at-part (λ _. then_place c.args.name c.args.account c.args.side c.args.price c.args.quantity c.in_ok-swept.swept) at1 booked.1 in
    (c.in_ok-placed.ensures.plays.0, at-done (at-part (replying c.args.quantity c.in_ok-swept.swept) at2 c.in_ok-placed.ensures.plays.1))
