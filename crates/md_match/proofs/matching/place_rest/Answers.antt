use Rattle.std.proofs.Common.{◌≡◌, ℕ, cond, true, ap}
use Rattle.std.proofs.lemmas.Result.{err_from_is_err_and}
use Rattle.md_history.specs.declared.acts.Op.TheVariants.{Insert, Enqueue}
use Rattle.md_history.specs.Script.{Script, done, call, bind}
use Rattle.md_history.specs.ScriptLaws.{at-begin, at-rest, at-more, at-part, at-broke_part, at-done}
use Rattle.md_book.specs.declared.commands.Side.{Side}
use Rattle.md_book.specs.declared.maps.TheConstants.{OPEN_ORDERS}
use Rattle.md_book.specs.Book.{level_of}
use Rattle.md_book.specs.Stands.{packed}
use Rattle.md_match.specs.declared.sweeping.Sweep.{Sweep}
use Rattle.md_match.specs.Scripts.{raise_level}
use Rattle.md_match.specs.Sweeping.{place_rest}
use Rattle.md_match.proofs.matching.place_rest.Goals as goal

-- what is done where no price is left
abbrev placing : ℕ → ℕ → Side → ℕ → Sweep → Script ℕ
placing name account side price f =
    call (Insert OPEN_ORDERS name (packed account side price f.rest)) (λ _.
    call (Enqueue (level_of side price) name) (λ _.
    bind (raise_level (level_of side price) f.rest) (λ _. done f.rest)))

clear-places : (name account : ℕ) (side : Side) (price : ℕ) (f : Sweep) → f.clear ≡ true → place_rest name account side price f ≡ placing name account side price f
clear-places name account side price f clear = ap (λ b. cond b (placing name account side price f) (done 0)) clear

pub returns-in_err-raise_level-clause-plays : goal.returns-in_err-raise_level-clause-plays
returns-in_err-raise_level-clause-plays g c =
    let p = err_from_is_err_and c.from_residual-in_err-raise_level.result c.from_residual-in_err-raise_level.ensures.1 in
    let at0 = at-rest (at-begin (place_rest c.args.name c.args.account c.args.side c.args.price c.args.sweep.now) (g.T.TxCalls.acts c.args.t.now)) (clear-places c.args.name c.args.account c.args.side c.args.price c.args.sweep.now c.if-not-sweep.false) in
    let at1 = at-more at0 (rw c.packed-order.ensures at c.in_ok-insert.ensures.ok) in
    let at2 = at-more at1 (rw c.level-level.ensures.level at c.in_ok-enqueue.ensures.ok) in
    rw (p.1, p.2) (at-broke_part (λ _. done c.args.sweep.now.rest) at2 (rw c.level-level.ensures.level at c.in_err-raise_level.ensures.plays))

pub returns-clause-plays : goal.returns-clause-plays
returns-clause-plays g c =
    let at0 = at-rest (at-begin (place_rest c.args.name c.args.account c.args.side c.args.price c.args.sweep.now) (g.T.TxCalls.acts c.args.t.now)) (clear-places c.args.name c.args.account c.args.side c.args.price c.args.sweep.now c.if-not-sweep.false) in
    let at1 = at-more at0 (rw c.packed-order.ensures at c.in_ok-insert.ensures.ok) in
    let at2 = at-more at1 (rw c.level-level.ensures.level at c.in_ok-enqueue.ensures.ok) in
    let raised = rw c.level-level.ensures.level at c.in_ok-raise_level.ensures.plays in
    (raised.0, at-done (at-part (λ _. done c.args.sweep.now.rest) at2 raised.1))
