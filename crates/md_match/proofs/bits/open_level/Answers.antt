use Rattle.std.proofs.Common.{cond, ap, Bool, ℕ}
use Rattle.std.proofs.lemmas.Result.{err_from_is_err_and}
use Rattle.md_history.specs.Script.{Script, done, bind}
use Rattle.md_history.specs.ScriptLaws.{at-begin, at-rest, at-part, at-broke_part, at-done}
use Rattle.md_match.specs.Scripts.{summary_of, word_of, set_bit, open_level}
use Rattle.md_match.proofs.bits.open_level.Goals as goal

-- what follows once the level's own word is changed
abbrev then_summary : ℕ → Bool → Script (Unit {0})
then_summary level changed = cond changed (bind (set_bit (summary_of level) (word_of level)) (λ _. done tt)) (done tt)

pub returns-in_err-was_empty-clause-plays : goal.returns-in_err-was_empty-clause-plays
returns-in_err-was_empty-clause-plays g c =
    let p = err_from_is_err_and c.from_residual.result c.from_residual.ensures.1 in
    let at0 = at-begin (open_level c.args.level) (g.T.TxCalls.acts c.args.t.now) in
    rw (p.1, p.2) (at-broke_part (then_summary c.args.level) at0 (rw (c.key_of.ensures, c.bit_of.ensures.is) at c.in_err-was_empty.ensures.plays))

pub returns-in_err-set_bit-clause-plays : goal.returns-in_err-set_bit-clause-plays
returns-in_err-set_bit-clause-plays g c =
    let p = err_from_is_err_and c.from_residual-in_err-set_bit.result c.from_residual-in_err-set_bit.ensures.1 in
    let at0 = at-begin (open_level c.args.level) (g.T.TxCalls.acts c.args.t.now) in
    let first = rw (c.key_of.ensures, c.bit_of.ensures.is) at c.in_ok-was_empty.ensures.plays in
    let at1 = at-rest (at-part (then_summary c.args.level) at0 first.1) (ap (then_summary c.args.level) c.if-not-was_empty.false) in
    rw (p.1, p.2) (at-broke_part (λ _. done tt) at1 (rw (c.summary_of.ensures, c.word_of.ensures.is) at c.in_err-set_bit.ensures.plays))

pub returns-clause-plays : goal.returns-clause-plays
returns-clause-plays g c =
    let at0 = at-begin (open_level c.args.level) (g.T.TxCalls.acts c.args.t.now) in
    let first = rw (c.key_of.ensures, c.bit_of.ensures.is) at c.in_ok-was_empty.ensures.plays in
    let at1 = at-rest (at-part (then_summary c.args.level) at0 first.1) (ap (then_summary c.args.level) c.if-not-was_empty.false) in
    let second = rw (c.summary_of.ensures, c.word_of.ensures.is) at c.in_ok-set_bit.ensures.plays in
    (second.0, at-done (at-part (λ _. done tt) at1 second.1))

pub returns-then-not-was_empty-clause-plays : goal.returns-then-not-was_empty-clause-plays
returns-then-not-was_empty-clause-plays g c =
    let at0 = at-begin (open_level c.args.level) (g.T.TxCalls.acts c.args.t.now) in
    let first = rw (c.key_of.ensures, c.bit_of.ensures.is) at c.in_ok-was_empty.ensures.plays in
    (first.0, at-done (at-rest (at-part (then_summary c.args.level) at0 first.1) (ap (then_summary c.args.level) c.if-not-was_empty.true)))
