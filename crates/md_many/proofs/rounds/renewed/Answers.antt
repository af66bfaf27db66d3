use Rattle.std.proofs.Common.{rules, ◌≡◌, ◌∙◌, ap, arith, length, sym}
use Rattle.std.proofs.lemmas.Bool.{false≢true}
use Rattle.std.proofs.lemmas.List.{length_push, map_push}
use Rattle.std.proofs.lemmas.Result.{IfOk-from_err}
use Rattle.md_history.specs.Engine.{empty_front}
use Rattle.md_many.proofs.Coursing.{has-room, stands-renewed}
use Rattle.md_many.proofs.rounds.renewed.Goals as goal

pub renew-requires-clause-room : goal.renew-requires-clause-room
renew-requires-clause-room g c =
    let course = c.requires.course in
    has-room course.stands course.laws c.pass_is_legal.ensures _ course.runs.room

pub returns-clause-course : goal.returns-clause-course
returns-clause-course g c =
    let course = c.requires.course in
    let empty : g.E.Engine.front c.in_ok-engine.pass ≡ empty_front (g.E.Engine.lanes c.in_ok-engine.engine) =
    assumption in
    record {
      of = c.in_ok-engine.ensures.first.of;
      laws = course.laws;
      runs = search rules;
      stands = rw (c.in_ok-push.ensures.items, map_push g.E.Engine.front c.args.course.fronts.items c.in_ok-engine.front)
          (stands-renewed course.stands course.laws c.pass_is_legal.ensures (g.E.Engine.front c.in_ok-engine.front) _ _ _
          c.in_ok-engine.ensures.ended.settled c.in_ok-engine.ensures.ended.contents c.in_ok-engine.ensures.lanes empty);
    }

pub returns-in_err-engine : goal.returns-in_err-engine
returns-in_err-engine g c =
    let err = c.from_residual.ensures.0 in
    record {
      course = IfOk-from_err _ _ err;
      done = IfOk-from_err _ _ err;
      fresh = λ worn. IfOk-from_err _ _ err;
      empty = λ worn. IfOk-from_err _ _ err;
      fronts = IfOk-from_err _ _ err;
      kept = λ awake. IfOk-from_err _ _ err;
    }

pub returns-in_err-push : goal.returns-in_err-push
returns-in_err-push g c =
    let err = c.from_residual-in_err-push.ensures.0 in
    record {
      course = IfOk-from_err _ _ err;
      done = IfOk-from_err _ _ err;
      fresh = λ worn. IfOk-from_err _ _ err;
      empty = λ worn. IfOk-from_err _ _ err;
      fronts = IfOk-from_err _ _ err;
      kept = λ awake. IfOk-from_err _ _ err;
    }

pub returns-then-not-course-clause-fresh : goal.returns-then-not-course-clause-fresh
returns-then-not-course-clause-fresh g c = search rules depth 1

pub returns-then-not-course-clause-empty : goal.returns-then-not-course-clause-empty
returns-then-not-course-clause-empty g c = λ worn. absurd (false≢true (sym c.if-not-course.true ∙ worn))

pub returns-clause-fronts : goal.returns-clause-fronts
returns-clause-fronts g c =
    omega (arith, ap length c.in_ok-push.ensures.items, length_push c.args.course.fronts.items c.in_ok-engine.front)

pub returns-clause-kept : goal.returns-clause-kept
returns-clause-kept g c = λ awake. absurd (false≢true (sym awake ∙ c.if-not-course.false))
