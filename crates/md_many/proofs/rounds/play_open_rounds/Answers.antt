use Rattle.std.proofs.Common.{◌≡◌, ◌<◌, ◌^◌, ◌∙◌, length, sym, ap, subst, arith}
use Rattle.std.proofs.lemmas.List.{length-replicate}
use Rattle.std.proofs.lemmas.Result.{IfOk-from_err}
use Rattle.md_history.specs.Engine.{empty_front}
use Rattle.md_many_attempts.specs.ByCaller.{at_caller}
use Rattle.md_many.proofs.Coursing.{stands-first, whole-count, all-played, are-interleaving}
use Rattle.md_many.proofs.Rounding.{left-none}
use Rattle.md_many.proofs.rounds.play_open_rounds.Goals as goal

pub rounds-init : goal.rounds-init
rounds-init g c =
    let engine = c.requires.engine in
    let empty : g.E.Engine.front c.args.pass ≡ empty_front (g.E.Engine.lanes c.args.engine) = assumption in
    let count : c.callers.result ≡ length (g.E.Engine.lanes c.args.engine) = c.callers.ensures ∙ sym engine.lanes in
    let zeros : length c.in_ok-none_done.field-0.items ≡ c.callers.result =
    ap length c.in_ok-none_done.ensures ∙ length-replicate c.callers.result 0 in
    record {
      course = record {
        of = engine.of;
        laws = c.requires.laws;
        runs = engine.runs;
        stands = rw (c.new.ensures.items, c.in_ok-none_done.ensures, count)
            (stands-first _ _ c.requires.laws _ _ _ engine.opening empty c.requires.empty);
      };
      keeper = c.requires.keeper;
      callers = omega (arith, zeros, c.callers.type_inv);
      fronts = rw (c.new.ensures.items, c.in_ok-none_done.ensures, c.callers.ensures)
          (omega (
            arith,
            left-none (g.L.Lines.line_count c.args.play.now.lines.now)
                (g.L.Lines.caller_count c.args.play.now.lines.now),
          ));
      count = zeros ∙ c.callers.ensures;
    }

pub rounds-preserved : goal.rounds-preserved
rounds-preserved g c =
    let round = c.in_ok-course.ensures in
    record {
      course = round.course;
      keeper = c.play_round.ensures.keeper;
      callers = subst (λ n. n < 2 ^ 32) (sym round.callers) c.rounds.invariant.callers;
      fronts = omega (arith, round.fronts, c.rounds.invariant.fronts);
      count = round.callers ∙ c.rounds.invariant.count;
    }

pub returns : goal.returns
returns g c =
    let course = c.rounds.invariant.course in
    let all = whole-count course.stands course.laws c.pass_is_legal.ensures
    (g.L.Lines.caller_count c.args.play.now.lines.now) (sym course.stands.callers ∙ c.rounds.invariant.count)
    ((g.met.L.Lines g.world.𝓛 g.world.𝓜 g.world.𝓡 ((λ s x. x), (λ x. x), (λ x. x), λ x. x)).has_caller c.args.play.now.lines.now)
    (λ caller low high. ap (λ ns. at_caller 0 ns caller) (sym c.deref.ensures.value)
    ∙ c.in_default.ensures.none caller low (omega (arith, high, ap length c.deref.ensures.value))) in
    record {
      pass = record { of = course.of; all = course.stands.all };
      each_line_once = λ fronts contents closed. rw closed.behind
          (all-played course.stands course.laws c.pass_is_legal.ensures closed.last _ closed.settled closed.replay all);
      gate = λ caller line low high. course.stands.gate caller line low (omega (arith, high, all caller));
      interleaving = λ fronts contents closed. rw closed.behind
          (are-interleaving _ _ _
          (all-played course.stands course.laws c.pass_is_legal.ensures closed.last _ closed.settled closed.replay
          all).each);
      fronts = omega (arith, c.rounds.invariant.fronts);
    }

pub returns-in_err-none_done : goal.returns-in_err-none_done
returns-in_err-none_done g c =
    let err = c.from_residual.ensures.0 in
    record {
      pass = IfOk-from_err _ _ err;
      each_line_once = IfOk-from_err _ _ err;
      gate = IfOk-from_err _ _ err;
      interleaving = IfOk-from_err _ _ err;
      fronts = IfOk-from_err _ _ err;
    }

pub returns-in_err-course : goal.returns-in_err-course
returns-in_err-course g c =
    let err = c.from_residual-in_err-course.ensures.0 in
    record {
      pass = IfOk-from_err _ _ err;
      each_line_once = IfOk-from_err _ _ err;
      gate = IfOk-from_err _ _ err;
      interleaving = IfOk-from_err _ _ err;
      fronts = IfOk-from_err _ _ err;
    }
