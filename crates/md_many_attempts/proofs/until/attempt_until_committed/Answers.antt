use Rattle.std.proofs.Common.{arith, rules, refl, subst, sym, ◌∙◌}
use Rattle.md_history.specs.Engine.{IsNoConflict}
use Rattle.md_many_attempts.proofs.Retrying.{stop-none, stop-more, stop-end, commit-end, no_conflict, met-conflict, of-stop, conflict-began, ends-attempts, began-one, may-stop}
use Rattle.md_many_attempts.proofs.until.attempt_until_committed.Goals as goal

pub attempts-init : goal.attempts-init
attempts-init g c = record {
  of = c.requires.of;
  stopped = stop-none _ _ c.pass_is_legal.ensures.legal.fated;
  counted = omega arith;
  again = λ one. absurd (omega (arith, one));
  alone = λ all. refl;
  begun = λ none. refl;
  small = λ fresh tries small. refl;
}

pub returns-in_default : goal.returns-in_default
returns-in_default g c =
    let was = c.attempts.invariant in
    let end = c.attempt-end.ensures in
    let test = c.attempts-test.true in
    let one = began-one c.attempt-end.result _ _ end.begun in
    record {
      atomic = record {
        committed = commit-end _ _ _ _ _ was.stopped _ _ _ (omega arith) end.atomic.committed;
        stopped = stop-end _ _ _ _ _ was.stopped _ _ (omega arith) end.atomic.stopped;
        legal = end.atomic.legal;
      };
      of = end.of;
      begun = record {
        begun = ends-attempts _ _ _ _ _ _ c.in_default.ensures.other was.counted
            (omega arith) end.begun;
        again = λ more. was.again (omega (arith, more, one, was.counted));
        once = λ all. omega (arith, one, was.counted, was.alone all);
      };
      stops = may-stop _ _ _ _ _ end.may_stop (λ all. end.alone (was.stopped.lanes ∙ all))
          (λ fresh tries small. end.small
          (subst (g.E.Engine.fresh c.args.engine.now) (sym (was.begun (was.small fresh tries small))) fresh) tries small);
    }

pub attempts-preserved : goal.attempts-preserved
attempts-preserved g c =
    let was = c.attempts.invariant in
    let end = c.attempt-end.ensures in
    let meets = c.in-Some.ensures.conflict in
    let met = met-conflict c.attempt-end.result meets in
    record {
      of = end.of;
      stopped = stop-more _ _ _ _ _ was.stopped _ (omega arith) (of-stop _ _ _ met.1 end.atomic.stopped);
      counted = omega (arith, was.counted, conflict-began c.attempt-end.result _ _ meets end.begun);
      again = λ one. (met.0, of-stop _ _ _ met.1 end.may_stop);
      alone = λ all. absurd (of-stop IsNoConflict _ _ met.1 (end.alone (was.stopped.lanes ∙ all)) met.0 refl);
      begun = λ none. absurd (omega (arith, none));
      small = λ fresh tries small. absurd (no_conflict (of-stop _ _ _ met.1 (end.small
          (subst (g.E.Engine.fresh c.args.engine.now) (sym (was.begun (was.small fresh tries small))) fresh) tries small)));
    }

pub returns : goal.returns
returns g c =
    let was = c.attempts.invariant in
    let end = c.attempt.ensures in
    let one = began-one c.attempt.result _ _ end.begun in
    record {
      atomic = record {
        committed = commit-end _ _ _ _ _ was.stopped _ _ _ (omega arith) end.atomic.committed;
        stopped = stop-end _ _ _ _ _ was.stopped _ _ (omega arith) end.atomic.stopped;
        legal = end.atomic.legal;
      };
      of = end.of;
      begun = record {
        begun = search rules depth 1;
        again = λ more. was.again (omega (arith, more, one, was.counted));
        once = λ all. omega (arith, one, was.counted, was.alone all);
      };
      stops = may-stop _ _ _ _ _ end.may_stop (λ all. end.alone (was.stopped.lanes ∙ all))
          (λ fresh tries small. end.small
          (subst (g.E.Engine.fresh c.args.engine.now) (sym (was.begun (was.small fresh tries small))) fresh) tries small);
    }
