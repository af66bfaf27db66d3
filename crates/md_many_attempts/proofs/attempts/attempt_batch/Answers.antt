use Rattle.std.proofs.Common.{◌≡◌, ◌<◌, ◌+◌, ◌∙◌, length, ap, sym, subst, refl, inl, inr, arith}
use Rattle.std.proofs.lemmas.Bool.{cases_eq}
use Rattle.std.proofs.lemmas.List.{length_push}
use Rattle.std.proofs.lemmas.Result.{IfOk-from_err}
use Rattle.md_history.specs.Engine.{bounds_in}
use Rattle.md_many_attempts.specs.Lines.{IsSmallLine}
use Rattle.md_many_attempts.specs.Meaning.{meaning_of}
use Rattle.md_many_attempts.specs.declared.attempts.TheConstants.{MOST_CONFLICTS}
use Rattle.md_many_attempts.proofs.Playing.{played-none, played-stopped, played-more}
use Rattle.md_many_attempts.proofs.Ending.{has-counted, most-played}
use Rattle.md_many_attempts.proofs.Retrying.{no_conflict, conflict_counted, stop_counted}
use Rattle.md_many_attempts.proofs.Trying.{if-none, if-some, on-err, one_more, other-end, same-of, some-of, tried-line, tried-vain, by-conflict, row-none, row-more, row-anew, ends-on}
use Rattle.md_many_attempts.proofs.attempts.attempt_batch.Goals as goal
use Rattle.md_many_attempts.proofs.attempts.attempt_batch.Goals.{in-None, in-Some-try_line+in_ok-end-in-Some-try_line+in_default-2}

pub attempts-init : goal.attempts-init
attempts-init g c = record {
  of = c.requires.of;
  fated = c.pass_is_legal.ensures.legal.fated;
  lines = rw c.requires.replies.empty (played-none _ _ _ _);
  within = omega (arith, c.requires.batch.turn.done, ap length c.requires.replies.empty);
  few = omega (arith, ap length c.requires.replies.empty);
  below = c.requires.batch.few;
  most = omega arith;
  in_row = row-none _ _ _ _ _ _ _ c.requires.replies.empty;
  room = omega arith;
  counted = omega arith;
  gate = λ line after before. absurd (omega (arith, ap length c.requires.replies.empty));
  begun = λ none. refl;
  first = λ fresh tries small some. absurd (omega arith);
  steady = λ stops. ap length c.requires.replies.empty;
}

pub attempts-preserved : goal.attempts-preserved
attempts-preserved g c =
    let was = c.attempts.invariant in
    let done = c.args.batch.turn.done in
    let rs = c.attempts.replies.items in
    let at : c.in-Some.line ≡ done + length rs + 1 =
    omega (arith, c.in-Some.ensures.line, c.len.ensures, c.attempts.replies.ok.0) in
    let inside : done + length rs < g.L.Lines.line_count c.args.lines.now c.args.batch.turn.caller =
    omega (arith, at, c.in-Some.ensures.left, c.len-count.ensures) in
    elim c.match-try_line.branch [
      | in-None w ↦
          let adds = w.in-None.ensures.committed in
          let count : length c.try_line.new.replies.items ≡ length rs + 1 = ap length adds.more ∙ length_push rs adds.reply in
          let tried = tried-line (g.L.Lines.line_count c.args.lines.now c.args.batch.turn.caller) done
          c.args.batch.streak.conflicts (length rs) c.attempts.conflicts c.attempts.tried (g.E.Engine.begun c.args.pass.now) (g.E.Engine.begun c.attempts.pass)
          (length c.try_line.new.replies.items) c.match-try_line.conflicts (g.E.Engine.begun c.try_line.new.pass)
          was.few was.below was.most was.counted adds.counted count w.conflicts-is inside in
          let lines = played-more _ _ _ _ c.attempts.tried c.in-Some.line adds.body adds.reply _ _ rs
          was.lines was.fated at adds.there adds.commits in
          record {
            of = c.try_line.ensures.of;
            fated = adds.commits.fated;
            lines = rw adds.more lines;
            within = tried.within;
            few = tried.few;
            below = subst (λ n. n < MOST_CONFLICTS) (sym w.conflicts-is) (omega arith);
            most = tried.most;
            in_row = row-anew _ _ _ _ _ _ _ _ _ c.try_line.ensures.of (rw adds.more lines.plays) w.conflicts-is;
            room = omega (arith, was.room, c.try_line.ensures.room);
            counted = tried.counted;
            gate = one_more (g.G.Gate.after_called c.args.gate.now c.args.batch.turn.caller) _ (done + length rs) was.gate
                (subst (g.G.Gate.after_called c.args.gate.now c.args.batch.turn.caller) at adds.told_of_it) _ (omega (arith, count));
            begun = λ none. absurd (omega arith);
            first = λ fresh tries small some. omega (arith, count);
            steady = λ stops. count ∙ ap (λ n. n + 1) (was.steady stops);
          }
      | in-Some-try_line+in_ok-end-in-Some-try_line+in_default-2 w ↦
          let here = w.in-Some-try_line.ensures in
          let met = if-none _ w.in_default-2.is w.in_ok-end-in-Some-try_line.ensures.again in
          let tried = tried-vain (g.L.Lines.line_count c.args.lines.now c.args.batch.turn.caller) done
          c.args.batch.streak.conflicts (length rs) c.attempts.conflicts c.attempts.tried (g.E.Engine.begun c.args.pass.now) (g.E.Engine.begun c.attempts.pass)
          (length c.try_line.new.replies.items) c.match-try_line.conflicts (g.E.Engine.begun c.try_line.new.pass)
          was.few was.below was.most was.counted (conflict_counted _ _ _ met.met here.stopped.counted) (ap (λ v. length v.items) here.same)
          (w.conflicts-is ∙ met.more) was.within in
          record {
            of = c.try_line.ensures.of;
            fated = here.stopped.stops.fated;
            lines = rw here.same
                (played-stopped _ _ _ _ c.attempts.tried _ _ _ rs was.lines was.fated here.stopped.stops);
            within = tried.within;
            few = tried.few;
            below = subst (λ n. n < MOST_CONFLICTS) (sym w.conflicts-is) met.few;
            most = tried.most;
            in_row = rw here.same (row-more _ _ _ _ _ _ _ _ _ _ _ was.in_row
                (by-conflict _ _ _ c.args.batch.turn _ _ _ _ _ _ met.met at here.stopped) (w.conflicts-is ∙ met.more));
            room = omega (arith, was.room, c.try_line.ensures.room);
            counted = tried.counted;
            gate = rw here.same was.gate;
            begun = λ none. absurd (omega arith);
            first = λ fresh tries small some. elim (cases_eq c.attempts.tried 0) [
              | inl none ↦
                  let line : done + 1 ≡ c.in-Some.line = omega (arith, none, was.few, at) in
                  let is_fresh = subst (g.E.Engine.fresh c.args.engine.now) (sym (was.begun none)) fresh in
                  let is_small = subst (λ n. IsSmallLine (bounds_in (g.E.Engine.limits c.args.engine.now))
                  (meaning_of g.L.B.Body g.L.Lines c.args.lines.now) c.args.batch.turn.caller n (g.E.Engine.start c.args.engine.now)) line small in
                  some-of _ (no_conflict (sym met.met ∙ here.stopped.small is_fresh tries is_small))
              | inr later ↦ rw here.same (was.first fresh tries small (omega arith))
            ];
            steady = λ stops. same-of _ _ (no_conflict (sym met.met ∙ stops _ here.stopped.may));
          }
    ]

-- the caller has no line left
pub returns-in_default : goal.returns-in_default
returns-in_default g c =
    let was = c.attempts.invariant in
    let all : c.args.batch.turn.done + length c.attempts.replies.items ≡ g.L.Lines.line_count c.args.lines.now c.args.batch.turn.caller =
    omega (arith, c.in_default.ensures.none, c.len.ensures, c.attempts.replies.ok.0, c.len-count.ensures) in
    let counted = has-counted c.args.batch.turn _ _ _ _ _ 0 c.attempts.tried _ _ _ (g.E.Engine.begun c.attempts.pass)
    was.within (omega (arith, c.len-count.ensures)) was.few was.below was.most was.counted (omega arith) (omega arith)
    (omega (arith, c.attempts-test.true)) was.lines.attempted.few (omega arith, omega arith) in
    record {
      pass = record {
        of = was.of;
        lanes = was.lines.attempted.lanes;
        pending = was.lines.attempted.pending;
      };
      turn = record {
        lines = was.lines.plays;
        within = counted.within;
        few = counted.few;
        attempts = counted.attempts;
        begun = counted.begun;
        gate = was.gate;
      };
      enough = record {
        first = λ fresh tries small some. omega (arith, some, all);
        steady = λ stops. omega (arith, was.steady stops, all, c.attempts-test.true);
      };
      end = record {
        few = counted.few_attempts;
        end = all;
        no_memory = tt;
      };
      room = was.room;
    }

-- memory ran out
pub returns-in_err-end-in-Some-try_line : goal.returns-in_err-end-in-Some-try_line
returns-in_err-end-in-Some-try_line g c =
    let was = c.attempts.invariant in
    let here = c.in-Some-try_line.ensures in
    let more = played-stopped _ _ _ _ _ _ _ _ _ was.lines was.fated here.stopped.stops in
    let counted = has-counted c.args.batch.turn _ _ _ _ _ 1 _ _ _ _ _ was.within (omega (arith, c.len-count.ensures))
    was.few was.below was.most was.counted refl (omega arith) (omega (arith, c.attempts-test.true)) more.attempted.few
    (stop_counted _ _ _ here.stopped.counted) in
    let err = c.from_residual.ensures.0 in
    rw here.same (record {
      pass = record {
        of = c.try_line.ensures.of;
        lanes = more.attempted.lanes;
        pending = more.attempted.pending;
      };
      turn = record {
        lines = more.plays;
        within = counted.within;
        few = counted.few;
        attempts = counted.attempts;
        begun = counted.begun;
        gate = was.gate;
      };
      enough = IfOk-from_err _ _ err;
      end = record {
        few = counted.few_attempts;
        end = IfOk-from_err _ _ err;
        no_memory = on-err _ _
            (subst (g.E.Engine.may_stop c.args.engine.now) c.in_err-end-in-Some-try_line.ensures.no_memory here.stopped.may);
      };
      room = was.room;
    })

-- a stop ended the turn
pub returns-in-Some-2 : goal.returns-in-Some-2
returns-in-Some-2 g c =
    let was = c.attempts.invariant in
    let here = c.in-Some-try_line.ensures in
    let on = if-some _ c.in-Some-2.is c.in_ok-end-in-Some-try_line.ensures.end in
    let at : c.in-Some.line ≡ c.args.batch.turn.done + length c.attempts.replies.items + 1 =
    omega (arith, c.in-Some.ensures.line, c.len.ensures, c.attempts.replies.ok.0) in
    let more = played-stopped _ _ _ _ _ _ _ _ _ was.lines was.fated here.stopped.stops in
    let counted = has-counted c.args.batch.turn _ _ _ _ _ 1 _ _ _ _ _ was.within (omega (arith, c.len-count.ensures))
    was.few was.below was.most was.counted refl (omega arith) (omega (arith, c.attempts-test.true)) more.attempted.few
    (stop_counted _ _ _ here.stopped.counted) in
    rw here.same (record {
      pass = record {
        of = c.try_line.ensures.of;
        lanes = more.attempted.lanes;
        pending = more.attempted.pending;
      };
      turn = record {
        lines = more.plays;
        within = counted.within;
        few = counted.few;
        attempts = counted.attempts;
        begun = counted.begun;
        gate = was.gate;
      };
      enough = record {
        first = λ fresh tries small some. elim (cases_eq c.attempts.tried 0) [
          | inl none ↦
              let line : c.args.batch.turn.done + 1 ≡ c.in-Some.line =
              omega (arith, none, was.few, c.in-Some.ensures.line, c.len.ensures, c.attempts.replies.ok.0) in
              let is_fresh = subst (g.E.Engine.fresh c.args.engine.now) (sym (was.begun none)) fresh in
              let is_small = subst (λ n. IsSmallLine (bounds_in (g.E.Engine.limits c.args.engine.now))
              (meaning_of g.L.B.Body g.L.Lines c.args.lines.now) c.args.batch.turn.caller n (g.E.Engine.start c.args.engine.now)) line small in
              some-of _ (other-end _ _ _ on (here.stopped.small is_fresh tries is_small))
          | inr later ↦ was.first fresh tries small (omega arith)
        ];
        steady = λ stops. same-of _ _ (other-end _ _ _ on (stops _ here.stopped.may));
      };
      end = record {
        few = counted.few_attempts;
        end = ends-on _ _ _ _ _ _ _ _ _ _ _ _ _ _ was.in_row on at here.stopped;
        no_memory = tt;
      };
      room = was.room;
    })

pub returns : goal.returns
returns g c =
    let was = c.attempts.invariant in
    let counted = has-counted c.args.batch.turn _ _ _ _ _ 0 c.attempts.tried _ _ _ (g.E.Engine.begun c.attempts.pass)
    was.within (omega (arith, c.len-count.ensures)) was.few was.below was.most was.counted (omega arith) (omega arith)
    (omega arith) was.lines.attempted.few (omega arith, omega arith) in
    record {
      pass = record {
        of = was.of;
        lanes = was.lines.attempted.lanes;
        pending = was.lines.attempted.pending;
      };
      turn = record {
        lines = was.lines.plays;
        within = counted.within;
        few = counted.few;
        attempts = counted.attempts;
        begun = counted.begun;
        gate = was.gate;
      };
      enough = record {
        first = λ fresh tries small some. was.first fresh tries small (omega (arith, c.attempts-test.false, some));
        steady = λ stops. most-played _ _ _ _ _ counted.within (was.steady stops) (omega arith) c.attempts-test.false;
      };
      end = record {
        few = counted.few_attempts;
        end = record {
          all = omega (arith, c.attempts-test.false, was.counted);
          in_row = was.in_row;
          few = was.below;
          most = omega (arith, was.most, was.counted);
        };
        no_memory = tt;
      };
      room = was.room;
    }

pub try_line-requires-clause-of : goal.try_line-requires-clause-of
try_line-requires-clause-of g c κs within = assumption

pub try_line-requires-clause-room : goal.try_line-requires-clause-room
try_line-requires-clause-room g c κs within =
    omega (
      arith,
      c.attempts.invariant.room,
      c.attempts.invariant.few,
      c.attempts.replies.ok.0,
      c.len.ensures,
      c.in-Some.ensures.line,
      c.in-Some.ensures.left,
      c.len-count.ensures,
      c.attempts-test.true,
      c.requires.replies.room,
    )

pub after_stop-requires : goal.after_stop-requires
after_stop-requires g c = assumption
