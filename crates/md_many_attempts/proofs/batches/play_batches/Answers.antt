use Rattle.std.proofs.Common.{◌≡◌, ◌≤◌, length, refl, sym, ap, subst, ◌∙◌, arith}
use Rattle.std.proofs.lemmas.List.{length-append}
use Rattle.std.proofs.lemmas.Result.{IfOk-from_err}
use Rattle.md_many_attempts.specs.Batches.{BatchEndsBy}
use Rattle.md_many_attempts.specs.Meaning.{meaning_of}
use Rattle.md_many_attempts.specs.Turns.{stretch}
use Rattle.md_many_attempts.proofs.Playing.{attempted-none, played-none}
use Rattle.md_many_attempts.proofs.Following.{plays-then, attempted-then}
use Rattle.md_many_attempts.proofs.Ending.{told-then, ends-then, vain-none, vain-then}
use Rattle.md_many_attempts.proofs.batches.play_batches.Goals as goal

pub batches-init : goal.batches-init
batches-init g c = record {
  of = c.requires.of;
  fated = c.pass_is_legal.ensures.legal.fated;
  lanes = refl;
  pending = refl;
  lines = rw c.new-replies.ensures (played-none _ _ _ _).plays;
  attempts = omega (arith, (attempted-none (g.E.Engine.front c.args.pass.now)).few);
  done = omega (arith, ap length c.new-replies.ensures);
  within = c.requires.turn.done;
  gate = λ line after before. absurd (omega arith);
  vain = vain-none _ _ _ _ _ _ _ c.requires.of c.new-replies.ensures c.new-streak.ensures;
  below = omega (arith, c.new-streak.ensures);
  most = omega arith;
  each = omega (arith, ap length c.new-replies.ensures);
  counted = refl;
}

-- the batch's replies behind those of the batches before it
pub batches-preserved : goal.batches-preserved
batches-preserved g c =
    let was = c.batches.invariant in
    let pass = c.attempt_batch.ensures.pass in
    let more = c.attempt_batch.ensures.turn in
    let all = c.in_ok-append.ensures in
    let count = ap length all ∙ length-append (g.T.ReplyList.listed c.batches.replies) c.attempt_batch.new.replies.items in
    let len : c.len.result ≡ length c.attempt_batch.new.replies.items =
    c.len.ensures ∙ c.attempt_batch.new.replies.ok.0 in
    let whole = subst (λ end. BatchEndsBy (stretch g.E.Engine c.args.engine.now
    (meaning_of g.L.B.Body g.L.Lines c.args.lines.now)
    (record { caller = c.args.turn.caller; done = c.batches.done; attempts = c.min-attempts.result })
    c.batches.pass c.attempt_batch.new.pass c.attempt_batch.new.replies.items) c.batches.streak.conflicts end
    c.in_ok-end.after.conflicts) c.in-Attempts.is c.in_ok-end.ensures.end.end in
    record {
      of = pass.of;
      fated = c.pass_is_legal-in-batches.ensures.legal.fated;
      lanes = pass.lanes ∙ was.lanes;
      pending = pass.pending ∙ was.pending;
      lines = rw all (plays-then _ _ _ _ _ _ _ _ _ was.lines was.lanes more.lines was.fated was.done);
      attempts = omega (
        arith,
        c.min-attempts.ensures,
        was.attempts,
        attempted-then _ _ _ _ _ _ _ _ _ was.lines was.lanes more.lines was.fated _ more.attempts,
      );
      done = omega (arith, count, len, was.done);
      within = omega (arith, len, more.within);
      gate = told-then _ _ c.batches.done _ was.gate
          (λ line after before. more.gate line after (omega (arith, before, len)));
      vain = rw all (vain-then _ _ _ _ _ _ _ _ _ _ _ _ was.lines was.lanes was.fated was.done was.vain _ whole.in_row);
      below = whole.few;
      most = omega (arith, count, was.most, whole.most);
      each = omega (arith, count, was.each, more.begun.each);
      counted = omega (arith, was.counted, whole.all, c.min-attempts.ensures);
    }

pub returns-in_default : goal.returns-in_default
returns-in_default g c =
    let was = c.batches.invariant in
    let pass = c.attempt_batch.ensures.pass in
    let more = c.attempt_batch.ensures.turn in
    let all = c.in_ok-append.ensures in
    let count = ap length all ∙ length-append (g.T.ReplyList.listed c.batches.replies) c.attempt_batch.new.replies.items in
    record {
      pass = record {
        of = pass.of;
        lanes = pass.lanes ∙ was.lanes;
        pending = pass.pending ∙ was.pending;
      };
      turn = record {
        lines = rw all (plays-then _ _ _ _ _ _ _ _ _ was.lines was.lanes more.lines was.fated was.done);
        within = omega (arith, count, was.done, more.within);
        few = omega (arith, count, was.done, more.few);
        attempts = omega (
          arith,
          c.min-attempts.ensures,
          was.attempts,
          attempted-then _ _ _ _ _ _ _ _ _ was.lines was.lanes more.lines was.fated _ more.attempts,
        );
        begun = record {
          each = omega (arith, count, was.each, more.begun.each);
          most = omega (arith, was.counted, more.begun.most, c.min-attempts.ensures);
          few = omega (arith, count, was.most, c.attempt_batch.ensures.end.few);
        };
        gate = λ line after before. told-then _ _ c.batches.done _ was.gate more.gate line after
            (omega (arith, before, count, was.done));
      };
      end = rw all (ends-then _ _ _ _ _ _ _ _ _ _ _ _ was.lines was.lanes was.fated was.done was.vain _ _
          c.in_default.not-Attempts c.in_ok-end.ensures.end.end);
    }

pub returns-in_err-more : goal.returns-in_err-more
returns-in_err-more g c =
    let was = c.batches.invariant in
    let err = c.from_residual.ensures.0 in
    record {
      pass = record { of = was.of; lanes = was.lanes; pending = was.pending };
      turn = IfOk-from_err _ _ err;
      end = IfOk-from_err _ _ err;
    }

pub returns-in_err-end : goal.returns-in_err-end
returns-in_err-end g c =
    let was = c.batches.invariant in
    let pass = c.attempt_batch.ensures.pass in
    let err = c.from_residual-in_err-end.ensures.0 in
    record {
      pass = record { of = pass.of; lanes = pass.lanes ∙ was.lanes; pending = pass.pending ∙ was.pending };
      turn = IfOk-from_err _ _ err;
      end = IfOk-from_err _ _ err;
    }

pub returns-in_err-append : goal.returns-in_err-append
returns-in_err-append g c =
    let was = c.batches.invariant in
    let pass = c.attempt_batch.ensures.pass in
    let err = c.from_residual-in_err-append.ensures.0 in
    record {
      pass = record { of = pass.of; lanes = pass.lanes ∙ was.lanes; pending = pass.pending ∙ was.pending };
      turn = IfOk-from_err _ _ err;
      end = IfOk-from_err _ _ err;
    }

pub returns : goal.returns
returns g c =
    let was = c.batches.invariant in
    record {
      pass = record { of = was.of; lanes = was.lanes; pending = was.pending };
      turn = record {
        lines = was.lines;
        within = omega (arith, was.done, was.within);
        few = omega (arith, was.done, was.within, c.len-count.ensures);
        attempts = omega (arith, was.attempts);
        begun = record { each = was.each; most = omega (arith, was.counted); few = omega (arith, was.most, was.below) };
        gate = λ line after before. was.gate line after (subst (λ n. line ≤ n) (sym was.done) before);
      };
      end = omega (arith, was.counted, c.batches-test.false);
    }
