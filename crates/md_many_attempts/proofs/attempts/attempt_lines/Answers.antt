use Rattle.std.proofs.lemmas.Result.{IfOk-from_err}
use Rattle.md_many_attempts.specs.Meaning.{meaning_of}
use Rattle.md_many_attempts.proofs.Ending.{ends-alone}
use Rattle.md_many_attempts.proofs.Trying.{on-err}
use Rattle.md_many_attempts.proofs.attempts.attempt_lines.Goals as goal

pub returns-clause-end : goal.returns-clause-end
returns-clause-end g c = record {
  end = ends-alone g.E.Engine c.args.engine.now (meaning_of g.L.B.Body g.L.Lines c.args.lines.now) c.args.turn
      c.args.pass.now _ _ c.attempt_batch.new.pass c.attempt_batch.new.replies.items c.in_ok-end.end c.requires.of
      c.new-streak.ensures c.in_ok-end.ensures.end.end;
  no_memory = tt;
}

pub returns-in_err-end-clause-end : goal.returns-in_err-end-clause-end
returns-in_err-end-clause-end g c = record {
  end = IfOk-from_err _ _ c.from_residual.ensures.0;
  no_memory = on-err _ _ c.in_err-end.ensures.end.no_memory;
}
