use Rattle.std.proofs.Common.{◌∙◌, arith, refl}
use Rattle.std.proofs.lemmas.Result.{err_from_is_err_and}
use Rattle.md_history.specs.ScriptLaws.{at-begin}
use Rattle.md_history_loops.specs.Loops.{try_fold}
use Rattle.md_history_loops.proofs.Looping.{at-step, at-broke_step, at-end}
use Rattle.medley_bench.specs.declared.draws.Call.TheVariants.{Get}
use Rattle.medley_bench.specs.Bursts.{count_hit}
use Rattle.medley_bench.proofs.bursts.count_hits.Goals as goal

pub loop-i-init : goal.loop-i-init
loop-i-init g c = record {
  at = at-begin (try_fold count_hit c.args.calls.now 0) (g.T.TxCalls.acts c.args.t.now);
  few = omega arith;
  going = c.requires.going;
  kept = refl;
}

pub returns-in_err-hits-clause-plays : goal.returns-in_err-hits-clause-plays
returns-in_err-hits-clause-plays g c =
    let p = err_from_is_err_and c.from_residual.result c.from_residual.ensures.1 in
    rw (p.1, p.2) (at-broke_step count_hit c.args.calls.now c.loop-i.i c.loop-i.hits c.loop-i.invariant.at (Get 0) (omega (arith, c.loop-i-test.true)) c.in_err-hits.ensures.plays)

pub loop-i-preserved : goal.loop-i-preserved
loop-i-preserved g c = record {
  at = at-step count_hit c.args.calls.now c.loop-i.i c.loop-i.hits c.loop-i.invariant.at (Get 0) (omega (arith, c.loop-i-test.true)) c.in_ok-hits.ensures.plays.1;
  few = omega (arith, c.in_ok-hits.ensures.few, c.loop-i.invariant.few);
  going = c.in_ok-hits.ensures.plays.0;
  kept = c.count_hit.ensures.kept ∙ c.loop-i.invariant.kept;
}

pub returns-clause-plays : goal.returns-clause-plays
returns-clause-plays g c = (
  c.loop-i.invariant.going,
  at-end count_hit c.args.calls.now c.loop-i.i c.loop-i.hits c.loop-i.invariant.at (omega (arith, c.loop-i-test.false)),
)
