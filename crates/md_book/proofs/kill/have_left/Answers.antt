use Rattle.std.proofs.Common.{◌+◌, ◌-◌, drop, sym, ap, ◌∙◌}
use Rattle.std.proofs.lemmas.Result.{err_from_is_err_and}
use Rattle.std.proofs.lemmas.List.{drop_all}
use Rattle.md_history.specs.ScriptLaws.{at-rest, at-more, at-broke, at-done}
use Rattle.md_book.specs.Stands.{left_in}
use Rattle.md_book.specs.Killing.{have_left}
use Rattle.md_book.proofs.looks.Lookups.{value_or_0-unwrap, have_left-none, have_left-last, have_left-more}
use Rattle.md_book.proofs.kill.have_left.Goals as goal
use Rattle.md_book.proofs.kill.have_left.Goals.{else-loop-name-test, then-loop-name-test+then-lacking-eq0}

pub returns-in_err-get-clause-plays : goal.returns-in_err-get-clause-plays
returns-in_err-get-clause-plays g c =
    let p = err_from_is_err_and c.from_residual.result c.from_residual.ensures.1 in
    let at0 = at-rest c.loop-name.invariant.at (have_left-more c.loop-name.lacking c.args.names.now c.loop-name.name-index c.loop-name-test.true c.if-lacking-eq0.false) in
    rw (p.1, p.2) (at-broke at0 c.in_err-get.ensures.err c.loop-name.invariant.going)

pub loop-name-preserved : goal.loop-name-preserved
loop-name-preserved g c =
    let at0 = at-rest c.loop-name.invariant.at (have_left-more c.loop-name.lacking c.args.names.now c.loop-name.name-index c.loop-name-test.true c.if-lacking-eq0.false) in
    let found = value_or_0-unwrap c.in_ok-get.field-0 ∙ sym c.unwrap_or-order.ensures in
    let less = c.saturating_sub-lacking.ensures ∙ ap (λ n. c.loop-name.lacking - n) c.left_in.ensures in
    record {
      at = at-rest (at-more at0 c.in_ok-get.ensures.ok) (ap (λ n. have_left n (drop (c.loop-name.name-index + 1) c.args.names.now)) (ap (λ v. c.loop-name.lacking - left_in v) found ∙ sym less));
      going = c.in_ok-get.ensures.ok.goes_on;
      kept = c.get.ensures.kept ∙ c.loop-name.invariant.kept;
    }

pub returns-clause-plays : goal.returns-clause-plays
returns-clause-plays g c =
    let names = drop c.loop-name.name-index c.args.names.now in
    elim c.loop-name-test.branch [
      | else-loop-name-test w ↦ (c.loop-name.invariant.going, at-done (at-rest c.loop-name.invariant.at (have_left-last c.loop-name.lacking names (drop_all c.loop-name.name-index c.args.names.now w.loop-name-test.false))))
      | then-loop-name-test+then-lacking-eq0 w ↦ (c.loop-name.invariant.going, at-done (at-rest c.loop-name.invariant.at (have_left-none c.loop-name.lacking names w.if-lacking-eq0.true)))
    ]
