use Rattle.std.proofs.Common.{◌≡◌, ◌≤◌, ◌+◌, inl, inr, arith, subst, sym, ◌∙◌}
use Rattle.std.specs.Prelude.{slice_index_or}
use Rattle.std.proofs.lemmas.Bool.{cases_eq}
use Rattle.md_many_attempts.specs.ByCaller.{at_caller}
use Rattle.md_many.proofs.Coursing.{at-next, within-at}
use Rattle.md_many.proofs.rounds.is_lone.Goals as goal

pub others-preserved : goal.others-preserved
others-preserved g c other low high =
    let i = c.others.before in
    let count = g.L.Lines.line_count c.args.lines.now in
    let within : slice_index_or c.args.done.now i 0 ≤ count (0 + 1 + i) =
    within-at count 0 c.args.done.now c.requires.within i c.others-test.true in
    let most : slice_index_or c.args.done.now i 0 ≤ count (i + 1) = subst (λ k. slice_index_or c.args.done.now i 0 ≤ count k) (omega arith) within in
    let here : at_caller 0 c.args.done.now (i + 1) ≡ count (i + 1) =
    at-next c.args.done.now i ∙ omega (arith, most, c.if-done-before.false, c.len.ensures) in
    elim (cases_eq other (i + 1)) [
      | inl last ↦ subst (λ k. at_caller 0 c.args.done.now k ≡ count k) (sym last) here
      | inr earlier ↦ c.others.invariant other low (omega (arith, high, earlier))
    ]
