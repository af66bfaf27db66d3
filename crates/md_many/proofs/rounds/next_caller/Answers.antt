use Rattle.std.proofs.Common.{◌≡◌, ◌≤◌, ◌+◌, inl, inr, arith, ap, subst, sym, ◌∙◌}
use Rattle.std.specs.Prelude.{slice_index_or}
use Rattle.std.proofs.lemmas.Bool.{cases_eq}
use Rattle.md_many_attempts.specs.ByCaller.{at_caller}
use Rattle.md_many.proofs.Coursing.{at-next, within-at}
use Rattle.md_many.proofs.rounds.next_caller.Goals as goal

pub callers-preserved : goal.callers-preserved
callers-preserved g c =
    let i = c.callers.played-index in
    let count = g.L.Lines.line_count c.args.lines.now in
    let is : c.callers.caller ≡ i = c.callers.invariant.caller in
    let same : 0 + 1 + i ≡ c.callers.caller + 1 = omega (arith, is) in
    let within : slice_index_or c.args.done.now i 0 ≤ count (c.callers.caller + 1) =
    subst (λ k. slice_index_or c.args.done.now i 0 ≤ count k) same
    (within-at count 0 c.args.done.now c.requires.within i c.callers-test.true) in
    let here : at_caller 0 c.args.done.now (c.callers.caller + 1) ≡ count (c.callers.caller + 1) =
    ap (λ k. at_caller 0 c.args.done.now (k + 1)) is ∙ at-next c.args.done.now i
    ∙ omega (arith, within, c.if-played-len.false, c.len.ensures) in
    record {
      caller = omega (arith, is);
      whole = λ caller low high. elim (cases_eq caller (c.callers.caller + 1)) [
        | inl last ↦ subst (λ k. at_caller 0 c.args.done.now k ≡ count k) (sym last) here
        | inr other ↦ c.callers.invariant.whole caller low (omega arith)
      ];
    }
