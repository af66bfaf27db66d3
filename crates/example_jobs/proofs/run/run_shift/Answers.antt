use Rattle.std.proofs.Common.{rules, sym, ap, subst, ◌∙◌}
use Rattle.std.proofs.lemmas.List.FromFn.{length-range_with_len}
use Rattle.md_history.specs.State.{HaveSameNumbers}
use Rattle.md_words.specs.declared.shape.Shape.{Shape}
use Rattle.example_jobs.specs.Jobs.{KeepsJobs}
use Rattle.example_jobs.proofs.Holding.{keeps-first, holds-kept}
use Rattle.example_jobs.proofs.Laws.{moves-lawful}
use Rattle.example_jobs.proofs.run.run_shift.Goals as goal

pub run_lines-requires-clause-laws : goal.run_lines-requires-clause-laws
run_lines-requires-clause-laws g c κs within = moves-lawful

pub run_lines-requires-clause-engine : goal.run_lines-requires-clause-engine
run_lines-requires-clause-engine g c κs within = record {
  of = search rules;
  fresh = search rules;
  lanes = length-range_with_len 0 c.in-Ok.store.origin.shape.lanes ∙ ap (λ (s : Shape). s.lanes) c.in-Ok.ensures.shape
      ∙ c.shape_of.ensures.0;
  good = subst (λ s. KeepsJobs s s) (sym c.in-Ok.ensures.start) (keeps-first c.args.jobs c.args.start.now c.requires.start);
  bounds = search rules;
  tries = search rules;
  room = search rules;
}

pub returns-clause-holds : goal.returns-clause-holds
returns-clause-holds g c =
    let many = c.in_ok-many in
    holds-kept c.args.jobs c.args.start.now many.many.contents c.requires.start
    (subst (HaveSameNumbers many.many.contents) c.in-Ok.ensures.start many.ensures.numbers)
    (subst (λ s. KeepsJobs s many.many.contents) c.in-Ok.ensures.start many.ensures.each_line_once.stands)
