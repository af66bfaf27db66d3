use Rattle.std.proofs.Common.{◌∙◌, ◌++◌, ap}
use Rattle.md_report.specs.Report.{whole_text}
use Rattle.md_many.proofs.Telling.{told-of}
use Rattle.md_program.proofs.runs.sum_up.Goals as goal

pub returns-clause-gate : goal.returns-clause-gate
returns-clause-gate g c =
    told-of _ (g.G.Gate.after_called c.args.gate.now) _ c.in_ok-played.ensures.played.2.each_once c.in_ok-played.ensures.gate

pub returns-clause-summed : goal.returns-clause-summed
returns-clause-summed g c = record {
  scripts = _;
  made = c.in_ok-scripts.ensures;
  replies = _;
  book = c.in_ok-played.ensures.played.0;
  played = c.in_ok-played.ensures.played.2;
  summary =
      c.in_ok-parts.ensures ∙ ap (λ xs. whole_text xs ++ c.in_ok-text.text.items) c.new.ensures.items
      ∙ c.in_ok-text.ensures.book _ c.in_ok-played.ensures.played.1;
}
