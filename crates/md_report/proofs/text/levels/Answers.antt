use Rattle.std.proofs.Common.{◌∙◌, ◌++◌, ◌+◌, ap}
use Rattle.md_book.specs.declared.maps.TheConstants.{DEPTHS}
use Rattle.md_report.specs.Report.{level_text, value_at}
use Rattle.md_report.proofs.Texts.{texts_none, texts_more}
use Rattle.md_report.proofs.text.levels.Goals as goal

pub loop-before-init : goal.loop-before-init
loop-before-init c = texts_none _ _

pub loop-before-preserved : goal.loop-before-preserved
loop-before-preserved c = texts_more _ _ _ _ _ c.loop-before.invariant
    (c.in_ok-level.ensures ∙ ap (λ n. c.loop-before.out.items ++ level_text c.args.side (c.loop-before.before + 1) n) (c.sum_at-depth.ensures ∙ ap (value_at c.args.contents.now DEPTHS) (c.from.ensures ∙ c.level.ensures.level)))
