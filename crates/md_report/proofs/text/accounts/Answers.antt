use Rattle.std.proofs.Common.{◌∙◌, ◌++◌, ◌+◌, ap}
use Rattle.md_book.specs.declared.maps.TheConstants.{BOUGHT, SOLD}
use Rattle.md_report.specs.Report.{account_text, value_at}
use Rattle.md_report.proofs.Texts.{texts_none, texts_more}
use Rattle.md_report.proofs.text.accounts.Goals as goal

pub loop-before-init : goal.loop-before-init
loop-before-init c = texts_none _ _

pub loop-before-preserved : goal.loop-before-preserved
loop-before-preserved c = texts_more _ _ _ _ _ c.loop-before.invariant
    (c.in_ok-account.ensures
    ∙ ap (λ n. c.loop-before.out.items ++ account_text (c.loop-before.before + 1) n c.sum_at-sold.result) (c.sum_at-bought.ensures ∙ ap (value_at c.args.contents.now BOUGHT) c.from.ensures)
    ∙ ap (λ n. c.loop-before.out.items ++ account_text (c.loop-before.before + 1) (value_at c.args.contents.now BOUGHT (c.loop-before.before + 1)) n) (c.sum_at-sold.ensures ∙ ap (value_at c.args.contents.now SOLD) c.from-in-loop-before.ensures))
