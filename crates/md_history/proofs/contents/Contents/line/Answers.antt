use Rattle.std.proofs.Common.{ap, arith, ◌∙◌, ◌<◌, length, set}
use Rattle.md_history.specs.declared.acts.TheConstants.{MAX_LINE}
use Rattle.md_history.proofs.Lines.{line-more}
use Rattle.std.proofs.lemmas.Grind.{common_steps}
use Rattle.md_history.proofs.contents.Contents.line.Goals as goal

pub loop-i-preserved : goal.loop-i-preserved
loop-i-preserved c =
    let some : c.loop-i.i < length c.index-items.result.now.items = omega arith in
    let placed : c.loop-i.i < MAX_LINE = omega arith in
    ap (λ values. set values c.loop-i.i c.index.result.now) c.loop-i.invariant
    ∙ line-more MAX_LINE c.index-items.result.now.items c.loop-i.i c.index.result.now placed some c.index.ensures

pub returns : goal.returns
returns c = grind (arith, common_steps)
