use Rattle.std.proofs.Common.{sym, subst, ◌∙◌}
use Rattle.md_words.specs.declared.shape.Shape.{Shape}
use Rattle.md_rule.specs.Kept.{KeepsLane}
use Rattle.md_rule_lanes.specs.Shares.{share_at}
use Rattle.md_nbtc_law.proofs.beginning.TakingOut.{empties_closed}
use Rattle.md_nbtc_sets.proofs.begin.take_left_out.Goals as goal

pub returns-else-left_open-clause-empty : goal.returns-else-left_open-clause-empty
returns-else-left_open-clause-empty g c =
    let p = c.args.pass.now.view in
    let taken = c.requires.taken in
    let kept = subst (λ (h : Shape). KeepsLane h p (record (share_at c.args.pass.now.shares c.args.desc) { tries_taken = taken.count }) c.args.desc) c.requires.of.shape taken.kept in
    empties_closed c.args.field.now.origin.shape c.args.desc p (kept.clean (sym c.left_open.ensures ∙ c.if-left_open.false))
