use Rattle.std.proofs.Common.{◌∙◌, ap, ap₂, arith, rules}
use Rattle.md_feed_lines.proofs.Feeding.{feeds-set}
use Rattle.md_feed_lines.proofs.feeder.feed_all.Goals as goal

pub loop-at-preserved : goal.loop-at-preserved
loop-at-preserved g c = (
  feeds-set c.loop-at.feeds.items _ c.index_mut.result.now c.steps-step.new.self c.index_mut.ensures.value
      (ap₂ (λ p n. (p, n)) c.steps-step.ensures.0 c.steps-step.ensures.1) ∙ c.loop-at.invariant.0,
  search rules,
)
