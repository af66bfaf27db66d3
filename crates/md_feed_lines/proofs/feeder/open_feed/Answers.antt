use Rattle.std.proofs.Common.{◌≡◌, ◌∙◌, ◌++◌, ◌∷◌, [], map, ap, ap₂, arith, rules}
use Rattle.md_feed_lines.specs.Feeding.{feed_of}
use Rattle.md_feed_lines.proofs.Feeding.{feeds-more}
use Rattle.md_feed_lines.proofs.feeder.open_feed.Goals as goal

pub loop-before-preserved : goal.loop-before-preserved
loop-before-preserved g c =
    let pushed : c.push.new.self.items ≡ c.loop-before.feeds.items ++ c.new.result ∷ [] = search rules in
    let whose = ap₂ (λ p n. (p, n)) c.new.ensures.0 c.new.ensures.1 in (
      search rules,
      ap (map feed_of) pushed
          ∙ feeds-more c.args.plan c.loop-before.feeds.items c.loop-before.before c.new.result c.loop-before.invariant.1 whose,
    )
