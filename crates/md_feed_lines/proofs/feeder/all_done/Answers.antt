use Rattle.std.proofs.Common.{All, subst, take, take_all, arith}
use Rattle.std.proofs.lemmas.List.Elements.{All-more}
use Rattle.md_feed_lines.specs.Feeding.{IsFed}
use Rattle.md_feed_lines.proofs.feeder.all_done.Goals as goal

pub feeds-preserved : goal.feeds-preserved
feeds-preserved c =
    All-more IsFed c.args.feeds.now c.feeds.feed-index c.feed-item.result (omega arith) c.feeds.invariant
    (subst IsFed c.feed-item.is (c.is_done.ensures c.if-not-is_done.false))

pub returns : goal.returns
returns c = λ same.
    subst (All IsFed) (take_all c.feeds.feed-index c.args.feeds.now (omega arith)) c.feeds.invariant
