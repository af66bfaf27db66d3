use Rattle.std.proofs.Common.{◌≡◌, ◌<◌, ◌≤◌, ◌+◌, ◌-◌, ◌*◌, ◌∙◌, suc, ap, arith}
use Rattle.std.proofs.lemmas.Nat.{mul-le}
use Rattle.md_feed_lines.specs.declared.fed.FedLine.{FedLine}
use Rattle.md_feed_lines.specs.Made.{before_line}
use Rattle.md_feed_lines.specs.Fed.{fed_at, lines_from}
use Rattle.md_feed_lines.proofs.Relaying.{if-some, if-none, lines-push, next-first}
use Rattle.md_feed_lines.proofs.feed.Feed.step.Goals as goal

pub offer-requires : goal.offer-requires
offer-requires g c =
    let feed = c.args.self.now in
    record {
      next = next-first feed.plan.number feed.plan.callers feed.caller feed.sent _ c.in-Some.line feed.lines (feed.next_is c.in-Some.line c.in-Some.is).1;
    }

pub line_after-next-requires : goal.line_after-next-requires
line_after-next-requires g c =
    let feed = c.args.self.now in
    let next = feed.next_is c.in-Some.line c.in-Some.is in
    let made : c.in-Some.line.made ≡ feed.sent * feed.plan.callers + (feed.caller - 1) = ap (λ (x : FedLine). x.made) next.1 in
    let more : feed.sent * 1 ≤ feed.sent * feed.plan.callers = mul-le feed.sent 1 feed.sent feed.plan.callers (omega arith) feed.range.0.some_caller in
    (feed.range.0, feed.range.1, feed.range.2, omega (arith, next.0, made, more))

pub invariant_of-self-2 : goal.invariant_of-self-2
invariant_of-self-2 g c =
    let feed = c.args.self.now in
    let next = feed.next_is c.in-Some.line c.in-Some.is in
    let one : suc feed.sent ≡ feed.sent + 1 = omega arith in
    record {
      range = feed.range;
      lines = c.offer.ensures.sent c.in-Sent.is
          ∙ lines-push feed.plan.number feed.plan.callers feed.caller feed.sent _ c.in-Some.line feed.lines next.1
          ∙ ap (lines_from feed.plan.number feed.plan.callers feed.caller 0) one;
      next_is = λ x is. if-some c.line_after-next.result x (λ (line : FedLine). (line.made < feed.plan.lines)
          × (line ≡ fed_at feed.plan.number feed.plan.callers (before_line feed.plan.callers feed.caller (feed.sent + 1)))) is c.line_after-next.ensures.line;
      none_left = λ is. if-none c.line_after-next.result (feed.plan.lines ≤ before_line feed.plan.callers feed.caller (feed.sent + 1)) is c.line_after-next.ensures.none;
    }
