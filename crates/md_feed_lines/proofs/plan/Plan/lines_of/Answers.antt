use Rattle.std.proofs.Common.{◌∙◌, sym, ap, inl, inr, arith, rules}
use Rattle.md_rounds.specs.OrderLines.{no-lines}
use Rattle.md_feed_lines.specs.Planned.{scripts_of}
use Rattle.md_feed_lines.proofs.Scripts.{made-are}
use Rattle.md_orders.proofs.MadeLines.{made-lines}
use Rattle.md_feed_lines.proofs.plan.Plan.lines_of.Goals.{then-caller-eq0-via-then-caller-eq0, then-caller-eq0-via-else-caller-eq0+then-caller-self}
use Rattle.md_feed_lines.proofs.plan.Plan.lines_of.Goals as goal

pub returns-then-caller-eq0 : goal.returns-then-caller-eq0
returns-then-caller-eq0 c =
    let p = c.args.self in
    let are = made-are p.number p.callers p.lines c.requires.some_caller in
    sym (no-lines (scripts_of p) c.args.caller (elim c.then-caller-eq0.branch [
      | then-caller-eq0-via-then-caller-eq0 w ↦ inl (search rules depth 1)
      | then-caller-eq0-via-else-caller-eq0+then-caller-self w ↦ inr (omega (arith, are.callers_are))
    ]))

pub returns : goal.returns
returns c =
    let p = c.args.self in
    sym (made-lines p.number p.lines p.callers c.args.caller (scripts_of p) (made-are p.number p.callers p.lines c.requires.some_caller)
    (omega arith) (omega arith))
