use Rattle.std.proofs.Common.{◌≡◌, ◌≤◌, ◌*◌, ◌-◌, refl, arith}
use Rattle.std.proofs.lemmas.Nat.{mul-le}
use Rattle.md_orders.proofs.ByCaller.{length-list_of-le}
use Rattle.md_feed_lines.specs.Planned.{scripts_of}
use Rattle.md_feed_lines.proofs.Scripts.{made-keep, line-made}
use Rattle.md_feed_lines.proofs.plan.Plan.wanted.Goals as goal

pub overflow_mul-result : goal.overflow_mul-result
overflow_mul-result c =
    let p = c.args.self in
    let plan = c.requires.plan in
    let keep = made-keep p.number p.callers p.lines plan.some_caller plan.few_callers plan.few_lines in
    let all = length-list_of-le (scripts_of p) c.args.caller in
    let small : (c.args.line - 1) * p.callers ≤ 1000000 * 8 =
    mul-le (c.args.line - 1) p.callers 1000000 8 (omega (arith, all, keep.counted, plan.few_lines, c.requires.line.1)) plan.few_callers in
    omega (arith, small)

pub overflow_add-result : goal.overflow_add-result
overflow_add-result c =
    let p = c.args.self in
    let plan = c.requires.plan in
    let keep = made-keep p.number p.callers p.lines plan.some_caller plan.few_callers plan.few_lines in
    let all = length-list_of-le (scripts_of p) c.args.caller in
    let small : (c.args.line - 1) * p.callers ≤ 1000000 * 8 =
    mul-le (c.args.line - 1) p.callers 1000000 8 (omega (arith, all, keep.counted, plan.few_lines, c.requires.line.1)) plan.few_callers in
    omega (arith, small, c.requires.caller.1, plan.few_callers)

pub returns-clause-made : goal.returns-clause-made
returns-clause-made c =
    let p = c.args.self in
    let caller = c.requires.caller in
    let line = c.requires.line in
    (line-made p.number p.callers p.lines c.args.caller c.args.line _ c.requires.plan.some_caller caller.0 caller.1 line.0 line.1 refl).0

pub returns-clause-line : goal.returns-clause-line
returns-clause-line c =
    let p = c.args.self in
    let caller = c.requires.caller in
    let line = c.requires.line in
    (line-made p.number p.callers p.lines c.args.caller c.args.line _ c.requires.plan.some_caller caller.0 caller.1 line.0 line.1 refl).1
