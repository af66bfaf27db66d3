use Rattle.std.proofs.Common.{◌+◌, ◌≤◌, ap, subst, sym, ◌∙◌, arith}
use Rattle.md_rule.specs.Views.{PassState}
use Rattle.example_tickets.specs.Taken.{TakenBelow}
use Rattle.md_rule_tests.proofs.tests.tickets.taken.Goals.{in-Some+else-prove, in_default}
use Rattle.md_rule_tests.proofs.tests.tickets.taken.Goals as goal

-- the ticket is above what the pass knew
pub prove-unreachable-requires : goal.prove-unreachable-requires
prove-unreachable-requires c =
    let above = c.in-Some.ensures.above c.loop-turn.next c.loop-turn.invariant.below in
    omega (arith, above, c.if-prove.true)

pub loop-turn-preserved : goal.loop-turn-preserved
loop-turn-preserved c =
    let shape = c.args.field.now.origin.shape in
    let same = c.take_ticket.ensures.same in
    let was = c.loop-turn.invariant in
    let view = c.take_ticket.new.pass.view in record {
      field = record { table = ap (λ (x : PassState). x.table) same ∙ was.field.table; shape = ap (λ (x : PassState). x.shape) same ∙ was.field.shape };
      same = same ∙ ap (λ (x : PassState). record x { view = view }) was.same;
      few = elim c.match-take_ticket.branch [
        | in-Some+else-prove w ↦ subst (λ n. n ≤ c.loop-turn.turn + 1) (sym w.taken-is) (omega (arith, was.few))
        | in_default w ↦ subst (λ n. n ≤ c.loop-turn.turn + 1) (sym w.taken-is) (omega (arith, was.few))
      ];
      below = elim c.match-take_ticket.branch [
        | in-Some+else-prove w ↦ subst (TakenBelow shape view) (sym w.next-is) w.in-Some.ensures.taken.0
        | in_default w ↦ subst (TakenBelow shape view) (sym w.next-is) (c.take_ticket.ensures.keeps c.loop-turn.next was.below)
      ];
    }
