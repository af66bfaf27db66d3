use Rattle.std.proofs.Common.{[], ap, subst, sym, ◌∙◌}
use Rattle.example_cell.specs.CellMeaning.{cell_meaning}
use Rattle.md_nbtc_law.specs.Going.{IsGoing}
use Rattle.md_nbtc_law.specs.State.{TxnState}
use Rattle.md_nbtc.specs.State.{state}
use Rattle.md_rule_tests.proofs.Tested.{begun_open}
use Rattle.md_rule_tests.proofs.tests.transactions.begin.Goals as goal

pub returns-clause-open : goal.returns-clause-open
returns-clause-open c =
    let e = c.in_ok-begun.ensures in
    let is = c.with-txn.ensures.state in
    begun_open c.args.field.now (state c.with-txn.result) (state c.start_op.new.self) (subst (λ (t : TxnState). IsGoing cell_meaning t []) (sym is) e.going)
    (ap (λ (t : TxnState). t.slots) is ∙ e.begun.slots) (ap (λ (t : TxnState). t.field) is ∙ e.field) c.start_op.ensures.on c.start_op.ensures.begun
