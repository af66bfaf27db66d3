use Rattle.std.proofs.Common.{None, subst, sym}
use Rattle.md_store_interleavings.specs.Acting.{IsActing}
use Rattle.md_nbtc_law.specs.State.{TxnState}
use Rattle.md_nbtc.specs.State.{begun_state}
use Rattle.md_store_interleavings.proofs.Acted.{begun_acts}
use Rattle.md_store_interleavings.proofs.acting.begin.Goals as goal

pub returns-clause-acting : goal.returns-clause-acting
returns-clause-acting c =
    let e = c.in_ok-begun.ensures in
    subst (λ (t : TxnState). IsActing c.args.store.now t None) (sym c.with.ensures.state)
    (begun_acts c.args.store.now c.args.pass.now c.args.tag (begun_state c.in_ok-begun.begun) e.begun e.going e.field)
