use Rattle.std.proofs.Common.{refl}
use Rattle.md_nbtc_law.specs.State.{own_node}
use Rattle.md_nbtc_law.proofs.withdrawals.Stops.{is_unready, numbers_are, stop_may, stopped}
use Rattle.md_nbtc.specs.State.{state}
use Rattle.md_nbtc.proofs.txn.Txn.stop.Goals as goal

pub abort_unready-requires-clause-unready : goal.abort_unready-requires-clause-unready
abort_unready-requires-clause-unready g c =
    let prepared = c.requires.1.prepared in
    is_unready (state c.args.self) prepared _ (numbers_are (state c.args.self) prepared _ refl refl)

pub withdraw-requires-clause-may : goal.withdraw-requires-clause-may
withdraw-requires-clause-may g c =
    let x = c.args.self in
    let prepared = c.requires.1.prepared in
    stop_may (state x) prepared (own_node x.field.now.origin.shape x.pass.now) (λ n. refl) refl _ (numbers_are (state x) prepared _ refl refl)
    c.abort_unready.new.pass c.abort_unready.ensures.same c.abort_unready.ensures.aborts

pub returns : goal.returns
returns g c =
    let x = c.args.self in
    let prepared = c.requires.1.prepared in
    stopped (state x) prepared (own_node x.field.now.origin.shape x.pass.now) (λ n. refl) refl _ (numbers_are (state x) prepared _ refl refl)
    c.abort_unready.new.pass c.abort_unready.ensures.same c.abort_unready.ensures.aborts g.T.Theory.meaning c.withdraw.new.pass c.withdraw.ensures
