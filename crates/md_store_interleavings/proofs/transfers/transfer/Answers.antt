use Rattle.std.proofs.Common.{◌<◌, ◌∙◌, ap, subst, sym}
use Rattle.md_history.specs.Attempt.{Commits, Stops}
use Rattle.md_history.specs.Script.{Did}
use Rattle.md_machine.specs.declared.attempt.Hand.{Hand}
use Rattle.md_nbtc_law.specs.Ending.{BeginsNot}
use Rattle.md_nbtc_law.specs.Going.{IsUnderWay}
use Rattle.md_nbtc_law.specs.State.{TxnState}
use Rattle.md_nbtc.specs.State.{begun_state, state}
use Rattle.md_rule.specs.Views.{FieldView, PassState}
use Rattle.md_store_law.specs.Store.{store}
use Rattle.md_store.specs.Store.{IsPassOf, front_in}
use Rattle.md_store.specs.Transactions.{IsBegun, Ran}
use Rattle.md_store.proofs.Attempts.{at_ok, on_err}
use Rattle.md_store.proofs.Transactions.{begins_none, committed_by, has_no_stop, is_begun, lost_by, stopped_by}
use Rattle.md_store_interleavings.specs.Moving.{move_one}
use Rattle.md_store_interleavings.proofs.transfers.transfer.Goals as goal

pub make_calls-txn-requires-clause-begun : goal.make_calls-txn-requires-clause-begun
make_calls-txn-requires-clause-begun c =
    subst (λ (b : PassState). IsBegun b (state c.with-txn.result)) (sym c.of-before.ensures)
    (subst (λ (s : TxnState). IsBegun c.args.pass.now s) (sym c.with-txn.ensures.state)
    (is_begun c.args.pass.now c.args.tag (begun_state c.in-Ok.begun) c.in-Ok.ensures.begun c.in-Ok.ensures.going))

pub make_calls-txn-requires-clause-of : goal.make_calls-txn-requires-clause-of
make_calls-txn-requires-clause-of c =
    let field = ap (λ (s : TxnState). s.field) c.with-txn.ensures.state ∙ c.in-Ok.ensures.field in
    subst (λ (f : FieldView). IsPassOf f c.of-before.result.value) (sym field) (subst (IsPassOf c.args.store.now) (sym c.of-before.ensures) c.requires.of)

pub make_calls-txn-requires-clause-map : goal.make_calls-txn-requires-clause-map
make_calls-txn-requires-clause-map c =
    let field = ap (λ (s : TxnState). s.field) c.with-txn.ensures.state ∙ c.in-Ok.ensures.field in
    subst (λ (f : FieldView). 0 < f.origin.shape.maps) (sym field) c.requires.map

pub commit-requires-clause-going : goal.commit-requires-clause-going
commit-requires-clause-going c =
    let m = c.make_calls-txn.ensures.moved in subst (λ (t : TxnState). IsUnderWay store t) (sym m.ran.now) m.ran.run.running.going

pub commit-requires-clause-between : goal.commit-requires-clause-between
commit-requires-clause-between c =
    let m = c.make_calls-txn.ensures.moved in
    ap (λ (t : TxnState). t.hand.operating) m.ran.now
    ∙ m.ran.run.running.between (at_ok c.make_calls-txn.new.moved c.in-Ok-moved.had _ c.in-Ok-moved.is m.did).0

pub commit-requires-clause-runs : goal.commit-requires-clause-runs
commit-requires-clause-runs c =
    let m = c.make_calls-txn.ensures.moved in
    ap (λ (t : TxnState). t.stop) m.ran.now
    ∙ has_no_stop m.r m.ran.run (at_ok c.make_calls-txn.new.moved c.in-Ok-moved.had _ c.in-Ok-moved.is m.did).0

pub stop-requires : goal.stop-requires
stop-requires c = let m = c.make_calls-txn.ensures.moved in subst (λ (t : TxnState). IsUnderWay store t) (sym m.ran.now) m.ran.run.running.going

pub returns-in-Err : goal.returns-in-Err
returns-in-Err c =
    let f = c.args.store.now in
    let p = c.args.pass.now in
    let q = c.begin.follows.lender-at-none in
    let none = begins_none f p q c.requires.of (on_err c.begin.result c.in-Err.limit (BeginsNot store p f.origin q) c.in-Err.is c.begin.follows.holds-at-none) in
    record { of = none.of; committed = tt; stopped = none.front c.args.tag }

pub returns-in-Ok-commit : goal.returns-in-Ok-commit
returns-in-Ok-commit c =
    let f = c.args.store.now in
    let p = c.args.pass.now in
    let t = state c.with-txn.result in
    let u = state c.make_calls-txn.result in
    let m = c.make_calls-txn.ensures.moved in
    let had = c.in-Ok-moved.had in
    let did = Did (move_one c.args.from c.args.to) in
    let ran = subst (λ (b : PassState). Ran b t u m.r) c.of-before.ensures m.ran in
    let field = ap (λ (s : TxnState). s.field) c.with-txn.ensures.state ∙ c.in-Ok.ensures.field in
    let tag = ap (λ (s : TxnState). s.hand.tag) c.with-txn.ensures.state ∙ ap (λ (h : Hand). h.tag) c.in-Ok.ensures.begun.hand in
    let told = at_ok c.make_calls-txn.new.moved had _ c.in-Ok-moved.is m.did in
    let ends = committed_by f p c.args.tag t u m.r ran field tag c.commit.new.self.0 told.0 c.in-Ok-commit.ensures.committed did had told.1 in
    let same = c.pass-in-Ok-moved-1.given.1 (sym (c.make_calls-txn.ensures.pass ∙ c.with-txn.ensures.pass ∙ c.in-Ok.ensures.pass)) in
    record {
      of = subst (IsPassOf f) (sym same) ends.1;
      committed = subst (λ (q : PassState). Commits did c.args.tag had (front_in p) (front_in q)) (sym same) ends.0;
      stopped = tt;
    }

pub returns-in-Err-commit : goal.returns-in-Err-commit
returns-in-Err-commit c =
    let f = c.args.store.now in
    let p = c.args.pass.now in
    let t = state c.with-txn.result in
    let u = state c.make_calls-txn.result in
    let m = c.make_calls-txn.ensures.moved in
    let ran = subst (λ (b : PassState). Ran b t u m.r) c.of-before.ensures m.ran in
    let field = ap (λ (s : TxnState). s.field) c.with-txn.ensures.state ∙ c.in-Ok.ensures.field in
    let tag = ap (λ (s : TxnState). s.hand.tag) c.with-txn.ensures.state ∙ ap (λ (h : Hand). h.tag) c.in-Ok.ensures.begun.hand in
    let told = at_ok c.make_calls-txn.new.moved c.in-Ok-moved.had _ c.in-Ok-moved.is m.did in
    let ends = lost_by f p c.args.tag t u m.r ran field tag c.commit.new.self.0 told.0 c.in-Err-commit.shown c.in-Err-commit.ensures.lost in
    let same = c.pass-in-Ok-moved-1.given.1 (sym (c.make_calls-txn.ensures.pass ∙ c.with-txn.ensures.pass ∙ c.in-Ok.ensures.pass)) in
    record {
      of = subst (IsPassOf f) (sym same) ends.1;
      committed = tt;
      stopped = subst (λ (q : PassState). Stops c.args.tag (front_in p) (front_in q)) (sym same) ends.0;
    }

pub returns-in-Err-moved : goal.returns-in-Err-moved
returns-in-Err-moved c =
    let f = c.args.store.now in
    let p = c.args.pass.now in
    let t = state c.with-txn.result in
    let u = state c.make_calls-txn.result in
    let m = c.make_calls-txn.ensures.moved in
    let ran = subst (λ (b : PassState). Ran b t u m.r) c.of-before.ensures m.ran in
    let field = ap (λ (s : TxnState). s.field) c.with-txn.ensures.state ∙ c.in-Ok.ensures.field in
    let tag = ap (λ (s : TxnState). s.hand.tag) c.with-txn.ensures.state ∙ ap (λ (h : Hand). h.tag) c.in-Ok.ensures.begun.hand in
    let ends = stopped_by f p c.args.tag t u m.r ran field tag c.stop.new.self.0 c.stop.ensures in
    let same = c.pass-in-Err-moved-1.given.1 (sym (c.make_calls-txn.ensures.pass ∙ c.with-txn.ensures.pass ∙ c.in-Ok.ensures.pass)) in
    record {
      of = subst (IsPassOf f) (sym same) ends.1;
      committed = tt;
      stopped = subst (λ (q : PassState). Stops c.args.tag (front_in p) (front_in q)) (sym same) ends.0;
    }
