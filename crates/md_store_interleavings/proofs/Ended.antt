-- What is left of a pass whose transaction has ended, or was left.
use Rattle.std.proofs.Common.{◌≡◌, Option, sym, ap, subst, ◌∙◌, ⊎_elim}
use Rattle.md_history.specs.declared.stops.Shown.{Shown}
use Rattle.md_history.specs.declared.stops.Stop.{Stop}
use Rattle.md_help.specs.After.{StandsInField}
use Rattle.md_store_interleavings.specs.Acting.{IsActing}
use Rattle.md_nbtc_law.specs.Ended.{WasCommitted, WasLost}
use Rattle.md_nbtc_law.specs.Ending.{HasEntry, PutDown, Readies, Stopped}
use Rattle.md_nbtc_law.specs.LeftReady.{WasLeftReady}
use Rattle.md_nbtc_law.specs.State.{TxnState}
use Rattle.md_rule.specs.Views.{FieldView, IsOf, PassState}
use Rattle.md_store_law.specs.Store.{store}
use Rattle.md_store.specs.Store.{IsPassOf}

-- a pass that put a transaction on the field down
down_of : (f : FieldView) (t : TxnState) → IsOf t.pass t.field → t.field ≡ f → (q : PassState) → PutDown store t q → IsPassOf f q
down_of f t of field q down = record {
  of = record {
    table = down.same.table ∙ of.table ∙ ap (λ (x : FieldView). x.table) field;
    shape = down.same.shape ∙ of.shape ∙ ap (λ (x : FieldView). x.origin.shape) field;
  };
  stands = subst (λ (x : FieldView). StandsInField store x.origin q.view) field down.stands;
}

-- one that left it as it stands
same_of : (f : FieldView) (t : TxnState) → IsOf t.pass t.field → t.field ≡ f → StandsInField store t.field.origin t.pass.view → (q : PassState) → q ≡ t.pass → IsPassOf f q
same_of f t of field stands q same = subst (IsPassOf f) (sym same) (record {
  of = record {
    table = of.table ∙ ap (λ (x : FieldView). x.table) field;
    shape = of.shape ∙ ap (λ (x : FieldView). x.origin.shape) field;
  };
  stands = subst (λ (x : FieldView). StandsInField store x.origin t.pass.view) field stands;
})

module _ (f : FieldView) (t : TxnState) (stop : Option Stop) (acting : IsActing f t stop) where
  of : IsOf t.pass t.field
  of = acting.going.1.prepared.has.of

  pub stopped_of : (q : PassState) → Stopped store t q → IsPassOf f q
  stopped_of q s = down_of f t of acting.field q s.down

  pub left_of : (q : PassState) → q ≡ t.pass → IsPassOf f q
  left_of = same_of f t of acting.field acting.going.1.stands

  -- it became ready first
  module _ (w : TxnState) (e : HasEntry w) (readies : Readies t w e) where
    ready_field : w.field ≡ f
    ready_field = ap (λ (x : TxnState). x.field) readies.rest ∙ acting.field

    ready_of : IsOf w.pass w.field
    ready_of = record {
      table = readies.same.table ∙ of.table ∙ sym (ap (λ (x : TxnState). x.field.table) readies.rest);
      shape = readies.same.shape ∙ of.shape ∙ sym (ap (λ (x : TxnState). x.field.origin.shape) readies.rest);
    }

    ready_down : (q : PassState) → PutDown store w q → IsPassOf f q
    ready_down = down_of f w ready_of ready_field

  pub left_ready_of : (q : PassState) → WasLeftReady store t q → IsPassOf f q
  left_ready_of q l = same_of f l.ready (ready_of l.ready l.is.entry l.readies) (ready_field l.ready l.is.entry l.readies) l.is.stands q l.left

  pub committed_of : (q : PassState) → WasCommitted store t q → IsPassOf f q
  committed_of q c = ready_down c.ready c.entry c.readies q c.commits.down

  pub lost_of : (q : PassState) (shown : Shown) → WasLost store t q shown → IsPassOf f q
  lost_of q shown = ⊎_elim (λ a. ready_down a.ready a.entry a.readies q a.aborts.stopped.down) (λ s. stopped_of q s.stopped)
