-- What a pass knows after it left what was in hand, and took a descriptor.
use Rattle.std.proofs.Common.{◌≡◌, ◌+◌, ◌<◌, ℕ, List, [], ◌∷◌, ◌++◌, None, length, get_or-set_same, set, sym, ap, ◌∙◌, subst}
use Rattle.md_words.proofs.Owners.{own_desc_exists}
use Rattle.md_machine.specs.declared.pass.PassView.{PassView}
use Rattle.md_machine.specs.declared.step.Kind.TheVariants.{Load}
use Rattle.md_machine.specs.declared.step.Step.{Step}
use Rattle.md_machine.specs.Event.{mark_leave}
use Rattle.md_machine.specs.Machine.{content}
use Rattle.md_machine.specs.Meaning.{Meaning}
use Rattle.md_machine.specs.Own.{HasDesc}
use Rattle.md_machine.specs.Stepping.{step_of}
use Rattle.md_machine.specs.events.Mark.{marked}
use Rattle.md_arena.specs.Taking.{TakesDesc}
use Rattle.md_rule.specs.Kept.{KeepsLane, KeepsLanes}
use Rattle.md_rule_lanes.specs.Shares.{share_at}
use Rattle.md_rule.specs.Steps.{Stepped}
use Rattle.md_rule.specs.Views.{Origin, PassState}
use Rattle.md_rule_lanes.specs.declared.shares.Share.{Share}
use Rattle.md_rule.proofs.LaneLists.{desc_fits}
use Rattle.md_rule.proofs.Told.{told_leave}
use Rattle.md_history.specs.Front.{AllStay}
use Rattle.md_help.specs.After.{StandsInField}
use Rattle.md_help.proofs.Steps.{known_stays, stands_after}
use Rattle.md_nbtc_law.specs.Beginning.{IsTakenLast}
use Rattle.md_nbtc_law.specs.Ending.{BeginsNot, IsSamePass}

module _ (M : Meaning) (o : Origin) (p q : PassView) (step : Stepped M o (λ pass. mark_leave pass) p q) where
  abbrev mark : Step
  mark = step_of step.machine p Load 0 (content step.machine 0)

  told : q ≡ record (marked step.machine p) { hand = None }
  told = told_leave M o p q step

  pub lanes_left : q.lanes ≡ p.lanes
  lanes_left = ap (λ (x : PassView). x.lanes) told

  pub left_same : (before after : PassState) → before.view ≡ p → after ≡ record before { view = q } → IsSamePass before after
  left_same before after was is = record {
    table = ap (λ (x : PassState). x.table) is;
    shape = ap (λ (x : PassState). x.shape) is;
    lanes = ap (λ (x : PassState). x.view.lanes) is ∙ lanes_left ∙ ap (λ (x : PassView). x.lanes) (sym was);
    past = ap (λ (x : PassState). x.view.past) is ∙ ap (λ (x : PassView). x.past) told ∙ ap (λ (x : PassView). x.past) (sym was);
    steps = record { rest = mark ∷ []; is = ap (λ (x : PassState). x.view.trail) is ∙ ap (λ (x : PassView). x.trail) told ∙ ap (λ (x : PassView). x.trail ++ mark ∷ []) (sym was) };
    known = subst (λ (x : PassView). AllStay x.known after.view.known) (sym was) (subst (λ (x : PassState). AllStay p.known x.view.known) (sym is) (known_stays M o (λ pass. mark_leave pass) p q step lanes_left));
  }

  pub begins_not : (before after : PassState) → before.view ≡ p → after ≡ record before { view = q } → BeginsNot M before o after
  begins_not before after was is =
      let view : after.view ≡ q = ap (λ (x : PassState). x.view) is in record {
        stands = subst (StandsInField M o) (sym view) (stands_after M o (λ pass. mark_leave pass) p q step lanes_left);
        same = left_same before after was is;
        seen = ap (λ (x : PassView). x.seen) (view ∙ told) ∙ ap (λ (x : PassView). x.seen) (sym was);
        mine = ap (λ (x : PassView). x.mine) (view ∙ told) ∙ ap (λ (x : PassView). x.mine) (sym was);
        pending = ap (λ (x : PassView). x.pending) (view ∙ told) ∙ ap (λ (x : PassView). x.pending) (sym was);
        shares = ap (λ (x : PassState). x.shares) is;
        idle = ap (λ (x : PassView). x.hand) (view ∙ told);
      }

-- the share of a lane with one more attempt taken
pub share_taken : (shares : List Share) (desc : ℕ) (n : ℕ) → desc < length shares
    → share_at (set shares desc (record (share_at shares desc) { tries_taken = n })) desc ≡ record (share_at shares desc) { tries_taken = n }
share_taken shares desc n fits = get_or-set_same shares desc (record (share_at shares desc) { tries_taken = n }) _ fits

-- so the attempt was taken last
pub taken_last : (p q : PassState) (desc : ℕ) → HasDesc p.shape p.view desc → KeepsLanes p.shape p.view p.shares → length p.shares ≡ 64
    → TakesDesc p desc q → IsTakenLast q desc
taken_last p q desc own kept size takes =
    let exists = own_desc_exists p.shape own.0 desc own.2 in
    let n = (share_at p.shares desc).tries_taken in
    let same = share_taken p.shares desc (n + 1) (subst (λ k. desc < k) (sym size) (desc_fits p.shape desc exists)) in
    subst (λ x. IsTakenLast x desc) (sym takes.1) (record {
      exists = exists;
      lane = takes.0.held;
      own = own;
      before = n;
      taken = ap (λ (s : Share). s.tries_taken) same;
      kept = subst (λ (s : Share). KeepsLane p.shape p.view (record s { tries_taken = n }) desc) (sym same) (kept desc takes.0.held);
    })
