-- The lanes of a pass are settled, one after another.
use Rattle.std.proofs.Common.{◌≡◌, ◌+◌, ◌<◌, ◌≤◌, ℕ, [], ◌∷◌, ◌++◌, None, length, slice_index, refl, sym, ap, ◌∙◌, subst, ⊎_elim, arith}
use Rattle.std.specs.List.{Contains}
use Rattle.std.proofs.lemmas.Bool.{cases_lt}
use Rattle.md_words.specs.declared.shape.Shape.{Shape}
use Rattle.md_words.specs.Layout.{desc_count}
use Rattle.md_words.proofs.Owners.{one_desc}
use Rattle.md_machine.specs.declared.pass.PassView.{PassView}
use Rattle.md_machine.specs.Machine.{shape_of}
use Rattle.md_machine.specs.Own.{HasDesc}
use Rattle.md_help.specs.After.{StandsInField}
use Rattle.md_help.proofs.Steps.{both_after, none_after}
use Rattle.md_rule.specs.Kept.{KeepsLane, KeepsLanes}
use Rattle.md_rule.specs.Lanes.{AreLanes}
use Rattle.md_rule_lanes.specs.Shares.{share_at}
use Rattle.md_rule.specs.Views.{FieldView, PassState}
use Rattle.md_rule.proofs.LaneLists.{desc_exists, lane_exists}
use Rattle.md_rule.proofs.Moves.{is_kept}
use Rattle.md_nbtc_law.specs.Beginning.{Empties, FindsDecided, HasAttempt}
use Rattle.md_nbtc_law.proofs.beginning.Starting.{own_still}
use Rattle.md_store_law.specs.Store.{store}
use Rattle.md_store.specs.Settling.{IsSettled, SettlesDescriptor, SettlesFirst}
use Rattle.md_store_bodies.specs.Store.{IsPassOf}
use Rattle.md_store.proofs.Settled.{settled_ended, settled_still, settled_unused}

-- a pass that stands somewhere knows a fate for each entry that it has seen
pub stands_fated : (f : FieldView) (p : PassView) → StandsInField store f.origin p → length p.known ≡ length p.seen
stands_fated f p st = ((is_kept store f.origin st.machine st.admitted).fronts st.pass p st.acts.at).fated

module _ (f : FieldView) (p : PassState) (h : IsPassOf f p) (lanes : AreLanes p.shape p.view.lanes) (kept : KeepsLanes p.shape p.view p.shares) (lane : ℕ) (held : Contains p.view.lanes lane) where
  own_lane : HasDesc p.shape p.view lane
  own_lane = (lane, held, (one_desc p.shape lane lane (lane_exists p.shape p.view.lanes lane lanes held)).1 refl)

  pub lane_inside : lane < desc_count f.origin.shape
  lane_inside = subst (λ (s : Shape). lane < desc_count s) h.of.shape (desc_exists p.shape p.view.lanes lane lanes held)

  own_in_field : HasDesc f.origin.shape p.view lane
  own_in_field = subst (λ (s : Shape). HasDesc s p.view lane) h.of.shape own_lane

  -- a lane that has begun an attempt may be emptied
  pub has_attempt : 1 ≤ (share_at p.shares lane).tries_taken → HasAttempt p lane
  has_attempt some = record {
    exists = desc_exists p.shape p.view.lanes lane lanes held;
    lane = held;
    own = own_lane;
    some = some;
    count = (share_at p.shares lane).tries_taken;
    kept = kept lane held;
  }

  pub own_after : (q : PassView) → Empties f.origin.shape lane p.view q → HasDesc f.origin.shape q lane
  own_after q e = own_still store f.origin lane lane_inside e.steps p.view q e.goes own_in_field

  -- a lane that has begun none is settled
  pub settles_none : (share_at p.shares lane).tries_taken ≡ 0 → SettlesDescriptor f.origin.shape lane p.view p.view
  settles_none none =
      let st = h.stands in
      let shape : shape_of st.machine ≡ p.shape = st.admitted.shape ∙ sym h.of.shape in record {
        steps = [];
        goes = none_after f.origin.shape p.view;
        settled = subst (λ (s : Shape). IsSettled s p.view lane) st.admitted.shape
            (settled_unused st.machine (is_kept store f.origin st.machine st.admitted) st.pass p.view st.acts.at lane held (share_at p.shares lane)
            (subst (λ (s : Shape). KeepsLane s p.view (share_at p.shares lane) lane) (sym shape) (kept lane held)) none);
      }

  -- one that has is settled once it is emptied and its status is decided
  pub settles_lane : 1 ≤ (share_at p.shares lane).tries_taken → (q r : PassView) → p.view.hand ≡ None → Empties f.origin.shape lane p.view q
      → (status : ℕ) → FindsDecided f.origin.shape lane status q r → StandsInField store f.origin r → SettlesDescriptor f.origin.shape lane p.view r
  settles_lane some q r idle e status d after =
      let share : KeepsLane f.origin.shape p.view (share_at p.shares lane) lane = subst (λ (s : Shape). KeepsLane s p.view (share_at p.shares lane) lane) h.of.shape (kept lane held) in record {
        steps = e.steps ++ (d.steps ++ d.step ∷ []);
        goes = both_after f.origin.shape e.steps (d.steps ++ d.step ∷ []) p.view q r e.goes d.goes;
        settled = settled_ended store f.origin lane lane_inside p.view q r held own_in_field idle h.stands (share_at p.shares lane).tries_taken share.serials some e status d after;
      }

-- no lane is settled yet, and one more is
pub settles_first : (shape : Shape) (p : PassView) → SettlesFirst shape 0 p p
settles_first shape p = record { steps = []; goes = none_after shape p; settled = λ place less. absurd (omega (arith, less)) }

pub settles_next : (f : FieldView) (count : ℕ) (p q r : PassView) → p.hand ≡ None → SettlesFirst f.origin.shape count p q
    → SettlesDescriptor f.origin.shape (slice_index p.lanes count) q r → StandsInField store f.origin r → SettlesFirst f.origin.shape (count + 1) p r
settles_next f count p q r idle s n stands = record {
  steps = s.steps ++ n.steps;
  goes = both_after f.origin.shape s.steps n.steps p q r s.goes n.goes;
  settled = λ place less. ⊎_elim
      (λ below. settled_still f.origin.shape (slice_index p.lanes place) n.steps q r n.goes (ap (λ (x : PassView). x.hand) s.goes.1 ∙ idle) (stands_fated f r stands) (s.settled place below))
      (λ not. subst (λ i. IsSettled f.origin.shape r (slice_index p.lanes i)) (omega (arith, less, not)) n.settled)
      (cases_lt place count);
}
