-- A pass that holds all lanes settled them: what its front is then.
use Rattle.std.proofs.Common.{◌≡◌, ◌≢◌, ◌==◌, ℕ, List, [], ◌∷◌, length, map, refl, sym, ap, ◌∙◌, subst, ⊎_elim}
use Rattle.std.specs.List.{All, Contains}
use Rattle.std.proofs.lemmas.Bool.{cases_Bool, cond_both, eqb-true, true≢false}
use Rattle.std.proofs.lemmas.Grind.{get_or_default_zero}
use Rattle.std.proofs.lemmas.List.{length-map}
use Rattle.std.proofs.lemmas.List.Elements.{All-head, All-tail, All-weaker}
use Rattle.md_words.specs.declared.shape.Shape.{Shape}
use Rattle.md_history.specs.declared.entries.Entry.{Entry}
use Rattle.md_history.specs.declared.entries.Fate.{Fate}
use Rattle.md_history.specs.declared.entries.Fate.TheVariants.{Committed, Aborted, Undecided}
use Rattle.md_history.specs.Attempt.{AreAllOwn}
use Rattle.md_history.specs.Engine.{SettlesFrom}
use Rattle.md_history.specs.Front.{is_lane_of, of_lane}
use Rattle.md_history.specs.FrontLaws.{all_stay-trans, lane_is_of, lane_passes}
use Rattle.md_history.specs.History.{committed}
use Rattle.md_machine.specs.declared.attempt.HistoryEntry.{HistoryEntry}
use Rattle.md_machine.specs.declared.pass.PassView.{PassView}
use Rattle.md_machine.specs.Event.{mark_leave}
use Rattle.md_machine.specs.Legal.{begun_of}
use Rattle.md_machine.specs.Resolution.{entries_of}
use Rattle.md_rule.specs.Closing.{MayClose}
use Rattle.md_rule.specs.Steps.{Stepped}
use Rattle.md_rule.specs.Views.{FieldView, PassState}
use Rattle.md_nbtc_law.specs.Ending.{BeginsNot}
use Rattle.md_nbtc_law.proofs.beginning.Leaving.{begins_not}
use Rattle.md_store_law.specs.Store.{store}
use Rattle.md_store.specs.Settling.{IsSettled, SettlesFirst}
use Rattle.md_store_bodies.specs.Store.{IsPassOf, all_lanes, front_in, start_of}
use Rattle.md_store.proofs.Closing.{may_close}
use Rattle.md_store_bodies.specs.Laws.{of_is}
use Rattle.md_store_bodies.proofs.AllLanes.{holds_all}
use Rattle.md_store.proofs.SettledLanes.{stands_fated}

-- of a lane without entries nothing is committed
none_committed_of : (lane : ℕ) (es : List Entry) (fs : List Fate) → All (λ (e : Entry). e.lane ≢ lane) es → of_lane lane (committed es fs) ≡ []
none_committed_of lane [] fs others = refl
none_committed_of lane (e ∷ es) [] others = refl
none_committed_of lane (e ∷ es) (Committed ∷ fs) others =
    let rest = none_committed_of lane es fs (All-tail (λ (x : Entry). x.lane ≢ lane) e es others) in
    cond_both (lane == e.lane) (e ∷ of_lane lane (committed es fs)) (of_lane lane (committed es fs)) (λ l. l ≡ [])
    (λ same. absurd (All-head (λ (x : Entry). x.lane ≢ lane) e es others (sym (eqb-true lane e.lane same)))) (λ _. rest)
none_committed_of lane (e ∷ es) (Aborted ∷ fs) others = none_committed_of lane es fs (All-tail (λ (x : Entry). x.lane ≢ lane) e es others)
none_committed_of lane (e ∷ es) (Undecided ∷ fs) others = none_committed_of lane es fs (All-tail (λ (x : Entry). x.lane ≢ lane) e es others)

-- where the lanes of a front are all lanes, and nothing is pending, what it has committed is what was answered
all_own : (f : FieldView) (p : PassState) → IsPassOf f p → (front_in p).lanes ≡ all_lanes f.origin.shape → (front_in p).pending ≡ [] → AreAllOwn (front_in p)
all_own f p h all none lane =
    let from = of_is f p h in
    let g = front_in p in ⊎_elim
    (λ held. from.own none lane (lane_is_of g.lanes lane held))
    (λ other.
    let outside : Contains g.lanes lane → ⊥ = λ c. true≢false (sym (lane_passes g.lanes lane c) ∙ other) in
    none_committed_of lane g.seen g.known
    (All-weaker (λ (e : Entry). Contains (all_lanes f.origin.shape) e.lane) (λ (e : Entry). e.lane ≢ lane)
    (λ e c same. outside (subst (Contains g.lanes) same (subst (λ l. Contains l e.lane) (sym all) c))) g.seen from.entries)
    ∙ sym (from.outside lane outside))
    (cases_Bool (is_lane_of g.lanes lane))

-- a pass put down what it had in hand
pub put_down : (f : FieldView) (p q : PassState) → IsPassOf f p → q ≡ record p { view = q.view } → Stepped store f.origin (λ pass. mark_leave pass) p.view q.view → IsPassOf f q
put_down f p q h left step =
    let b = begins_not store f.origin p.view q.view step p q refl left in
    record { of = record { table = b.same.table ∙ h.of.table; shape = b.same.shape ∙ h.of.shape }; stands = b.stands }

-- and settled its lanes
module _ (f : FieldView) (p q r : PassState) (h : IsPassOf f p) (all : (front_in p).lanes ≡ all_lanes f.origin.shape)
    (left : q ≡ record p { view = q.view }) (step : Stepped store f.origin (λ pass. mark_leave pass) p.view q.view)
    (rest : r ≡ record q { view = r.view }) (s : SettlesFirst f.origin.shape (length q.view.lanes) q.view r.view) (of : IsPassOf f r) where
  b : BeginsNot store p f.origin q
  b = begins_not store f.origin p.view q.view step p q refl left

  lanes : r.view.lanes ≡ p.view.lanes
  lanes = ap (λ (x : PassView). x.lanes) s.goes.1 ∙ b.same.lanes

  seen : r.view.seen ≡ p.view.seen
  seen = ap (λ (x : PassView). x.seen) s.goes.1 ∙ b.seen

  shape : r.shape ≡ p.shape
  shape = ap (λ (x : PassState). x.shape) rest ∙ b.same.shape

  pub may : MayClose store f.origin r.view
  may = may_close store f.origin r.view (holds_all f.origin.shape r.view (lanes ∙ all))
      (λ lane c. let held = subst (λ l. Contains l lane) (ap (λ (x : PassView). x.lanes) s.goes.1) c in
      subst (IsSettled f.origin.shape r.view) (sym (get_or_default_zero q.view.lanes held.0 lane held.1) ∙ held.2) (s.settled held.0 held.1))
      of.stands

  pub settles : SettlesFrom (start_of f) (front_in p) (front_in r)
  settles = record {
    settles = record {
      fated = stands_fated f r.view of.stands ∙ sym (length-map r.view.seen (λ (e : HistoryEntry). e.entry));
      lanes = lanes;
      pending = ap (λ (x : Shape). map (begun_of x) r.view.pending) shape
          ∙ ap (map (begun_of p.shape)) (ap (λ (x : PassView). x.pending) s.goes.1 ∙ b.pending);
      seen = ap entries_of seen;
      known = all_stay-trans p.view.known q.view.known r.view.known b.same.known s.goes.2;
      mine = λ lane. ap (of_lane lane) (ap (λ (x : PassView). x.mine) s.goes.1 ∙ b.mine);
      decided = may.decided;
    };
    legal = (of_is f r of).legal;
    own = λ none. all_own f r of (lanes ∙ all)
        (ap (λ (x : Shape). map (begun_of x) r.view.pending) shape
        ∙ ap (map (begun_of p.shape)) (ap (λ (x : PassView). x.pending) s.goes.1 ∙ b.pending) ∙ none);
  }
