-- The end of a transaction that was aborted: the last mark, and what all steps leave.
use Rattle.std.proofs.Common.{◌≡◌, ◌<◌, ◌++◌, ℕ, false, List, [], ◌∷◌, None, Some, length, refl, sym, ap, ◌∙◌, subst, append_assoc, arith}
use Rattle.std.specs.List.{All, AllZip}
use Rattle.std.proofs.lemmas.List.{append-nil}
use Rattle.std.proofs.lemmas.List.Elements.{All-append, All-cons, All-nil, Contains-push}
use Rattle.md_words.specs.declared.shape.Shape.{Shape}
use Rattle.md_words.specs.declared.status.Status.{Status}
use Rattle.md_words.specs.declared.status.Status.TheVariants.{Aborted}
use Rattle.md_words.specs.Layout.{address, desc_count}
use Rattle.md_words.specs.Place.{desc_status}
use Rattle.md_words.proofs.Owners.{own_desc_exists}
use Rattle.md_history.specs.Front.{AllStay}
use Rattle.md_history.specs.FrontLaws.{all_stay-trans}
use Rattle.md_machine.specs.declared.attempt.AttemptId.{AttemptId}
use Rattle.md_machine.specs.declared.attempt.Hand.{Hand}
use Rattle.md_machine.specs.declared.attempt.Write.{Write}
use Rattle.md_machine.specs.declared.pass.PassView.{PassView}
use Rattle.md_machine.specs.declared.step.Kind.TheVariants.{Exchange, Load, Uninstall}
use Rattle.md_machine.specs.declared.step.Step.{Step}
use Rattle.md_machine.specs.Event.{mark_end}
use Rattle.md_machine.specs.Machine.{content}
use Rattle.md_machine.specs.Meaning.{Meaning}
use Rattle.md_machine.specs.Stepping.{attempt_in_hand, step_of}
use Rattle.md_machine.specs.Trail.{Meets, SomeStep}
use Rattle.md_machine.specs.events.Mark.{after_mark_end, answered, marked, without}
use Rattle.md_machine.specs.events.Start.{IsClean}
use Rattle.md_machine.specs.events.Uninstall.{IsDecided}
use Rattle.md_machine.proofs.events.Attempts.{in_hand_some}
use Rattle.md_rule.specs.InHand.{HoldsDesc}
use Rattle.md_rule_lanes.specs.Shares.{after_end, share_at}
use Rattle.md_rule.specs.Steps.{May, Stepped}
use Rattle.md_rule.specs.Views.{Origin, PassState}
use Rattle.md_rule_lanes.specs.declared.shares.Share.{Share}
use Rattle.md_rule.proofs.LaneLists.{desc_fits}
use Rattle.md_rule.proofs.LaneSteps.{one_changed}
use Rattle.md_rule.proofs.Told.{told_end}
use Rattle.md_help.proofs.Steps.{known_stays, stands_after}
use Rattle.md_arena.proofs.TakenNodes.{share_same}
use Rattle.md_nbtc_law.specs.Withdrawing.{HasBack, HasFate, TakesWrite, TakesWritesOut}
use Rattle.md_nbtc_law.specs.Withdrawn.{MayWithdraw, Withdraws}
use Rattle.md_nbtc_law.proofs.withdrawals.AllOut.{fate_still}
use Rattle.md_nbtc_law.proofs.withdrawals.Freed.{known_is, seen_is}

-- what is in hand is the attempt
pub hand_is : (v : PassView) (a : AttemptId) → attempt_in_hand v.hand ≡ Some a → (h : Hand) → v.hand ≡ Some h → h.attempt ≡ a
hand_is v a held h is = same_of h.attempt a (sym (ap attempt_in_hand is) ∙ held)
  where
    same_of : (b c : AttemptId) → Some b ≡ Some c → b ≡ c
    same_of b c e = cc

-- the mark may be made by a pass that met its attempt decided
module _ (M : Meaning) (o : Origin) (v : PassView) (a : AttemptId) {fate : Status} (f : HasFate o.shape v a fate) where
  pub holds_desc : HoldsDesc v a.desc
  holds_desc = let h = in_hand_some v.hand a f.held in (h.0, h.1, ap (λ (x : AttemptId). x.desc) h.2)

  pub desc_there : a.desc < desc_count o.shape
  desc_there = own_desc_exists o.shape f.own.0 a.desc f.own.2

  pub may_end : May M o (λ pass. mark_end pass) v
  may_end m adm pass acts =
      let h = in_hand_some v.hand a f.held in
      let decided = subst IsDecided (sym f.is) f.decided in
      let met = subst (λ (s : Shape). SomeStep (Meets (address s (desc_status h.0.attempt.desc)) f.status) v.trail) (sym adm.shape)
      (subst (λ (x : AttemptId). SomeStep (Meets (address o.shape (desc_status x.desc)) f.status) v.trail) (sym h.2) f.met) in (
        after_mark_end m pass v h.0,
        (
          v,
          h.0,
          acts,
          record {
            held = h.1;
            status = f.status;
            serial = f.serial ∙ sym (ap (λ (x : AttemptId). x.serial) h.2);
            decided = decided;
            met = (v.trail, Contains-push v.past v.trail, met);
          },
          refl,
        ),
      )

-- the pass after its writes were taken out, after its nodes were given back, and after the mark
module _ (M : Meaning) (o : Origin) (began p q r s : PassState) (a : AttemptId) (writes : List Write) (may : MayWithdraw o.shape began p a writes) (of : p.shape ≡ o.shape)
    (same : q ≡ record p { view = q.view }) (t : TakesWritesOut o.shape a Aborted writes p.view q.view) (back : HasBack began q r) where
  view_is : r.view ≡ q.view
  view_is = ap (λ (x : PassState). x.view) back.same

  pub fate_now : HasFate o.shape r.view a Aborted
  fate_now = subst (λ v. HasFate o.shape v a Aborted) (sym view_is) (fate_still o.shape a t.steps p.view q.view t.goes Aborted may.fate)

  pub clean_now : (h : Hand) → r.view.hand ≡ Some h → IsClean r.view h.attempt
  clean_now h is = subst (λ v. IsClean v h.attempt) (sym view_is) (subst (IsClean q.view) (sym (hand_is r.view a fate_now.held h is)) t.clean)

  module _ (count : length p.shares ≡ 64) (marks : s ≡ record r { view = s.view; shares = after_end r.shares a.desc }) (step : Stepped M o (λ pass. mark_end pass) r.view s.view) where
    told : s.view ≡ record (marked step.machine r.view) { hand = None; pending = without r.view.pending a; mine = r.view.mine ++ answered r.view.seen r.view.known a }
    told =
        let e = told_end M o r.view s.view step in
        let h = hand_is r.view a fate_now.held e.0 e.1.held in
        e.2 ∙ ap (λ x. record (marked step.machine r.view) { hand = None; pending = without r.view.pending x; mine = r.view.mine ++ answered r.view.seen r.view.known x }) h

    abbrev mark : Step
    mark = step_of step.machine r.view Load 0 (content step.machine 0)

    none_answered : answered r.view.seen r.view.known a ≡ []
    none_answered = ap (λ (v : PassView). answered v.seen v.known a) view_is
        ∙ ap (λ l. answered l q.view.known a) (seen_is o.shape began p q a writes may of same t)
        ∙ ap (λ l. answered p.view.seen l a) (known_is o.shape began p q a writes may of same t) ∙ may.none

    lanes_marked : s.view.lanes ≡ r.view.lanes
    lanes_marked = ap (λ (x : PassView). x.lanes) told

    trail_is : s.view.trail ≡ p.view.trail ++ (t.steps ++ mark ∷ [])
    trail_is = ap (λ (x : PassView). x.trail) told ∙ ap (λ (x : PassView). x.trail ++ mark ∷ []) view_is
        ∙ ap (λ (x : PassView). x.trail ++ mark ∷ []) t.goes.1 ∙ append_assoc p.view.trail t.steps (mark ∷ [])

    share_is : (lane : ℕ) → share_at r.shares lane ≡ record (share_at p.shares lane) { nodes_taken = (share_at began.shares lane).nodes_taken }
    share_is lane = back.shares lane ∙ ap (λ (x : PassState). record (share_at x.shares lane) { nodes_taken = (share_at began.shares lane).nodes_taken }) same

    inside : a.desc < length r.shares
    inside =
        let fits = desc_fits o.shape a.desc (desc_there M o r.view a fate_now) in
        let size = back.size in
        let long : length q.shares ≡ length p.shares = ap (λ (x : PassState). length x.shares) same in
        omega (arith, fits, count, size, long)

    ends_share : (lane : ℕ) → ((share_at (after_end r.shares a.desc) lane).nodes_taken ≡ (share_at r.shares lane).nodes_taken)
        × ((share_at (after_end r.shares a.desc) lane).tries_taken ≡ (share_at r.shares lane).tries_taken)
    ends_share = one_changed (λ lane x y. (y.nodes_taken ≡ x.nodes_taken) × (y.tries_taken ≡ x.tries_taken)) r.shares a.desc
        (record (share_at r.shares a.desc) { left_open = false }) inside
        (λ lane e. (ap (λ l. (share_at r.shares l).nodes_taken) e, ap (λ l. (share_at r.shares l).tries_taken) e))
        (λ lane ne. (refl, refl))

    quiet_zip : (ws : List Write) (steps : List Step) → AllZip (TakesWrite a Aborted) ws steps → All (λ (x : Step). ¬ (x.kind ≡ Exchange)) steps
    quiet_zip [] [] each = All-nil _
    quiet_zip [] (x ∷ steps) each = absurd each
    quiet_zip (w ∷ ws) [] each = absurd each
    quiet_zip (w ∷ ws) (x ∷ steps) each = All-cons (λ (y : Step). ¬ (y.kind ≡ Exchange)) x steps (λ e. no_exchange (sym each.0.kind ∙ e)) (quiet_zip ws steps each.1)
      where
        no_exchange : Uninstall ≡ Exchange → ⊥
        no_exchange e = cc

    no_load : Load ≡ Exchange → ⊥
    no_load e = cc

    pub withdrawn : Withdraws M o began p a writes s
    withdrawn = record {
      stands = stands_after M o (λ pass. mark_end pass) r.view s.view step lanes_marked;
      same = record {
        table = ap (λ (x : PassState). x.table) marks ∙ ap (λ (x : PassState). x.table) back.same ∙ ap (λ (x : PassState). x.table) same;
        shape = ap (λ (x : PassState). x.shape) marks ∙ ap (λ (x : PassState). x.shape) back.same ∙ ap (λ (x : PassState). x.shape) same;
        lanes = lanes_marked ∙ ap (λ (x : PassView). x.lanes) view_is ∙ ap (λ (x : PassView). x.lanes) t.goes.1;
        past = ap (λ (x : PassView). x.past) told ∙ ap (λ (x : PassView). x.past) view_is ∙ ap (λ (x : PassView). x.past) t.goes.1;
        steps = record { rest = t.steps ++ mark ∷ []; is = trail_is };
        known = all_stay-trans p.view.known r.view.known s.view.known (subst (λ (v : PassView). AllStay p.view.known v.known) (sym view_is) t.goes.2)
            (known_stays M o (λ pass. mark_end pass) r.view s.view step lanes_marked);
      };
      seen = ap (λ (x : PassView). x.seen) told ∙ ap (λ (x : PassView). x.seen) view_is ∙ seen_is o.shape began p q a writes may of same t;
      idle = ap (λ (x : PassView). x.hand) told;
      pending = ap (λ (x : PassView). x.pending) told ∙ ap (λ (x : PassView). without x.pending a) view_is ∙ ap (λ (x : PassView). without x.pending a) t.goes.1;
      mine = ap (λ (x : PassView). x.mine) told ∙ ap (λ l. r.view.mine ++ l) none_answered ∙ append-nil r.view.mine
          ∙ ap (λ (x : PassView). x.mine) view_is ∙ ap (λ (x : PassView). x.mine) t.goes.1;
      ended = ap (λ (x : PassState). (share_at x.shares a.desc).left_open) marks
          ∙ ap (λ (x : Share). x.left_open) (share_same r.shares a.desc (record (share_at r.shares a.desc) { left_open = false }) inside);
      tries = λ lane. ap (λ (x : PassState). (share_at x.shares lane).tries_taken) marks ∙ (ends_share lane).1 ∙ ap (λ (x : Share). x.tries_taken) (share_is lane);
      back = λ lane. ap (λ (x : PassState). (share_at x.shares lane).nodes_taken) marks ∙ (ends_share lane).0 ∙ ap (λ (x : Share). x.nodes_taken) (share_is lane);
      steps = t.steps ++ mark ∷ [];
      trail = trail_is;
      outs = t.steps;
      mark = mark;
      order = refl;
      taken = t.each;
      quiet = All-append (λ (x : Step). ¬ (x.kind ≡ Exchange)) t.steps (mark ∷ []) (quiet_zip writes t.steps t.each)
          (All-cons (λ (x : Step). ¬ (x.kind ≡ Exchange)) mark [] no_load (All-nil (λ (x : Step). ¬ (x.kind ≡ Exchange))));
    }
