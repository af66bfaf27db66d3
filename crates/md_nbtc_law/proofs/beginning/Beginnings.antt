-- A transaction begins: its parts, put together.
use Rattle.std.proofs.Common.{◌≡◌, ◌+◌, ◌<◌, ℕ, List, [], ◌∷◌, ◌++◌, false, None, Ok, Err, MatchResult, length, refl, sym, ap, ◌∙◌, subst}
use Rattle.std.specs.List.{Contains}
use Rattle.std.proofs.lemmas.List.{append-nil}
use Rattle.md_history.specs.Front.{AllStay, IsPrefix}
use Rattle.md_history.specs.FrontLaws.{all_stay-self, all_stay-trans}
use Rattle.md_machine.specs.declared.attempt.Hand.{Hand}
use Rattle.md_machine.specs.declared.attempt.AttemptId.{AttemptId}
use Rattle.md_machine.specs.declared.pass.PassView.{PassView}
use Rattle.md_machine.specs.Event.{mark_leave}
use Rattle.md_machine.specs.Machine.{attempt_of, was_begun}
use Rattle.md_machine.specs.Meaning.{Meaning}
use Rattle.md_machine.specs.Own.{HasDesc}
use Rattle.md_machine.specs.events.Mark.{new_hand}
use Rattle.md_machine.specs.clauses.nodes.EvenNexts.{AllTakenOut}
use Rattle.md_words.specs.Layout.{address}
use Rattle.md_words.specs.Place.{node_next}
use Rattle.md_rule.specs.Kept.{IsLeft}
use Rattle.md_rule_lanes.specs.Shares.{share_at}
use Rattle.md_rule.specs.Steps.{Stepped}
use Rattle.md_rule.specs.Views.{FieldView, IsOf, PassState}
use Rattle.md_rule_lanes.specs.declared.shares.Share.{Share}
use Rattle.md_rule.proofs.LaneSteps.{one_changed}
use Rattle.md_arena.specs.Left.{HasTryLeft, IsLowest}
use Rattle.md_arena.specs.Taking.{TakesDesc}
use Rattle.md_nbtc_law.specs.Beginning.{KeepsCounts, PutsInHand}
use Rattle.md_nbtc_law.specs.Ending.{BeginsTransaction, BeginsLane, BeginsNot, IsSamePass}
use Rattle.md_nbtc_law.specs.Prepared.{IsHeld}
use Rattle.md_nbtc_law.specs.State.{SameNodes, TxnState, attempt_in}
use Rattle.md_nbtc_law.proofs.beginning.Begun.{begun, is_hand, is_held, no_nodes}
use Rattle.md_nbtc_law.proofs.preparing.Later.{prefix_over}
use Rattle.md_nbtc_law.proofs.beginning.Leaving.{begins_not, share_taken}

-- an answer isn't a refusal
pub ok_not_err : {A B : Type 0} (x : A) (y : B) → Ok x ≡ Err y → ⊥
ok_not_err x y e = subst (λ r. MatchResult r (λ _. Unit {0}) (λ _. ⊥)) e tt

same_over : (p q r : PassState) → IsSamePass p q → IsSamePass q r → IsSamePass p r
same_over p q r a b = record {
  table = b.table ∙ a.table;
  shape = b.shape ∙ a.shape;
  lanes = b.lanes ∙ a.lanes;
  past = b.past ∙ a.past;
  steps = prefix_over p.view.trail q.view.trail r.view.trail a.steps b.steps;
  known = all_stay-trans p.view.known q.view.known r.view.known a.known b.known;
}

module _ (M : Meaning) (field : FieldView) (p q r s : PassState) (desc tag serial : ℕ) (leave : q ≡ record p { view = q.view }) (step : Stepped M field.origin (λ pass. mark_leave pass) p.view q.view)
    (takes : TakesDesc q desc r) (fits : desc < length q.shares) (rest : s ≡ record r { view = s.view; shares = s.shares }) (counts : KeepsCounts r.shares s.shares)
    (h : PutsInHand M field.origin desc tag serial r.view s.view) (of : IsOf s field) (own : HasDesc field.origin.shape r.view desc)
    (idle : r.view.hand ≡ None) (free : (node : ℕ) → IsLeft (record r { shape = field.origin.shape }) node → AllTakenOut r.view (address field.origin.shape (node_next node))) where
  pub nodes : SameNodes r s
  nodes lane = (counts lane).0

  abbrev t : TxnState
  t = begun M field r s desc tag serial of own nodes h

  held : IsHeld t
  held = is_held M field r s desc tag serial of own nodes h idle free

  hand : t.hand ≡ new_hand (attempt_of desc serial) tag
  hand = is_hand M field r s desc tag serial of own nodes h

  at : attempt_in t ≡ attempt_of desc serial
  at = ap (λ (x : Hand). x.attempt) hand

  left : BeginsNot M p field.origin q
  left = begins_not M field.origin p.view q.view step p q refl leave

  taken_same : IsSamePass q r
  taken_same = subst (λ x. IsSamePass q x) (sym takes.1) (record {
    table = refl;
    shape = refl;
    lanes = refl;
    past = refl;
    steps = record { rest = []; is = sym (append-nil q.view.trail) };
    known = all_stay-self q.view.known;
  })

  hand_same : IsSamePass r s
  hand_same = record {
    table = ap (λ (x : PassState). x.table) rest;
    shape = ap (λ (x : PassState). x.shape) rest;
    lanes = held.lanes;
    past = ap (λ (v : PassView). v.past) h.marks ∙ ap (λ (v : PassView). v.past) h.finds.goes.1;
    steps = held.since;
    known = subst (AllStay r.view.known) (sym (ap (λ (v : PassView). v.known) h.marks)) h.finds.goes.2;
  }

  view_taken : r.view ≡ q.view
  view_taken = ap (λ (x : PassState). x.view) takes.1

  abbrev Changed : ℕ → Share → Share → Type 0
  Changed lane a b = (b.nodes_taken ≡ a.nodes_taken) × (¬ (lane ≡ desc) → b.tries_taken ≡ a.tries_taken)

  changed : (lane : ℕ) → Changed lane (share_at p.shares lane) (share_at r.shares lane)
  changed lane = subst (λ x. Changed lane (share_at x lane) (share_at r.shares lane)) (ap (λ (x : PassState). x.shares) leave)
      (subst (λ (x : PassState). Changed lane (share_at q.shares lane) (share_at x.shares lane)) (sym takes.1)
      (one_changed Changed q.shares desc (record (share_at q.shares desc) { tries_taken = (share_at q.shares desc).tries_taken + 1 }) fits
      (λ l e. (ap (λ k. (share_at q.shares k).nodes_taken) e, λ ne. absurd (ne (sym e))))
      (λ l ne. (refl, λ _. refl)) lane))

  pub lowest : IsLowest p (HasTryLeft p) desc
  lowest =
      let x = subst (λ (y : PassState). IsLowest y (HasTryLeft y) desc) leave takes.0 in
      let lanes = left.same.lanes in record {
        held = subst (λ (l : List ℕ). Contains l desc) lanes x.held;
        has = x.has;
        lower = λ other c less. x.lower other (subst (λ (l : List ℕ). Contains l other) (sym lanes) c) less;
      }

  one : (share_at s.shares desc).tries_taken ≡ (share_at p.shares desc).tries_taken + 1
  one = (counts desc).1
      ∙ ap (λ (x : PassState). (share_at x.shares desc).tries_taken) takes.1
      ∙ ap (λ (x : Share). x.tries_taken) (share_taken q.shares desc ((share_at q.shares desc).tries_taken + 1) fits)
      ∙ ap (λ (x : PassState). (share_at x.shares desc).tries_taken + 1) leave

  pub begins : BeginsTransaction p tag (begun M field r s desc tag serial of own nodes h)
  begins = record {
    same = same_over p q s left.same (same_over q r s taken_same hand_same);
    seen = ap (λ (v : PassView). v.seen) h.marks ∙ ap (λ (v : PassView). v.seen) h.finds.goes.1 ∙ ap (λ (v : PassView). v.seen) view_taken ∙ left.seen;
    mine = ap (λ (v : PassView). v.mine) h.marks ∙ ap (λ (v : PassView). v.mine) h.finds.goes.1 ∙ ap (λ (v : PassView). v.mine) view_taken ∙ left.mine;
    new = subst (λ x. was_begun p.view.pending x ≡ false) (sym at) (subst (λ l. was_begun l (attempt_of desc serial) ≡ false) pending h.finds.new.pending);
    pending = ap (λ (v : PassView). v.pending) h.marks ∙ ap (λ l. l ++ attempt_of desc serial ∷ []) pending ∙ ap (λ x. p.view.pending ++ x ∷ []) (sym at);
    lane = subst (λ (x : AttemptId). BeginsLane p x.desc s) (sym at) (record {
      lowest = lowest;
      one = one;
      others = λ lane ne. (counts lane).1 ∙ (changed lane).1 ne;
    });
    nodes_taken = λ lane. (counts lane).0 ∙ (changed lane).0;
    hand = hand ∙ ap (λ x. new_hand x tag) (sym at);
    began = nodes;
    since = subst (λ (v : PassView). IsPrefix p.view.trail v.trail) (sym view_taken) left.same.steps;
    reads = refl;
    slots = refl;
    nodes = no_nodes M field r s desc tag serial of own nodes h;
    stop = refl;
  }
    where
      pending : h.found.pending ≡ p.view.pending
      pending = ap (λ (v : PassView). v.pending) h.finds.goes.1 ∙ ap (λ (v : PassView). v.pending) view_taken ∙ left.pending
