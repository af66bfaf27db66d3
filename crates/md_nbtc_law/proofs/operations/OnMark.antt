-- A transaction goes on over a mark that leaves it its attempt, with other acts in hand.
use Rattle.std.proofs.Common.{◌≡◌, ◌≢◌, ◌∷◌, ℕ, Bool, List, [], Option, Some, refl, sym, ap, ◌∙◌, subst, inl}
use Rattle.std.proofs.lemmas.List.{append-nil}
use Rattle.std.proofs.lemmas.List.Elements.{All-cons, All-nil}
use Rattle.std.specs.List.{All, Contains}
use Rattle.md_words.specs.Layout.{address}
use Rattle.md_words.specs.Place.{desc_status}
use Rattle.md_history.specs.Front.{AllStay}
use Rattle.md_history.specs.declared.acts.Act.{Act}
use Rattle.md_history.specs.declared.stops.Stop.{Stop}
use Rattle.md_machine.specs.declared.attempt.Hand.{Hand}
use Rattle.md_machine.specs.declared.attempt.Read.{Read}
use Rattle.md_machine.specs.declared.certificate.Certificate.{Certificate}
use Rattle.md_machine.specs.declared.node.PlacedNode.{PlacedNode}
use Rattle.md_machine.specs.declared.pass.PassView.{PassView}
use Rattle.md_machine.specs.declared.step.Step.{Step}
use Rattle.md_machine.specs.declared.step.Kind.TheVariants.{Load}
use Rattle.md_machine.specs.Certified.{placed_by}
use Rattle.md_machine.specs.Machine.{content}
use Rattle.md_machine.specs.Meaning.{Meaning}
use Rattle.md_machine.specs.clauses.nodes.FreeNodes.{IsFreeBy}
use Rattle.md_machine.specs.events.Mark.{marked}
use Rattle.md_rule.specs.Steps.{EventOf, Stepped}
use Rattle.md_rule.specs.Views.{FieldView, PassState}
use Rattle.md_help.proofs.Steps.{Made, known_stays, made, stands_after}
use Rattle.md_nbtc_law.specs.declared.slots.Lot.{Lot}
use Rattle.md_nbtc_law.specs.declared.slots.Slot.{Slot}
use Rattle.md_nbtc_law.specs.Course.{IsCourse}
use Rattle.md_nbtc_law.specs.Going.{IsGoing}
use Rattle.md_nbtc_law.specs.Known.{IsLater}
use Rattle.md_nbtc_law.specs.Prepared.{IsPrepared}
use Rattle.md_nbtc_law.specs.State.{TxnState, attempt_in, shape_in, state_of}
use Rattle.md_nbtc_law.proofs.preparing.GoingOn.{Rest, going_of, rest_of, rest_on}
use Rattle.md_nbtc_law.proofs.preparing.Fronts.{front_after}
use Rattle.md_nbtc_law.proofs.preparing.Later.{later_over}
use Rattle.md_nbtc_law.proofs.looks.Loaded.{IsLook, free_over, look_quiet}
use Rattle.md_nbtc_law.proofs.preparing.Quiet.{IsQuiet, IsStill}
use Rattle.md_nbtc_law.proofs.preparing.SameState.{same_nodes}
use Rattle.md_nbtc_law.proofs.preparing.StatusApart.{base_apart}
use Rattle.md_nbtc_law.proofs.preparing.StaysPrepared.{stays_prepared}
use Rattle.md_nbtc_law.proofs.operations.Turned.{turned, turned_hand, turned_later, turned_rest}

module _ (M : Meaning) (t : TxnState) (prepared : IsPrepared t) (acts : List Act) (operating : Bool) (event : EventOf) (q : PassView)
    (step : Stepped M t.field.origin event t.pass.view q)
    (view_is : q ≡ record (marked step.machine t.pass.view) { hand = Some (turned_hand t.hand acts operating) }) where
  abbrev pub base : PassView
  base = marked step.machine t.pass.view

  pub mark : Made (shape_in t) Load 0 (content step.machine 0) (content step.machine 0) t.pass.view base
  mark = made (shape_in t) step.machine Load 0 (content step.machine 0) (content step.machine 0) t.pass.view base step.admitted.shape refl refl
      (λ _. subst (λ (x : PassView). AllStay t.pass.view.known x.known) view_is (known_stays M t.field.origin event t.pass.view q step (ap (λ (x : PassView). x.lanes) view_is)))

  pub look : IsLook mark.step
  look = record { kind = mark.is_kind; same = mark.found ∙ sym mark.left_it }

  pub one : (P : Step → Type 0) → P mark.step → All P (mark.step ∷ [])
  one P p = All-cons P mark.step [] p (All-nil P)

  lanes_are : q.lanes ≡ t.pass.view.lanes
  lanes_are = ap (λ (x : PassView). x.lanes) view_is

  abbrev at_base : TxnState
  at_base = record t { pass = record t.pass { view = base } }

  base_prepared : IsPrepared at_base
  base_prepared = stays_prepared t prepared base (mark.step ∷ []) mark.goes
      (one IsQuiet (look_quiet mark.step look))
      (λ w counted. one (IsStill (attempt_in t).desc w) (λ _. inl look.same))
      (λ i w written. one (λ s. s.word ≡ w.word → s.before ≡ s.after) (λ _. look.same))
      (one (λ s. s.word ≢ address (shape_in t) (desc_status (attempt_in t).desc)) (λ is. base_apart (shape_in t) (attempt_in t).desc (sym mark.there ∙ is)))
      (λ node own place is. one (λ s. s.word ≡ address (shape_in t) place → s.before ≡ s.after) (λ _. look.same))
      (λ node own free. subst (λ (x : PassView). IsFreeBy x.seen x.known node) view_is
      (free_over M t.field.origin event t.pass.view q step (ap (λ (x : PassView). x.seen) view_is)
      prepared.has.own.0 prepared.has.own.1 (subst (λ l. Contains l prepared.has.own.0) (sym lanes_are) prepared.has.own.1) node free))

  base_later : IsLater t at_base
  base_later = record {
    field = refl;
    began = refl;
    attempt = refl;
    tag = refl;
    lanes = ap (λ (x : PassView). x.lanes) mark.goes.1;
    past = ap (λ (x : PassView). x.past) mark.goes.1;
    steps = record { rest = mark.step ∷ []; is = ap (λ (x : PassView). x.trail) mark.goes.1 };
    noted = record { rest = mark.goes.0; is = ap (λ (x : PassView). x.placed) mark.goes.1 };
    reads = record { rest = []; is = sym (append-nil _) };
    installs = record { rest = []; is = sym (append-nil _) };
    nodes = record { rest = []; is = sym (append-nil _) };
    front = front_after (shape_in t) t.pass (mark.step ∷ []) base t.pass.shares mark.goes (λ lane. refl);
  }

  -- the transaction after the mark
  abbrev pub after_mark : TxnState
  after_mark = record t { pass = record t.pass { view = q }; hand = turned_hand t.hand acts operating }

  after_is : turned at_base base_prepared acts operating ≡ after_mark
  after_is = ap (λ (x : PassView). record t { pass = record t.pass { view = x }; hand = turned_hand t.hand acts operating }) (sym view_is)

  pub mark_later : IsLater t after_mark
  mark_later = later_over t at_base after_mark base_later (subst (IsLater at_base) after_is (turned_later at_base base_prepared acts operating))

  -- it goes on by certificates that place what the earlier ones placed, if these have a course
  pub mark_going : (cs ds : List Certificate) → ((p : PlacedNode) → Contains (placed_by cs) p → Contains (placed_by ds) p) → IsGoing M t cs
      → IsCourse M after_mark ds → IsGoing M after_mark ds
  mark_going cs ds grow going course = going_of M after_mark ds (stands_after M t.field.origin event t.pass.view q step lanes_are)
      (subst (λ u. Rest M u ds) after_is (turned_rest at_base base_prepared acts operating M cs ds grow
      (rest_on M t (record t.pass { view = base }) base_later prepared.has.since refl cs (rest_of M t cs going) base_prepared)
      (subst (λ u. IsCourse M u ds) (sym after_is) course)))

-- what contracts see of the transaction then
module _ (M : Meaning) (field : FieldView) (p began : PassState) (reads : List Read) (slots : List Slot) (stop : Option Stop) (desc serial tag : ℕ) (lots : List Lot) where
  abbrev before : TxnState
  before = state_of field p began reads slots stop desc serial tag lots

  module _ (prepared : IsPrepared before) (acts : List Act) (operating : Bool) (event : EventOf) (pass : PassState) (same : pass ≡ record p { view = pass.view })
      (step : Stepped M field.origin event p.view pass.view)
      (view_is : pass.view ≡ record (marked step.machine p.view) { hand = Some (turned_hand before.hand acts operating) }) where
    abbrev hand : Hand
    hand = turned_hand before.hand acts operating

    pub mark_so : state_of field pass began reads slots stop desc serial tag lots ≡ after_mark M before prepared acts operating event pass.view step view_is
    mark_so = subst (λ (x : PassState). state_of field x began reads slots stop desc serial tag lots ≡ record before { pass = record p { view = x.view }; hand = hand }) (sym same)
        (subst (λ (x : PassView). state_of field (record p { view = x }) began reads slots stop desc serial tag lots ≡ record before { pass = record p { view = x }; hand = hand })
        (sym view_is)
        (ap (λ nodes. record before { pass = record p { view = record (marked step.machine p.view) { hand = Some hand } }; hand = hand; nodes = nodes })
        (same_nodes field.origin.shape p (marked step.machine p.view) ((mark M before prepared acts operating event pass.view step view_is).step ∷ [])
        (mark M before prepared acts operating event pass.view step view_is).goes
        (one M before prepared acts operating event pass.view step view_is IsQuiet (look_quiet (mark M before prepared acts operating event pass.view step view_is).step (look M before prepared acts operating event pass.view step view_is)))
        field.origin.shape began)))

    pub mark_is_so : state_of field pass began reads slots stop desc serial tag lots ≡ record before { pass = pass; hand = hand }
    mark_is_so = mark_so ∙ ap (λ (x : PassState). record before { pass = x; hand = hand }) (sym same)
