-- A transaction goes on over a load.
use Rattle.std.proofs.Common.{◌≡◌, ◌≢◌, ◌∷◌, ℕ, List, [], Option, refl, sym, ap, ◌∙◌, subst, inl, arith}
use Rattle.std.proofs.lemmas.List.{append-nil}
use Rattle.std.proofs.lemmas.List.Elements.{All-cons, All-nil}
use Rattle.std.specs.List.{All, Contains}
use Rattle.md_words.specs.Layout.{address}
use Rattle.md_words.specs.Place.{desc_status}
use Rattle.md_machine.specs.declared.certificate.Certificate.{Certificate}
use Rattle.md_machine.specs.declared.pass.PassView.{PassView}
use Rattle.md_machine.specs.declared.step.Step.{Step}
use Rattle.md_machine.specs.declared.step.Kind.TheVariants.{Install, Load}
use Rattle.md_machine.specs.Event.{load}
use Rattle.md_machine.specs.Meaning.{Meaning}
use Rattle.md_machine.specs.clauses.nodes.FreeNodes.{IsFreeBy}
use Rattle.md_machine.proofs.clauses.nodes.FreeNodes.{still_free}
use Rattle.md_rule.specs.Steps.{EventOf, Stepped, SteppedFrom}
use Rattle.md_rule.specs.Views.{FieldView, Origin, PassState}
use Rattle.md_history.specs.declared.stops.Stop.{Stop}
use Rattle.md_machine.specs.declared.attempt.Read.{Read}
use Rattle.md_nbtc_law.specs.declared.seen.Seen.{Seen}
use Rattle.md_nbtc_law.specs.declared.slots.Lot.{Lot}
use Rattle.md_nbtc_law.specs.declared.slots.Slot.{Slot}
use Rattle.md_nbtc_law.specs.Seeing.{Gave}
use Rattle.md_nbtc_law.proofs.looks.Given.{gave_same}
use Rattle.md_nbtc_law.proofs.preparing.SameState.{same_state}
use Rattle.md_rule.proofs.Moves.{goes_on, is_kept, next_admitted}
use Rattle.md_help.proofs.Steps.{Made, made_load, stands_made}
use Rattle.md_nbtc_law.specs.Going.{IsGoing}
use Rattle.md_nbtc_law.specs.Known.{IsLater}
use Rattle.md_nbtc_law.specs.Prepared.{IsPrepared}
use Rattle.md_nbtc_law.specs.State.{TxnState, attempt_in, shape_in, state_of}
use Rattle.md_nbtc_law.proofs.preparing.Fronts.{front_after}
use Rattle.md_nbtc_law.proofs.preparing.GoingOn.{going_on, own_grows}
use Rattle.md_nbtc_law.proofs.preparing.Quiet.{IsQuiet, IsStill}
use Rattle.md_nbtc_law.proofs.preparing.StaysPrepared.{stays_prepared}

-- a step that found and left the same
pub record IsLook (s : Step) : Type 0 where
  pub kind : s.kind ≡ Load
  pub same : s.before ≡ s.after

pub look_quiet : (s : Step) → IsLook s → IsQuiet s
look_quiet s l = record { store = rw l.kind refl; install = λ e. load_no_install (sym l.kind ∙ e) }
  where
    load_no_install : Load ≡ Install → ⊥
    load_no_install e = cc

module _ (M : Meaning) (o : Origin) where
  -- a node that the pass knows to be free before a step, by entries that it has seen, it knows so after it
  pub free_over : (event : EventOf) (p q : PassView) (s : Stepped M o event p q) → q.seen ≡ p.seen → (lane : ℕ) → Contains p.lanes lane → Contains q.lanes lane
      → (node : ℕ) → IsFreeBy p.seen p.known node → IsFreeBy q.seen q.known node
  free_over event p q s seen lane before after node free =
      let kept = is_kept M o s.machine s.admitted in
      let next = is_kept M o s.next (next_admitted M o event p q s) in
      let on = (goes_on M o s.machine s.next (event s.pass) s.admitted s.does).fronts s.pass s.pass lane p q s.acts.at s.knows before after in
      let front = next.fronts s.pass q s.knows in
      still_free s.next next.fronts next.sound.sound p.seen q.seen p.known q.known (record { rest = []; is = seen ∙ sym (append-nil p.seen) }) front.seen
      (kept.fronts s.pass p s.acts.at).fated on.known front.known node (λ e c. absurd (none_in e c)) free
    where
      none_in : {A : Type 0} (x : A) → Contains [] x → ⊥
      none_in x c = omega (arith, c.1)

module _ (M : Meaning) (t : TxnState) (prepared : IsPrepared t) (q : PassView) (word result : ℕ)
    (step : SteppedFrom M t.field.origin (λ pass. load pass word) word result t.pass.view q) where
  made : Made (shape_in t) Load word result result t.pass.view q
  made = made_load M t.field.origin word result t.pass.view q step

  look : IsLook made.step
  look = record { kind = made.is_kind; same = made.found ∙ sym made.left_it }

  one : (P : Step → Type 0) → P made.step → All P (made.step ∷ [])
  one P p = All-cons P made.step [] p (All-nil P)

  lane_of : (let l = prepared.has.own.0 in Contains q.lanes l)
  lane_of = subst (λ l. Contains l prepared.has.own.0) (sym (ap (λ (x : PassView). x.lanes) made.goes.1)) prepared.has.own.1

  abbrev pub loaded : TxnState
  loaded = record t { pass = record t.pass { view = q } }

  pub loaded_prepared : word ≢ address (shape_in t) (desc_status (attempt_in t).desc) → IsPrepared loaded
  loaded_prepared apart = stays_prepared t prepared q (made.step ∷ []) made.goes
      (one IsQuiet (look_quiet made.step look))
      (λ w counted. one (IsStill (attempt_in t).desc w) (λ _. inl look.same))
      (λ i w written. one (λ s. s.word ≡ w.word → s.before ≡ s.after) (λ _. look.same))
      (one (λ s. s.word ≢ address (shape_in t) (desc_status (attempt_in t).desc)) (λ is. apart (sym made.there ∙ is)))
      (λ node own place is. one (λ s. s.word ≡ address (shape_in t) place → s.before ≡ s.after) (λ _. look.same))
      (λ node own free. free_over M t.field.origin (λ pass. load pass word) t.pass.view q step.0 (ap (λ (x : PassView). x.seen) made.goes.1)
      prepared.has.own.0 prepared.has.own.1 lane_of node free)

  pub loaded_later : IsLater t loaded
  loaded_later = record {
    field = refl;
    began = refl;
    attempt = refl;
    tag = refl;
    lanes = ap (λ (x : PassView). x.lanes) made.goes.1;
    past = ap (λ (x : PassView). x.past) made.goes.1;
    steps = record { rest = made.step ∷ []; is = ap (λ (x : PassView). x.trail) made.goes.1 };
    noted = record { rest = made.goes.0; is = ap (λ (x : PassView). x.placed) made.goes.1 };
    reads = record { rest = []; is = sym (append-nil _) };
    installs = record { rest = []; is = sym (append-nil _) };
    nodes = record { rest = []; is = sym (append-nil _) };
    front = front_after (shape_in t) t.pass (made.step ∷ []) q t.pass.shares made.goes (λ lane. refl);
  }

  pub loaded_going : word ≢ address (shape_in t) (desc_status (attempt_in t).desc) → (cs : List Certificate) → IsGoing M t cs → IsGoing M loaded cs
  loaded_going apart cs going = going_on M t (record t.pass { view = q }) loaded_later prepared.has.since refl cs going
      (stands_made M t.field.origin (λ pass. load pass word) Load word result result t.pass.view q step.0 made) (loaded_prepared apart)

  -- what a look at any word gave stays so
  pub loaded_given : (word : ℕ) (seen : Seen) → Gave t word seen → Gave loaded word seen
  loaded_given w seen = gave_same t (record t.pass { view = q }) (made.step ∷ [])
      (own_grows t.began.view.trail t.pass.view.trail q.trail (made.step ∷ []) prepared.has.since (ap (λ (x : PassView). x.trail) made.goes.1))
      (ap (λ (x : PassView). x.lanes) made.goes.1) w seen (one (λ s. s.word ≡ w → s.before ≡ s.after) (λ _. look.same))

-- what contracts see of the transaction then
module _ (M : Meaning) (field : FieldView) (p : PassState) (began : PassState) (reads : List Read) (slots : List Slot) (stop : Option Stop) (desc serial tag : ℕ) (lots : List Lot) where
  abbrev before : TxnState
  before = state_of field p began reads slots stop desc serial tag lots

  module _ (pass : PassState) (same : pass ≡ record p { view = pass.view }) (word result : ℕ)
      (step : SteppedFrom M field.origin (λ x. load x word) word result p.view pass.view) where
    abbrev after : TxnState
    after = state_of field pass began reads slots stop desc serial tag lots

    made_so : Made field.origin.shape Load word result result p.view pass.view
    made_so = made_load M field.origin word result p.view pass.view step

    pub loaded_is : after ≡ record before { pass = pass }
    loaded_is = subst (λ (x : PassState). state_of field x began reads slots stop desc serial tag lots ≡ record before { pass = x }) (sym same)
        (same_state field.origin.shape p pass.view (made_so.step ∷ []) made_so.goes
        (All-cons IsQuiet made_so.step [] (look_quiet made_so.step (record { kind = made_so.is_kind; same = made_so.found ∙ sym made_so.left_it })) (All-nil IsQuiet))
        field began reads slots stop desc serial tag lots)

    pub loaded_so : after ≡ record before { pass = record p { view = pass.view } }
    loaded_so = loaded_is ∙ ap (λ (x : PassState). record before { pass = x }) same
