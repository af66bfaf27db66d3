-- What one step of a pass with a transaction in hand leaves of it.
use Rattle.std.proofs.Common.{◌≡◌, ◌++◌, ◌∷◌, ℕ, List, [], Some, refl, sym, ap, subst}
use Rattle.std.proofs.lemmas.List.Elements.{All-cons, All-nil}
use Rattle.std.specs.List.{Contains}
use Rattle.md_words.specs.declared.shape.Shape.{Shape}
use Rattle.md_history.specs.Front.{AllStay}
use Rattle.md_machine.specs.declared.certificate.Change.{Change}
use Rattle.md_machine.specs.declared.pass.PassView.{PassView}
use Rattle.md_machine.specs.declared.step.Kind.{Kind}
use Rattle.md_machine.specs.declared.step.Step.{Step}
use Rattle.md_words.specs.PlaceAt.{place_at}
use Rattle.md_machine.specs.Event.{Acts}
use Rattle.md_machine.specs.Machine.{Machine, content, shape_of}
use Rattle.md_rule.specs.Admitted.{Admitted}
use Rattle.md_machine.specs.Meaning.{Meaning}
use Rattle.md_machine.specs.Resolution.{always_nodes}
use Rattle.md_machine.specs.Stepping.{attempt_in_hand, is_of_placed, known_after, step_of, stepped}
use Rattle.md_machine.specs.clauses.nodes.FreeNodes.{IsFreeBy}
use Rattle.md_rule.specs.Steps.{EventOf, Stepped}
use Rattle.md_help.specs.After.{IsAfter, StandsInField}
use Rattle.md_help.proofs.Steps.{IsFor, known_stays, stands_after}
use Rattle.md_nbtc_law.specs.Prepared.{IsPrepared}
use Rattle.md_nbtc_law.specs.State.{TxnState, attempt_in, shape_in}
use Rattle.md_nbtc_law.proofs.exchanging.ChangedPrepared.{changed_view}
use Rattle.md_nbtc_law.proofs.looks.Loaded.{free_over}

module _ (M : Meaning) (t : TxnState) (prepared : IsPrepared t) where
  -- a step of this kind on the word, which found one content and left another, and these changes in hand
  pub record StepsOnce (is_kind : Kind) (word held after : ℕ) (changes : List Change) (q : PassView) : Type 0 where
    pub base : PassView
    pub step : Step
    pub goes : IsAfter (shape_in t) (step ∷ []) t.pass.view base
    pub kind : step.kind ≡ is_kind
    pub there : step.word ≡ word
    pub found : step.before ≡ held
    pub left : step.after ≡ after
    pub attempt : step.attempt ≡ Some (attempt_in t)
    pub view : q ≡ changed_view t base step goes changes t.pass.shares t.slots
    pub free : (node : ℕ) → IsFreeBy t.pass.view.seen t.pass.view.known node → IsFreeBy base.seen base.known node
    pub stands : StandsInField M t.field.origin q
    -- the machine in which it was made, where it noted whether the word is one of a placed node
    pub machine : Machine
    pub admitted : Admitted M t.field.origin machine
    pub pass : ℕ
    pub acts : Acts machine pass t.pass.view
    pub flag : step.placed ≡ is_of_placed machine (place_at (shape_of machine) word)

  pub steps_once : (event : EventOf) (q : PassView) (step : Stepped M t.field.origin event t.pass.view q) (is_kind : Kind) (word held after : ℕ) (changes : List Change)
      → content step.machine word ≡ held
      → q ≡ record (stepped step.machine t.pass.view is_kind word after) { hand = Some (record t.hand { changes = changes }) } → StepsOnce is_kind word held after changes q
  steps_once event q step is_kind word held after changes held_is view =
      let m = step.machine in
      let v = t.pass.view in
      let lanes : q.lanes ≡ v.lanes = ap (λ (x : PassView). x.lanes) view in
      record {
        base = stepped m v is_kind word after;
        step = step_of m v is_kind word after;
        goes = (
          always_nodes m,
          ap (λ (sh : Shape). record v {
            trail = v.trail ++ step_of m v is_kind word after ∷ [];
            known = known_after sh v.seen (step_of m v is_kind word after) v.known;
            placed = v.placed ++ always_nodes m;
          }) step.admitted.shape,
          subst (λ (x : PassView). AllStay v.known x.known) view (known_stays M t.field.origin event v q step lanes),
          All-cons (IsFor v) (step_of m v is_kind word after) [] refl (All-nil (IsFor v)),
        );
        kind = refl;
        there = refl;
        found = held_is;
        left = refl;
        attempt = ap attempt_in_hand prepared.has.held;
        view = view;
        free = λ node free. subst (λ (x : PassView). IsFreeBy x.seen x.known node) view
            (free_over M t.field.origin event v q step (ap (λ (x : PassView). x.seen) view)
            prepared.has.own.0 prepared.has.own.1 (subst (λ l. Contains l prepared.has.own.0) (sym lanes) prepared.has.own.1) node free);
        stands = stands_after M t.field.origin event v q step lanes;
        machine = m;
        admitted = step.admitted;
        pass = step.pass;
        acts = step.acts;
        flag = refl;
      }
