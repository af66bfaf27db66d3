-- What a look at a word gives that isn't an own one, where one load finds an even content.
use Rattle.std.proofs.Common.{◌≡◌, ◌++◌, ◌∷◌, ℕ, true, false, List, [], refl, sym, ap, ◌∙◌, subst, inl, inr, is_some, arith}
use Rattle.std.proofs.lemmas.Bool.{true≢false}
use Rattle.std.proofs.lemmas.List.Elements.{All-contains, Contains-append_left, Contains-push}
use Rattle.std.specs.List.{Contains}
use Rattle.md_words.specs.declared.shape.Shape.{Shape}
use Rattle.md_words.specs.Content.{count_of, is_even, value_of}
use Rattle.md_words.specs.Layout.{Exists, address}
use Rattle.md_words.specs.Place.{node_next}
use Rattle.md_words.specs.PlaceAt.{IsCounted, place_at}
use Rattle.md_words.proofs.Places.{address-place_at, place_at-address}
use Rattle.md_machine.specs.declared.certificate.Certificate.{Certificate}
use Rattle.md_machine.specs.declared.pass.PassView.{PassView}
use Rattle.md_machine.specs.declared.step.Step.{Step}
use Rattle.md_machine.specs.declared.step.Kind.TheVariants.{Load}
use Rattle.md_machine.specs.Certified.{is_written}
use Rattle.md_machine.specs.Event.{load}
use Rattle.md_machine.specs.LogicalHeap.{LogicalHeap}
use Rattle.md_machine.specs.Machine.{Machine, content, shape_of}
use Rattle.md_machine.specs.Meaning.{KeepsFacts, Lawful, Meaning}
use Rattle.md_machine.specs.Stepping.{is_of_placed}
use Rattle.md_machine.specs.Trail.{Finds, Meets}
use Rattle.md_machine.specs.clauses.nodes.OwnWords.{LastLeft}
use Rattle.md_machine.specs.events.Exchange.{FoundNext}
use Rattle.md_rule.specs.Steps.{SteppedFrom}
use Rattle.md_rule.specs.Views.{FieldView}
use Rattle.md_rule.proofs.Moves.{is_kept, is_meant}
use Rattle.md_rule.proofs.Told.{told_load}
use Rattle.md_help.proofs.Flagged.{flag_is as step_flag}
use Rattle.md_nbtc_law.specs.declared.seen.Seen.{Seen}
use Rattle.md_nbtc_law.specs.Going.{IsGoing}
use Rattle.md_nbtc_law.specs.Known.{Met}
use Rattle.md_nbtc_law.specs.Prepared.{IsPreparedNode, LeftLast}
use Rattle.md_nbtc_law.specs.Seeing.{Gave, IsInPlace, IsNextOf, Looks}
use Rattle.md_nbtc_law.specs.State.{OwnNode, TxnState, shape_in, writes_in}
use Rattle.md_nbtc_law.proofs.looks.Causes.{after_load, made, seen_there, sees_content, whole}
use Rattle.md_nbtc_law.proofs.preparing.Heaps.{heap_there, later_self}
use Rattle.md_nbtc_law.proofs.ready.Nodes.{last_left, node_own, not_placed}

module _ (M : Meaning) (lawful : Lawful M) (t : TxnState) (cs : List Certificate) (going : IsGoing M t cs) (q : PassView) (word found : ℕ)
    (step : SteppedFrom M t.field.origin (λ pass. load pass word) word found t.pass.view q) (counted : IsCounted (shape_in t) word)
    (none : is_written (writes_in t) word ≡ false) where
  abbrev m : Machine
  m = step.0.machine

  abbrev the : Step
  the = (made M t going.prepared q word found step).step

  trail_is : q.trail ≡ t.pass.view.trail ++ the ∷ []
  trail_is = ap (λ (x : PassView). x.trail) (made M t going.prepared q word found step).goes.1

  inside : Contains q.trail the
  inside = subst (λ l. Contains l the) (sym trail_is) (Contains-push t.pass.view.trail the)

  finds : Finds word found the
  finds = record { there = (made M t going.prepared q word found step).there; before = (made M t going.prepared q word found step).found; found = rw (made M t going.prepared q word found step).is_kind refl }

  -- the step's flag tells whether the node of the word is placed
  flag_is : the.placed ≡ is_of_placed m (place_at (shape_of m) word)
  flag_is = step_flag (shape_in t) m Load word found found (content m word) t.pass.view q (made M t going.prepared q word found step) (told_load M t.field.origin t.pass.view q word step.0)

  pub next_place : (node : ℕ) → IsNextOf t word node → place_at (shape_in t) word ≡ node_next node
  next_place node is = ap (place_at (shape_in t)) is.1 ∙ place_at-address (shape_in t) (node_next node) is.0

  pub next_of : (node : ℕ) → place_at (shape_in t) word ≡ node_next node → IsNextOf t word node
  next_of node is =
      let at = address-place_at (shape_in t) word counted.0 in
      (subst (Exists (shape_in t)) is at.0, sym at.1 ∙ ap (address (shape_in t)) is)

  -- so in place it is flagged
  pub flagged : IsInPlace M t word → (node : ℕ) → IsNextOf t word node → the.placed ≡ true
  flagged place node is =
      let known = place node is in
      flag_is ∙ ap (is_of_placed m) (ap (λ (x : Shape). place_at x word) step.0.admitted.shape ∙ next_place node is)
      ∙ ap is_some (known.1 t (later_self t) going.prepared _ (heap_there M lawful t m step.0.admitted step.0.pass step.0.acts))

  -- in an own node's next word it finds an even content, with the value that was stored
  pub own_next : (n : OwnNode) → Contains t.nodes n → IsNextOf t word n.node → (value_of found ≡ n.next) × (is_even (count_of found) ≡ true)
  own_next n among is =
      let k = is_kept M t.field.origin m step.0.admitted in
      let shape = step.0.admitted.shape in
      let w : ℕ = address (shape_of m) (node_next n.node) in
      let same : address (shape_in t) (node_next n.node) ≡ w = ap (λ (s : Shape). address s (node_next n.node)) (sym shape) in
      let own = All-contains (IsPreparedNode t) t.nodes n going.prepared.nodes among in
      let held = own.next (subst (λ v. is_written (writes_in t) v ≡ false) is.1 none) in
      let left : LeftLast w held.0 t.pass.view.trail = subst (λ v. LeftLast v held.0 t.pass.view.trail) same held.3 in
      let stands = k.own_words step.0.pass t.pass.view step.0.acts.at n.node
      (node_own M lawful t cs going m step.0.admitted step.0.pass step.0.acts n among)
      (not_placed M lawful t cs going m step.0.admitted step.0.pass step.0.acts n among) (node_next n.node) (inr refl) in
      let now : content m w ≡ left.step.after = last_left (node_next n.node) w (content m w) left.earlier left.step left.later
      (subst (λ l. LastLeft (node_next n.node) w (content m w) l) left.order stands) left.leaves.there
      (ap (λ c. is_even (count_of c)) left.leaves.after ∙ held.2)
      (λ x c there. All-contains (λ s. s.word ≡ w → s.before ≡ s.after) left.later x left.unchanged c there) in
      let is_held = sym step.1 ∙ ap (content m) (is.1 ∙ same) ∙ now ∙ left.leaves.after in
      (ap value_of is_held ∙ held.1, ap (λ c. is_even (count_of c)) is_held ∙ held.2)

  module _ (even : is_even (count_of found) ≡ true) where
    abbrev u : TxnState
    u = after_load M t going.prepared q word found step

    abbrev seen : Seen
    seen = seen_there M t going.prepared q word found step

    gave : Gave u word seen
    gave = record {
      counted = counted;
      own = sym none;
      slot = λ own. absurd (true≢false (sym own));
      content = λ _. sees_content M t going.prepared q word found step none even;
    }

    met : IsInPlace M t word → Met M u word (value_of found)
    met place v over prepared h of =
        let shape : shape_of of.machine ≡ shape_in t = of.admitted.shape ∙ ap (λ (f : FieldView). f.origin.shape) over.field in
        let there : Contains v.pass.view.trail the = subst (λ l. Contains l the) (sym over.steps.is) (Contains-append_left q.trail over.steps.rest the inside) in
        let was = (is_meant M v.field.origin lawful of.machine of.admitted).was_in of.pass v.pass.view of.acts.at v.pass.view.trail
        (Contains-push v.pass.view.past v.pass.view.trail) the there word found (record {
          counted = subst (λ s. IsCounted s word) (sym shape) counted;
          even = even;
          met = inl finds;
          flagged = λ node is. flagged place node (next_of node (ap (λ (s : Shape). place_at s word) (sym shape) ∙ is));
        }) in record {
          heap = was.heap;
          valid = was.valid;
          shape = was.shape ∙ sym (ap (λ (x : LogicalHeap). x.words.shape) of.is);
          is = was.is;
          rooted = was.rooted;
          facts = subst (KeepsFacts was.heap) (sym of.is) (was.facts of.choice of.resolves);
        }

    found_next : IsInPlace M t word → (node : ℕ) → IsNextOf t word node → FoundNext (shape_in t) q node (value_of found)
    found_next place node is = (
      found,
      refl,
      even,
      (
        q.trail,
        Contains-push q.past q.trail,
        (
          the,
          inside,
          (subst (λ w. Meets w found the) is.1 (inl finds), flagged place node is),
        ),
      ),
    )

    pub looks : Looks M t u word seen
    looks = record {
      gave = gave;
      steps = the ∷ [];
      trail = trail_is;
      now = (the, (0, omega arith, refl), subst (λ c. Meets word c the) (sym (whole found)) (inl finds));
      own_node = λ _ n among is. (own_next n among is).0;
      met = λ _. met;
      found = λ _. found_next;
    }
