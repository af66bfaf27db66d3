-- What is seen in a word from which a clearing took another's descriptor: the even content that it left or found there.
use Rattle.std.proofs.Common.{◌≡◌, ◌≢◌, ◌⊎◌, ◌++◌, ◌∷◌, ℕ, true, false, List, [], refl, sym, ap, ◌∙◌, subst, inl, inr, ⊎_elim, append_assoc, arith}
use Rattle.std.proofs.lemmas.Bool.{true≢false}
use Rattle.std.proofs.lemmas.List.Elements.{Contains-append_left, Contains-append_right, Contains-push}
use Rattle.std.specs.List.{Contains}
use Rattle.md_words.specs.declared.shape.Shape.{Shape}
use Rattle.md_words.specs.Content.{count_of, is_even, value_of}
use Rattle.md_words.specs.Place.{Place, base_word, bucket_head, queue_head, queue_tail, node_key, node_value, node_next, desc_status, read_word, read_content, slot_word, slot_old, slot_new}
use Rattle.md_words.specs.PlaceAt.{IsCounted, place_at}
use Rattle.md_machine.specs.declared.certificate.Certificate.{Certificate}
use Rattle.md_machine.specs.declared.pass.PassView.{PassView}
use Rattle.md_machine.specs.declared.step.Step.{Step}
use Rattle.md_machine.specs.Certified.{is_written}
use Rattle.md_machine.specs.Event.{load}
use Rattle.md_machine.specs.LogicalHeap.{LogicalHeap}
use Rattle.md_machine.specs.Machine.{shape_of}
use Rattle.md_machine.specs.Meaning.{KeepsFacts, Lawful, Meaning}
use Rattle.md_machine.specs.Trail.{Meets}
use Rattle.md_machine.specs.clauses.nodes.Flags.{NotesWord}
use Rattle.md_machine.specs.events.Exchange.{FoundNext}
use Rattle.md_rule.specs.Steps.{SteppedFrom}
use Rattle.md_rule.specs.Views.{FieldView}
use Rattle.md_rule.proofs.Moves.{is_kept, is_meant}
use Rattle.md_help.specs.After.{StandsInField}
use Rattle.md_help.specs.Clears.{Clears}
use Rattle.md_help.specs.declared.clearing.Cleared.{Cleared}
use Rattle.md_nbtc_law.specs.Going.{IsGoing}
use Rattle.md_nbtc_law.specs.Known.{Met}
use Rattle.md_nbtc_law.specs.Seeing.{IsInPlace, IsNextOf, Looks}
use Rattle.md_nbtc_law.specs.State.{TxnState, shape_in, writes_in}
use Rattle.md_nbtc_law.proofs.looks.Causes.{made, whole}
use Rattle.md_nbtc_law.proofs.looks.ClearedLooks.{by, cleared, leaves, left_content, left_seen, looked_going, no_node}
use Rattle.md_nbtc_law.proofs.looks.EvenLooks.{flagged, next_of, next_place}

-- a place is the next word of a node, or of none
next_or : (p : Place) → ((node : ℕ) × (p ≡ node_next node)) ⊎ ((node : ℕ) → p ≢ node_next node)
next_or (node_next n) = inl (n, refl)
next_or base_word = inr (λ n e. grind (arith, e))
next_or (bucket_head m b) = inr (λ n e. grind (arith, e))
next_or (queue_head k) = inr (λ n e. grind (arith, e))
next_or (queue_tail k) = inr (λ n e. grind (arith, e))
next_or (node_key k) = inr (λ n e. grind (arith, e))
next_or (node_value k) = inr (λ n e. grind (arith, e))
next_or (desc_status d) = inr (λ n e. grind (arith, e))
next_or (read_word d i) = inr (λ n e. grind (arith, e))
next_or (read_content d i) = inr (λ n e. grind (arith, e))
next_or (slot_word d j) = inr (λ n e. grind (arith, e))
next_or (slot_old d j) = inr (λ n e. grind (arith, e))
next_or (slot_new d j) = inr (λ n e. grind (arith, e))

module _ (M : Meaning) (lawful : Lawful M) (t : TxnState) (cs : List Certificate) (going : IsGoing M t cs) (q : PassView) (word found : ℕ)
    (step : SteppedFrom M t.field.origin (λ pass. load pass word) word found t.pass.view q) (counted : IsCounted (shape_in t) word)
    (none : is_written (writes_in t) word ≡ false) (odd : is_even (count_of found) ≡ false)
    (r : PassView) (c : Cleared) (clears : Clears (shape_in t) word found c q r) (stands : StandsInField M t.field.origin r) where
  abbrev the : Step
  the = (made M t going.prepared q word found step).step

  abbrev u : TxnState
  u = cleared M lawful t cs going q word found step counted none odd r c clears stands

  abbrev steps : List Step
  steps = clears.ask ∷ clears.look ∷ clears.steps

  abbrev last : Step
  last = (by M lawful t cs going q word found step counted none odd r c clears stands).last

  last_in : Contains steps last
  last_in = let b = by M lawful t cs going q word found step counted none odd r c clears stands in subst (λ l. Contains l b.last) (sym b.order) (Contains-push b.earlier b.last)

  -- the last step met what is left
  left_last : Meets word c.left last
  left_last = inr (leaves M lawful t cs going q word found step counted none odd r c clears stands)

  -- where the word is in place, the node of a next word was noted by the first look
  noted : IsInPlace M t word → (node : ℕ) → place_at (shape_in t) word ≡ node_next node → NotesWord q.placed (place_at (shape_in t) word)
  noted place node is =
      let s = (looked_going M lawful t cs going q word found step counted none odd).stands in
      let k = is_kept M t.field.origin s.machine s.admitted in
      let m = made M t going.prepared q word found step in
      let there : Contains q.trail the = subst (λ l. Contains l the) (sym (ap (λ (x : PassView). x.trail) m.goes.1)) (Contains-push t.pass.view.trail the) in
      let flag = flagged M lawful t cs going q word found step counted none place node (next_of M lawful t cs going q word found step counted none node is) in
      subst (λ w. NotesWord q.placed (place_at (shape_in t) w)) m.there
      (subst (λ (h : Shape). NotesWord q.placed (place_at h the.word)) s.admitted.shape (k.flags s.pass q s.acts.at q.trail (Contains-push q.past q.trail) the there flag))

  -- so a step that met what was left is flagged there
  record Shows : Type 0 where
    step_left : Step
    inside : Contains steps step_left
    meets : Meets word c.left step_left
    flag : (node : ℕ) → place_at (shape_in t) word ≡ node_next node → step_left.placed ≡ true

  shows : IsInPlace M t word → Shows
  shows place = ⊎_elim
      (λ next. let s = clears.noted (noted place next.0 next.1) in record { step_left = s.0; inside = s.1; meets = s.2.0; flag = λ node is. s.2.1 })
      (λ other. record { step_left = last; inside = last_in; meets = left_last; flag = λ node is. absurd (other node is) })
      (next_or (place_at (shape_in t) word))

  -- the steps of the look and of the clearing
  trail_is : r.trail ≡ t.pass.view.trail ++ (the ∷ steps)
  trail_is = ap (λ (x : PassView). x.trail) clears.goes.1 ∙ ap (λ (x : PassView). x.trail ++ steps) (made M t going.prepared q word found step).goes.1 ∙ append_assoc t.pass.view.trail (the ∷ []) steps

  inside_now : (s : Step) → Contains steps s → Contains r.trail s
  inside_now s i = subst (λ l. Contains l s) (sym (ap (λ (x : PassView). x.trail) clears.goes.1)) (Contains-append_right q.trail steps s i)

  module _ (even : is_even (count_of c.left) ≡ true) where
    -- the value was met there, so it was in a valid heap
    met : IsInPlace M t word → Met M u word (value_of c.left)
    met place v over prepared h of =
        let shape : shape_of of.machine ≡ shape_in t = of.admitted.shape ∙ ap (λ (f : FieldView). f.origin.shape) over.field in
        let s = shows place in
        let there : Contains v.pass.view.trail s.step_left = subst (λ l. Contains l s.step_left) (sym over.steps.is) (Contains-append_left r.trail over.steps.rest s.step_left (inside_now s.step_left s.inside)) in
        let was = (is_meant M v.field.origin lawful of.machine of.admitted).was_in of.pass v.pass.view of.acts.at v.pass.view.trail
        (Contains-push v.pass.view.past v.pass.view.trail) s.step_left there word c.left (record {
          counted = subst (λ h. IsCounted h word) (sym shape) counted;
          even = even;
          met = s.meets;
          flagged = λ node is. s.flag node (ap (λ (h : Shape). place_at h word) (sym shape) ∙ is);
        }) in record {
          heap = was.heap;
          valid = was.valid;
          shape = was.shape ∙ sym (ap (λ (x : LogicalHeap). x.words.shape) of.is);
          is = was.is;
          rooted = was.rooted;
          facts = subst (KeepsFacts was.heap) (sym of.is) (was.facts of.choice of.resolves);
        }

    -- the value of a next word was found
    found_next : IsInPlace M t word → (node : ℕ) → IsNextOf t word node → FoundNext (shape_in t) r node (value_of c.left)
    found_next place node is =
        let s = shows place in (
          c.left,
          refl,
          even,
          (
            r.trail,
            Contains-push r.past r.trail,
            (s.step_left, inside_now s.step_left s.inside, (subst (λ w. Meets w c.left s.step_left) is.1 s.meets, s.flag node (next_place M lawful t cs going q word found step counted none node is))),
          ),
        )

    -- what the look gives
    pub left_looks : Looks M t u word (left_seen M lawful t cs going q word found step counted none odd r c clears stands)
    left_looks = record {
      gave = record {
        counted = counted;
        own = sym none;
        slot = λ own. absurd (true≢false (sym own));
        content = λ _. left_content M lawful t cs going q word found step counted none odd r c clears stands even;
      };
      steps = the ∷ steps;
      trail = trail_is;
      now = (last, Contains-append_right (the ∷ []) steps last last_in, subst (λ x. Meets word x last) (sym (whole c.left)) left_last);
      own_node = λ _ n among is. absurd (no_node M lawful t cs going q word found step counted none odd n among is);
      met = λ _. met;
      found = λ _. found_next;
    }
