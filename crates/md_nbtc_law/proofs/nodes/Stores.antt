-- A pass stores the words of a node that it knows to be free.
use Rattle.std.proofs.Common.{◌≡◌, ◌++◌, ◌∷◌, ◌||◌, ◌<◌, ℕ, true, false, List, [], Some, refl, sym, ap, ◌∙◌, subst, ⊎_elim}
use Rattle.std.proofs.lemmas.Bool.{cases_Bool, true≢false}
use Rattle.std.proofs.lemmas.List.Elements.{All-cons, All-nil}
use Rattle.std.specs.List.{Contains}
use Rattle.md_words.specs.declared.shape.Shape.{Shape}
use Rattle.md_words.specs.Lanes.{OwnsDesc, lane_of_desc}
use Rattle.md_words.specs.Layout.{Exists, IsNode, address, words_of}
use Rattle.md_words.specs.Place.{Place, node_next}
use Rattle.md_words.specs.PlaceAt.{place_at}
use Rattle.md_words.proofs.Owners.{own_node_exists}
use Rattle.md_words.proofs.Places.{address_below, place_at-address}
use Rattle.md_history.specs.FrontLaws.{all_stay-self}
use Rattle.md_machine.specs.declared.attempt.AttemptId.{AttemptId}
use Rattle.md_machine.specs.declared.attempt.Hand.{Hand}
use Rattle.md_machine.specs.declared.attempt.HistoryEntry.{HistoryEntry}
use Rattle.md_machine.specs.declared.pass.PassView.{PassView}
use Rattle.md_machine.specs.declared.step.Kind.TheVariants.{Store}
use Rattle.md_machine.specs.Event.{Acts, store}
use Rattle.md_machine.specs.Machine.{Machine, content, is_ready, same_attempt, shape_of}
use Rattle.md_machine.specs.Meaning.{Meaning}
use Rattle.md_machine.specs.Own.{HasDesc, HasNode, IsOwnNode, IsWordOf}
use Rattle.md_machine.specs.Stepping.{attempt_in_hand, known_after, step_of, stepped}
use Rattle.md_machine.specs.Resolution.{always_nodes}
use Rattle.md_machine.specs.clauses.nodes.FreeNodes.{IsFreeBy}
use Rattle.md_machine.specs.events.Store.{MayStoreAt, MayStoreNext, after_store, and_node, changes_by_store, hand_after_store, stored_by_store}
use Rattle.md_machine.proofs.events.Attempts.{ready_in, same_parts}
use Rattle.md_machine.proofs.lists.Options.{some_same}
use Rattle.md_machine.proofs.lists.Rising.{here, there}
use Rattle.md_rule.specs.Admitted.{Admitted}
use Rattle.md_rule.specs.Steps.{May, Stepped}
use Rattle.md_rule.specs.Views.{Origin}
use Rattle.md_rule.proofs.Moves.{is_kept}
use Rattle.md_rule.proofs.Told.{told_store}
use Rattle.md_help.proofs.Steps.{IsFor, Made}

-- an attempt that is ready has an entry
ready_entry : (es : List HistoryEntry) (a : AttemptId) → is_ready es a ≡ true → (e : HistoryEntry) × Contains es e × (same_attempt e.attempt a ≡ true)
ready_entry [] a is = absurd (true≢false (sym is))
ready_entry (e ∷ es) a is = ⊎_elim
    (λ this. (e, here e es, this))
    (λ not. let later = ready_entry es a (ap (λ b. b || is_ready es a) (sym not) ∙ is) in (later.0, there e es later.0 later.1, later.2))
    (cases_Bool (same_attempt e.attempt a))

lane_is : (shape : Shape) (lane desc : ℕ) → OwnsDesc shape lane desc → lane_of_desc shape desc ≡ lane
unfolding OwnsDesc lane_of_desc
lane_is shape lane desc owns = owns.1

-- what a store to a word of a node changes of what is in hand
only_stored : (m : Machine) (h : Hand) (old value node : ℕ) (place : Place) → IsWordOf node place
    → (changes_by_store m h.attempt old value place h.changes ≡ h.changes) × (stored_by_store place h.stored ≡ and_node h.stored node)
only_stored m h old value node place is = ⊎_elim
    (λ d. ⊎_elim (λ e. subst Only (sym e) (refl, refl)) (λ e. subst Only (sym e) (refl, refl)) d)
    (λ e. subst Only (sym e) (refl, refl)) is
  where
    Only : Place → Type 0
    Only p = (changes_by_store m h.attempt old value p h.changes ≡ h.changes) × (stored_by_store p h.stored ≡ and_node h.stored node)

module _ (M : Meaning) (o : Origin) (v : PassView) (h : Hand) (desc : HasDesc o.shape v h.attempt.desc) (unready : is_ready v.seen h.attempt ≡ false) where
  -- the attempt in hand has no entry in any machine in which the pass stands so
  pub unready_there : (m : Machine) → Admitted M o m → (pass : ℕ) → Acts m pass v → is_ready m.history h.attempt ≡ false
  unready_there m admitted pass acts = ⊎_elim
      (λ ready.
      let entry = ready_entry m.history h.attempt ready in
      let parts = same_parts entry.0.attempt h.attempt entry.2 in
      let lane : lane_of_desc (shape_of m) entry.0.attempt.desc ≡ desc.0 =
      ap (λ s. lane_of_desc s entry.0.attempt.desc) admitted.shape ∙ ap (lane_of_desc o.shape) parts.0 ∙ lane_is o.shape desc.0 h.attempt.desc desc.2 in
      let seen = ((is_kept M o m admitted).fronts pass v acts.at).own entry.0 entry.1 (subst (Contains v.lanes) (sym lane) desc.1) in
      absurd (true≢false (sym (ready_in v.seen entry.0 h.attempt seen parts.0 parts.1) ∙ unready)))
      (λ not. not)
      (cases_Bool (is_ready m.history h.attempt))

module _ (M : Meaning) (o : Origin) (v : PassView) (h : Hand) (held : v.hand ≡ Some h) (desc : HasDesc o.shape v h.attempt.desc)
    (unready : is_ready v.seen h.attempt ≡ false) (node : ℕ) (has : HasNode o.shape v node) where
  exists : IsNode o.shape node
  exists = own_node_exists o.shape has.0 node has.2

  pub place_exists : (place : Place) → IsWordOf node place → Exists o.shape place
  place_exists place is = ⊎_elim
      (λ d. ⊎_elim (λ e. subst (Exists o.shape) (sym e) exists) (λ e. subst (Exists o.shape) (sym e) exists) d)
      (λ e. subst (Exists o.shape) (sym e) exists) is

  here_is : (m : Machine) → Admitted M o m → (place : Place) → IsWordOf node place → place_at (shape_of m) (address o.shape place) ≡ place
  here_is m admitted place is = ap (λ s. place_at s (address o.shape place)) admitted.shape ∙ place_at-address o.shape place (place_exists place is)

  -- the store may be made: of the key or the value, and of the next word by what stands there
  module _ (free : IsFreeBy v.seen v.known node) where
    own_there : (m : Machine) → Admitted M o m → (pass : ℕ) → Acts m pass v → IsOwnNode m v node
    own_there m admitted pass acts =
        let mine = subst (λ s. HasNode s v node) (sym admitted.shape) has in
        (mine, (is_kept M o m admitted).free_nodes pass v acts.at node mine free)

    pub may_store : (place : Place) → IsWordOf node place → (value : ℕ)
        → ((m : Machine) → Admitted M o m → (pass : ℕ) → Acts m pass v → place ≡ node_next node → MayStoreNext (content m (address o.shape place)) value)
        → May M o (λ pass. store pass (address o.shape place) value) v
    may_store place is value next m admitted pass acts =
        let word = address o.shape place in
        let At : Place → Type 0 = MayStoreAt m v h.attempt (content m word) value in
        let own = own_there m admitted pass acts in
        let at : At place = ⊎_elim
        (λ d. ⊎_elim (λ e. subst At (sym e) own) (λ e. subst At (sym e) own) d)
        (λ e. subst At (sym e) (own, next m admitted pass acts e)) is in (
          after_store m pass v h word value,
          (
            v,
            h,
            acts,
            record {
              held = held;
              unready = unready_there M o v h desc unready m admitted pass acts;
              exists = subst (λ s. word < words_of s) (sym admitted.shape) (address_below o.shape place (place_exists place is));
              place = subst At (sym (here_is m admitted place is)) at;
            },
            refl,
          ),
        )

  -- what it leaves: one step, and the node is among those that were stored
  pub record StoredOne (place : Place) (value : ℕ) (q : PassView) : Type 0 where
    pub base : PassView
    pub found : ℕ
    pub made : Made o.shape Store (address o.shape place) found value v base
    pub attempt : made.step.attempt ≡ Some h.attempt
    pub is : q ≡ record base { hand = Some (record h { stored = and_node h.stored node }) }

  pub stored_one : (place : Place) → IsWordOf node place → (value : ℕ) (q : PassView) → Stepped M o (λ pass. store pass (address o.shape place) value) v q → StoredOne place value q
  stored_one place is value q step =
      let word = address o.shape place in
      let m = step.machine in
      let told = told_store M o v q word value step in
      let same : told.0 ≡ h = some_same told.0 h (sym told.1.held ∙ held) in
      let base = stepped m v Store word value in
      let only = only_stored m h (content m word) value node place is in
      record {
        base = base;
        found = content m word;
        made = record {
          step = step_of m v Store word value;
          goes = (
            always_nodes m,
            ap (λ (sh : Shape). record v {
              trail = v.trail ++ step_of m v Store word value ∷ [];
              known = known_after sh v.seen (step_of m v Store word value) v.known;
              placed = v.placed ++ always_nodes m;
            }) step.admitted.shape,
            all_stay-self v.known,
            All-cons (IsFor v) (step_of m v Store word value) [] refl (All-nil (IsFor v)),
          );
          is_kind = refl;
          there = refl;
          found = refl;
          left_it = refl;
        };
        attempt = ap attempt_in_hand held;
        is = told.2 ∙ ap (λ (x : Hand). record base { hand = Some (hand_after_store m x word value) }) same
            ∙ ap (λ p. record base { hand = Some (record h { changes = changes_by_store m h.attempt (content m word) value p h.changes; stored = stored_by_store p h.stored }) }) (here_is m step.admitted place is)
            ∙ ap (λ c. record base { hand = Some (record h { changes = c; stored = stored_by_store place h.stored }) }) only.0
            ∙ ap (λ s. record base { hand = Some (record h { stored = s }) }) only.1;
      }
