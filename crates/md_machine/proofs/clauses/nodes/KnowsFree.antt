-- What a pass knows of free nodes: it may store to them and give them back, and it knows so after further events.
use Rattle.std.proofs.Common.{◌≡◌, ℕ, suc, true, false, ◌⊎◌, List, [], ◌∷◌, ◌++◌, length, refl, sym, ap, ◌∙◌, subst, ⊎_elim, append_assoc, arith, None}
use Rattle.std.specs.List.{Contains}
use Rattle.std.proofs.lemmas.Bool.{cases_Bool}
use Rattle.std.proofs.lemmas.List.Elements.{Contains-append_left, Contains-append_right}
use Rattle.md_words.specs.declared.shape.Shape.{Shape}
use Rattle.md_words.specs.Content.{count_of, is_even}
use Rattle.md_words.specs.Layout.{address}
use Rattle.md_words.specs.Lanes.{OwnsNode}
use Rattle.md_words.specs.Place.{node_next}
use Rattle.md_words.proofs.Owners.{own_node_exists}
use Rattle.md_history.specs.declared.entries.Fate.{Fate}
use Rattle.md_history.specs.Front.{IsPrefix}
use Rattle.md_history.specs.FrontLaws.{all_stay-trans, prefix-trans}
use Rattle.md_machine.specs.declared.attempt.AttemptId.{AttemptId}
use Rattle.md_machine.specs.declared.attempt.HistoryEntry.{HistoryEntry}
use Rattle.md_machine.specs.declared.pass.PassView.{PassView}
use Rattle.md_machine.proofs.Reached.{no_steps}
use Rattle.md_machine.proofs.clauses.nodes.FreeNodes.{still_free, unseen_none}
use Rattle.md_machine.proofs.clauses.nodes.OwnNodes.{no_fewer}
use Rattle.md_machine.proofs.clauses.passes.KnownPast.{learns_from}
use Rattle.md_machine.proofs.clauses.passes.LanesApart.{at_once}
use Rattle.md_machine.proofs.clauses.passes.Longer.{begins_longer}
use Rattle.md_machine.proofs.clauses.passes.MineParts.{not_again}
use Rattle.md_machine.proofs.clauses.slots.UndecidedSlots.{free_to_return}
use Rattle.md_machine.proofs.events.Holders.{HasStepsOf, held_before, met_more}
use Rattle.md_machine.proofs.events.Moves.{does_move}
use Rattle.md_machine.proofs.events.Tell.{tell}
use Rattle.md_machine.proofs.fates.Decidedness.{MoreDecided, all_both}
use Rattle.md_machine.proofs.lists.Rising.{range_in}
use Rattle.md_machine.proofs.resolutions.Placing.{always_not_never}
use Rattle.md_machine.specs.Event.{Does, Event, first_pass}
use Rattle.md_machine.specs.FreeToReturn.{IsFreeToReturn, IsInPreparation, KnowsFree}
use Rattle.md_machine.specs.GoesOn.{MachineGoesOn}
use Rattle.md_machine.specs.Machine.{Install, IsAt, Machine, content, shape_of}
use Rattle.md_machine.specs.Meaning.{Meaning}
use Rattle.md_machine.specs.Own.{HasNode, IsOwnNode}
use Rattle.md_machine.specs.Resolution.{always_placed, structure_in}
use Rattle.md_machine.specs.Theorem.{IsKept}
use Rattle.md_machine.specs.Trail.{EveryStepOf, MetHigher}
use Rattle.md_machine.specs.clauses.entries.Fates.{FatesTold}
use Rattle.md_machine.specs.clauses.nodes.EvenNexts.{AllTakenOut}
use Rattle.md_machine.specs.clauses.slots.UndecidedSlots.{NamesNode, UndecidedNamePlaced}
use Rattle.md_machine.specs.events.Start.{IsClean, WonInstall}

told_fated : (shape : Shape) (words : List ℕ) (es : List HistoryEntry) (fs : List Fate) → FatesTold shape words es fs → length fs ≡ length es
told_fated shape words [] [] t = refl
told_fated shape words [] (f ∷ fs) t = absurd t
told_fated shape words (e ∷ es) [] t = absurd t
told_fated shape words (e ∷ es) (f ∷ fs) t = ap suc (told_fated shape words es fs t.1)

module _ (m : Machine) (k : IsKept m) (pass : ℕ) (p : PassView) (at : IsAt m pass p) (node : ℕ) (knows : KnowsFree (shape_of m) p node) where
  -- it is an own node
  pub free_own : IsOwnNode m p node
  free_own = (knows.own, k.free_nodes pass p at node knows.own knows.unplaced)

  pub free_not_always : always_placed m node ≡ false
  free_not_always = ⊎_elim
      (λ always. absurd (always_not_never m node (told_fated (shape_of m) m.words m.history m.fates k.fates.told) always free_own.1))
      (λ not. not)
      (cases_Bool (always_placed m node))

  -- its next word has an even count
  pub free_even : is_even (count_of (content m (address (shape_of m) (node_next node)))) ≡ true
  free_even = k.even_nexts pass p at node knows.own free_not_always knows.out

  -- and it may be given back, if no slot for a link names it that the pass prepares
  pub free_returns : (M : Meaning) → UndecidedNamePlaced M m → ((i : Install) → NamesNode M m i node → ¬ IsInPreparation m p i.attempt)
      → IsFreeToReturn M m p node
  free_returns M slots hand = free_to_return M m p node slots (own_node_exists (shape_of m) knows.own.0 node knows.own.2).0 free_own.1 hand

-- once an attempt is clean, all is taken out of a word in which the pass won no install of another attempt that it didn't
-- meet again
pub clean_taken_out : (p : PassView) (a : AttemptId) → IsClean p a → (word : ℕ)
    → EveryStepOf p (λ s. (b : AttemptId) → WonInstall b s → s.word ≡ word → (a ≡ b) ⊎ MetHigher p word (count_of s.after)) → AllTakenOut p word
clean_taken_out p a clean word others segment c s i b won is = ⊎_elim
    (λ mine. subst (λ w. MetHigher p w (count_of s.after)) is (clean segment c s i (subst (λ x. WonInstall x s) (sym mine) won)))
    (λ met. met)
    (others segment c s i b won is)

-- the pass of an opening knows all nodes of the lanes to be free
pub opened_free : (shape : Shape) (lane node : ℕ) → OwnsNode shape lane node → KnowsFree shape (first_pass shape) node
unfolding OwnsNode
opened_free shape lane node owns = let exists = owns.0 in record {
  own = (lane, range_in 0 shape.lanes lane (omega arith) (omega (arith, exists)), owns);
  unplaced = refl;
  out = λ segment c s i. absurd (no_steps shape s (0, first_pass shape, refl, (segment, c, i)));
}

-- by an event that neither installs in the node's next word nor enters an entry that places the node, whoever holds its lane
-- knows it to be free where the holder before it did
module _ (M : Meaning) (m n : Machine) (e : Event) (km : IsKept m) (kn : IsKept n) (on : MachineGoesOn m n) (does : Does M m e n) (node : ℕ)
    (installs : (i : Install) → Contains n.installs i → i.word ≡ address (shape_of m) (node_next node) → Contains m.installs i)
    (entries : (x : HistoryEntry) → Contains n.history x → Contains m.history x ⊎ (structure_in x.placed node ≡ None)) where
  abbrev word : ℕ
  word = address (shape_of m) (node_next node)

  module _ (pass j : ℕ) (p u : PassView) (at : IsAt m pass p) (u_at : IsAt n j u) (knows : KnowsFree (shape_of m) p node) (more : HasStepsOf p u)
      (learned : MoreDecided p.known u.known) where
    still_out : AllTakenOut u word
    still_out segment c s i a won is =
        let made = kn.won_installs j u u_at segment c s i a won in
        let old = installs made.0 made.1 (made.2.there ∙ is) in
        let shown = km.own_nexts made.0 old pass p at node knows.own (free_not_always m km pass p at node knows) (made.2.there ∙ is) in
        let t = shown.2.0 in let it = shown.2.2 in
        met_more p u word (count_of s.after) more (subst (MetHigher p word) (ap count_of (it.1.left ∙ sym made.2.left))
        (knows.out shown.0 shown.1 t shown.2.1 made.0.attempt it.0 (sym it.1.there ∙ made.2.there ∙ is)))

    begins : IsPrefix p.seen u.seen
    begins =
        let one = (km.fronts pass p at).fated in let two = (kn.fronts j u u_at).fated in let few = no_fewer p.known u.known learned in
        begins_longer p.seen u.seen n.history (prefix-trans (km.fronts pass p at).seen on.history) (kn.fronts j u u_at).seen (omega (arith, one, two, few))

    still_none : (x : HistoryEntry) → Contains begins.rest x → structure_in x.placed node ≡ None
    still_none x c =
        let within = (kn.fronts j u u_at).seen in
        let whole : n.history ≡ p.seen ++ (begins.rest ++ within.rest) = within.is ∙ ap (λ l. l ++ within.rest) begins.is
        ∙ append_assoc p.seen begins.rest within.rest in
        let later = Contains-append_left begins.rest within.rest x c in
        ⊎_elim
        (λ old. unseen_none m km.own_nodes pass p at node knows.own x old
        (λ inside. not_again n.history p.seen (begins.rest ++ within.rest) x kn.numbered.distinct whole inside later))
        (λ none. none)
        (entries x (subst (λ h. Contains h x) (sym whole) (Contains-append_right p.seen (begins.rest ++ within.rest) x later)))

    still_unplaced : HasNode (shape_of m) u node → KnowsFree (shape_of m) u node
    still_unplaced own =
        let before = km.fronts pass p at in let after = kn.fronts j u u_at in
        let known = all_both p.known u.known n.fates (all_stay-trans p.known m.fates n.fates before.known on.fates) after.known learned in
        record {
          own = own;
          unplaced = still_free n kn.fronts kn.sound.sound p.seen u.seen p.known u.known begins after.seen before.fated known after.known node still_none knows.unplaced;
          out = still_out;
        }

  pub free_after : ((pass : ℕ) (p : PassView) → IsAt m pass p → HasNode (shape_of m) p node → KnowsFree (shape_of m) p node)
      → (j : ℕ) (u : PassView) → IsAt n j u → HasNode (shape_of m) u node → KnowsFree (shape_of m) u node
  free_after knows j u u_at own =
      let v = tell M m n km.formats km.lanes km.hands (does_move M m n e km.formats.base does) in
      let from = held_before m.passes n.passes v.step v.from j u u_at own.0 own.1 in
      let learner = learns_from m n v km.fronts on.fates v.passes j u u_at own.0 own.1 in
      let one = km.lanes.once learner.0 from.0 own.0 (learner.1, learner.2, learner.3) (from.1, from.2, from.3) in
      let same : learner.1 ≡ from.1 = at_once m.passes from.0 learner.1 from.1 (subst (λ i. IsAt m i learner.1) one learner.2) from.2 in
      still_unplaced from.0 j from.1 u from.2 u_at (knows from.0 from.1 from.2 (own.0, from.3, own.2)) from.4
      (subst (λ (q : PassView). MoreDecided q.known u.known) same learner.4) own
