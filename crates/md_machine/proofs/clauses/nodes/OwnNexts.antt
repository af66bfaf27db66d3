-- The installs in next words of a pass's new nodes are steps of the pass, after every event.
use Rattle.std.proofs.Common.{◌≡◌, ℕ, false, sym, ap, ◌∙◌, subst, inr, ⊎_elim}
use Rattle.std.specs.List.{Contains}
use Rattle.std.proofs.lemmas.Bool.{true≢false}
use Rattle.std.proofs.lemmas.List.Elements.{Contains-push}
use Rattle.md_words.specs.Content.{count_of, is_even}
use Rattle.md_words.specs.Layout.{address}
use Rattle.md_words.specs.Place.{node_next}
use Rattle.md_words.specs.PlaceAt.{place_at}
use Rattle.md_words.proofs.Owners.{own_node_exists}
use Rattle.md_words.proofs.Places.{place_at-address}
use Rattle.md_history.specs.Front.{AllStay}
use Rattle.md_machine.specs.declared.pass.PassView.{PassView}
use Rattle.md_machine.specs.declared.step.Step.{Step}
use Rattle.md_machine.specs.declared.step.Kind.TheVariants.{Install as Installs, Load}
use Rattle.md_machine.proofs.clauses.nodes.OwnNodes.{one_node_owner}
use Rattle.md_machine.proofs.clauses.nodes.Placed.{wasnt_always}
use Rattle.md_machine.proofs.clauses.passes.LanesApart.{At}
use Rattle.md_machine.proofs.clauses.slots.OwnInstalls.{step_won}
use Rattle.md_machine.proofs.events.Holders.{held_before}
use Rattle.md_machine.proofs.events.InstallSteps.{InstallsHere}
use Rattle.md_machine.proofs.events.MoveFacts.{MoveFacts}
use Rattle.md_machine.proofs.events.Moves.{PassesGo, goes_on, is_joined, is_split}
use Rattle.md_machine.proofs.lists.At.{at_set}
use Rattle.md_machine.specs.Machine.{Install, Machine, shape_of}
use Rattle.md_machine.specs.Own.{HasNode}
use Rattle.md_machine.specs.Resolution.{always_placed}
use Rattle.md_machine.specs.Trail.{SomeStepOf}
use Rattle.md_machine.specs.clauses.nodes.OwnNexts.{OwnNextsShown}
use Rattle.md_machine.specs.clauses.passes.Lanes.{LanesApart}
use Rattle.md_machine.specs.clauses.slots.OwnInstalls.{WonIt}

no_load : (s : Step) → s.kind ≡ Installs → s.kind ≡ Load → ⊥
no_load s installs loads = let e : Installs ≡ Load = sym installs ∙ loads in cc

module _ (m n : Machine) (v : MoveFacts m n) (apart : LanesApart (shape_of m) m.passes) (stay : AllStay m.fates n.fates) (was : OwnNextsShown m) where
  -- whoever installs in the next word of such a node holds its lane
  by_holder : (i : Install) → InstallsHere m v.step n.passes v.word i → (u : PassView) (node : ℕ) → HasNode (shape_of m) u node → always_placed m node ≡ false
      → i.word ≡ address (shape_of m) (node_next node) → HasNode (shape_of m) v.p node
  by_holder i h u node own not there =
      let place : place_at (shape_of m) v.word ≡ node_next node =
      ap (place_at (shape_of m)) (sym h.there ∙ there) ∙ place_at-address (shape_of m) (node_next node) (own_node_exists (shape_of m) own.0 node own.2) in
      ⊎_elim
      (λ same. absurd (h.step.won (v.before ∙ sym same ∙ sym v.after)))
      (λ o. ⊎_elim
      (λ always. absurd (true≢false (sym always ∙ not)))
      (λ o'. ⊎_elim
      (λ mine. mine)
      (λ odd. absurd (true≢false (sym h.step.even ∙ ap (λ c. is_even (count_of c)) h.old ∙ odd.1)))
      o')
      o)
      (v.node_word node (inr place))

  -- so the holder has the step
  new_shown : (i : Install) → InstallsHere m v.step n.passes v.word i → PassesGo m n v.pass v.p v.step → (j : ℕ) (u : PassView) → At n.passes j u
      → (node : ℕ) → HasNode (shape_of m) u node → HasNode (shape_of m) v.p node → SomeStepOf u (WonIt i)
  new_shown i h (goes_on q is view) j u at node own mine =
      let has : Contains u.trail v.step = ⊎_elim
      (λ e. subst (λ (w : PassView). Contains w.trail v.step) e.1 (subst (λ l. Contains l v.step) (sym view.trail) (Contains-push v.p.trail v.step)))
      (λ o. absurd (o.0 (one_node_owner (shape_of m) m.passes j v.pass u v.p node apart o.1 v.at own mine)))
      (at_set m.passes v.pass j q u (subst (λ passes. At passes j u) is at)) in
      (u.trail, Contains-push u.past u.trail, (v.step, has, step_won i v.step h.step))
  new_shown i h (is_split _ step _ _ _) j u at node own mine = absurd (no_load v.step h.step.kind (ap (λ (s : Step). s.kind) step))
  new_shown i h (is_joined _ _ _ _ step _ _ _) j u at node own mine = absurd (no_load v.step h.step.kind (ap (λ (s : Step). s.kind) step))

  pub own_nexts-kept : (i : Install) → Contains n.installs i → (j : ℕ) (u : PassView) → At n.passes j u → (node : ℕ) → HasNode (shape_of m) u node
      → always_placed n node ≡ false
      → i.word ≡ address (shape_of m) (node_next node) → SomeStepOf u (WonIt i)
  own_nexts-kept i c j u at node own not there =
      let before = wasnt_always m n v stay node not in
      ⊎_elim
      (λ old.
      let from = held_before m.passes n.passes v.step v.from j u at own.0 own.1 in
      let shown = was i old from.0 from.1 from.2 node (own.0, from.3, own.2) before there in
      let has = from.4 shown.2.0 (shown.0, shown.1, shown.2.1) in
      (has.0, has.1, (shown.2.0, has.2, shown.2.2)))
      (λ h. new_shown i h v.passes j u at node own (by_holder i h u node own before there))
      (v.installs i c)
