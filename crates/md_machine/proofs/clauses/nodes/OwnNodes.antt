-- A pass has seen each entry that places a node of its lanes, after every event.
use Rattle.std.proofs.Common.{◌≡◌, ℕ, ◌≤◌, List, [], ◌∷◌, length, sym, ap, ◌∙◌, subst, ⊎_elim, arith}
use Rattle.std.specs.List.{Contains}
use Rattle.std.proofs.lemmas.List.Elements.{All-contains}
use Rattle.md_words.specs.declared.shape.Shape.{Shape}
use Rattle.md_words.proofs.Owners.{owner_of_node}
use Rattle.md_history.specs.declared.entries.Fate.{Fate}
use Rattle.md_history.specs.Front.{AllStay}
use Rattle.md_history.specs.FrontLaws.{prefix-trans}
use Rattle.md_machine.proofs.clauses.passes.FrontsFit.{within_longer}
use Rattle.md_machine.specs.declared.attempt.HistoryEntry.{HistoryEntry}
use Rattle.md_machine.specs.declared.node.PlacedNode.{PlacedNode}
use Rattle.md_machine.specs.declared.pass.PassView.{PassView}
use Rattle.md_machine.proofs.clauses.passes.KnownPast.{learns_from}
use Rattle.md_machine.proofs.clauses.passes.LanesApart.{At}
use Rattle.md_machine.proofs.events.MoveFacts.{MoveFacts, history_grows, new_entry}
use Rattle.md_machine.proofs.events.Moves.{FrontGoes, PassesGo, goes_on, is_joined, is_split, learns, sees_all}
use Rattle.md_machine.proofs.fates.Decidedness.{MoreDecided}
use Rattle.md_machine.proofs.lists.At.{at_set}
use Rattle.md_machine.specs.Machine.{Machine, shape_of}
use Rattle.md_machine.specs.Own.{HasNode}
use Rattle.md_machine.specs.clauses.passes.Fronts.{FrontsFit}
use Rattle.md_machine.specs.clauses.passes.Lanes.{LanesApart}
use Rattle.md_machine.specs.clauses.nodes.OwnNodes.{OwnNodesSeen}

-- fates of which more are decided are no fewer
pub no_fewer : (fs gs : List Fate) → MoreDecided fs gs → length fs ≤ length gs
no_fewer [] gs m = omega arith
no_fewer (f ∷ fs) [] m = absurd m
no_fewer (f ∷ fs) (g ∷ gs) m = let h = no_fewer fs gs m.1 in omega (arith, h)

-- a node is of the lanes of one pass
pub one_node_owner : (shape : Shape) (passes : List PassView) (pass other : ℕ) (p q : PassView) (node : ℕ) → LanesApart shape passes
    → At passes pass p → At passes other q → HasNode shape p node → HasNode shape q node → pass ≡ other
one_node_owner shape passes pass other p q node a at there' mine theirs =
    let one = (owner_of_node shape mine.0 node).0 mine.2 in
    let two = (owner_of_node shape theirs.0 node).0 theirs.2 in
    let same : theirs.0 ≡ mine.0 = sym two.2 ∙ one.2 in
    a.once pass other mine.0 (p, at, mine.1) (q, there', subst (Contains q.lanes) same theirs.1)

module _ (m n : Machine) (v : MoveFacts m n) (apart : LanesApart (shape_of m) m.passes) (stay : AllStay m.fates n.fates)
    (fronts : FrontsFit (shape_of m) m.history m.fates m.passes) (later : FrontsFit (shape_of m) n.history n.fates n.passes) (was : OwnNodesSeen (shape_of m) m.history m.passes) where
  -- an entry that was there was seen by the pass that held the lane
  old_seen : (j : ℕ) (u : PassView) → At n.passes j u → (e : HistoryEntry) → Contains m.history e → (x : PlacedNode)
      → Contains e.placed x → HasNode (shape_of m) u x.node → Contains u.seen e
  old_seen j u at e c x i own =
      let from = learns_from m n v fronts stay v.passes j u at own.0 own.1 in
      let p = from.1 in
      let front = fronts from.0 p from.2 in
      let now = later j u at in
      let one = front.fated in let two = now.fated in let few = no_fewer p.known u.known from.4 in
      within_longer p.seen u.seen n.history e (prefix-trans front.seen (history_grows m n v)) now.seen (omega (arith, one, two, few)) (was from.0 p from.2 e c x i (own.0, from.3, own.2))

  -- a new one was seen by the pass that made it
  seen_by : PassesGo m n v.pass v.p v.step → (j : ℕ) (u : PassView) → At n.passes j u → (e : HistoryEntry) → Contains n.history e
      → (x : PlacedNode) → Contains e.placed x → HasNode (shape_of m) u x.node → Contains u.seen e
  seen_by (is_split _ _ _ same _) j u at e c x i own = old_seen j u at e (subst (λ es. Contains es e) same c) x i own
  seen_by (is_joined _ _ _ _ _ _ same _) j u at e c x i own = old_seen j u at e (subst (λ es. Contains es e) same c) x i own
  seen_by (goes_on q is view) j u at e c x i own = ⊎_elim
      (λ here. one_front view.front (sym here.1))
      (λ other. ⊎_elim
      (λ old. old_seen j u at e old x i own)
      (λ new. absurd (other.0 (one_node_owner (shape_of m) m.passes j v.pass u v.p x.node apart other.1 v.at own
      (All-contains (λ (y : PlacedNode). HasNode (shape_of m) v.p y.node) _ x new.0.own_nodes (subst (λ (y : HistoryEntry). Contains y.placed x) (sym new.1) i)))))
      (new_entry m n v e c))
      (at_set m.passes v.pass j q u (subst (λ l. At l j u) is at))
    where
      one_front : FrontGoes m n v.step v.p q → u ≡ q → Contains u.seen e
      one_front (learns same _ _) mine = old_seen j u at e (subst (λ es. Contains es e) same c) x i own
      one_front (sees_all seen _ _ _) mine = subst (λ es. Contains es e) (sym (ap (λ (w : PassView). w.seen) mine ∙ seen)) c

  pub own_nodes-kept : OwnNodesSeen (shape_of m) n.history n.passes
  own_nodes-kept = seen_by v.passes
