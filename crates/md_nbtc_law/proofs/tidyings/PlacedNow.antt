-- What a committed transaction's entry places, and what its pass had noted, is placed in every resolution.
use Rattle.std.proofs.Common.{◌≡◌, ◌++◌, ◌∷◌, ℕ, Bool, true, List, [], Some, length, refl, sym, ap, ◌∙◌, subst, ⊎_elim, arith}
use Rattle.std.proofs.lemmas.List.{length-append}
use Rattle.std.proofs.lemmas.List.Elements.{Contains-append_left, Contains-append_right}
use Rattle.std.specs.List.{Contains}
use Rattle.md_history.specs.declared.entries.Fate.{Fate}
use Rattle.md_history.specs.declared.entries.Fate.TheVariants.{Aborted, Committed, Undecided}
use Rattle.md_machine.specs.declared.attempt.HistoryEntry.{HistoryEntry}
use Rattle.md_machine.specs.declared.node.PlacedNode.{PlacedNode}
use Rattle.md_machine.specs.declared.node.Structure.{Structure}
use Rattle.md_machine.specs.declared.pass.PassView.{PassView}
use Rattle.md_machine.specs.Event.{Acts}
use Rattle.md_machine.specs.Machine.{Machine}
use Rattle.md_machine.specs.Meaning.{Meaning}
use Rattle.md_machine.specs.Resolution.{Resolves, always_nodes, always_placed, kept_nodes, least, placed_under}
use Rattle.md_machine.proofs.Reached.{reached}
use Rattle.md_machine.proofs.clauses.nodes.Placed.{always_grows, always_in}
use Rattle.md_machine.proofs.clauses.nodes.PlacedOnce.{noted_structure}
use Rattle.md_rule.specs.Admitted.{Admitted}
use Rattle.md_rule.proofs.Moves.{is_kept}
use Rattle.md_nbtc_law.specs.Deciding.{IsAfterCommit}
use Rattle.md_nbtc_law.specs.Ending.{HasEntry, IsPlacedThen}
use Rattle.md_nbtc_law.specs.State.{TxnState}

-- the nodes of a last entry that is committed are among those that are kept at least
kept_last : (es : List HistoryEntry) (e : HistoryEntry) (fs : List Fate) (x : PlacedNode) → length fs ≡ length es → Contains e.placed x → Contains (kept_nodes (es ++ e ∷ []) (least (fs ++ Committed ∷ []))) x
kept_last [] e [] x many c = Contains-append_left e.placed [] x c
kept_last [] e (f ∷ fs) x many c = absurd (omega (arith, many))
kept_last (y ∷ es) e [] x many c = absurd (omega (arith, many))
kept_last (y ∷ es) e (Committed ∷ fs) x many c = Contains-append_right y.placed _ x (kept_last es e fs x (omega (arith, many)) c)
kept_last (y ∷ es) e (Aborted ∷ fs) x many c = kept_last es e fs x (omega (arith, many)) c
kept_last (y ∷ es) e (Undecided ∷ fs) x many c = kept_last es e fs x (omega (arith, many)) c

module _ (M : Meaning) (t : TxnState) (e : HasEntry t) (view : PassView) (after : IsAfterCommit t e view) (m : Machine) (adm : Admitted M t.field.origin m) (pass : ℕ) (acts : Acts m pass view) where
  -- the machine as far as the pass has seen its history
  abbrev seen_machine : Machine
  seen_machine = record m { history = view.seen; fates = view.known }

  entry_always : (x : PlacedNode) → Contains e.entry.placed x → Contains (always_nodes m) x
  entry_always x c =
      let front = (is_kept M t.field.origin m adm).fronts pass view acts.at in
      let fates = after.committed in
      let seen : view.seen ≡ e.before ++ e.entry ∷ [] = after.seen ∙ e.last in
      let many : length fates.0 ≡ length e.before =
      let a = front.fated in
      let b = ap length fates.1 ∙ length-append fates.0 (Committed ∷ []) in
      let d = ap length seen ∙ length-append e.before (e.entry ∷ []) in
      omega (arith, a, b, d) in
      always_grows seen_machine m x refl front.seen front.known
      (Contains-append_right m.opening.placed (kept_nodes view.seen (least view.known)) x
      (subst (λ l. Contains (kept_nodes l (least view.known)) x) (sym seen) (subst (λ l. Contains (kept_nodes (e.before ++ e.entry ∷ []) (least l)) x) (sym fates.1)
      (kept_last e.before e.entry fates.0 x many c))))

  -- so each such node is, with its structure
  pub placed_now : (node : ℕ) (structure : Structure) → IsPlacedThen t e node structure
      → (always_placed m node ≡ true) × ((choice : List Bool) → Resolves m choice → placed_under m choice node ≡ Some structure)
  placed_now node structure = ⊎_elim
      (λ noted.
      let kept = is_kept M t.field.origin m adm in
      let there = subst (λ l. Contains l x) (sym after.noted.is) (Contains-append_left t.pass.view.placed after.noted.rest x noted) in
      (kept.noted pass view acts.at x there, kept.placed pass view acts.at x there))
      (λ entry. let there = entry_always x entry in
      (always_in m x there, noted_structure m (reached M m.opening adm.events m adm.opens adm.runs).placed_once x there))
    where
      x : PlacedNode
      x = record { node = node; structure = structure }
