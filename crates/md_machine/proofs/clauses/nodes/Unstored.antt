-- A ready step enters no entry that places a node to whose next word the pass never stored for the attempt.
use Rattle.std.proofs.Common.{◌≡◌, ◌≢◌, ◌⊎◌, ℕ, List, [], ◌∷◌, map, sym, ap, ◌∙◌, subst, refl, inl, inr, ⊎_elim, Some, None}
use Rattle.std.specs.List.{All, Contains}
use Rattle.std.proofs.lemmas.Bool.{cases_Bool, cond_both, eqb-true}
use Rattle.std.proofs.lemmas.List.Elements.{All-head, All-tail, All-weaker, Contains-push_cases}
use Rattle.std.specs.Prelude.{◌==◌, if◌then◌else◌}
use mathlib.Core.Option.{some-injective}
use Rattle.md_words.specs.Layout.{address}
use Rattle.md_words.specs.Place.{node_next}
use Rattle.md_machine.specs.declared.attempt.Hand.{Hand}
use Rattle.md_machine.specs.declared.attempt.HistoryEntry.{HistoryEntry}
use Rattle.md_machine.specs.declared.certificate.NewNode.{NewNode}
use Rattle.md_machine.specs.declared.pass.PassView.{PassView}
use Rattle.md_machine.specs.Certified.{all_nodes}
use Rattle.md_machine.specs.Event.{Does, ready}
use Rattle.md_machine.specs.Machine.{IsAt, Machine, shape_of}
use Rattle.md_machine.specs.Meaning.{Meaning}
use Rattle.md_machine.specs.Resolution.{structure_in}
use Rattle.md_machine.specs.Trail.{SomeStepOf, StoresFor}
use Rattle.md_machine.specs.events.Ready.{history_after_ready, history_entry, wins_ready}

-- new nodes among which a node isn't don't place it
none_placed : (node : ℕ) (ns : List NewNode) → All (λ n. n.node ≢ node) ns
    → structure_in (map (λ (n : NewNode). record { node = n.node; structure = n.structure }) ns) node ≡ None
none_placed node [] others = refl
none_placed node (n ∷ ns) others =
    let Other : NewNode → Type 0 = λ x. x.node ≢ node in
    cond_both (n.node == node) (Some n.structure) (structure_in (map (λ (k : NewNode). record { node = k.node; structure = k.structure }) ns) node)
    (λ o. o ≡ None)
    (λ same. absurd (All-head Other n ns others (eqb-true n.node node same)))
    (λ _. none_placed node ns (All-tail Other n ns others))

module _ (M : Meaning) (m n : Machine) (pass reads : ℕ) (p : PassView) (at : IsAt m pass p) (does : Does M m (ready pass reads) n) (node : ℕ)
    (never : (h : Hand) → p.hand ≡ Some h → ¬ SomeStepOf p (StoresFor h.attempt (address (shape_of m) (node_next node)))) where
  -- this is what `free_after` asks of entries
  pub unstored_unplaced : (x : HistoryEntry) → Contains n.history x → Contains m.history x ⊎ (structure_in x.placed node ≡ None)
  unstored_unplaced x c = go does
    where
      go : Does M m (ready pass reads) n → Contains m.history x ⊎ (structure_in x.placed node ≡ None)
      go (q, h, cs, acts, may, is) =
          let same : q ≡ p = some-injective q p (sym acts.at ∙ at) in
          let Stored : PassView → NewNode → Type 0 = λ w k. SomeStepOf w (StoresFor h.attempt (address (shape_of m) (node_next k.node))) in
          let history = ap (λ (k : Machine). k.history) is in
          ⊎_elim
          (λ won. ⊎_elim inl
          (λ e. inr (ap (λ (y : HistoryEntry). structure_in y.placed node) (sym e)
          ∙ none_placed node (all_nodes cs) (All-weaker (Stored q) (λ k. k.node ≢ node)
          (λ k stored is_node. never h (ap (λ (w : PassView). w.hand) (sym same) ∙ may.held)
          (subst (λ w. SomeStepOf w (StoresFor h.attempt (address (shape_of m) (node_next node)))) same
          (subst (λ i. SomeStepOf q (StoresFor h.attempt (address (shape_of m) (node_next i)))) is_node stored)))
          (all_nodes cs) (may.certified won).stored)))
          (Contains-push_cases m.history (history_entry m h cs reads) x
          (subst (λ es. Contains es x) (history ∙ ap (λ b. if b then history_after_ready m h cs reads else m.history) won) c)))
          (λ lost. inl (subst (λ es. Contains es x) (history ∙ ap (λ b. if b then history_after_ready m h cs reads else m.history) lost) c))
          (cases_Bool (wins_ready m h.attempt))
