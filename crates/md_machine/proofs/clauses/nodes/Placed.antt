-- What passes noted as placed in every resolution stays so, after every event.
use Rattle.std.proofs.Common.{◌≡◌, ℕ, true, false, ◌⊎◌, List, [], ◌∷◌, ◌++◌, set, refl, sym, ap, ◌∙◌, subst, eq-eqb, inl, inr, ⊎_elim, Option, Some, None, is_some}
use Rattle.std.specs.List.{Contains}
use Rattle.std.specs.Prelude.{◌==◌}
use Rattle.std.proofs.lemmas.Bool.{cases_Bool, cond_both, false≢true, true≢false}
use Rattle.std.proofs.lemmas.List.Elements.{Contains-append_left, Contains-append_right, Contains-append_cases}
use Rattle.md_history.specs.declared.entries.Fate.{Fate}
use Rattle.md_history.specs.declared.entries.Fate.TheVariants.{Committed, Aborted, Undecided}
use Rattle.md_history.specs.Front.{IsPrefix, AllStay}
use Rattle.md_machine.specs.declared.attempt.HistoryEntry.{HistoryEntry}
use Rattle.md_machine.specs.declared.node.PlacedNode.{PlacedNode}
use Rattle.md_machine.specs.declared.node.Structure.{Structure}
use Rattle.md_machine.specs.declared.opening.Opening.{Opening}
use Rattle.md_machine.specs.declared.step.Step.{Step}
use Rattle.md_machine.specs.declared.pass.PassView.{PassView}
use Rattle.md_machine.proofs.clauses.nodes.Flags.{always_has}
use Rattle.md_machine.proofs.clauses.passes.LanesApart.{At}
use Rattle.md_machine.proofs.events.MoveFacts.{MoveFacts, history_grows}
use Rattle.md_machine.proofs.events.Moves.{PassesGo, goes_on, is_joined, is_split}
use Rattle.md_machine.proofs.lists.At.{at_append, at_one, at_set}
use Rattle.md_machine.proofs.lists.Rising.{in_cons, in_none}
use Rattle.md_machine.proofs.resolutions.Placing.{some_skip}
use Rattle.md_machine.specs.Machine.{IsAt, Machine, shape_of}
use Rattle.md_machine.specs.Resolution.{always_nodes, always_placed, is_committed, kept_nodes, kept_structure, least, or_else, structure_in}
use Rattle.md_machine.specs.events.SplitJoin.{given_part, kept_part, spent}

some_first : (x z : Option Structure) → is_some x ≡ true → is_some (or_else x z) ≡ true
some_first (Some s) z h = refl
some_first None z h = absurd (false≢true h)

-- a node of a list is placed by it
in_structure : (ps : List PlacedNode) (x : PlacedNode) → Contains ps x → is_some (structure_in ps x.node) ≡ true
in_structure [] x c = absurd (in_none x c)
in_structure (p ∷ ps) x c = cond_both (p.node == x.node) (Some p.structure) (structure_in ps x.node) (λ (o : Option Structure). is_some o ≡ true)
    (λ _. refl)
    (λ no. ⊎_elim (λ same. absurd (true≢false (sym (eq-eqb p.node x.node (ap (λ (y : PlacedNode). y.node) same)) ∙ no))) (in_structure ps x) (in_cons p ps x c))

in_kept : (es : List HistoryEntry) (fs : List Fate) (x : PlacedNode) → Contains (kept_nodes es (least fs)) x → is_some (kept_structure es (least fs) x.node) ≡ true
in_kept [] fs x c = absurd (in_none x c)
in_kept (e ∷ es) [] x c = absurd (in_none x c)
in_kept (e ∷ es) (Committed ∷ fs) x c = ⊎_elim
    (λ here. some_first (structure_in e.placed x.node) (kept_structure es (least fs) x.node) (in_structure e.placed x here))
    (λ later. some_skip (structure_in e.placed x.node) (kept_structure es (least fs) x.node) (in_kept es fs x later))
    (Contains-append_cases e.placed (kept_nodes es (least fs)) x c)
in_kept (e ∷ es) (Aborted ∷ fs) x c = in_kept es fs x c
in_kept (e ∷ es) (Undecided ∷ fs) x c = in_kept es fs x c

pub always_in : (m : Machine) (x : PlacedNode) → Contains (always_nodes m) x → always_placed m x.node ≡ true
always_in m x c = ⊎_elim
    (λ opened. some_first (structure_in m.opening.placed x.node) (kept_structure m.history (least m.fates) x.node) (in_structure m.opening.placed x opened))
    (λ kept. some_skip (structure_in m.opening.placed x.node) (kept_structure m.history (least m.fates) x.node) (in_kept m.history m.fates x kept))
    (Contains-append_cases m.opening.placed (kept_nodes m.history (least m.fates)) x c)

-- one more entry has no fewer nodes
cond_grows : (e : HistoryEntry) (es : List HistoryEntry) (g : Fate) (gs : List Fate) (x : PlacedNode) → Contains (kept_nodes es (least gs)) x → Contains (kept_nodes (e ∷ es) (least (g ∷ gs))) x
cond_grows e es Committed gs x c = Contains-append_right e.placed (kept_nodes es (least gs)) x c
cond_grows e es Aborted gs x c = c
cond_grows e es Undecided gs x c = c

-- what committed entries place stays placed
kept_grows : (es rest : List HistoryEntry) (fs gs : List Fate) (x : PlacedNode) → AllStay fs gs → Contains (kept_nodes es (least fs)) x → Contains (kept_nodes (es ++ rest) (least gs)) x
kept_grows [] rest fs gs x a k = absurd (in_none x k)
kept_grows (e ∷ es) rest [] gs x a k = absurd (in_none x k)
kept_grows (e ∷ es) rest (f ∷ fs) [] x a k = absurd a
kept_grows (e ∷ es) rest (Committed ∷ fs) (g ∷ gs) x a k = subst (λ y. Contains (kept_nodes (e ∷ es ++ rest) (is_committed y ∷ least gs)) x) (sym a.0) (⊎_elim
    (λ l. Contains-append_left e.placed (kept_nodes (es ++ rest) (least gs)) x l)
    (λ r. Contains-append_right e.placed (kept_nodes (es ++ rest) (least gs)) x (kept_grows es rest fs gs x a.1 r))
    (Contains-append_cases e.placed (kept_nodes es (least fs)) x k))
kept_grows (e ∷ es) rest (Aborted ∷ fs) (g ∷ gs) x a k = cond_grows e (es ++ rest) g gs x (kept_grows es rest fs gs x a.1 k)
kept_grows (e ∷ es) rest (Undecided ∷ fs) (g ∷ gs) x a k = cond_grows e (es ++ rest) g gs x (kept_grows es rest fs gs x a.1 k)

pub always_grows : (m n : Machine) (x : PlacedNode) → n.opening ≡ m.opening → IsPrefix m.history n.history → AllStay m.fates n.fates → Contains (always_nodes m) x → Contains (always_nodes n) x
always_grows m n x opening grows stay c = subst (λ (o : Opening). Contains (o.placed ++ kept_nodes n.history (least n.fates)) x) (sym opening)
    (subst (λ h. Contains (m.opening.placed ++ kept_nodes h (least n.fates)) x) (sym grows.is) (⊎_elim
    (λ l. Contains-append_left m.opening.placed _ x l)
    (λ k. Contains-append_right m.opening.placed _ x (kept_grows m.history grows.rest m.fates n.fates x stay k))
    (Contains-append_cases m.opening.placed (kept_nodes m.history (least m.fates)) x c)))

-- what passes noted is among the nodes that every resolution places
abbrev pub NotedAlways : Machine → Type 0
NotedAlways m = (pass : ℕ) (p : PassView) → At m.passes pass p → (x : PlacedNode) → Contains p.placed x → Contains (always_nodes m) x

-- what a pass has noted some pass had noted, or it was placed in every resolution
abbrev pub NotesFrom : Machine → (later : List PassView) → Type 0
NotesFrom m later = (j : ℕ) (u : PassView) → At later j u → (x : PlacedNode) → Contains u.placed x → ((i : ℕ) × (p : PassView) × At m.passes i p × Contains p.placed x) ⊎ Contains (always_nodes m) x

noted_by : (m : Machine) (pass : ℕ) (p u : PassView) (x : PlacedNode) → At m.passes pass p → u.placed ≡ p.placed ++ always_nodes m → Contains u.placed x → ((i : ℕ) × (q : PassView) × At m.passes i q × Contains q.placed x) ⊎ Contains (always_nodes m) x
noted_by m pass p u x at same c = ⊎_elim (λ old. inl (pass, p, at, old)) inr (Contains-append_cases p.placed (always_nodes m) x (subst (λ l. Contains l x) same c))

notes_set : (m : Machine) (pass : ℕ) (p q : PassView) → At m.passes pass p → q.placed ≡ p.placed ++ always_nodes m → NotesFrom m (set m.passes pass q)
notes_set m pass p q at same j u u_at x c = ⊎_elim
    (λ e. noted_by m pass p q x at same (subst (λ (v : PassView). Contains v.placed x) (sym e.1) c))
    (λ o. inl (j, u, o.1, c))
    (at_set m.passes pass j q u u_at)

notes : (m n : Machine) (pass : ℕ) (p : PassView) (s : Step) → IsAt m pass p → PassesGo m n pass p s → NotesFrom m n.passes
notes m n pass p s at (goes_on q is view) = subst (NotesFrom m) (sym is) (notes_set m pass p q at view.placed)
notes m n pass p s at (is_split _ _ _ _ is) = subst (NotesFrom m) (sym is) (λ j u u_at x c. ⊎_elim
    (λ was. ⊎_elim (λ e. inl (pass, p, at, subst (λ (v : PassView). Contains v.placed x) (sym e.1) c)) (λ o. inl (j, u, o.1, c)) (at_set m.passes pass j _ u was))
    (λ end. inl (pass, p, at, subst (λ (v : PassView). Contains v.placed x) (sym (at_one _ u end.0 end.2).1) c))
    (at_append (set m.passes pass (kept_part (shape_of m) p)) (given_part (shape_of m) p ∷ []) j u u_at))
notes m n pass p s at (is_joined other q _ acts _ _ _ is) = subst (NotesFrom m) (sym is) (λ j u u_at x c. ⊎_elim
    (λ e. absurd (in_none x (subst (λ (v : PassView). Contains v.placed x) (sym e.1) c)))
    (λ o. ⊎_elim
    (λ e. ⊎_elim
    (λ mine. inl (pass, p, at, mine))
    (λ theirs. inl (other, q, acts.at, theirs))
    (Contains-append_cases p.placed q.placed x (subst (λ (v : PassView). Contains v.placed x) (sym e.1) c)))
    (λ y. inl (j, u, y.1, c))
    (at_set m.passes pass j _ u o.1))
    (at_set (set m.passes pass _) other j spent u u_at))

-- a node that isn't placed in every resolution wasn't
pub wasnt_always : (m n : Machine) → MoveFacts m n → AllStay m.fates n.fates → (node : ℕ) → always_placed n node ≡ false → always_placed m node ≡ false
wasnt_always m n v stay node now = ⊎_elim
    (λ always. let x = always_has m node always in
    absurd (true≢false (sym (subst (λ k. always_placed n k ≡ true) x.2 (always_in n x.0 (always_grows m n x.0 v.opening (history_grows m n v) stay x.1))) ∙ now)))
    (λ not. not)
    (cases_Bool (always_placed m node))

-- every event keeps it
pub placed-kept : (m n : Machine) → MoveFacts m n → AllStay m.fates n.fates → NotedAlways m → NotedAlways n
placed-kept m n v stay was j u u_at x c = always_grows m n x v.opening (history_grows m n v) stay
    (⊎_elim (λ o. was o.0 o.1 o.2 x o.3) (λ now. now) (notes m n v.pass v.p v.step v.at v.passes j u u_at x c))
