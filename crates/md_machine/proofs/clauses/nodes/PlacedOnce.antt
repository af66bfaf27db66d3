-- No node is placed twice among the opening and the entries that may commit, so a node that was noted is placed with its
-- structure in every resolution.
use Rattle.std.proofs.Common.{◌≡◌, ◌≢◌, ℕ, Bool, List, [], ◌∷◌, ◌++◌, cond, length, refl, sym, ap, ◌∙◌, subst, ⊎_elim, eqb, eq-eqb, ne_eqb, true, false, append_assoc, append-nil, arith}
use Rattle.std.specs.Prelude.{Option, Some, is_none}
use Rattle.std.specs.List.{AllPairs, Contains}
use Rattle.std.proofs.lemmas.Bool.{cond-true, cond-false, false≢true}
use Rattle.std.proofs.lemmas.List.Elements.{All-contains, Contains-append_left, Contains-append_right, Contains-append_cases}
use Rattle.md_history.specs.declared.entries.Fate.{Fate}
use Rattle.md_history.specs.declared.entries.Fate.TheVariants.{Committed, Aborted, Undecided}
use Rattle.md_history.specs.Front.{AllStay}
use Rattle.md_history.specs.History.{AllCommittedSound}
use Rattle.md_machine.specs.declared.node.Structure.{Structure}
use Rattle.md_machine.specs.declared.attempt.HistoryEntry.{HistoryEntry}
use Rattle.md_machine.specs.declared.node.PlacedNode.{PlacedNode}
use Rattle.md_machine.proofs.clauses.passes.FrontsFit.{fated}
use Rattle.md_machine.proofs.events.MoveFacts.{Enters, MoveFacts}
use Rattle.md_machine.proofs.lists.Differ.{no_pairs, pairs_append, pairs_cross, pairs_head, pairs_left, pairs_right, pairs_tail}
use Rattle.md_machine.proofs.lists.Rising.{in_cons, in_none}
use Rattle.md_machine.proofs.resolutions.Placing.{Within, least_within, within_greatest}
use Rattle.md_machine.specs.Certified.{placed_by}
use Rattle.md_machine.specs.Machine.{Machine}
use Rattle.md_machine.specs.Resolution.{Resolves, always_nodes, entries_of, greatest, kept_nodes, kept_structure, least, may_commit, never_placed, or_else, placed_under, structure_in}
use Rattle.md_machine.specs.events.Ready.{history_entry}

abbrev Differ : PlacedNode → PlacedNode → Type 0
Differ x y = x.node ≢ y.node

-- the nodes that a resolution places
abbrev pub nodes_under : Machine → List Bool → List PlacedNode
nodes_under m choice = m.opening.placed ++ kept_nodes m.history choice

abbrev pub AliveOnce : Machine → Type 0
AliveOnce m = AllPairs Differ (nodes_under m (greatest m.history m.fates))

-- a choice that keeps more has more nodes
kept_more : (es : List HistoryEntry) (js ks : List Bool) → Within js ks → (x : PlacedNode) → Contains (kept_nodes es js) x → Contains (kept_nodes es ks) x
kept_more [] js ks w x c = absurd (in_none x c)
kept_more (e ∷ es) [] ks w x c = absurd (in_none x c)
kept_more (e ∷ es) (j ∷ js) [] w x c = absurd w
kept_more (e ∷ es) (true ∷ js) (true ∷ ks) w x c = ⊎_elim (λ l. Contains-append_left e.placed (kept_nodes es ks) x l) (λ r. Contains-append_right e.placed (kept_nodes es ks) x (kept_more es js ks w.1 x r)) (Contains-append_cases e.placed (kept_nodes es js) x c)
kept_more (e ∷ es) (true ∷ js) (false ∷ ks) w x c = absurd (false≢true (w.0 refl))
kept_more (e ∷ es) (false ∷ js) (true ∷ ks) w x c = Contains-append_right e.placed (kept_nodes es ks) x (kept_more es js ks w.1 x c)
kept_more (e ∷ es) (false ∷ js) (false ∷ ks) w x c = kept_more es js ks w.1 x c

kept_fewer : (es : List HistoryEntry) (js ks : List Bool) → Within js ks → AllPairs Differ (kept_nodes es ks) → AllPairs Differ (kept_nodes es js)
kept_fewer [] js ks w h = no_pairs Differ
kept_fewer (e ∷ es) [] ks w h = no_pairs Differ
kept_fewer (e ∷ es) (j ∷ js) [] w h = absurd w
kept_fewer (e ∷ es) (true ∷ js) (true ∷ ks) w h = pairs_append Differ e.placed (kept_nodes es js) (pairs_left Differ e.placed (kept_nodes es ks) h) (kept_fewer es js ks w.1 (pairs_right Differ e.placed (kept_nodes es ks) h))
    (λ x y c d. pairs_cross Differ e.placed (kept_nodes es ks) h x y c (kept_more es js ks w.1 y d))
kept_fewer (e ∷ es) (true ∷ js) (false ∷ ks) w h = absurd (false≢true (w.0 refl))
kept_fewer (e ∷ es) (false ∷ js) (true ∷ ks) w h = kept_fewer es js ks w.1 (pairs_right Differ e.placed (kept_nodes es ks) h)
kept_fewer (e ∷ es) (false ∷ js) (false ∷ ks) w h = kept_fewer es js ks w.1 h

fewer : (placed : List PlacedNode) (es : List HistoryEntry) (js ks : List Bool) → Within js ks → AllPairs Differ (placed ++ kept_nodes es ks) → AllPairs Differ (placed ++ kept_nodes es js)
fewer placed es js ks w h = pairs_append Differ placed (kept_nodes es js) (pairs_left Differ placed (kept_nodes es ks) h) (kept_fewer es js ks w (pairs_right Differ placed (kept_nodes es ks) h))
    (λ x y c d. pairs_cross Differ placed (kept_nodes es ks) h x y c (kept_more es js ks w y d))

-- fates that go on to sound ones let no more entries commit
pub within_stay : (es : List HistoryEntry) (fs gs : List Fate) → length fs ≡ length es → AllStay fs gs → AllCommittedSound (entries_of es) gs → Within (greatest es gs) (greatest es fs)
within_stay [] fs gs l a s = tt
within_stay (e ∷ es) [] gs l a s = absurd (omega (arith, l))
within_stay (e ∷ es) (f ∷ fs) [] l a s = absurd a
within_stay (e ∷ es) (Committed ∷ fs) (g ∷ gs) l a s = ((λ _. refl), within_stay es fs gs (omega (arith, l)) a.1 s.1)
within_stay (e ∷ es) (Aborted ∷ fs) (g ∷ gs) l a s = (subst (λ x. may_commit x e.entry.sound ≡ true → false ≡ true) (sym a.0) (λ h. h), within_stay es fs gs (omega (arith, l)) a.1 s.1)
within_stay (e ∷ es) (Undecided ∷ fs) (Committed ∷ gs) l a s = ((λ _. s.0 refl), within_stay es fs gs (omega (arith, l)) a.1 s.1)
within_stay (e ∷ es) (Undecided ∷ fs) (Aborted ∷ gs) l a s = ((λ h. absurd (false≢true h)), within_stay es fs gs (omega (arith, l)) a.1 s.1)
within_stay (e ∷ es) (Undecided ∷ fs) (Undecided ∷ gs) l a s = ((λ h. h), within_stay es fs gs (omega (arith, l)) a.1 s.1)

-- an entry before others, of which more joined
kept_first : (b : Bool) (x : HistoryEntry) (later es : List HistoryEntry) (js ks : List Bool) (new : List PlacedNode) → kept_nodes later js ≡ kept_nodes es ks ++ new → kept_nodes (x ∷ later) (b ∷ js) ≡ kept_nodes (x ∷ es) (b ∷ ks) ++ new
kept_first true x later es js ks new rest = ap (λ l. x.placed ++ l) rest ∙ sym (append_assoc x.placed (kept_nodes es ks) new)
kept_first false x later es js ks new rest = rest

-- the nodes after an undecided entry joined
kept_push : (es : List HistoryEntry) (fs : List Fate) (e : HistoryEntry) → length fs ≡ length es → kept_nodes (es ++ e ∷ []) (greatest (es ++ e ∷ []) (fs ++ Undecided ∷ [])) ≡ kept_nodes es (greatest es fs) ++ cond e.entry.sound e.placed []
kept_push [] [] e l = last e.entry.sound
  where
    last : (b : Bool) → kept_nodes (e ∷ []) (b ∷ []) ≡ cond b e.placed []
    last true = append-nil e.placed
    last false = refl
kept_push [] (f ∷ fs) e l = absurd (omega (arith, l))
kept_push (x ∷ es) [] e l = absurd (omega (arith, l))
kept_push (x ∷ es) (f ∷ fs) e l = kept_first (may_commit f x.entry.sound) x (es ++ e ∷ []) es (greatest (es ++ e ∷ []) (fs ++ Undecided ∷ [])) (greatest es fs) (cond e.entry.sound e.placed []) (kept_push es fs e (omega (arith, l)))

-- a node of a list of which none is twice has the structure that the list says
once_structure : (xs : List PlacedNode) (x : PlacedNode) → AllPairs Differ xs → Contains xs x → structure_in xs x.node ≡ Some x.structure
once_structure [] x h c = absurd (in_none x c)
once_structure (p ∷ ps) x h c = ⊎_elim
    (λ e. subst (λ (y : PlacedNode). structure_in (p ∷ ps) y.node ≡ Some y.structure) e (cond-true (eqb p.node p.node) (Some p.structure) (structure_in ps p.node) (eq-eqb p.node p.node refl)))
    (λ i. cond-false (eqb p.node x.node) (Some p.structure) (structure_in ps x.node) (ne_eqb p.node x.node (All-contains (Differ p) ps x (pairs_head Differ p ps h) i)) ∙ once_structure ps x (pairs_tail Differ p ps h) i)
    (in_cons p ps x c)

cond_first : (b : Bool) (s : Structure) (whole first second : Option Structure) → whole ≡ or_else first second → cond b (Some s) whole ≡ or_else (cond b (Some s) first) second
cond_first true s whole first second e = refl
cond_first false s whole first second e = e

-- where a resolution places a node is where its nodes do
structure_append : (xs ys : List PlacedNode) (node : ℕ) → structure_in (xs ++ ys) node ≡ or_else (structure_in xs node) (structure_in ys node)
structure_append [] ys node = refl
structure_append (p ∷ ps) ys node = cond_first (eqb p.node node) p.structure (structure_in (ps ++ ys) node) (structure_in ps node) (structure_in ys node) (structure_append ps ys node)

structure_kept : (es : List HistoryEntry) (choice : List Bool) (node : ℕ) → structure_in (kept_nodes es choice) node ≡ kept_structure es choice node
structure_kept [] choice node = refl
structure_kept (e ∷ es) [] node = refl
structure_kept (e ∷ es) (true ∷ choice) node = structure_append e.placed (kept_nodes es choice) node ∙ ap (or_else (structure_in e.placed node)) (structure_kept es choice node)
structure_kept (e ∷ es) (false ∷ choice) node = structure_kept es choice node

structure_under : (m : Machine) (choice : List Bool) (node : ℕ) → structure_in (nodes_under m choice) node ≡ placed_under m choice node
structure_under m choice node = structure_append m.opening.placed (kept_nodes m.history choice) node ∙ ap (or_else (structure_in m.opening.placed node)) (structure_kept m.history choice node)

-- what is placed in every resolution is placed with its structure
pub noted_structure : (m : Machine) → AliveOnce m → (x : PlacedNode) → Contains (always_nodes m) x → (choice : List Bool) → Resolves m choice → placed_under m choice x.node ≡ Some x.structure
noted_structure m once x c choice r = sym (structure_under m choice x.node) ∙ once_structure (nodes_under m choice) x
    (fewer m.opening.placed m.history choice (greatest m.history m.fates) (within_greatest m.history m.fates choice r) once)
    (⊎_elim (λ l. Contains-append_left m.opening.placed (kept_nodes m.history choice) x l)
    (λ k. Contains-append_right m.opening.placed (kept_nodes m.history choice) x (kept_more m.history (least m.fates) choice (least_within m.history m.fates choice r) x k))
    (Contains-append_cases m.opening.placed (kept_nodes m.history (least m.fates)) x c))

-- a node that no resolution places is none of theirs
none_of_alive : (m : Machine) → AliveOnce m → (x y : PlacedNode) → never_placed m x.node ≡ true → Contains (nodes_under m (greatest m.history m.fates)) y → y.node ≢ x.node
none_of_alive m once x y never c e =
    let there = sym (structure_under m (greatest m.history m.fates) y.node) ∙ once_structure _ y once c in
    some_not_none (placed_under m (greatest m.history m.fates) y.node) y.structure there (subst (λ k. never_placed m k ≡ true) (sym e) never)
  where
    some_not_none : (o : Option Structure) (s : Structure) → o ≡ Some s → is_none o ≡ true → ⊥
    some_not_none o s e n = false≢true (subst (λ p. is_none p ≡ true) e n)

pub placed_once-kept : (m n : Machine) (v : MoveFacts m n) → length m.fates ≡ length m.history → AllStay m.fates n.fates → AllCommittedSound (entries_of n.history) n.fates → AliveOnce m → AliveOnce n
placed_once-kept m n v fated stay sound once = subst (λ o. AllPairs Differ (o.placed ++ kept_nodes n.history (greatest n.history n.fates))) (sym v.opening) (⊎_elim
    (λ x. same x.history)
    (λ o. ⊎_elim entered (λ x. same x.history) o)
    v.fates)
  where
    same : n.history ≡ m.history → AllPairs Differ (m.opening.placed ++ kept_nodes n.history (greatest n.history n.fates))
    same e = subst (λ es. AllPairs Differ (m.opening.placed ++ kept_nodes es (greatest es n.fates))) (sym e)
        (fewer m.opening.placed m.history (greatest m.history n.fates) (greatest m.history m.fates) (within_stay m.history m.fates n.fates fated stay (subst (λ es. AllCommittedSound (entries_of es) n.fates) e sound)) once)

    with_new : (x : Enters m n v.p v.word v.new) (b : Bool) → AllPairs Differ (nodes_under m (greatest m.history m.fates) ++ cond b (placed_by x.certificates) [])
    with_new x true = pairs_append Differ (nodes_under m (greatest m.history m.fates)) (placed_by x.certificates) once x.differ
        (λ y z c d. none_of_alive m once z y (All-contains (λ w. never_placed m w.node ≡ true) (placed_by x.certificates) z x.free d) c)
    with_new x false = subst (AllPairs Differ) (sym (append-nil (nodes_under m (greatest m.history m.fates)))) once

    entered : Enters m n v.p v.word v.new → AllPairs Differ (m.opening.placed ++ kept_nodes n.history (greatest n.history n.fates))
    entered x =
        let e = history_entry m x.hand x.certificates x.count in
        subst (λ es. AllPairs Differ (m.opening.placed ++ kept_nodes es (greatest es n.fates))) (sym x.history)
        (subst (λ fs. AllPairs Differ (m.opening.placed ++ kept_nodes (m.history ++ e ∷ []) (greatest (m.history ++ e ∷ []) fs))) (sym x.fates)
        (subst (λ l. AllPairs Differ (m.opening.placed ++ l)) (sym (kept_push m.history m.fates e fated))
        (subst (AllPairs Differ) (append_assoc m.opening.placed (kept_nodes m.history (greatest m.history m.fates)) (cond e.entry.sound e.placed [])) (with_new x e.entry.sound))))
