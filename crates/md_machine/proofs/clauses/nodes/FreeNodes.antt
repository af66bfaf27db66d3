-- A node of a pass's lanes that its own view doesn't place is placed in no resolution.
use Rattle.std.proofs.Common.{◌≡◌, ◌==◌, ℕ, ◌≤◌, Bool, true, false, List, [], ◌∷◌, ◌++◌, length, refl, sym, ap, ◌∙◌, subst, arith, eqb-true, Option, Some, None, is_none, is_some}
use Rattle.std.specs.List.{All, Contains}
use Rattle.std.proofs.lemmas.Bool.{cond_both, false≢true}
use Rattle.std.proofs.lemmas.List.{map-append}
use Rattle.std.proofs.lemmas.List.Elements.{All-head, All-tail, Contains-append_right}
use Rattle.md_words.specs.declared.shape.Shape.{Shape}
use Rattle.md_words.specs.Lanes.{OwnsNode}
use Rattle.md_words.proofs.Owners.{owner_of_node}
use Rattle.md_history.specs.declared.entries.Fate.{Fate}
use Rattle.md_history.specs.Front.{AllStay, IsPrefix}
use Rattle.md_history.specs.FrontLaws.{all_stay-self, prefix-self}
use Rattle.md_history.specs.History.{AllCommittedSound}
use Rattle.md_history.specs.ResolutionLaws.{sound-earlier}
use Rattle.md_machine.specs.declared.attempt.HistoryEntry.{HistoryEntry}
use Rattle.md_machine.specs.declared.node.PlacedNode.{PlacedNode}
use Rattle.md_machine.specs.declared.node.Structure.{Structure}
use Rattle.md_machine.proofs.clauses.nodes.Flags.{structure_has}
use Rattle.md_machine.proofs.clauses.nodes.PlacedOnce.{within_stay}
use Rattle.md_machine.proofs.clauses.passes.MineParts.{not_again}
use Rattle.md_machine.proofs.lists.Rising.{here, there}
use Rattle.md_machine.specs.declared.pass.PassView.{PassView}
use Rattle.md_machine.specs.Machine.{IsAt, Machine, shape_of}
use Rattle.md_machine.specs.Own.{HasNode}
use Rattle.md_machine.specs.Resolution.{entries_of, greatest, kept_structure, may_commit, or_else, structure_in}
use Rattle.md_machine.specs.clauses.nodes.FreeNodes.{FreeAreUnplaced, IsFreeBy}
use Rattle.md_machine.specs.clauses.passes.Fronts.{FrontsFit}
use Rattle.md_machine.specs.clauses.entries.Numbered.{AreOfDistinctAttempts}
use Rattle.md_machine.specs.clauses.nodes.OwnNodes.{OwnNodesSeen}

-- no opening places a node of a lane
abbrev pub OpeningIsBase : Shape → List PlacedNode → Type 0
OpeningIsBase shape placed = (lane node : ℕ) → OwnsNode shape lane node → structure_in placed node ≡ None

-- so it is where it places base nodes alone
pub base_alone : (shape : Shape) (placed : List PlacedNode) → All (λ p. (1 ≤ p.node) × (p.node ≤ shape.base)) placed
    → OpeningIsBase shape placed
base_alone shape [] all lane node own = refl
base_alone shape (p ∷ ps) all lane node own = cond_both (p.node == node) (Some p.structure) (structure_in ps node) (λ o. o ≡ None)
    (λ same. let low = (All-head (λ (x : PlacedNode). (1 ≤ x.node) × (x.node ≤ shape.base)) p ps all).1 in let high = ((owner_of_node shape lane node).0 own).0 in let e = eqb-true p.node node same in
    absurd (omega (arith, low, high, e)))
    (λ _. base_alone shape ps (All-tail (λ (x : PlacedNode). (1 ≤ x.node) × (x.node ≤ shape.base)) p ps all) lane node own)

none_or_some : (o : Option Structure) → (is_some o ≡ true → ⊥) → o ≡ None
none_or_some None h = refl
none_or_some (Some s) h = absurd (h refl)

both_none : (x y : Option Structure) → x ≡ None → y ≡ None → or_else x y ≡ None
both_none None y a b = b
both_none (Some s) y a b = a

first_none : (x y : Option Structure) → or_else x y ≡ None → x ≡ None
first_none None y h = refl
first_none (Some s) y h = h

second_none : (x y : Option Structure) → or_else x y ≡ None → y ≡ None
second_none None y h = h
second_none (Some s) y h = absurd (some_none s h)
  where
    some_none : (s : Structure) → Some s ≡ None → ⊥
    some_none s e = cc

-- entries of which none places a node
none_kept : (es : List HistoryEntry) (choice : List Bool) (node : ℕ)
    → ((e : HistoryEntry) → Contains es e → structure_in e.placed node ≡ None) → kept_structure es choice node ≡ None
none_kept [] choice node none = refl
none_kept (e ∷ es) [] node none = refl
none_kept (e ∷ es) (true ∷ choice) node none = both_none (structure_in e.placed node) (kept_structure es choice node) (none e (here e es)) (none_kept es choice node (λ x c. none x (there e es x c)))
none_kept (e ∷ es) (false ∷ choice) node none = none_kept es choice node (λ x c. none x (there e es x c))

-- what one entry and those after it don't place
head_none : (e : HistoryEntry) (es : List HistoryEntry) (b : Bool) (choice : List Bool) (node : ℕ)
    → kept_structure (e ∷ es) (b ∷ choice) node ≡ None → b ≡ true → structure_in e.placed node ≡ None
head_none e es true choice node h kept = first_none (structure_in e.placed node) (kept_structure es choice node) h
head_none e es false choice node h kept = absurd (false≢true kept)

tail_none : (e : HistoryEntry) (es : List HistoryEntry) (b : Bool) (choice : List Bool) (node : ℕ)
    → kept_structure (e ∷ es) (b ∷ choice) node ≡ None → kept_structure es choice node ≡ None
tail_none e es true choice node h = second_none (structure_in e.placed node) (kept_structure es choice node) h
tail_none e es false choice node h = h

join_none : (e : HistoryEntry) (es : List HistoryEntry) (b : Bool) (choice : List Bool) (node : ℕ)
    → (b ≡ true → structure_in e.placed node ≡ None) → kept_structure es choice node ≡ None
    → kept_structure (e ∷ es) (b ∷ choice) node ≡ None
join_none e es true choice node one rest = both_none (structure_in e.placed node) (kept_structure es choice node) (one refl) rest
join_none e es false choice node one rest = rest

-- what a first part doesn't place by earlier fates, the whole doesn't place by later ones, if the rest doesn't place it
none_on : (seen rest : List HistoryEntry) (known fates : List Fate) (node : ℕ) → length known ≡ length seen → AllStay known fates
    → AllCommittedSound (entries_of (seen ++ rest)) fates
    → ((e : HistoryEntry) → Contains rest e → structure_in e.placed node ≡ None) → kept_structure seen (greatest seen known) node ≡ None → kept_structure (seen ++ rest) (greatest (seen ++ rest) fates) node ≡ None
none_on [] rest known fates node l a s none h = none_kept rest (greatest rest fates) node none
none_on (e ∷ es) rest [] fates node l a s none h = absurd (omega (arith, l))
none_on (e ∷ es) rest (f ∷ fs) [] node l a s none h = absurd a
none_on (e ∷ es) rest (f ∷ fs) (g ∷ gs) node l a s none h =
    let within = (within_stay (e ∷ []) (f ∷ []) (g ∷ []) refl (a.0, tt) (s.0, tt)).0 in
    join_none e (es ++ rest) (may_commit g e.entry.sound) (greatest (es ++ rest) gs) node
    (λ may. head_none e es (may_commit f e.entry.sound) (greatest es fs) node h (within may))
    (none_on es rest fs gs node (omega (arith, l)) a.1 s.1 none (tail_none e es (may_commit f e.entry.sound) (greatest es fs) node h))

none_is : (x y : Option Structure) → x ≡ None → y ≡ None → is_none (or_else x y) ≡ true
none_is x y a b = ap is_none (both_none x y a b)

-- a view that goes on from another, by entries that don't place a node which that one knows to be free, knows it too
pub still_free : (m : Machine) → FrontsFit (shape_of m) m.history m.fates m.passes → AllCommittedSound (entries_of m.history) m.fates
    → (seen later : List HistoryEntry) (known more : List Fate) (begins : IsPrefix seen later) → IsPrefix later m.history → length known ≡ length seen
    → AllStay known more → AllStay more m.fates → (node : ℕ) → ((e : HistoryEntry) → Contains begins.rest e → structure_in e.placed node ≡ None)
    → IsFreeBy seen known node → IsFreeBy later more node
still_free m fronts sound seen later known more begins within fated one two node none h =
    let committed : AllCommittedSound (entries_of later) more = sound-earlier (entries_of later) (entries_of within.rest) more m.fates two
    (subst (λ es. AllCommittedSound es m.fates) (ap entries_of within.is ∙ map-append (λ (e : HistoryEntry). e.entry) later within.rest) sound) in
    subst (λ es. IsFreeBy es more node) (sym begins.is)
    (none_on seen begins.rest known more node fated one (subst (λ es. AllCommittedSound (entries_of es) more) begins.is committed) none h)

-- an entry of a machine that a pass hasn't seen places no node of its lanes
pub unseen_none : (m : Machine) → OwnNodesSeen (shape_of m) m.history m.passes → (pass : ℕ) (p : PassView) → IsAt m pass p → (node : ℕ)
    → HasNode (shape_of m) p node → (e : HistoryEntry) → Contains m.history e → (Contains p.seen e → ⊥) → structure_in e.placed node ≡ None
unseen_none m own_seen pass p at node own e c unseen = none_or_some (structure_in e.placed node) (λ some.
    let x = structure_has e.placed node some in
    unseen (own_seen pass p at e c x.0 x.1 (subst (HasNode (shape_of m) p) (sym x.2) own)))

-- with what is known of entries, fates and fronts such a node is placed in no resolution
pub free_nodes-kept : (m : Machine) → OpeningIsBase (shape_of m) m.opening.placed → FrontsFit (shape_of m) m.history m.fates m.passes
    → AreOfDistinctAttempts m.history
    → AllCommittedSound (entries_of m.history) m.fates → OwnNodesSeen (shape_of m) m.history m.passes → FreeAreUnplaced m
free_nodes-kept m base fronts distinct sound own_seen pass p at node own h =
    let front = fronts pass p at in
    let rest = front.seen.rest in
    let none : (e : HistoryEntry) → Contains rest e → structure_in e.placed node ≡ None = λ e c.
    unseen_none m own_seen pass p at node own e (subst (λ es. Contains es e) (sym front.seen.is) (Contains-append_right p.seen rest e c))
    (λ inside. not_again m.history p.seen rest e distinct front.seen.is inside c) in
    none_is (structure_in m.opening.placed node) (kept_structure m.history (greatest m.history m.fates) node) (base own.0 node own.2)
    (still_free m fronts sound p.seen m.history p.known m.fates front.seen (prefix-self m.history) front.fated front.known (all_stay-self m.fates) node none h)
