-- The numbers of a structure's nodes in a list of nodes, and where those nodes are placed.
use Rattle.std.proofs.Common.{◌≡◌, ◌≢◌, ◌⊎◌, ℕ, ◌+◌, ◌<◌, ◌≤◌, ◌++◌, ◌&&◌, cond, true, false, eqb, List, [], ◌∷◌, length, refl, sym, ap, ◌∙◌, subst, inl, inr, ⊎_elim, Some, None, arith}
use Rattle.std.specs.List.{AllByRecursion, Contains}
use Rattle.std.proofs.lemmas.List.{append-nil}
use Rattle.std.proofs.lemmas.Bool.{cases_eq, cases_Bool, cond-true, cond-false, eq-eqb, ne_eqb, false≢true, false_from_ne_true}
use Rattle.md_machine.specs.declared.node.PlacedNode.{PlacedNode}
use Rattle.md_machine.specs.declared.node.Structure.{Structure}
use Rattle.md_machine.specs.declared.node.Structure.TheVariants.{Bucket, Queue}
use Rattle.md_machine.specs.Resolution.{structure_in}
use Rattle.md_machine.proofs.lists.Rising.{in_none, in_cons, here, there}
use Rattle.md_machine.proofs.lists.Options.{some_same}
use Rattle.md_store_law.specs.Laid.{LaidNode, same_structure, numbers_from, numbers_of, last_of}

-- structures are the same if they are equal, and then only
pub same_structure-same : (s : Structure) → same_structure s s ≡ true
same_structure-same (Bucket map bucket) = ap (λ b. b && eqb bucket bucket) (eq-eqb map map refl) ∙ eq-eqb bucket bucket refl
same_structure-same (Queue queue) = eq-eqb queue queue refl

pub same_structure-is : (s t : Structure) → same_structure s t ≡ true → s ≡ t
same_structure-is (Bucket map bucket) (Bucket other more) e = ⊎_elim
    (λ p. ⊎_elim
    (λ q. ap (λ m. Bucket m bucket) p ∙ ap (λ b. Bucket other b) q)
    (λ ne. absurd (false≢true (sym (ap (λ b. b && eqb bucket more) (eq-eqb map other p) ∙ ne_eqb bucket more ne) ∙ e)))
    (cases_eq bucket more))
    (λ ne. absurd (false≢true (sym (ap (λ b. b && eqb bucket more) (ne_eqb map other ne)) ∙ e)))
    (cases_eq map other)
same_structure-is (Queue queue) (Queue other) e = ⊎_elim
    (λ p. ap Queue p)
    (λ ne. absurd (false≢true (sym (ne_eqb queue other ne) ∙ e)))
    (cases_eq queue other)
same_structure-is (Bucket map bucket) (Queue queue) e = absurd (false≢true e)
same_structure-is (Queue queue) (Bucket map bucket) e = absurd (false≢true e)

pub same_structure-other : (s t : Structure) → s ≢ t → same_structure s t ≡ false
same_structure-other s t ne = false_from_ne_true (same_structure s t) (λ e. ne (same_structure-is s t e))

pub cases_structure : (s t : Structure) → (s ≡ t) ⊎ (s ≢ t)
cases_structure s t = ⊎_elim
    (λ e. inl (same_structure-is s t e))
    (λ e. inr (λ p. false≢true (sym e ∙ ap (λ x. same_structure x t) p ∙ same_structure-same t)))
    (cases_Bool (same_structure s t))

-- the numbers of two lists, one after the other
pub numbers_append : (k : ℕ) (xs ys : List LaidNode) (s : Structure) → numbers_from k (xs ++ ys) s ≡ numbers_from k xs s ++ numbers_from (k + length xs) ys s
numbers_append k [] ys s = ap (λ j. numbers_from j ys s) (omega arith)
numbers_append k (x ∷ xs) ys s =
    let rest = numbers_append (k + 1) xs ys s in
    let shift : numbers_from (k + 1 + length xs) ys s ≡ numbers_from (k + length (x ∷ xs)) ys s = ap (λ j. numbers_from j ys s) (omega arith) in
    let all = rest ∙ ap (λ ns. numbers_from (k + 1) xs s ++ ns) shift in
    elim (same_structure x.structure s) as (λ b. cond b (k ∷ numbers_from (k + 1) (xs ++ ys) s) (numbers_from (k + 1) (xs ++ ys) s)
    ≡ cond b (k ∷ numbers_from (k + 1) xs s) (numbers_from (k + 1) xs s) ++ numbers_from (k + length (x ∷ xs)) ys s) [
      | true ↦ ap (λ ns. k ∷ ns) all
      | false ↦ all
    ]

-- one more node: of the structure, and of another one
pub numbers_more : (nodes : List LaidNode) (n : LaidNode) → numbers_of (nodes ++ n ∷ []) n.structure ≡ numbers_of nodes n.structure ++ (length nodes + 1) ∷ []
numbers_more nodes n = numbers_append 1 nodes (n ∷ []) n.structure
    ∙ ap (λ ns. numbers_of nodes n.structure ++ ns)
    (cond-true (same_structure n.structure n.structure) ((1 + length nodes) ∷ []) [] (same_structure-same n.structure) ∙ ap (λ k. k ∷ []) (omega arith))

pub numbers_same : (nodes : List LaidNode) (n : LaidNode) (s : Structure) → n.structure ≢ s → numbers_of (nodes ++ n ∷ []) s ≡ numbers_of nodes s
numbers_same nodes n s ne = numbers_append 1 nodes (n ∷ []) s
    ∙ ap (λ ns. numbers_of nodes s ++ ns) (cond-false (same_structure n.structure s) ((1 + length nodes) ∷ []) [] (same_structure-other n.structure s ne))
    ∙ append-nil (numbers_of nodes s)

-- the numbers rise
abbrev pub Rises : (before : ℕ) → List ℕ → Type 0
Rises before [] = Unit {0}
Rises before (n ∷ ns) = (before < n) × Rises n ns

pub numbers_rise : (before k : ℕ) (nodes : List LaidNode) (s : Structure) → before < k → Rises before (numbers_from k nodes s)
numbers_rise before k [] s less = tt
numbers_rise before k (n ∷ nodes) s less =
    elim (same_structure n.structure s) as (λ b. Rises before (cond b (k ∷ numbers_from (k + 1) nodes s) (numbers_from (k + 1) nodes s))) [
      | true ↦ (less, numbers_rise k (k + 1) nodes s (omega arith))
      | false ↦ numbers_rise before (k + 1) nodes s (omega arith)
    ]

-- where the nodes are placed
abbrev pub placed_from : (k : ℕ) → List LaidNode → List PlacedNode
placed_from k [] = []
placed_from k (n ∷ nodes) = record { node = k; structure = n.structure } ∷ placed_from (k + 1) nodes

-- the node of a number is one of these, and of the structure
pub record IsNumberOf (k : ℕ) (nodes : List LaidNode) (s : Structure) (x : ℕ) : Type 0 where
  pub low : k ≤ x
  pub high : x < k + length nodes
  pub placed : structure_in (placed_from k nodes) x ≡ Some s

number_later : (k : ℕ) (n : LaidNode) (nodes : List LaidNode) (s : Structure) (x : ℕ) → IsNumberOf (k + 1) nodes s x → IsNumberOf k (n ∷ nodes) s x
number_later k n nodes s x i =
    let low = i.low in
    let high = i.high in
    record {
      low = omega arith;
      high = omega arith;
      placed = cond-false (eqb k x) (Some n.structure) (structure_in (placed_from (k + 1) nodes) x) (ne_eqb k x (omega arith)) ∙ i.placed;
    }

number_here : (k : ℕ) (n : LaidNode) (nodes : List LaidNode) (s : Structure) → n.structure ≡ s → IsNumberOf k (n ∷ nodes) s k
number_here k n nodes s e = record {
  low = omega arith;
  high = omega arith;
  placed = cond-true (eqb k k) (Some n.structure) (structure_in (placed_from (k + 1) nodes) k) (eq-eqb k k refl) ∙ ap (λ (t : Structure). Some t) e;
}

pub all_map : {P Q : ℕ → Type 0} (xs : List ℕ) → ((x : ℕ) → P x → Q x) → AllByRecursion P xs → AllByRecursion Q xs
all_map [] f all = tt
all_map (x ∷ xs) f all = (f x all.0, all_map xs f all.1)

pub all_in : (P : ℕ → Type 0) (xs : List ℕ) (x : ℕ) → AllByRecursion P xs → Contains xs x → P x
all_in P [] x all c = absurd (in_none x c)
all_in P (y ∷ ys) x all c = ⊎_elim (λ e. subst P e all.0) (λ later. all_in P ys x all.1 later) (in_cons y ys x c)

-- each number is that of a node of the structure, and each such node has its number there
pub numbers_placed : (k : ℕ) (nodes : List LaidNode) (s : Structure) → AllByRecursion (IsNumberOf k nodes s) (numbers_from k nodes s)
numbers_placed k [] s = tt
numbers_placed k (n ∷ nodes) s =
    let rest = all_map (numbers_from (k + 1) nodes s) (number_later k n nodes s) (numbers_placed (k + 1) nodes s) in
    ⊎_elim
    (λ e. subst (AllByRecursion (IsNumberOf k (n ∷ nodes) s)) (sym (cond-true (same_structure n.structure s) (k ∷ numbers_from (k + 1) nodes s) (numbers_from (k + 1) nodes s) e))
    (number_here k n nodes s (same_structure-is n.structure s e), rest))
    (λ e. subst (AllByRecursion (IsNumberOf k (n ∷ nodes) s)) (sym (cond-false (same_structure n.structure s) (k ∷ numbers_from (k + 1) nodes s) (numbers_from (k + 1) nodes s) e)) rest)
    (cases_Bool (same_structure n.structure s))

pub placed_numbers : (k : ℕ) (nodes : List LaidNode) (s : Structure) (x : ℕ) → structure_in (placed_from k nodes) x ≡ Some s → Contains (numbers_from k nodes s) x
placed_numbers k [] s x e = absurd (none_some e)
  where
    none_some : None ≡ Some s → ⊥
    none_some e = cc
placed_numbers k (n ∷ nodes) s x e = ⊎_elim
    (λ is.
    let same : n.structure ≡ s = some_same _ _ (sym (cond-true (eqb k x) (Some n.structure) (structure_in (placed_from (k + 1) nodes) x) (eq-eqb k x is)) ∙ e) in
    subst (λ ns. Contains ns x) (sym (cond-true (same_structure n.structure s) (k ∷ numbers_from (k + 1) nodes s) (numbers_from (k + 1) nodes s)
    (ap (λ t. same_structure t s) same ∙ same_structure-same s)))
    (subst (Contains (k ∷ numbers_from (k + 1) nodes s)) is (here k (numbers_from (k + 1) nodes s))))
    (λ ne.
    let rest = placed_numbers (k + 1) nodes s x (sym (cond-false (eqb k x) (Some n.structure) (structure_in (placed_from (k + 1) nodes) x) (ne_eqb k x ne)) ∙ e) in
    elim (same_structure n.structure s) as (λ b. Contains (cond b (k ∷ numbers_from (k + 1) nodes s) (numbers_from (k + 1) nodes s)) x) [
      | true ↦ there k (numbers_from (k + 1) nodes s) x rest
      | false ↦ rest
    ])
    (cases_eq k x)

-- a node has one structure
pub structures_apart : (nodes : List LaidNode) (s t : Structure) (x : ℕ) → IsNumberOf 1 nodes s x → IsNumberOf 1 nodes t x → s ≡ t
structures_apart nodes s t x i j = some_same _ _ (sym i.placed ∙ j.placed)

-- the last of a list with one more
pub last-more : (before : ℕ) (xs : List ℕ) (x : ℕ) → last_of before (xs ++ x ∷ []) ≡ x
last-more before [] x = refl
last-more before (y ∷ ys) x = last-more y ys x
