-- The contents that the nodes of a field stand for.
use Rattle.std.proofs.Common.{◌≡◌, ◌≢◌, ℕ, zero, suc, ◌+◌, ◌<◌, ◌≤◌, ◌++◌, cond, true, false, eqb, List, [], ◌∷◌, length, refl, sym, ap, ◌∙◌, subst, ⊎_elim, Some, arith}
use Rattle.std.specs.List.{AllByRecursion, flat_map, range_with_len}
use Rattle.std.proofs.lemmas.Bool.{cases_eq, cond-true, cond-false, eq-eqb, ne_eqb}
use Rattle.std.proofs.lemmas.List.{append-nil}
use Rattle.md_words.specs.declared.shape.Shape.{Shape}
use Rattle.md_words.specs.Layout.{Exists}
use Rattle.md_machine.specs.declared.node.Structure.{Structure}
use Rattle.md_machine.specs.declared.node.Structure.TheVariants.{Bucket, Queue}
use Rattle.md_machine.specs.Resolution.{structure_in}
use Rattle.md_machine.proofs.lists.Options.{some_same}
use Rattle.md_store_law.specs.Laid.{LaidNode, head_place, same_structure, dummies, pair_nodes, value_nodes, nodes_of_map, nodes_of_maps, nodes_of_queues, nodes_by}
use Rattle.md_store_layout.proofs.Numbers.{same_structure-same, same_structure-other, placed_from}
use Rattle.md_store_layout.proofs.Chains.{entries_of}
use Rattle.md_store_layout.proofs.Stores.{with_ranks, StandFor}
use Rattle.md_store_layout.proofs.Prefixes.{AreElsewhere, pieces_elsewhere, pairs_elsewhere, values_elsewhere, dummies_from, dummies_elsewhere, maps_elsewhere}

-- what holds of the structure of each node holds of where nodes are placed
all_placed : (P : Structure → Type 0) (k : ℕ) (nodes : List LaidNode) → AllByRecursion (λ n. P n.structure) nodes
    → (node : ℕ) (s : Structure) → structure_in (placed_from k nodes) node ≡ Some s → P s
all_placed P k [] all node s e = absurd (cc e)
all_placed P k (n ∷ nodes) all node s e = ⊎_elim
    (λ is. subst P (some_same _ _ (sym (cond-true (eqb k node) (Some n.structure) (structure_in (placed_from (k + 1) nodes) node) (eq-eqb k node is)) ∙ e)) all.0)
    (λ ne. all_placed P (k + 1) nodes all.1 node s
    (sym (cond-false (eqb k node) (Some n.structure) (structure_in (placed_from (k + 1) nodes) node) (ne_eqb k node ne)) ∙ e))
    (cases_eq k node)

module _ (P : LaidNode → Type 0) where
  all_both : (xs ys : List LaidNode) → AllByRecursion P xs → AllByRecursion P ys → AllByRecursion P (xs ++ ys)
  all_both [] ys a b = b
  all_both (x ∷ xs) ys a b = (a.0, all_both xs ys a.1 b)

  all_pieces : (f : ℕ → List LaidNode) (a n : ℕ) → ((b : ℕ) → a ≤ b → b < a + n → AllByRecursion P (f b)) → AllByRecursion P (flat_map f (range_with_len a n))
  all_pieces f a zero each = tt
  all_pieces f a (suc n) each = all_both (f a) (flat_map f (range_with_len (a + 1) n)) (each a (omega arith) (omega arith))
      (all_pieces f (a + 1) n (λ b low high. each b (omega arith) (omega arith)))

module _ (s : Structure) where
  entries_append : (xs ys : List LaidNode) → entries_of (xs ++ ys) s ≡ entries_of xs s ++ entries_of ys s
  entries_append [] ys = refl
  entries_append (x ∷ xs) ys =
      let rest = entries_append xs ys in
      elim (same_structure x.structure s) as (λ b. cond b ((x.key, x.value) ∷ entries_of (xs ++ ys) s) (entries_of (xs ++ ys) s)
      ≡ cond b ((x.key, x.value) ∷ entries_of xs s) (entries_of xs s) ++ entries_of ys s) [
        | true ↦ ap (λ es. (x.key, x.value) ∷ es) rest
        | false ↦ rest
      ]

  entries_none : (nodes : List LaidNode) → AreElsewhere s nodes → entries_of nodes s ≡ []
  entries_none [] none = refl
  entries_none (n ∷ nodes) none =
      cond-false (same_structure n.structure s) ((n.key, n.value) ∷ entries_of nodes s) (entries_of nodes s) (same_structure-other n.structure s none.0)
      ∙ entries_none nodes none.1

  -- before other nodes, and behind them
  entries_front : (xs ys : List LaidNode) → AreElsewhere s ys → entries_of (xs ++ ys) s ≡ entries_of xs s
  entries_front xs ys none = entries_append xs ys ∙ ap (λ es. entries_of xs s ++ es) (entries_none ys none) ∙ append-nil (entries_of xs s)

  entries_back : (xs ys : List LaidNode) → AreElsewhere s xs → entries_of (xs ++ ys) s ≡ entries_of ys s
  entries_back xs ys none = entries_append xs ys ∙ ap (λ es. es ++ entries_of ys s) (entries_none xs none)

  -- of one piece
  entries_piece : (f : ℕ → List LaidNode) (a n k : ℕ) → a ≤ k → k < a + n → ((b : ℕ) → b ≢ k → AreElsewhere s (f b))
      → entries_of (flat_map f (range_with_len a n)) s ≡ entries_of (f k) s
  entries_piece f a zero k low high other = absurd (omega arith)
  entries_piece f a (suc n) k low high other = ⊎_elim
      (λ e. entries_front (f a) (flat_map f (range_with_len (a + 1) n)) (pieces_elsewhere s f (a + 1) n (λ b above below. other b (omega arith)))
      ∙ ap (λ b. entries_of (f b) s) e)
      (λ ne. entries_back (f a) (flat_map f (range_with_len (a + 1) n)) (other a ne) ∙ entries_piece f (a + 1) n k (omega arith) (omega arith) other)
      (cases_eq a k)

-- of a bucket's pairs, of a queue's values, and of the dummies
entries_pairs : (map bucket : ℕ) (pairs : List (ℕ × ℕ)) → entries_of (pair_nodes map bucket pairs) (Bucket map bucket) ≡ pairs
entries_pairs map bucket [] = refl
entries_pairs map bucket (p ∷ pairs) =
    cond-true (same_structure (Bucket map bucket) (Bucket map bucket)) _ _ (same_structure-same (Bucket map bucket))
    ∙ ap (λ ps. p ∷ ps) (entries_pairs map bucket pairs)

entries_values : (queue rank : ℕ) (values : List ℕ) → entries_of (value_nodes queue rank values) (Queue queue) ≡ with_ranks rank values
entries_values queue rank [] = refl
entries_values queue rank (v ∷ values) =
    cond-true (same_structure (Queue queue) (Queue queue)) _ _ (same_structure-same (Queue queue))
    ∙ ap (λ ps. (rank, v) ∷ ps) (entries_values queue (rank + 1) values)

entries_dummies : (a n queue : ℕ) → a ≤ queue → queue < a + n → entries_of (dummies_from a n) (Queue queue) ≡ (0, 0) ∷ []
entries_dummies a zero queue low high = absurd (omega arith)
entries_dummies a (suc n) queue low high = ⊎_elim
    (λ e. ap (λ q. entries_of (dummies_from a (suc n)) (Queue q)) (sym e)
    ∙ cond-true (same_structure (Queue a) (Queue a)) _ _ (same_structure-same (Queue a))
    ∙ ap (λ ps. (0, 0) ∷ ps) (entries_none (Queue a) (dummies_from (a + 1) n)
    (dummies_elsewhere (Queue a) (a + 1) n (λ q above below is. let same : q ≡ a = cc in omega arith))))
    (λ ne. cond-false (same_structure (Queue a) (Queue queue)) _ _ (same_structure-other (Queue a) (Queue queue) (λ is. ne (cc)))
    ∙ entries_dummies (a + 1) n queue (omega arith) (omega arith))
    (cases_eq a queue)

module _ (shape : Shape) (pairs : ℕ → ℕ → List (ℕ × ℕ)) (values : ℕ → List ℕ) where
  abbrev front : List LaidNode
  front = dummies shape.queues ++ nodes_of_maps shape pairs shape.maps

  Inside : LaidNode → Type 0
  Inside n = Exists shape (head_place n.structure)

  pairs_inside : (map bucket : ℕ) (ps : List (ℕ × ℕ)) → map < shape.maps → bucket < shape.buckets → AllByRecursion Inside (pair_nodes map bucket ps)
  unfolding Inside
  pairs_inside map bucket [] m b = tt
  pairs_inside map bucket (p ∷ ps) m b = ((m, b), pairs_inside map bucket ps m b)

  values_inside : (queue rank : ℕ) (vs : List ℕ) → queue < shape.queues → AllByRecursion Inside (value_nodes queue rank vs)
  unfolding Inside
  values_inside queue rank [] q = tt
  values_inside queue rank (v ∷ vs) q = (q, values_inside queue (rank + 1) vs q)

  dummies_inside : (a n : ℕ) → a + n ≤ shape.queues → AllByRecursion Inside (dummies_from a n)
  unfolding Inside
  dummies_inside a zero fits = tt
  dummies_inside a (suc n) fits = (omega arith, dummies_inside (a + 1) n (omega arith))

  all_inside : AllByRecursion Inside (nodes_by shape pairs values)
  all_inside = all_both Inside front (nodes_of_queues values shape.queues)
      (all_both Inside (dummies shape.queues) (nodes_of_maps shape pairs shape.maps)
      (dummies_inside 0 shape.queues (omega arith))
      (all_pieces Inside (nodes_of_map shape pairs) 0 shape.maps (λ map low m.
      all_pieces Inside (λ bucket. pair_nodes map bucket (pairs map bucket)) 0 shape.buckets (λ bucket above b.
      pairs_inside map bucket (pairs map bucket) (omega arith) (omega arith)))))
      (all_pieces Inside (λ queue. value_nodes queue 1 (values queue)) 0 shape.queues (λ queue low q. values_inside queue 1 (values queue) (omega arith)))

  pairs_of_bucket : (map bucket : ℕ) → map < shape.maps → bucket < shape.buckets → entries_of (nodes_by shape pairs values) (Bucket map bucket) ≡ pairs map bucket
  pairs_of_bucket map bucket m b =
      let s = Bucket map bucket in
      entries_front s front (nodes_of_queues values shape.queues)
      (pieces_elsewhere s (λ queue. value_nodes queue 1 (values queue)) 0 shape.queues (λ queue low high. values_elsewhere s queue 1 (values queue) (λ e. cc)))
      ∙ entries_back s (dummies shape.queues) (nodes_of_maps shape pairs shape.maps) (dummies_elsewhere s 0 shape.queues (λ q low high e. cc))
      ∙ entries_piece s (nodes_of_map shape pairs) 0 shape.maps map (omega arith) (omega arith) (λ other ne.
      pieces_elsewhere s (λ c. pair_nodes other c (pairs other c)) 0 shape.buckets (λ c low high. pairs_elsewhere s other c (pairs other c) (λ e. ne (cc))))
      ∙ entries_piece s (λ c. pair_nodes map c (pairs map c)) 0 shape.buckets bucket (omega arith) (omega arith) (λ other ne.
      pairs_elsewhere s map other (pairs map other) (λ e. ne (cc)))
      ∙ entries_pairs map bucket (pairs map bucket)

  values_of_queue : (queue : ℕ) → queue < shape.queues → entries_of (nodes_by shape pairs values) (Queue queue) ≡ (0, 0) ∷ with_ranks 1 (values queue)
  values_of_queue queue below =
      let s = Queue queue in
      entries_append s front (nodes_of_queues values shape.queues)
      ∙ ap (λ es. es ++ entries_of (nodes_of_queues values shape.queues) s)
      (entries_front s (dummies shape.queues) (nodes_of_maps shape pairs shape.maps) (maps_elsewhere shape pairs s shape.maps (λ map bucket m e. cc))
      ∙ entries_dummies 0 shape.queues queue (omega arith) (omega arith))
      ∙ ap (λ es. (0, 0) ∷ es) (entries_piece s (λ q. value_nodes q 1 (values q)) 0 shape.queues queue (omega arith) (omega arith)
      (λ other ne. values_elsewhere s other 1 (values other) (λ e. ne (cc)))
      ∙ entries_values queue 1 (values queue))

  -- the nodes stand for the pairs and the values
  pub nodes_stand : length (nodes_by shape pairs values) ≤ shape.base → StandFor shape (nodes_by shape pairs values) pairs values
  unfolding Inside
  nodes_stand fits = record {
    room = fits;
    inside = all_placed (λ s. Exists shape (head_place s)) 1 (nodes_by shape pairs values) all_inside;
    pairs_are = pairs_of_bucket;
    values_are = values_of_queue;
  }
