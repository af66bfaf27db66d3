-- The nodes of a field that is laid, up to a bucket or a queue: which of them are of that bucket or queue.
use Rattle.std.proofs.Common.{◌≡◌, ◌≢◌, ℕ, zero, suc, ◌+◌, ◌-◌, ◌<◌, ◌≤◌, ◌++◌, List, [], ◌∷◌, length, map as map_list, refl, sym, ap, ◌∙◌, ⊎_elim, arith}
use Rattle.std.specs.List.{flat_map, range_with_len, AllByRecursion}
use Rattle.std.proofs.lemmas.Bool.{cases_eq, cond-true, cond-false}
use Rattle.std.proofs.lemmas.List.{append-nil}
use Rattle.md_words.specs.declared.shape.Shape.{Shape}
use Rattle.md_machine.specs.declared.node.Structure.{Structure}
use Rattle.md_machine.specs.declared.node.Structure.TheVariants.{Bucket, Queue}
use Rattle.md_store_law.specs.Laid.{LaidNode, same_structure, numbers_from, numbers_of, dummies, pair_nodes, value_nodes, nodes_of_map, nodes_of_maps, nodes_of_queues}
use Rattle.md_store_layout.proofs.Numbers.{same_structure-same, same_structure-other, numbers_append}

-- no node of a list is of a structure
abbrev pub AreElsewhere : Structure → List LaidNode → Type 0
AreElsewhere s nodes = AllByRecursion (λ n. n.structure ≢ s) nodes

module _ (s : Structure) where
  pub numbers_none : (k : ℕ) (nodes : List LaidNode) → AreElsewhere s nodes → numbers_from k nodes s ≡ []
  numbers_none k [] none = refl
  numbers_none k (n ∷ nodes) none =
      cond-false (same_structure n.structure s) _ _ (same_structure-other n.structure s none.0) ∙ numbers_none (k + 1) nodes none.1

  pub both_elsewhere : (xs ys : List LaidNode) → AreElsewhere s xs → AreElsewhere s ys → AreElsewhere s (xs ++ ys)
  both_elsewhere [] ys a b = b
  both_elsewhere (x ∷ xs) ys a b = (a.0, both_elsewhere xs ys a.1 b)

  pub pieces_elsewhere : (f : ℕ → List LaidNode) (a n : ℕ) → ((b : ℕ) → a ≤ b → b < a + n → AreElsewhere s (f b))
      → AreElsewhere s (flat_map f (range_with_len a n))
  pieces_elsewhere f a zero each = tt
  pieces_elsewhere f a (suc n) each = both_elsewhere (f a) (flat_map f (range_with_len (a + 1) n)) (each a (omega arith) (omega arith))
      (pieces_elsewhere f (a + 1) n (λ b low high. each b (omega (arith, low)) (omega (arith, high))))

  pub pairs_elsewhere : (map bucket : ℕ) (pairs : List (ℕ × ℕ)) → Bucket map bucket ≢ s → AreElsewhere s (pair_nodes map bucket pairs)
  pairs_elsewhere map bucket [] ne = tt
  pairs_elsewhere map bucket (p ∷ ps) ne = (ne, pairs_elsewhere map bucket ps ne)

  pub values_elsewhere : (queue rank : ℕ) (values : List ℕ) → Queue queue ≢ s → AreElsewhere s (value_nodes queue rank values)
  values_elsewhere queue rank [] ne = tt
  values_elsewhere queue rank (v ∷ vs) ne = (ne, values_elsewhere queue (rank + 1) vs ne)

-- the dummies from one queue on
abbrev pub dummies_from : (a n : ℕ) → List LaidNode
dummies_from a n = map_list (λ queue. record { structure = Queue queue; key = 0; value = 0 }) (range_with_len a n)

pub dummies_elsewhere : (s : Structure) (a n : ℕ) → ((q : ℕ) → a ≤ q → q < a + n → Queue q ≢ s) → AreElsewhere s (dummies_from a n)
dummies_elsewhere s a zero each = tt
dummies_elsewhere s a (suc n) each = (
  each a (omega arith) (omega arith),
  dummies_elsewhere s (a + 1) n (λ q low high. each q (omega (arith, low)) (omega (arith, high))),
)

-- a queue has one of them
pub dummy_number : (k a n queue : ℕ) → a ≤ queue → queue < a + n → numbers_from k (dummies_from a n) (Queue queue) ≡ (k + (queue - a)) ∷ []
dummy_number k a zero queue low high = absurd (omega arith)
dummy_number k a (suc n) queue low high = ⊎_elim
    (λ e. ap (λ q. numbers_from k (dummies_from a (suc n)) (Queue q)) (sym e)
    ∙ cond-true (same_structure (Queue a) (Queue a)) _ _ (same_structure-same (Queue a))
    ∙ ap (λ ns. k ∷ ns) (numbers_none (Queue a) (k + 1) (dummies_from (a + 1) n)
    (dummies_elsewhere (Queue a) (a + 1) n (λ q above below is. let same : q ≡ a = cc in omega (arith, same, above))))
    ∙ ap (λ j. j ∷ []) (omega arith))
    (λ ne. cond-false (same_structure (Queue a) (Queue queue)) _ _ (same_structure-other (Queue a) (Queue queue) (λ is. ne (cc)))
    ∙ dummy_number (k + 1) (a + 1) n queue (omega (arith, ne)) (omega arith)
    ∙ ap (λ j. j ∷ []) (omega (arith, ne)))
    (cases_eq a queue)

module _ (shape : Shape) (pairs : ℕ → ℕ → List (ℕ × ℕ)) where
  -- the nodes of a map's buckets below a number
  abbrev pub nodes_of_buckets : (map buckets : ℕ) → List LaidNode
  nodes_of_buckets map buckets = flat_map (λ b. pair_nodes map b (pairs map b)) (range_with_len 0 buckets)

  pub maps_elsewhere : (s : Structure) (maps : ℕ) → ((map bucket : ℕ) → map < maps → Bucket map bucket ≢ s) → AreElsewhere s (nodes_of_maps shape pairs maps)
  maps_elsewhere s maps each =
      pieces_elsewhere s (nodes_of_map shape pairs) 0 maps (λ map low high.
      pieces_elsewhere s (λ bucket. pair_nodes map bucket (pairs map bucket)) 0 shape.buckets (λ bucket above below.
      pairs_elsewhere s map bucket (pairs map bucket) (each map bucket (omega (arith, high)))))

  -- the next bucket has no node yet
  pub next_bucket : (queues map bucket : ℕ) → numbers_of ((dummies queues ++ nodes_of_maps shape pairs map) ++ nodes_of_buckets map bucket) (Bucket map bucket) ≡ []
  next_bucket queues map bucket =
      let s = Bucket map bucket in
      numbers_none s 1 _ (both_elsewhere s (dummies queues ++ nodes_of_maps shape pairs map) (nodes_of_buckets map bucket)
      (both_elsewhere s (dummies queues) (nodes_of_maps shape pairs map)
      (dummies_elsewhere s 0 queues (λ q low high is. cc))
      (maps_elsewhere s map (λ m b below is. let same : m ≡ map = cc in omega (arith, same, below))))
      (pieces_elsewhere s (λ b. pair_nodes map b (pairs map b)) 0 bucket (λ b low high.
      pairs_elsewhere s map b (pairs map b) (λ is. let same : b ≡ bucket = cc in omega (arith, same, high)))))

  -- the next queue has its dummy alone
  pub next_queue : (values : ℕ → List ℕ) (queues maps queue : ℕ) → queue < queues
      → numbers_of ((dummies queues ++ nodes_of_maps shape pairs maps) ++ nodes_of_queues values queue) (Queue queue) ≡ (queue + 1) ∷ []
  next_queue values queues maps queue below =
      let s = Queue queue in
      let front = dummies queues ++ nodes_of_maps shape pairs maps in
      numbers_append 1 front (nodes_of_queues values queue) s
      ∙ ap (λ ns. numbers_from 1 front s ++ ns) (numbers_none s (1 + length front) (nodes_of_queues values queue)
      (pieces_elsewhere s (λ q. value_nodes q 1 (values q)) 0 queue (λ q low high.
      values_elsewhere s q 1 (values q) (λ is. let same : q ≡ queue = cc in omega (arith, same, high)))))
      ∙ append-nil (numbers_from 1 front s)
      ∙ numbers_append 1 (dummies queues) (nodes_of_maps shape pairs maps) s
      ∙ ap (λ ns. numbers_from 1 (dummies queues) s ++ ns) (numbers_none s (1 + length (dummies queues)) (nodes_of_maps shape pairs maps)
      (maps_elsewhere s maps (λ m b less is. cc)))
      ∙ append-nil (numbers_from 1 (dummies queues) s)
      ∙ dummy_number 1 0 queues queue (omega arith) (omega arith)
      ∙ ap (λ j. j ∷ []) (omega arith)
