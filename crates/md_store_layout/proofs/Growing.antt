-- Nodes of one structure that are laid one after another.
use Rattle.std.proofs.Common.{◌≡◌, ℕ, zero, suc, ◌+◌, ◌<◌, ◌++◌, List, [], ◌∷◌, length, get_or, set, take, refl, sym, ap, ◌∙◌, subst, arith}
use Rattle.std.specs.List.{range_with_len}
use Rattle.std.proofs.lemmas.Bool.{cond-true}
use Rattle.std.proofs.lemmas.List.{length-append, length-map, length-set, length-take-le, append-nil, append_assoc, map-append, take_more}
use Rattle.md_words.specs.declared.shape.Shape.{Shape}
use Rattle.md_words.specs.Place.{Place, node_key, node_value, node_next}
use Rattle.md_words.specs.Layout.{Exists, IsNode, address}
use Rattle.md_words.specs.LayoutLaws.{IsField}
use Rattle.md_machine.specs.declared.node.Structure.{Structure}
use Rattle.md_machine.specs.declared.node.Structure.TheVariants.{Bucket, Queue}
use Rattle.md_store_law.specs.Laid.{LaidNode, IsLaid, head_place, numbers_of, numbers_from, same_structure, pair_nodes, value_nodes, naming, appended}
use Rattle.md_store_layout.proofs.Numbers.{numbers_append, same_structure-same}
use Rattle.md_store_layout.proofs.Appending.{end_of}
use Rattle.md_store_layout.proofs.Writes.{finished, laid_after}

-- all nodes are of a structure
abbrev pub AllOf : Structure → List LaidNode → Type 0
AllOf s [] = Unit {0}
AllOf s (n ∷ nodes) = (n.structure ≡ s) × AllOf s nodes

pub numbers-all : (k : ℕ) (nodes : List LaidNode) (s : Structure) → AllOf s nodes → numbers_from k nodes s ≡ range_with_len k (length nodes)
numbers-all k [] s all = refl
numbers-all k (n ∷ nodes) s all =
    cond-true (same_structure n.structure s) (k ∷ numbers_from (k + 1) nodes s) (numbers_from (k + 1) nodes s)
    (ap (λ t. same_structure t s) all.0 ∙ same_structure-same s)
    ∙ ap (λ ns. k ∷ ns) (numbers-all (k + 1) nodes s all.1)

all-pairs : (map bucket : ℕ) (pairs : List (ℕ × ℕ)) → AllOf (Bucket map bucket) (pair_nodes map bucket pairs)
all-pairs map bucket [] = tt
all-pairs map bucket (p ∷ pairs) = (refl, all-pairs map bucket pairs)

all-values : (queue rank : ℕ) (values : List ℕ) → AllOf (Queue queue) (value_nodes queue rank values)
all-values queue rank [] = tt
all-values queue rank (v ∷ values) = (refl, all-values queue (rank + 1) values)

value_nodes-more : (queue rank : ℕ) (values : List ℕ) (v : ℕ)
    → value_nodes queue rank (values ++ v ∷ []) ≡ value_nodes queue rank values ++ record { structure = Queue queue; key = rank + length values; value = v } ∷ []
value_nodes-more queue rank [] v = ap (λ r. record { structure = Queue queue; key = r; value = v } ∷ []) (omega arith)
value_nodes-more queue rank (x ∷ values) v = ap (λ ns. record { structure = Queue queue; key = rank; value = x } ∷ ns)
    (value_nodes-more queue (rank + 1) values v
    ∙ ap (λ r. value_nodes queue (rank + 1) values ++ record { structure = Queue queue; key = r; value = v } ∷ []) (omega arith))

pub length-value_nodes : (queue rank : ℕ) (values : List ℕ) → length (value_nodes queue rank values) ≡ length values
length-value_nodes queue rank [] = refl
length-value_nodes queue rank (v ∷ values) = ap suc (length-value_nodes queue (rank + 1) values)

end-more : (place : Place) (xs : List ℕ) (x : ℕ) → end_of place (xs ++ x ∷ []) ≡ node_next x
end-more place [] x = refl
end-more place (y ∷ ys) x = end-more (node_next y) ys x

range-more : (k n : ℕ) → range_with_len k (n + 1) ≡ range_with_len k n ++ (k + n) ∷ []
range-more k zero = ap (λ x. x ∷ []) (omega arith)
range-more k (suc n) =
    let e : suc n + 1 ≡ suc (n + 1) = omega arith in
    ap (range_with_len k) e
    ∙ ap (λ ns. k ∷ ns) (range-more (k + 1) n ∙ ap (λ x. range_with_len (k + 1) n ++ x ∷ []) (omega arith))

-- a field with these nodes, of which the structure's are `before`, has `more` of that structure behind them
pub record LaidOn (shape : Shape) (old now : List ℕ) (s : Structure) (before : List ℕ) (first : ℕ) (more : List LaidNode) (end : ℕ) : Type 0 where
  pub end_is : end ≡ address shape (end_of (head_place s) (before ++ range_with_len first (length more)))
  pub laid : (nodes : List LaidNode) → IsLaid shape old nodes → length nodes + 1 ≡ first → numbers_of nodes s ≡ before → IsLaid shape now (nodes ++ more)

module _ (shape : Shape) (old now : List ℕ) (s : Structure) (before : List ℕ) (first : ℕ) where
  pub laid_begin : (end : ℕ) → end ≡ address shape (end_of (head_place s) before) → LaidOn shape old old s before first [] end
  laid_begin end e = record {
    end_is = e ∙ ap (λ ns. address shape (end_of (head_place s) ns)) (sym (append-nil before));
    laid = λ nodes laid length numbers. subst (IsLaid shape old) (sym (append-nil nodes)) laid;
  }

  module _ (more : List LaidNode) (end node : ℕ) (on : LaidOn shape old now s before first more end) (all : AllOf s more)
      (inside : Exists shape (head_place s)) (is : IsNode shape node) (e : node ≡ first + length more) where
    numbers_are : (nodes : List LaidNode) → length nodes + 1 ≡ first → numbers_of nodes s ≡ before
        → numbers_of (nodes ++ more) s ≡ before ++ range_with_len first (length more)
    numbers_are nodes l b = numbers_append 1 nodes more s
        ∙ ap (λ ns. ns ++ numbers_from (1 + length nodes) more s) b
        ∙ ap (λ ns. before ++ ns) (numbers-all (1 + length nodes) more s all ∙ ap (λ k. range_with_len k (length more)) (omega arith))

    -- one node more
    pub laid_on : (key value : ℕ) → LaidOn shape old (finished shape s node (appended shape now end node key value)) s before first
        (more ++ record { structure = s; key = key; value = value } ∷ []) (address shape (node_next node))
    laid_on key value =
        let n : LaidNode = record { structure = s; key = key; value = value } in
        let longer : length (more ++ n ∷ []) ≡ length more + 1 = length-append more (n ∷ []) in
        record {
          end_is = ap (address shape) (sym (ap (end_of (head_place s)) (ap (λ ns. before ++ ns)
              (ap (range_with_len first) longer ∙ range-more first (length more)) ∙ sym (append_assoc before (range_with_len first (length more)) _))
              ∙ end-more (head_place s) (before ++ range_with_len first (length more)) (first + length more) ∙ ap node_next (sym e)));
          laid = λ nodes laid l b.
              let so_far = on.laid nodes laid l b in
              let count : length (nodes ++ more) + 1 ≡ node = omega (arith, length-append nodes more) in
              let there : address shape (end_of (head_place s) (numbers_of (nodes ++ more) s)) ≡ end =
              ap (λ ns. address shape (end_of (head_place s) ns)) (numbers_are nodes l b) ∙ sym on.end_is in
              let next = laid_after shape now (nodes ++ more) n so_far inside (subst (IsNode shape) (sym count) is) in
              subst (λ x. IsLaid shape (finished shape s x (appended shape now end x key value)) (nodes ++ (more ++ n ∷ []))) count
              (subst (λ w. IsLaid shape (finished shape s (length (nodes ++ more) + 1) (appended shape now w (length (nodes ++ more) + 1) key value))
              (nodes ++ (more ++ n ∷ []))) there
              (subst (IsLaid shape (finished shape s (length (nodes ++ more) + 1)
              (appended shape now (address shape (end_of (head_place s) (numbers_of (nodes ++ more) s))) (length (nodes ++ more) + 1) key value)))
              (append_assoc nodes more (n ∷ [])) next));
        }

-- a written field is a field
pub field_after : (shape : Shape) (words : List ℕ) (end node key value : ℕ) → IsField shape words → IsField shape (appended shape words end node key value)
field_after shape words end node key value field =
    let one = set words (address shape (node_key node)) key in
    let two = set one (address shape (node_value node)) value in
    length-set two end (naming node) ∙ length-set one (address shape (node_value node)) value ∙ length-set words (address shape (node_key node)) key ∙ field

-- one pair more, and one value more
module _ (shape : Shape) (old now then : List ℕ) (first i end node last : ℕ) (is : IsNode shape node) (e : node ≡ first + i)
    (l : last ≡ address shape (node_next node)) where
  pub pair_on : (map bucket : ℕ) (pairs : List (ℕ × ℕ)) → map < shape.maps → bucket < shape.buckets → i < length pairs
      → then ≡ appended shape now end node (get_or pairs i (0, 0)).0 (get_or pairs i (0, 0)).1
      → LaidOn shape old now (Bucket map bucket) [] first (pair_nodes map bucket (take i pairs)) end
      → LaidOn shape old then (Bucket map bucket) [] first (pair_nodes map bucket (take (i + 1) pairs)) last
  pair_on map bucket pairs m b below written on =
      let p = get_or pairs i (0, 0) in
      let s = Bucket map bucket in
      let so_far = pair_nodes map bucket (take i pairs) in
      let count : length so_far ≡ i = length-map (take i pairs) _ ∙ length-take-le i pairs (omega arith) in
      let next = laid_on shape old now s [] first so_far end node on (all-pairs map bucket (take i pairs)) (m, b) is (omega (arith, e, count)) p.0 p.1 in
      let more : pair_nodes map bucket (take (i + 1) pairs) ≡ so_far ++ record { structure = s; key = p.0; value = p.1 } ∷ [] =
      ap (pair_nodes map bucket) (take_more pairs i (0, 0) below) ∙ map-append _ (take i pairs) (p ∷ []) in
      let grown : List LaidNode = so_far ++ record { structure = s; key = p.0; value = p.1 } ∷ [] in
      subst (λ ns. LaidOn shape old then s [] first ns last) (sym more)
      (subst (λ w. LaidOn shape old w s [] first grown last) (sym written)
      (subst (λ x. LaidOn shape old (appended shape now end node p.0 p.1) s [] first grown x) (sym l) next))

  pub value_on : (queue : ℕ) (values : List ℕ) → queue < shape.queues → i < length values
      → then ≡ finished shape (Queue queue) node (appended shape now end node (1 + i) (get_or values i 0))
      → LaidOn shape old now (Queue queue) ((queue + 1) ∷ []) first (value_nodes queue 1 (take i values)) end
      → LaidOn shape old then (Queue queue) ((queue + 1) ∷ []) first (value_nodes queue 1 (take (i + 1) values)) last
  value_on queue values q below written on =
      let v = get_or values i 0 in
      let s = Queue queue in
      let before : List ℕ = (queue + 1) ∷ [] in
      let so_far = value_nodes queue 1 (take i values) in
      let taken : length (take i values) ≡ i = length-take-le i values (omega arith) in
      let count : length so_far ≡ i = length-value_nodes queue 1 (take i values) ∙ taken in
      let next = laid_on shape old now s before first so_far end node on (all-values queue 1 (take i values)) q is (omega (arith, e, count)) (1 + i) v in
      let more : value_nodes queue 1 (take (i + 1) values) ≡ so_far ++ record { structure = s; key = 1 + i; value = v } ∷ [] =
      ap (value_nodes queue 1) (take_more values i 0 below) ∙ value_nodes-more queue 1 (take i values) v
      ∙ ap (λ k. so_far ++ record { structure = s; key = 1 + k; value = v } ∷ []) taken in
      let grown : List LaidNode = so_far ++ record { structure = s; key = 1 + i; value = v } ∷ [] in
      subst (λ ns. LaidOn shape old then s before first ns last) (sym more)
      (subst (λ w. LaidOn shape old w s before first grown last) (sym written)
      (subst (λ x. LaidOn shape old (finished shape s node (appended shape now end node (1 + i) v)) s before first grown x) (sym l) next))
