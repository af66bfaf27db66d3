-- Lists that lie one behind another: one more list, and each of them.
use Rattle.std.proofs.Common.{◌≡◌, ℕ, zero, suc, ◌+◌, ◌-◌, ◌*◌, ◌%◌, ◌<◌, ◌≤◌, ◌++◌, List, [], ◌∷◌, length, length-append, append_assoc, take, drop, map as map_list, sym, ap, ◌∙◌, subst, arith}
use Rattle.std.specs.List.{flat_map, range_with_len, slice_index}
use Rattle.std.proofs.Math.Nat.{suc-mul, mul_comm}
use Rattle.std.proofs.Math.Seq.{drop-append_seam, take-append_seam}
use Rattle.std.proofs.lemmas.List.{append-nil}
use Rattle.std.proofs.lemmas.List.FromFn.{get_or-map-range_with_len, length-map-range_with_len, map-range_with_len_more}
use Rattle.std.proofs.lemmas.Nat.{div-mul-add, mod-mul-add, mul-add-lt}
use Rattle.md_words.specs.declared.shape.Shape.{Shape}
use Rattle.md_store_law.specs.Lists.{between, HasList, AreFirst}
use Rattle.md_store_law.specs.Living.{by_number}
use Rattle.md_store_law.proofs.Filling.{flat_map_range_more}

module _ {X : Type 0} (lists : ℕ → List X) where
  -- the first lists, joined
  abbrev first : ℕ → List X
  first count = flat_map lists (range_with_len 0 count)

  -- at first there is none
  pub first_none : (joined : List X) (bounds : List ℕ) → joined ≡ [] → bounds ≡ 0 ∷ [] → AreFirst joined bounds lists 0
  first_none joined bounds none start = record { all = none; each = start }

  -- one more list
  pub first_more : (joined more : List X) (bounds bounded : List ℕ) (count : ℕ) → AreFirst joined bounds lists count
      → more ≡ joined ++ lists count → bounded ≡ bounds ++ length more ∷ [] → AreFirst more bounded lists (count + 1)
  first_more joined more bounds bounded count before grown ended =
      let all : more ≡ first (count + 1) = grown ∙ ap (λ xs. xs ++ lists count) before.all ∙ sym (flat_map_range_more lists count) in
      record {
        all = all;
        each = ended ∙ ap (λ bs. bs ++ length more ∷ []) before.each
            ∙ ap (λ xs. map_list (λ number. length (first number)) (range_with_len 0 (count + 1)) ++ length xs ∷ []) all
            ∙ sym (map-range_with_len_more (λ number. length (first number)) 0 (count + 1) (count + 1) (omega arith));
      }

  -- those up to a number begin all
  rest : (number more : ℕ) → (others : List X) × (first (number + more) ≡ first number ++ others)
  rest number zero = ([], ap first (omega arith) ∙ sym (append-nil (first number)))
  rest number (suc more) =
      let before = rest number more in (
        before.0 ++ lists (number + more),
        ap first (omega arith) ∙ flat_map_range_more lists (number + more)
            ∙ ap (λ xs. xs ++ lists (number + more)) before.1 ∙ append_assoc (first number) before.0 (lists (number + more)),
      )

  module _ (joined : List X) (bounds : List ℕ) (count : ℕ) (all : AreFirst joined bounds lists count) where
    bound : (number : ℕ) → number ≤ count → slice_index bounds number ≡ length (first number)
    bound number low = ap (λ bs. slice_index bs number) all.each
        ∙ get_or-map-range_with_len (λ k. length (first k)) 0 (count + 1) number number 0 (omega arith) (omega arith)

    parts : (number : ℕ) → number < count → (others : List X) × (joined ≡ first number ++ (lists number ++ others))
    parts number low =
        let after = rest (number + 1) (count - (number + 1)) in (
          after.0,
          all.all ∙ ap first (omega arith) ∙ after.1 ∙ ap (λ xs. xs ++ after.0) (flat_map_range_more lists number)
              ∙ append_assoc (first number) (lists number) after.0,
        )

    -- each lies between its bounds
    pub between_is : (number : ℕ) → number < count → between joined bounds number ≡ lists number
    between_is number low =
        let before = first number in
        let this = lists number in
        let split = parts number low in
        let start = bound number (omega arith) in
        let end = bound (number + 1) (omega arith) in
        let size = ap length (flat_map_range_more lists number) ∙ length-append before this in
        let steps : slice_index bounds (number + 1) - slice_index bounds number ≡ length this = omega (arith, start, end, size) in
        ap (λ n. take n (drop (slice_index bounds number) joined)) steps
        ∙ ap (λ n. take (length this) (drop n joined)) start
        ∙ ap (λ xs. take (length this) (drop (length before) xs)) split.1
        ∙ ap (take (length this)) (drop-append_seam before (this ++ split.0))
        ∙ take-append_seam this split.0

    pub has_list : (number : ℕ) → number < count → HasList joined bounds number
    has_list number low =
        let before = first number in
        let this = lists number in
        let split = parts number low in
        let start = bound number (omega arith) in
        let end = bound (number + 1) (omega arith) in
        let size = ap length (flat_map_range_more lists number) ∙ length-append before this in
        let whole = ap length split.1 ∙ length-append before (this ++ split.0) in
        let further = length-append this split.0 in
        let many = ap length all.each ∙ length-map-range_with_len (λ k. length (first k)) 0 (count + 1) in
        record {
          bounded = omega (arith, many);
          rises = omega (arith, start, end, size);
          within = omega (arith, end, size, whole, further);
        }

module _ {X : Type 0} (shape : Shape) (of : ℕ → ℕ → List X) where
  -- the list of a bucket
  pub number_is : (map bucket : ℕ) → bucket < shape.buckets → by_number shape of (map * shape.buckets + bucket) ≡ of map bucket
  number_is map bucket below =
      ap (λ m. of m ((map * shape.buckets + bucket) % shape.buckets)) (div-mul-add map shape.buckets bucket below)
      ∙ ap (of map) (mod-mul-add map shape.buckets bucket below)

  -- and where it comes among all
  pub number_below : (map bucket : ℕ) → map < shape.maps → bucket < shape.buckets → map * shape.buckets + bucket < shape.maps * shape.buckets
  number_below map bucket m b = subst (λ n. map * shape.buckets + bucket < n) (mul_comm shape.buckets shape.maps) (mul-add-lt map shape.buckets bucket shape.maps m b)

  abbrev of_map : ℕ → List X
  of_map map = flat_map (of map) (range_with_len 0 shape.buckets)

  abbrev so_far : ℕ → ℕ
  so_far number = length (first (by_number shape of) number)

  some : (map : ℕ) → so_far (map * shape.buckets) ≡ length (flat_map of_map (range_with_len 0 map)) → (bucket : ℕ) → bucket ≤ shape.buckets
      → so_far (map * shape.buckets + bucket) ≡ length (flat_map of_map (range_with_len 0 map)) + length (flat_map (of map) (range_with_len 0 bucket))
  some map before zero low = ap so_far (omega arith) ∙ before ∙ omega arith
  some map before (suc bucket) low =
      let here = some map before bucket (omega arith) in
      let number = map * shape.buckets + bucket in
      let next : map * shape.buckets + suc bucket ≡ number + 1 = omega arith in
      let more = ap so_far next ∙ ap length (flat_map_range_more (by_number shape of) number)
      ∙ length-append (first (by_number shape of) number) (by_number shape of number) in
      let this = ap length (number_is map bucket (omega arith)) in
      let one : suc bucket ≡ bucket + 1 = omega arith in
      let also = ap (λ n. length (flat_map (of map) (range_with_len 0 n))) one ∙ ap length (flat_map_range_more (of map) bucket) ∙ length-append (flat_map (of map) (range_with_len 0 bucket)) (of map bucket) in
      omega (arith, here, more, this, also)

  -- the lists of all buckets are as long by number as by map and bucket
  pub length-by_number : (maps : ℕ) → so_far (maps * shape.buckets) ≡ length (flat_map of_map (range_with_len 0 maps))
  length-by_number zero = let none : zero * shape.buckets ≡ 0 = omega arith in ap so_far none
  length-by_number (suc maps) =
      let one : suc maps ≡ maps + 1 = omega arith in
      ap so_far (suc-mul maps shape.buckets) ∙ some maps (length-by_number maps) shape.buckets (omega arith)
      ∙ sym (ap (λ n. length (flat_map of_map (range_with_len 0 n))) one ∙ ap length (flat_map_range_more of_map maps)
      ∙ length-append (flat_map of_map (range_with_len 0 maps)) (of_map maps))
