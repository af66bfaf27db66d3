-- The pairs of a map by bucket.
use Rattle.std.proofs.Common.{◌≡◌, ◌≢◌, ℕ, zero, suc, ◌+◌, ◌<◌, ◌==◌, ◌++◌, eqb, List, [], ◌∷◌, map as map_list, length, get_or, set, replicate, refl, sym, ap, ◌∙◌, ⊎_elim, arith}
use Rattle.std.specs.List.{AllByRecursion, filter, range_with_len}
use Rattle.std.specs.List.Sorted.{IsStrictlySortedBy}
use Rattle.std.specs.Ordering.{nat_cmp}
use Rattle.std.specs.declared.cmp.Ordering.{Ordering}
use Rattle.std.specs.Cmp.{nat_cmp_total}
use Rattle.std.specs.declared.cmp.Ordering.TheVariants.{Less}
use Rattle.std.specs.Map.{keys_of}
use Rattle.std.specs.FinMap as fin
use Rattle.std.specs.FinMap.Entries.{put, by_order}
use Rattle.std.proofs.lemmas.Bool.{cases_eq, cond-true, cond-false, eq-eqb, ne_eqb}
use Rattle.std.proofs.lemmas.List.{length-map, length-set, get_or-set_same, get_or-set_other, append-nil}
use Rattle.std.proofs.lemmas.List.Elements.{filter-append}
use Rattle.std.proofs.lemmas.List.FromFn.{fill_by_all, length-map-range_with_len, get_or-map-range_with_len}
use Rattle.std.proofs.Math.ListN.{get_or-map}
use Rattle.md_words.specs.declared.shape.Shape.{Shape}
use Rattle.md_words.specs.Layout.{bucket_of}
use Rattle.md_words.proofs.Places.{bucket_of_below}
use Rattle.md_history.specs.State.{Table}
use Rattle.md_store_law.specs.Laid.{bucket_pairs}

no_entries : (es : List (ℕ × ℕ)) → length es ≡ 0 → es ≡ []
no_entries [] e = refl
no_entries (x ∷ es) e = absurd (omega arith)

-- the map of entries in order has these entries
put_first : (k v : ℕ) (es : List (ℕ × ℕ)) → AllByRecursion (λ y. nat_cmp k y ≡ Less) (keys_of es) → put nat_cmp k v es ≡ (k, v) ∷ es
put_first k v [] less = refl
put_first k v (e ∷ es) less = ap (λ r. by r) less.0
  where
    by : Ordering → List (ℕ × ℕ)
    by r = by_order r ((k, v) ∷ e ∷ es) ((e.0, v) ∷ es) (e ∷ put nat_cmp k v es)

pub entries-from : (es : List (ℕ × ℕ)) → IsStrictlySortedBy nat_cmp (keys_of es) → fin.entries (fin.from_entries {R = nat_cmp} es) ≡ es
unfolding IsStrictlySortedBy
entries-from [] sorted = no_entries _ (sym (fin.len-entries fin.empty) ∙ fin.len-empty nat_cmp ℕ)
entries-from (e ∷ es) sorted =
    fin.entries-insert nat_cmp_total (fin.from_entries es) e.0 e.1
    ∙ ap (put nat_cmp e.0 e.1) (entries-from es sorted.1)
    ∙ put_first e.0 e.1 es sorted.0

-- what entries of a list are in each bucket
abbrev pub pieces_of : Shape → List (ℕ × ℕ) → List (List (ℕ × ℕ))
pieces_of shape done = map_list (λ bucket. filter (λ p. bucket_of shape p.0 == bucket) done) (range_with_len 0 shape.buckets)

pub pieces_begin : (shape : Shape) → replicate {A = List (ℕ × ℕ)} shape.buckets [] ≡ pieces_of shape []
pieces_begin shape = same 0 shape.buckets
  where
    same : (a n : ℕ) → replicate {A = List (ℕ × ℕ)} n [] ≡ map_list (λ (bucket : ℕ). filter (λ (p : ℕ × ℕ). bucket_of shape p.0 == bucket) []) (range_with_len a n)
    same a zero = refl
    same a (suc n) = ap (λ xs. [] ∷ xs) (same (a + 1) n)

module _ (shape : Shape) (done : List (ℕ × ℕ)) (p : ℕ × ℕ) where
  abbrev home : ℕ
  home = bucket_of shape p.0

  abbrev of : List (ℕ × ℕ) → ℕ → List (ℕ × ℕ)
  of es bucket = filter (λ q. bucket_of shape q.0 == bucket) es

  home_more : of (done ++ p ∷ []) home ≡ of done home ++ p ∷ []
  home_more = filter-append (λ q. bucket_of shape q.0 == home) done (p ∷ [])
      ∙ ap (λ es. of done home ++ es) (cond-true (eqb home home) (p ∷ []) [] (eq-eqb home home refl))

  other_same : (bucket : ℕ) → bucket ≢ home → of (done ++ p ∷ []) bucket ≡ of done bucket
  other_same bucket ne = filter-append (λ q. bucket_of shape q.0 == bucket) done (p ∷ [])
      ∙ ap (λ es. of done bucket ++ es) (cond-false (eqb home bucket) (p ∷ []) [] (ne_eqb home bucket (λ e. ne (sym e))))
      ∙ append-nil (of done bucket)

  -- one more is pushed behind those of its bucket
  pub pieces_more : set (pieces_of shape done) home (of done home ++ p ∷ []) ≡ pieces_of shape (done ++ p ∷ [])
  pieces_more =
      let xs = pieces_of shape done in
      let new = of done home ++ p ∷ [] in
      let long = length-map-range_with_len (of done) 0 shape.buckets in
      fill_by_all (of (done ++ p ∷ [])) (set xs home new) shape.buckets [] (length-set xs home new ∙ long) (λ bucket below. ⊎_elim
      (λ e. ap (λ b. get_or (set xs home new) b []) e ∙ get_or-set_same xs home new [] (omega (arith, long, bucket_of_below shape p.0))
      ∙ sym home_more ∙ ap (of (done ++ p ∷ [])) (sym e))
      (λ ne. get_or-set_other xs home bucket new [] ne ∙ get_or-map-range_with_len (of done) 0 shape.buckets bucket bucket [] below (omega arith)
      ∙ sym (other_same bucket ne))
      (cases_eq bucket home))

-- what a list of lists holds for a bucket
module _ {X : Type 0} (items : X → List (ℕ × ℕ)) (boxes : List X) (shape : Shape) (t : Table)
    (are : map_list items boxes ≡ map_list (bucket_pairs shape t) (range_with_len 0 shape.buckets)) where
  pub boxes_count : length boxes ≡ shape.buckets
  boxes_count = sym (length-map boxes items) ∙ ap length are ∙ length-map-range_with_len (bucket_pairs shape t) 0 shape.buckets

  pub box_is : (bucket : ℕ) (x : X) → bucket < shape.buckets → x ≡ get_or boxes bucket x → items x ≡ bucket_pairs shape t bucket
  box_is bucket x below e =
      ap items e ∙ sym (get_or-map items boxes bucket x) ∙ ap (λ xs. get_or xs bucket (items x)) are
      ∙ get_or-map-range_with_len (bucket_pairs shape t) 0 shape.buckets bucket bucket (items x) below (omega arith)
