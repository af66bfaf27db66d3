-- Which nodes were taken once one more is.
use Rattle.std.proofs.Common.{◌≡◌, ◌≢◌, ◌++◌, ◌∷◌, ◌+◌, ◌-◌, ◌<◌, ◌≤◌, ℕ, suc, zero, List, [], map, refl, sym, ap, ◌∙◌, ⊎_elim, append_assoc, arith}
use Rattle.std.proofs.lemmas.List.{append-nil, map-append}
use Rattle.std.specs.List.{Contains, flat_map, range_with_len}
use Rattle.md_words.specs.Lanes.{node_of}
use Rattle.md_machine.specs.clauses.passes.Lanes.{RiseFrom}
use Rattle.md_machine.proofs.lists.Rising.{in_cons, in_none, rise_low}
use Rattle.md_rule_lanes.specs.Shares.{share_at}
use Rattle.md_rule.specs.Views.{PassState}
use Rattle.md_nbtc_law.specs.State.{taken_of_lane, taken_since}

-- lists of the numbers of a rising list, all empty
nothing_above : {X : Type 0} (f : ℕ → List X) (low : ℕ) (xs : List ℕ) → RiseFrom low xs → ((x : ℕ) → low ≤ x → f x ≡ []) → flat_map f xs ≡ []
nothing_above f low [] rise none = refl
nothing_above f low (x ∷ xs) rise none = let first = rise.0 in
    ap (λ l. l ++ flat_map f xs) (none x first) ∙ nothing_above f (x + 1) xs rise.1 (λ y far. none y (omega (arith, first, far)))

-- one list of a rising list grows by an element, and those after it are empty
pub flat_push : {X : Type 0} (f g : ℕ → List X) (new : X) (at : ℕ) → ((x : ℕ) → x ≢ at → g x ≡ f x) → g at ≡ f at ++ new ∷ [] → ((x : ℕ) → at < x → f x ≡ [])
    → (low : ℕ) (xs : List ℕ) → RiseFrom low xs → Contains xs at → flat_map g xs ≡ flat_map f xs ++ new ∷ []
flat_push f g new at same one none low [] rise c = absurd (in_none at c)
flat_push f g new at same one none low (y ∷ ys) rise c = ⊎_elim
    (λ is. here_push is)
    (λ later. let far = rise_low (y + 1) ys at rise.1 later in
    ap (λ l. l ++ flat_map g ys) (same y (λ e. omega (arith, e, far)))
    ∙ ap (λ l. f y ++ l) (flat_push f g new at same one none (y + 1) ys rise.1 later)
    ∙ sym (append_assoc (f y) (flat_map f ys) (new ∷ [])))
    (in_cons y ys at c)
  where
    after_f : y ≡ at → flat_map f ys ≡ []
    after_f is = nothing_above f (y + 1) ys rise.1 (λ x far. none x (omega (arith, is, far)))

    after_g : y ≡ at → flat_map g ys ≡ []
    after_g is = nothing_above g (y + 1) ys rise.1 (λ x far. same x (λ e. omega (arith, is, far, e)) ∙ none x (omega (arith, is, far)))

    here_push : y ≡ at → g y ++ flat_map g ys ≡ (f y ++ flat_map f ys) ++ new ∷ []
    here_push is = ap (λ l. g y ++ l) (after_g is) ∙ append-nil (g y) ∙ ap g is ∙ one ∙ ap (λ x. f x ++ new ∷ []) (sym is)
        ∙ ap (λ l. l ++ new ∷ []) (sym (append-nil (f y)) ∙ ap (λ l. f y ++ l) (sym (after_f is)))

range_push : (from n : ℕ) → range_with_len from (n + 1) ≡ range_with_len from n ++ (from + n) ∷ []
range_push from n = ap (range_with_len from) (one_more n) ∙ go from n
  where
    one_more : (k : ℕ) → k + 1 ≡ suc k
    one_more k = omega arith

    go : (a k : ℕ) → range_with_len a (suc k) ≡ range_with_len a k ++ (a + k) ∷ []
    go a zero = ap (λ x. x ∷ []) (omega arith)
    go a (suc k) = ap (λ l. a ∷ l) (go (a + 1) k ∙ ap (λ x. range_with_len (a + 1) k ++ x ∷ []) (omega arith))

-- a pass after one more node of a lane was taken, where none was taken of those above
pub record TookOne (before p q : PassState) (lane : ℕ) : Type 0 where
  pub shape : q.shape ≡ p.shape
  pub lanes : q.view.lanes ≡ p.view.lanes
  pub one : (share_at q.shares lane).nodes_taken ≡ (share_at p.shares lane).nodes_taken + 1
  pub others : (other : ℕ) → other ≢ lane → (share_at q.shares other).nodes_taken ≡ (share_at p.shares other).nodes_taken
  pub more : (share_at before.shares lane).nodes_taken ≤ (share_at p.shares lane).nodes_taken
  pub in_turn : (other : ℕ) → lane < other → (share_at p.shares other).nodes_taken ≡ (share_at before.shares other).nodes_taken

module _ (before p q : PassState) (lane : ℕ) (took : TookOne before p q lane) where
  abbrev first_of : ℕ → ℕ
  first_of other = (share_at before.shares other).nodes_taken

  others_same : (other : ℕ) → other ≢ lane → taken_of_lane before q other ≡ taken_of_lane before p other
  others_same other ne = ap (λ s. map (node_of s other) (range_with_len (first_of other) ((share_at q.shares other).nodes_taken - first_of other))) took.shape
      ∙ ap (λ n. map (node_of p.shape other) (range_with_len (first_of other) (n - first_of other))) (took.others other ne)

  one_more : taken_of_lane before q lane ≡ taken_of_lane before p lane ++ node_of p.shape lane (share_at p.shares lane).nodes_taken ∷ []
  one_more =
      let a = first_of lane in
      let k = (share_at p.shares lane).nodes_taken in
      let more = took.more in
      let one = took.one in
      let count : (share_at q.shares lane).nodes_taken - a ≡ (k - a) + 1 = omega (arith, more, one) in
      let last : a + (k - a) ≡ k = omega (arith, more) in
      ap (λ s. map (node_of s lane) (range_with_len a ((share_at q.shares lane).nodes_taken - a))) took.shape
      ∙ ap (λ n. map (node_of p.shape lane) (range_with_len a n)) count
      ∙ ap (map (node_of p.shape lane)) (range_push a (k - a) ∙ ap (λ x. range_with_len a (k - a) ++ x ∷ []) last)
      ∙ map-append (node_of p.shape lane) (range_with_len a (k - a)) (k ∷ [])

  none_above : (other : ℕ) → lane < other → taken_of_lane before p other ≡ []
  none_above other above =
      let same = took.in_turn other above in
      let none : (share_at p.shares other).nodes_taken - first_of other ≡ 0 = omega (arith, same) in
      ap (λ n. map (node_of p.shape other) (range_with_len (first_of other) n)) none

  -- the node comes last of those that were taken since
  pub taken_push : RiseFrom 0 p.view.lanes → Contains p.view.lanes lane
      → taken_since before q ≡ taken_since before p ++ node_of p.shape lane (share_at p.shares lane).nodes_taken ∷ []
  taken_push rise held = ap (flat_map (taken_of_lane before q)) took.lanes
      ∙ flat_push (taken_of_lane before p) (taken_of_lane before q) (node_of p.shape lane (share_at p.shares lane).nodes_taken) lane
      others_same one_more none_above 0 p.view.lanes rise held
