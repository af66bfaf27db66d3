-- Where the nodes of each lane begin, once one more node was taken.
use Rattle.std.proofs.Common.{◌≡◌, ◌≢◌, ◌==◌, ◌||◌, ◌++◌, ◌∷◌, ◌+◌, ◌<◌, ◌≤◌, ◌⊎◌, ℕ, Bool, true, false, nat_lt, List, [], length, refl, sym, ap, ◌∙◌, subst, inl, inr, ⊎_elim, eq-eqb, if◌then◌else◌, arith}
use Rattle.std.proofs.lemmas.Bool.{cases_eq, cases_lt, cond-true, cond-false, lt-ltb, le-ltb, ne_eqb}
use Rattle.std.proofs.lemmas.List.{length-append}
use Rattle.std.proofs.lemmas.List.Elements.{Contains-append_cases, Contains-append_left, Contains-append_right}
use Rattle.std.proofs.lemmas.List.Folds.{list_any_none}
use Rattle.std.specs.List.{Contains, flat_map, list_any}
use Rattle.md_machine.specs.clauses.passes.Lanes.{RiseFrom}
use Rattle.md_machine.proofs.lists.Rising.{here, in_cons, in_none, there}
use Rattle.md_rule_lanes.specs.Shares.{share_at}
use Rattle.md_rule.specs.Views.{PassState}
use Rattle.md_nbtc_law.specs.declared.slots.Lot.{Lot}
use Rattle.md_nbtc_law.specs.Sets.{with_lot}
use Rattle.md_nbtc_law.specs.State.{lot_of_lane, lots_since}
use Rattle.md_nbtc_law.proofs.nodes.Taken.{TookOne, flat_push}
use Rattle.md_nbtc_law.proofs.ready.Lookups.{all_of}

-- an element of a list of lists is of one of them, and the other way round
in_flat : {A B : Type 0} (f : A → List B) (xs : List A) (y : B) → Contains (flat_map f xs) y → (x : A) × Contains xs x × Contains (f x) y
in_flat f [] y c = absurd (in_none y c)
in_flat f (x ∷ xs) y c = ⊎_elim
    (λ this. (x, here x xs, this))
    (λ later. let found = in_flat f xs y later in (found.0, there x xs found.0 found.1, found.2))
    (Contains-append_cases (f x) (flat_map f xs) y c)

flat_in : {A B : Type 0} (f : A → List B) (xs : List A) (x : A) (y : B) → Contains xs x → Contains (f x) y → Contains (flat_map f xs) y
flat_in f [] x y c d = absurd (in_none x c)
flat_in f (z ∷ xs) x y c d = ⊎_elim
    (λ same. Contains-append_left (f z) (flat_map f xs) y (subst (λ w. Contains (f w) y) (sym same) d))
    (λ later. Contains-append_right (f z) (flat_map f xs) y (flat_in f xs x y later d))
    (in_cons z xs x c)

same_flat : {A B : Type 0} (f g : A → List B) (xs : List A) → ((x : A) → g x ≡ f x) → flat_map g xs ≡ flat_map f xs
same_flat f g [] same = refl
same_flat f g (x ∷ xs) same = ap (λ l. l ++ flat_map g xs) (same x) ∙ ap (λ l. f x ++ l) (same_flat f g xs same)

any_in : (p : Lot → Bool) (xs : List Lot) (x : Lot) → Contains xs x → p x ≡ true → list_any p xs ≡ true
any_in p [] x c is = absurd (in_none x c)
any_in p (y ∷ xs) x c is = ⊎_elim
    (λ same. ap (λ b. b || list_any p xs) (ap p same ∙ is))
    (λ later. ap (λ b. p y || b) (any_in p xs x later is) ∙ or_true (p y))
    (in_cons y xs x c)
  where
    or_true : (b : Bool) → (b || true) ≡ true
    or_true true = refl
    or_true false = refl

-- a list of lists of at most one element each has no more than there are lists, and fewer if one is empty
few_flat : {A : Type 0} (f : ℕ → List A) → ((x : ℕ) → length (f x) ≤ 1) → (xs : List ℕ) → length (flat_map f xs) ≤ length xs
few_flat f one [] = omega arith
few_flat f one (x ∷ xs) = let a = one x in let b = few_flat f one xs in let c = length-append (f x) (flat_map f xs) in omega (arith, a, b, c)

fewer_flat : {A : Type 0} (f : ℕ → List A) → ((x : ℕ) → length (f x) ≤ 1) → (xs : List ℕ) (at : ℕ) → Contains xs at → f at ≡ [] → length (flat_map f xs) < length xs
fewer_flat f one [] at c none = absurd (in_none at c)
fewer_flat f one (x ∷ xs) at c none = let e = length-append (f x) (flat_map f xs) in ⊎_elim
    (λ same. let b = few_flat f one xs in let z : length (f x) ≡ 0 = ap (λ y. length (f y)) same ∙ ap length none in omega (arith, b, e, z))
    (λ later. let a = one x in let b = fewer_flat f one xs at later none in omega (arith, a, b, e))
    (in_cons x xs at c)

-- a rising list of numbers below some is no longer than those
rise_few : (low : ℕ) (xs : List ℕ) (n : ℕ) → RiseFrom low xs → ((x : ℕ) → Contains xs x → x < n) → length xs + low ≤ n ⊎ (xs ≡ [])
rise_few low [] n rise below = inr refl
rise_few low (x ∷ xs) n rise below =
    let first = rise.0 in
    let here_below = below x (here x xs) in
    ⊎_elim (λ few. inl (omega (arith, few, first))) (λ none. inl (let z = ap length none in omega (arith, z, first, here_below)))
    (rise_few (x + 1) xs n rise.1 (λ y c. below y (there x xs y c)))

module _ (before p q : PassState) (lane : ℕ) (took : TookOne before p q lane) (rise : RiseFrom 0 p.view.lanes) (held : Contains p.view.lanes lane) where
  abbrev first_of : ℕ → ℕ
  first_of other = (share_at before.shares other).nodes_taken

  abbrev lot_at : ℕ → Lot
  lot_at other = record { lane = other; first = first_of other }

  abbrev taken : ℕ
  taken = (share_at p.shares lane).nodes_taken

  -- where the new node is the lane's first one, it begins there
  abbrev pub new_lot : Lot
  new_lot = record { lane = lane; first = taken }

  others_same : (other : ℕ) → other ≢ lane → lot_of_lane before q other ≡ lot_of_lane before p other
  others_same other ne = ap (λ n. if nat_lt (first_of other) n then lot_at other ∷ [] else []) (took.others other ne)

  one_each : (other : ℕ) → length (lot_of_lane before p other) ≤ 1
  one_each other = ⊎_elim
      (λ (has : first_of other < (share_at p.shares other).nodes_taken).
      let e = ap (length {A = Lot}) (cond-true (nat_lt (first_of other) (share_at p.shares other).nodes_taken) (lot_at other ∷ []) [] (lt-ltb _ _ has)) in omega (arith, e))
      (λ (none : (share_at p.shares other).nodes_taken ≤ first_of other).
      let e = ap (length {A = Lot}) (cond-false (nat_lt (first_of other) (share_at p.shares other).nodes_taken) (lot_at other ∷ []) [] (le-ltb _ _ none)) in omega (arith, e))
      (cases_lt (first_of other) (share_at p.shares other).nodes_taken)

  now_there : lot_of_lane before q lane ≡ lot_at lane ∷ []
  now_there = let more = took.more in let one = took.one in
      cond-true (nat_lt (first_of lane) (share_at q.shares lane).nodes_taken) (lot_at lane ∷ []) [] (lt-ltb _ _ (omega (arith, more, one)))

  -- the lane is among them exactly if it gave nodes before
  lane_of : (other : ℕ) (l : Lot) → Contains (lot_of_lane before p other) l → (l.lane ≡ other) × (first_of other < (share_at p.shares other).nodes_taken)
  lane_of other l c = ⊎_elim
      (λ (has : first_of other < (share_at p.shares other).nodes_taken). (
        ⊎_elim (λ same. sym (ap (λ (x : Lot). x.lane) same)) (λ none. absurd (in_none l none))
            (in_cons (lot_at other) [] l (subst (λ x. Contains x l) (cond-true (nat_lt (first_of other) (share_at p.shares other).nodes_taken) _ [] (lt-ltb _ _ has)) c)),
        has,
      ))
      (λ (none : (share_at p.shares other).nodes_taken ≤ first_of other).
      absurd (in_none l (subst (λ x. Contains x l) (cond-false (nat_lt (first_of other) (share_at p.shares other).nodes_taken) (lot_at other ∷ []) [] (le-ltb _ _ none)) c)))
      (cases_lt (first_of other) (share_at p.shares other).nodes_taken)

  abbrev Its : Lot → Bool
  Its l = l.lane == lane

  when_known : first_of lane < taken → (list_any Its (lots_since before p) ≡ true) × (lots_since before q ≡ lots_since before p)
  when_known has =
      let was : lot_of_lane before p lane ≡ lot_at lane ∷ [] = cond-true (nat_lt (first_of lane) taken) _ [] (lt-ltb _ _ has) in (
        any_in Its (lots_since before p) (lot_at lane)
            (flat_in (lot_of_lane before p) p.view.lanes lane (lot_at lane) held (subst (λ l. Contains l (lot_at lane)) (sym was) (here (lot_at lane) []))) (eq-eqb lane lane refl),
        ap (flat_map (lot_of_lane before q)) took.lanes ∙ same_flat (lot_of_lane before p) (lot_of_lane before q) p.view.lanes (λ x. ⊎_elim
            (λ (same : x ≡ lane). subst (λ y. lot_of_lane before q y ≡ lot_of_lane before p y) (sym same) (now_there ∙ sym was)) (λ ne. others_same x ne) (cases_eq x lane)),
      )

  empty : taken ≤ first_of lane → lot_of_lane before p lane ≡ []
  empty none = cond-false (nat_lt (first_of lane) taken) (lot_at lane ∷ []) [] (le-ltb _ _ none)

  when_new : taken ≤ first_of lane → (list_any Its (lots_since before p) ≡ false) × (lots_since before q ≡ lots_since before p ++ new_lot ∷ [])
  when_new none =
      let more = took.more in
      let same : first_of lane ≡ taken = omega (arith, none, more) in (
        list_any_none Its (lots_since before p) (all_of (λ l. Its l ≡ false) (lots_since before p) (λ l c.
            let of = in_flat (lot_of_lane before p) p.view.lanes l c in
            let its = lane_of of.0 l of.2 in
            ne_eqb l.lane lane (λ e. let at : of.0 ≡ lane = sym its.0 ∙ e in
            let less = subst (λ x. first_of x < (share_at p.shares x).nodes_taken) at its.1 in omega (arith, less, none)))),
        ap (flat_map (lot_of_lane before q)) took.lanes ∙ flat_push (lot_of_lane before p) (lot_of_lane before q) new_lot lane others_same
            (now_there ∙ ap (λ n. (record { lane = lane; first = n }) ∷ []) same ∙ ap (λ l. l ++ new_lot ∷ []) (sym (empty none)))
            (λ other above. cond-false (nat_lt (first_of other) (share_at p.shares other).nodes_taken) (lot_at other ∷ []) []
            (le-ltb _ _ (let e = took.in_turn other above in omega (arith, e)))) 0 p.view.lanes rise held,
      )

  pub lots_are : lots_since before q ≡ with_lot (lots_since before p) new_lot
  lots_are = ⊎_elim
      (λ (has : first_of lane < taken). let k = when_known has in
      k.1 ∙ sym (cond-true (list_any Its (lots_since before p)) (lots_since before p) (lots_since before p ++ new_lot ∷ []) k.0))
      (λ (none : taken ≤ first_of lane). let k = when_new none in
      k.1 ∙ sym (cond-false (list_any Its (lots_since before p)) (lots_since before p) (lots_since before p ++ new_lot ∷ []) k.0))
      (cases_lt (first_of lane) taken)

  -- a lane that gave none leaves room for one more
  pub lots_fit : ((x : ℕ) → Contains p.view.lanes x → x < 64) → list_any Its (lots_since before p) ≡ false → length (lots_since before p) < 64
  lots_fit below unknown = ⊎_elim
      (λ (has : first_of lane < taken). absurd (true_false (sym (when_known has).0 ∙ unknown)))
      (λ (none : taken ≤ first_of lane).
      let fewer = fewer_flat (lot_of_lane before p) one_each p.view.lanes lane held (empty none) in
      ⊎_elim (λ few. omega (arith, fewer, few)) (λ e. absurd (in_none lane (subst (λ l. Contains l lane) e held))) (rise_few 0 p.view.lanes 64 rise below))
      (cases_lt (first_of lane) taken)
    where
      true_false : true ≡ false → ⊥
      true_false e = cc
