-- A book with one more order.
use Rattle.std.proofs.Common.{◌≡◌, ◌≢◌, ℕ, ◌+◌, ◌^◌, ◌<◌, ◌≤◌, ◌==◌, ◌&&◌, nat_eq, nat_lt, Bool, false, cond, not, List, [], ◌∷◌, ◌++◌, map, length, take, drop, refl, sym, ap, subst, ◌∙◌, Option, Some, None, arith}
use Rattle.std.specs.Prelude.{find, sum_by, All}
use Rattle.std.specs.List.{IsDistinct}
use Rattle.std.specs.Option.{option_map, option_or}
use Rattle.std.proofs.lemmas.Bool.{eq-eqb, ne_eqb, lt-ltb, and_left, and_from}
use Rattle.std.proofs.lemmas.Cmp.{nat_eq_equiv}
use Rattle.std.proofs.lemmas.List.{append-nil, length-append, length_push, map_push, take-append-le, drop-append-le, length-map}
use Rattle.std.proofs.lemmas.List.Elements.{All-head, All-tail, All-same, All-map, All-push, All-weaker, filter-append}
use Rattle.std.proofs.lemmas.List.Filters.{sum_by-filter_both}
use Rattle.std.proofs.lemmas.List.Folds.{find-append, list_any_none}
use Rattle.std.proofs.lemmas.List.Sums.{sum_by_push}
use Rattle.std.proofs.lemmas.Map.Keys.{IsDistinct-push}
use Rattle.md_book.specs.declared.limits.TheConstants.{MAX_QUANTITY}
use Rattle.md_book.specs.Book.{Order, Book, level_of, orders_at, depth}
use Rattle.md_book.specs.Stands.{packed, open_order, IsInRange, IsSound}

find_none : {X : Type 0} (p : X → Bool) (xs : List X) → All (λ x. p x ≡ false) xs → find p xs ≡ None
find_none p [] h = refl
find_none p (x ∷ xs) h = ap (λ b. cond b (Some x) (find p xs)) (All-head (λ x. p x ≡ false) x xs h) ∙ find_none p xs (All-tail (λ x. p x ≡ false) x xs h)

or_none : {X : Type 0} (o : Option X) → option_or o None ≡ o
or_none None = refl
or_none (Some x) = refl

-- what is left at a level is a part of what is left in all
pub depth-le-total : (b : Book) (level : ℕ) → depth b level ≤ sum_by (λ o. o.left) b.orders
depth-le-total b level = omega (arith, sum_by-filter_both (λ o. level_of o.side o.price == level) (λ o. not (level_of o.side o.price == level)) (λ _. refl) (λ o. o.left) b.orders)

-- a sound book's depths have room for one more order
pub depth-room : (b : Book) (level by : ℕ) → IsSound b → by ≤ MAX_QUANTITY → depth b level + by < 2 ^ 64
depth-room b level by sound low = omega (arith, depth-le-total b level, sound.total, sound.few)

abbrev pub with_order : Book → Order → Book
with_order b o = record b { orders = b.orders ++ o ∷ [] }

module _ (b : Book) (o : Order) where
  -- the order, at its own level
  at_its_level : ℕ → List Order
  at_its_level level = cond (level_of o.side o.price == level) (o ∷ []) []

  orders_at-with_order : (level : ℕ) → orders_at (with_order b o) level ≡ orders_at b level ++ at_its_level level
  unfolding at_its_level
  orders_at-with_order level = filter-append (λ p. level_of p.side p.price == level) b.orders (o ∷ [])

  pub orders_at-here : (level : ℕ) → level ≡ level_of o.side o.price → orders_at (with_order b o) level ≡ orders_at b level ++ o ∷ []
  unfolding at_its_level
  orders_at-here level e = orders_at-with_order level ∙ ap (λ t. orders_at b level ++ cond t (o ∷ []) []) (eq-eqb (level_of o.side o.price) level (sym e))

  pub orders_at-other : (level : ℕ) → level ≢ level_of o.side o.price → orders_at (with_order b o) level ≡ orders_at b level
  unfolding at_its_level
  orders_at-other level e = orders_at-with_order level ∙ ap (λ t. orders_at b level ++ cond t (o ∷ []) []) (ne_eqb (level_of o.side o.price) level (λ f. e (sym f))) ∙ append-nil (orders_at b level)

  pub depth-here : (level : ℕ) → level ≡ level_of o.side o.price → depth (with_order b o) level ≡ depth b level + o.left
  depth-here level e = ap (sum_by (λ p. p.left)) (orders_at-here level e) ∙ sum_by_push (λ p. p.left) (orders_at b level) o

  pub depth-other : (level : ℕ) → level ≢ level_of o.side o.price → depth (with_order b o) level ≡ depth b level
  depth-other level e = ap (sum_by (λ p. p.left)) (orders_at-other level e)

  -- the names that wait at a level
  pub names-here : (level : ℕ) → level ≡ level_of o.side o.price → b.passed level ≤ length (orders_at b level)
      → drop (b.passed level) (map (λ p. p.name) (orders_at (with_order b o) level)) ≡ drop (b.passed level) (map (λ p. p.name) (orders_at b level)) ++ o.name ∷ []
  names-here level e passed =
      let names = map (λ p. p.name) (orders_at b level) in
      let within : b.passed level ≤ length names = omega (arith, length-map (orders_at b level) (λ p. p.name)) in
      ap (λ ps. drop (b.passed level) (map (λ p. p.name) ps)) (orders_at-here level e) ∙ ap (drop (b.passed level)) (map_push (λ p. p.name) (orders_at b level) o) ∙ drop-append-le (b.passed level) names (o.name ∷ []) within

  pub names-other : (level : ℕ) → level ≢ level_of o.side o.price
      → drop (b.passed level) (map (λ p. p.name) (orders_at (with_order b o) level)) ≡ drop (b.passed level) (map (λ p. p.name) (orders_at b level))
  names-other level e = ap (λ ps. drop (b.passed level) (map (λ p. p.name) ps)) (orders_at-other level e)

  module _ (new : All (λ p. p.name ≢ o.name) b.orders) where
    apart : All (λ p. (p.name == o.name) ≡ false) b.orders
    apart = All-weaker (λ p. p.name ≢ o.name) (λ p. (p.name == o.name) ≡ false) (λ p h. ne_eqb p.name o.name h) b.orders new

    none_of_it : find (λ p. (p.name == o.name) && nat_lt 0 p.left) b.orders ≡ None
    none_of_it = find_none (λ p. (p.name == o.name) && nat_lt 0 p.left) b.orders
        (All-weaker (λ p. (p.name == o.name) ≡ false) (λ p. ((p.name == o.name) && nat_lt 0 p.left) ≡ false) (λ p h. and_left (p.name == o.name) (nat_lt 0 p.left) h) b.orders apart)

    pub open_order-new : open_order b o.name ≡ None
    open_order-new = ap (option_map (λ p. packed p.account p.side p.price p.left)) none_of_it

    pub open_order-here : 0 < o.left → open_order (with_order b o) o.name ≡ Some (packed o.account o.side o.price o.left)
    open_order-here some = ap (option_map (λ p. packed p.account p.side p.price p.left))
        (find-append (λ p. (p.name == o.name) && nat_lt 0 p.left) b.orders (o ∷ []) ∙ ap (λ f. option_or f (find (λ p. (p.name == o.name) && nat_lt 0 p.left) (o ∷ []))) none_of_it
        ∙ ap (λ t. cond t (Some o) None) (and_from (o.name == o.name) (nat_lt 0 o.left) (eq-eqb o.name o.name refl) (lt-ltb 0 o.left some)))

    distinct : IsSound b → IsDistinct nat_eq (map (λ p. p.name) (with_order b o).orders)
    distinct sound = subst (IsDistinct nat_eq) (sym (map_push (λ p. p.name) b.orders o))
        (IsDistinct-push nat_eq_equiv (map (λ p. p.name) b.orders) o.name sound.distinct (list_any_none (nat_eq o.name) (map (λ p. p.name) b.orders)
        (All-map (λ n. nat_eq o.name n ≡ false) (λ p. p.name) b.orders (All-weaker (λ p. p.name ≢ o.name) (λ p. nat_eq o.name p.name ≡ false) (λ p h. ne_eqb o.name p.name (λ e. h (sym e))) b.orders new))))

    pub sound-with_order : IsSound b → length b.orders + 1 < 2 ^ 32 → IsInRange o → IsSound (with_order b o)
    sound-with_order sound room in_range = record {
      distinct = distinct sound;
      few = omega (arith, length_push b.orders o);
      in_range = All-push IsInRange b.orders o sound.in_range in_range;
      passed = λ level. omega (arith, sound.passed level, ap length (orders_at-with_order level), length-append (orders_at b level) (at_its_level level));
      emptied = λ level. All-same (λ p. p.left ≡ 0) _ _ (ap (take (b.passed level)) (orders_at-with_order level) ∙ take-append-le (b.passed level) (orders_at b level) (at_its_level level) (sound.passed level)) (sound.emptied level);
      traded = sound.traded;
      total = omega (arith, sound.total, sum_by_push (λ p. p.left) b.orders o, length_push b.orders o, in_range.left);
    }

  pub open_order-other : (name : ℕ) → name ≢ o.name → open_order (with_order b o) name ≡ open_order b name
  open_order-other name e = ap (option_map (λ p. packed p.account p.side p.price p.left))
      (find-append (λ p. (p.name == name) && nat_lt 0 p.left) b.orders (o ∷ [])
      ∙ ap (λ t. option_or (find (λ p. (p.name == name) && nat_lt 0 p.left) b.orders) (cond t (Some o) None)) (and_left (o.name == name) (nat_lt 0 o.left) (ne_eqb o.name name (λ f. e (sym f))))
      ∙ or_none (find (λ p. (p.name == name) && nat_lt 0 p.left) b.orders))
