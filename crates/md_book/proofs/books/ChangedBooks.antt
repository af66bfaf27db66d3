-- The changes of a book: an order has less left, a place is passed, a trade is added.
use Rattle.std.proofs.Common.{◌≡◌, ◌≢◌, ℕ, ◌+◌, ◌-◌, ◌*◌, ◌≤◌, ◌==◌, nat_eq, nat_lt, Bool, true, false, cond, List, [], ◌∷◌, ◌++◌, map, length, take, refl, sym, ap, subst, ◌∙◌, inl, inr, Some, None, arith}
use Rattle.std.specs.Prelude.{sum_by, All, slice_get}
use Rattle.std.specs.List.{IsDistinct}
use Rattle.std.specs.Option.{option_map}
use Rattle.std.proofs.lemmas.Bool.{eq-eqb, ne_eqb, cases_eq}
use Rattle.std.proofs.lemmas.List.{length-map, take-map}
use Rattle.std.proofs.lemmas.List.Elements.{All-same, All-map, All-push, All-weaker, All-more}
use Rattle.std.proofs.lemmas.List.Sums.{sum_by_push, sum_by-cons}
use Rattle.std.proofs.lemmas.Option.{slice_get-map, slice_get_within, get_or_from_slice_get}
use Rattle.md_book.specs.declared.limits.TheConstants.{MAX_QUANTITY}
use Rattle.md_book.specs.Book.{Order, Trade, Book, IsAccount, level_of, orders_at, depth, lessen, lessened, front_order, pass}
use Rattle.md_book.specs.Stands.{packed, open_order, IsInRange, IsSound}
use Rattle.md_book.proofs.books.OpenOrders.{find-own}
use Rattle.md_book.proofs.sums.Sums.{sum_by-filter}
use Rattle.md_book.proofs.books.Lessened.{Has, lessen-same, lessened-map, lessened-filter, lessened-All}
use Rattle.md_book.proofs.books.Lessening.{SeesNotLeft, left-lessen_0, left-lessen-le, has-lessened, find-lessened_other, left-lessened}

-- a level's own orders
abbrev pub is_at : ℕ → Order → Bool
is_at level o = level_of o.side o.price == level

is_at-blind : (level : ℕ) → SeesNotLeft (is_at level)
is_at-blind level p left = refl

-- an order has less left
abbrev pub with_less : Book → ℕ → ℕ → Book
with_less b name by = record b { orders = lessened b.orders name by }

module _ (b : Book) (name by : ℕ) where
  pub orders_at-with_less : (level : ℕ) → orders_at (with_less b name by) level ≡ lessened (orders_at b level) name by
  orders_at-with_less level = lessened-filter name by (is_at level) (is_at-blind level) b.orders

  pub names-with_less : (level : ℕ) → map (λ p. p.name) (orders_at (with_less b name by) level) ≡ map (λ p. p.name) (orders_at b level)
  names-with_less level = ap (map (λ p. p.name)) (orders_at-with_less level) ∙ lessened-map name by (λ p. p.name) (λ _ _. refl) (orders_at b level)

  pub open_order-with_less_other : (other : ℕ) → other ≢ name → open_order (with_less b name by) other ≡ open_order b other
  open_order-with_less_other other apart = ap (option_map (λ p. packed p.account p.side p.price p.left)) (find-lessened_other b.orders name by other apart)

  sum-le : (ps : List Order) → sum_by (λ p. p.left) (lessened ps name by) ≤ sum_by (λ p. p.left) ps
  sum-le [] = omega arith
  sum-le (p ∷ ps) = omega (arith, sum_by-cons (λ (x : Order). x.left) (lessen name by p) (lessened ps name by), sum_by-cons (λ (x : Order). x.left) p ps, left-lessen-le name by p, sum-le ps)

  -- no level has more depth
  pub depth-with_less-le : (level : ℕ) → depth (with_less b name by) level ≤ depth b level
  depth-with_less-le level = omega (arith, ap (sum_by (λ (x : Order). x.left)) (orders_at-with_less level), sum-le (orders_at b level))

  pub sound-with_less : IsSound b → IsSound (with_less b name by)
  sound-with_less sound = record {
    distinct = subst (IsDistinct nat_eq) (sym (lessened-map name by (λ p. p.name) (λ _ _. refl) b.orders)) sound.distinct;
    few = omega (arith, sound.few, length-map b.orders (lessen name by));
    in_range = lessened-All name by IsInRange (λ p left less is. record { account = is.account; price = is.price; left = omega (arith, less, is.left) }) b.orders sound.in_range;
    passed = λ level. omega (arith, sound.passed level, ap length (orders_at-with_less level), length-map (orders_at b level) (lessen name by));
    emptied = λ level. All-same (λ p. p.left ≡ 0) _ _ (ap (take (b.passed level)) (orders_at-with_less level) ∙ take-map (lessen name by) (b.passed level) (orders_at b level))
        (All-map (λ p. p.left ≡ 0) (lessen name by) _ (All-weaker (λ p. p.left ≡ 0) (λ p. (lessen name by p).left ≡ 0) (left-lessen_0 name by) _ (sound.emptied level)));
    traded = sound.traded;
    total = omega (arith, sound.total, sum-le b.orders, length-map b.orders (lessen name by));
  }

-- it is an order of the book, and so much is left of it
module _ (b : Book) (o : Order) (by : ℕ) (sound : IsSound b) (has : Has b.orders o) (within : by ≤ o.left) where
  pub open_order-with_less : open_order (with_less b o.name by) o.name ≡ cond (nat_lt 0 (o.left - by)) (Some (packed o.account o.side o.price (o.left - by))) None
  open_order-with_less =
      let less = record o { left = o.left - by } in
      let still : Has (lessened b.orders o.name by) less = subst (Has (lessened b.orders o.name by)) (lessen-same o.name by o refl) (has-lessened b.orders o o.name by has) in
      ap (option_map (λ p. packed p.account p.side p.price p.left)) (find-own (lessened b.orders o.name by) less (sound-with_less b o.name by sound).distinct still)
      ∙ elim (nat_lt 0 (o.left - by)) as (λ t. option_map (λ p. packed p.account p.side p.price p.left) (cond t (Some less) None) ≡ cond t (Some (packed o.account o.side o.price (o.left - by))) None) [ true ↦ refl | false ↦ refl ]

  pub depth-with_less : (level : ℕ) → depth (with_less b o.name by) level + cond (is_at level o) by 0 ≡ depth b level
  depth-with_less level = omega (arith, sum_by-filter (λ (p : Order). p.left) (is_at level) (lessened b.orders o.name by), left-lessened (is_at level) (is_at-blind level) b.orders o by sound.distinct has within, sum_by-filter (λ (p : Order). p.left) (is_at level) b.orders)

  pub left-with_less : sum_by (λ p. p.left) (with_less b o.name by).orders + by ≡ sum_by (λ p. p.left) b.orders
  left-with_less = left-lessened (λ _. true) (λ _ _. refl) b.orders o by sound.distinct has within

  pub front-with_less : (level : ℕ) → front_order b level ≡ Some o → front_order (with_less b o.name by) level ≡ Some (record o { left = o.left - by })
  front-with_less level front = ap (λ ps. slice_get ps (b.passed level)) (orders_at-with_less b o.name by level) ∙ slice_get-map (lessen o.name by) (orders_at b level) (b.passed level) ∙ ap (option_map (lessen o.name by)) front ∙ ap Some (lessen-same o.name by o refl)

-- what a book's sound order is open as
pub open_order-own : (b : Book) (o : Order) → IsSound b → Has b.orders o → open_order b o.name ≡ cond (nat_lt 0 o.left) (Some (packed o.account o.side o.price o.left)) None
open_order-own b o sound has =
    ap (option_map (λ p. packed p.account p.side p.price p.left)) (find-own b.orders o sound.distinct has)
    ∙ elim (nat_lt 0 o.left) as (λ t. option_map (λ p. packed p.account p.side p.price p.left) (cond t (Some o) None) ≡ cond t (Some (packed o.account o.side o.price o.left)) None) [ true ↦ refl | false ↦ refl ]

-- a dead place is passed
module _ (b : Book) (level : ℕ) where
  pub passed-here : (pass b level).passed level ≡ b.passed level + 1
  passed-here = ap (λ t. cond t (b.passed level + 1) (b.passed level)) (eq-eqb level level refl)

  pub passed-other : (at : ℕ) → at ≢ level → (pass b level).passed at ≡ b.passed at
  passed-other at apart = ap (λ t. cond t (b.passed at + 1) (b.passed at)) (ne_eqb at level apart)

  module _ (o : Order) (front : front_order b level ≡ Some o) (dead : o.left ≡ 0) (sound : IsSound b) where
    passed_within : (at : ℕ) → (pass b level).passed at ≤ length (orders_at b at)
    passed_within at = elim (cases_eq at level) [
      | inl e ↦ subst (λ l. (pass b level).passed l ≤ length (orders_at b l)) (sym e) (omega (arith, passed-here, slice_get_within (orders_at b level) (b.passed level) o front))
      | inr apart ↦ omega (arith, passed-other at apart, sound.passed at)
    ]

    emptied_all : (at : ℕ) → All (λ p. p.left ≡ 0) (take ((pass b level).passed at) (orders_at b at))
    emptied_all at = elim (cases_eq at level) [
      | inl e ↦ subst (λ l. All (λ p. p.left ≡ 0) (take ((pass b level).passed l) (orders_at b l))) (sym e)
          (subst (λ n. All (λ p. p.left ≡ 0) (take n (orders_at b level))) (sym passed-here)
          (All-more (λ p. p.left ≡ 0) (orders_at b level) (b.passed level) o (slice_get_within (orders_at b level) (b.passed level) o front) (sound.emptied level)
          (ap (λ p. p.left) (get_or_from_slice_get (orders_at b level) (b.passed level) o o front) ∙ dead)))
      | inr apart ↦ subst (λ n. All (λ p. p.left ≡ 0) (take n (orders_at b at))) (sym (passed-other at apart)) (sound.emptied at)
    ]

    pub sound-pass : IsSound (pass b level)
    sound-pass = record {
      distinct = sound.distinct;
      few = sound.few;
      in_range = sound.in_range;
      passed = passed_within;
      emptied = emptied_all;
      traded = sound.traded;
      total = sound.total;
    }

-- a trade is added
abbrev pub with_trade : Book → Trade → Book
with_trade b t = record b { trades = b.trades ++ t ∷ [] }

pub sound-with_trade : (b : Book) (t : Trade) → IsSound b → IsAccount t.resting → IsAccount t.taker
    → sum_by (λ o. o.left) b.orders + t.taken + sum_by (λ x. x.taken) b.trades ≤ MAX_QUANTITY * length b.orders → IsSound (with_trade b t)
sound-with_trade b t sound resting taker room = record {
  distinct = sound.distinct;
  few = sound.few;
  in_range = sound.in_range;
  passed = sound.passed;
  emptied = sound.emptied;
  traded = All-push (λ (x : Trade). IsAccount x.resting × IsAccount x.taker) b.trades t sound.traded (resting, taker);
  total = omega (arith, room, sum_by_push (λ (x : Trade). x.taken) b.trades t);
}
