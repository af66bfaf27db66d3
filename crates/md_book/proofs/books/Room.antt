-- How many nodes the contents of a book need.
use Rattle.std.proofs.Common.{◌≡◌, ◌≢◌, ◌+◌, ◌*◌, ◌<◌, ◌≤◌, ℕ, cond, true, List, [], ◌∷◌, length, map, drop, refl, sym, ap, ◌∙◌, arith, inl, inr}
use Rattle.std.specs.Prelude.{◌==◌, ◌&&◌, ◌||◌, Option, Some, None, is_some, slice_index_or, sum_by, filter, find, nat_lt}
use Rattle.std.specs.List.{list_any, AllByRecursion}
use Rattle.std.specs.Option.{option_map}
use Rattle.std.specs.FinMap as fin
use Rattle.std.proofs.lemmas.Bool.{cases_Bool, eq-eqb, eqb-true, false≢true}
use Rattle.std.proofs.lemmas.List.{length-map, length-drop}
use Rattle.std.proofs.lemmas.List.Elements.{recursion_from_All}
use Rattle.md_history.specs.State.{State, Table, map_at}
use Rattle.md_history.specs.Engine.{needed}
use Rattle.md_book.specs.declared.commands.Side.{Side}
use Rattle.md_book.specs.declared.commands.Side.TheVariants.{Buy, Sell}
use Rattle.md_book.specs.declared.maps.TheConstants.{LEVELS}
use Rattle.md_book.specs.Book.{Order, Trade, Book, level_of, orders_at, depth, find_open, bought, sold, buyer, seller, IsAccount}
use Rattle.md_book.specs.Stands.{StandsFor, IsInRange, Shows, unless_0}
use Rattle.md_book.proofs.books.Few.{few-below, few-in, lists-by-key}

-- a sum that isn't there is 0
some-sum : (n : ℕ) → is_some (unless_0 n) ≡ true → n ≢ 0
some-sum n has none = false≢true (ap (λ b. is_some (cond b None (Some n))) (sym (eq-eqb n 0 none)) ∙ has)

-- a sum that isn't 0 has a thing of its key, below a number if all keys are
sum-below : {A : Type 0} (key value : A → ℕ) (n k : ℕ) (xs : List A) → AllByRecursion (λ x. key x < n) xs
    → sum_by (λ x. cond (key x == k) (value x) 0) xs ≢ 0 → k < n
sum-below key value n k [] low some = absurd (some refl)
sum-below key value n k (x ∷ xs) low some = elim (cases_Bool (key x == k)) [
  | inl same ↦ let is = eqb-true (key x) k same in let less = low.0 in omega arith
  | inr apart ↦ sum-below key value n k xs low.1 (λ none. some (rw apart (omega (arith, none))))
]

level-low : (side : Side) (price : ℕ) → 1 ≤ price → price ≤ 1000 → level_of side price < 2000
level-low Buy price low high = omega arith
level-low Sell price low high = omega arith

depth-low : (level : ℕ) (os : List Order) → AllByRecursion IsInRange os
    → sum_by (λ o. o.left) (filter (λ o. level_of o.side o.price == level) os) ≢ 0 → level < 2000
depth-low level [] in_range some = absurd (some refl)
depth-low level (o ∷ os) in_range some = elim (cases_Bool (level_of o.side o.price == level)) [
  | inl same ↦
      let is = eqb-true (level_of o.side o.price) level same in
      let less = level-low o.side o.price in_range.0.price.low in_range.0.price.high in omega arith
  | inr apart ↦ depth-low level os in_range.1 (λ none. some (rw apart none))
]

-- the orders that are found have their names
found-name : (name : ℕ) (os : List Order)
    → is_some (find (λ (o : Order). (o.name == name) && nat_lt 0 o.left) os) ≡ true
    → list_any (λ x. x == name) (map (λ (o : Order). o.name) os) ≡ true
found-name name [] has = absurd (false≢true has)
found-name name (o ∷ os) has = elim (cases_Bool (o.name == name)) [
  | inl same ↦ ap (λ b. b || list_any (λ x. x == name) (map (λ (o : Order). o.name) os)) same
  | inr apart ↦ ap (λ b. b || list_any (λ x. x == name) (map (λ (o : Order). o.name) os)) apart
      ∙ found-name name os (rw apart at has)
]

mapped-some : {A B : Type 0} (f : A → B) (o : Option A) → is_some (option_map f o) ≡ is_some o
mapped-some f None = refl
mapped-some f (Some x) = refl

sum-4 : (ms : List Table) → length ms ≡ 4 → sum_by fin.len ms
    ≡ fin.len (slice_index_or ms 0 fin.empty) + (fin.len (slice_index_or ms 1 fin.empty)
    + (fin.len (slice_index_or ms 2 fin.empty) + fin.len (slice_index_or ms 3 fin.empty)))
sum-4 [] four = absurd (omega arith)
sum-4 (a ∷ []) four = absurd (omega arith)
sum-4 (a ∷ b ∷ []) four = absurd (omega arith)
sum-4 (a ∷ b ∷ c ∷ []) four = absurd (omega arith)
sum-4 (a ∷ b ∷ c ∷ d ∷ []) four = omega arith
sum-4 (a ∷ b ∷ c ∷ d ∷ e ∷ ms) four = absurd (omega arith)

module _ (s : State) (b : Book) (shows : Shows s b) where
  in_range : AllByRecursion IsInRange b.orders
  in_range = recursion_from_All IsInRange b.orders shows.sound.in_range

  traded : AllByRecursion (λ (t : Trade). IsAccount t.resting × IsAccount t.taker) b.trades
  traded = recursion_from_All (λ (t : Trade). IsAccount t.resting × IsAccount t.taker) b.trades shows.sound.traded

  pub orders-few : fin.len (map_at s 0) ≤ length b.orders
  orders-few = omega (
    arith,
    few-in (map (λ (o : Order). o.name) b.orders) (map_at s 0) (λ name has. found-name name b.orders
        (sym (mapped-some _ (find_open b name)) ∙ ap is_some (sym (shows.orders name)) ∙ has)),
    length-map b.orders (λ (o : Order). o.name),
  )

  pub depths-few : fin.len (map_at s 1) ≤ 2000
  depths-few = few-below 2000 (map_at s 1) (λ level has. depth-low level b.orders in_range
      (some-sum (depth b level) (ap is_some (sym (shows.depths level)) ∙ has)))

  accounts : (key : Trade → ℕ) → ((t : Trade) → IsAccount t.resting × IsAccount t.taker → key t < 10000)
      → AllByRecursion (λ t. key t < 10000) b.trades
  accounts key low = each b.trades traded
    where
      each : (ts : List Trade) → AllByRecursion (λ (t : Trade). IsAccount t.resting × IsAccount t.taker) ts
          → AllByRecursion (λ t. key t < 10000) ts
      each [] all = tt
      each (t ∷ ts) all = (low t all.0, each ts all.1)

  pub bought-few : fin.len (map_at s 2) ≤ 10000
  bought-few = few-below 10000 (map_at s 2) (λ account has.
      sum-below buyer (λ t. t.taken) 10000 account b.trades (accounts buyer buyer-low)
      (some-sum (bought b account) (ap is_some (sym (shows.bought account)) ∙ has)))
    where
      buyer-low : (t : Trade) → IsAccount t.resting × IsAccount t.taker → buyer t < 10000
      buyer-low t is = elim t.side as (λ side. elim side [ Buy ↦ t.resting | Sell ↦ t.taker ] < 10000) [
        | Buy ↦ let high = is.0.high in omega arith
        | Sell ↦ let high = is.1.high in omega arith
      ]

  pub sold-few : fin.len (map_at s 3) ≤ 10000
  sold-few = few-below 10000 (map_at s 3) (λ account has.
      sum-below seller (λ t. t.taken) 10000 account b.trades (accounts seller seller-low)
      (some-sum (sold b account) (ap is_some (sym (shows.sold account)) ∙ has)))
    where
      seller-low : (t : Trade) → IsAccount t.resting × IsAccount t.taker → seller t < 10000
      seller-low t is = elim t.side as (λ side. elim side [ Buy ↦ t.taker | Sell ↦ t.resting ] < 10000) [
        | Buy ↦ let high = is.1.high in omega arith
        | Sell ↦ let high = is.0.high in omega arith
      ]

  pub queues-few : length s.queues ≡ LEVELS → sum_by length s.queues ≤ length b.orders
  queues-few levels = lists-by-key (λ (o : Order). level_of o.side o.price) b.orders s.queues (λ i inside.
      let names : List ℕ = map (λ (o : Order). o.name) (orders_at b i) in
      let is : slice_index_or s.queues i [] ≡ drop (b.passed i) names =
      shows.names i (omega (arith, inside, levels)) in
      omega (
        arith,
        ap length is,
        length-drop (b.passed i) names,
        length-map (orders_at b i) (λ (o : Order). o.name),
      ))

-- what stands for a book of so many orders needs twice as many nodes, and one for each queue, level and account
pub book-room : (s : State) (b : Book) → StandsFor s b → (n : ℕ) → length b.orders ≤ n → needed s ≤ 2 * n + 24000
book-room s b stands n few =
    let shows = stands.shows in
    omega (arith, few, sum-4 s.maps stands.sized.maps, orders-few s b shows, depths-few s b shows, bought-few s b shows, sold-few s b shows, queues-few s b shows stands.sized.queues, stands.sized.queues)
