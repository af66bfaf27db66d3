-- A kill takes nothing, or its whole quantity.
use Rattle.std.proofs.Common.{◌≡◌, ◌≢◌, ◌≤◌, ◌⊎◌, ℕ, suc, zero, ◌+◌, ◌-◌, ◌==◌, min, Bool, true, false, cond, List, [], ◌∷◌, map, take, drop, refl, sym, ap, subst, ◌∙◌, inl, inr, Some, arith}
use Rattle.std.specs.Prelude.{sum_by, filter, slice_get, All, nat_le}
use Rattle.std.specs.List.{IsDistinct, zip}
use Rattle.std.proofs.lemmas.Bool.{eqb-true, eqb-false, eq-eqb, leb-true}
use Rattle.std.proofs.lemmas.Bool.Decides.{leb_tells}
use Rattle.std.proofs.lemmas.List.{drop-drop, drop-map}
use Rattle.std.proofs.lemmas.List.Elements.{All-nil, All-cons}
use Rattle.std.proofs.lemmas.List.Sums.{sum_by-cons}
use Rattle.md_book.specs.declared.commands.Command.{Command}
use Rattle.md_book.specs.declared.commands.Command.TheVariants.{Place, Cancel, Fill, Kill, Depth, Account}
use Rattle.md_book.specs.declared.commands.BookReply.TheVariants as reply
use Rattle.md_book.specs.Book.{Order, Book, empty_book, level_of, orders_at, front_order, pass, trade, traded, ended, first_part, look_at, look, left_within, fill_step, kill_step, book_step, replies_to}
use Rattle.md_book.specs.Trading.{told_taken, IsWhole, KillsAreWhole}
use Rattle.md_book.proofs.books.Lessened.{lessened-none}
use Rattle.md_book.proofs.sums.LookSums.{look-rest}
use Rattle.md_book.proofs.books.OpenOrders.{AreApart, HasNone, apart-head, apart-tail}
use Rattle.md_book.proofs.books.ChangedBooks.{is_at, orders_at-with_less, passed-here}
use Rattle.md_book.proofs.books.Reflects.{get-drop}
use Rattle.md_book.proofs.sums.Days.{IsOpen, names-distinct, opening, step-open}
use Rattle.md_book.proofs.sums.OrdersAddUp.{Known, all-known}

-- some of the orders that are apart are apart
none-filter : (p : Order → Bool) (name : ℕ) (os : List Order) → HasNone name os → HasNone name (filter p os)
none-filter p name [] none = tt
none-filter p name (o ∷ os) none = elim (p o) as (λ b. HasNone name (cond b (o ∷ filter p os) (filter p os))) [
  | true ↦ (none.0, none-filter p name os none.1)
  | false ↦ none-filter p name os none.1
]

apart-filter : (p : Order → Bool) (os : List Order) → AreApart os → AreApart (filter p os)
unfolding IsDistinct
apart-filter p [] apart = tt
apart-filter p (o ∷ os) apart = elim (p o) as (λ b. AreApart (cond b (o ∷ filter p os) (filter p os))) [
  | true ↦ (none-filter p o.name os apart.0, apart-filter p os apart.1)
  | false ↦ apart-filter p os apart.1
]

apart-drop : (n : ℕ) (os : List Order) → AreApart os → AreApart (drop n os)
unfolding IsDistinct
apart-drop zero os apart = apart
apart-drop (suc n) [] apart = apart
apart-drop (suc n) (o ∷ os) apart = apart-drop n os apart.1

module _ (level taker : ℕ) where
  -- the orders of a level behind its passed places
  abbrev waiting : Book → List Order
  waiting b = drop (b.passed level) (orders_at b level)

  -- a place is passed, and an order has less left
  waiting-pass : (b : Book) → waiting (pass b level) ≡ drop 1 (waiting b)
  waiting-pass b = ap (λ n. drop n (orders_at b level)) (passed-here b level) ∙ sym (drop-drop 1 (b.passed level) (orders_at b level))

  waiting-trade : (b : Book) (o : Order) (by : ℕ) → waiting (trade b o taker by) ≡ map (λ p. cond (p.name == o.name) (record p { left = p.left - by }) p) (waiting b)
  waiting-trade b o by = ap (drop (b.passed level)) (orders_at-with_less b o.name by level) ∙ drop-map (λ (p : Order). cond (p.name == o.name) (record p { left = p.left - by }) p) (b.passed level) (orders_at b level)

  -- the order at the front is emptied, and those behind it are as they were
  waiting-emptied : (b : Book) (o : Order) (os : List Order) → waiting b ≡ o ∷ os → AreApart (o ∷ os) → waiting (traded b level o taker o.left) ≡ os
  waiting-emptied b o os e apart =
      ap (λ t. waiting (cond t (pass (trade b o taker o.left) level) (trade b o taker o.left))) (eq-eqb o.left o.left refl)
      ∙ waiting-pass (trade b o taker o.left)
      ∙ ap (drop 1) (waiting-trade b o o.left ∙ ap (map (λ p. cond (p.name == o.name) (record p { left = p.left - o.left }) p)) e)
      ∙ lessened-none o.name o.left os (apart-head o os apart)

  abbrev left_in_first : ℕ → List Order → ℕ
  left_in_first places os = sum_by (λ o. o.left) (take places os)

  -- so many places have as much left as is asked for: nothing remains
  abbrev TakesAll : ℕ → Type 0
  TakesAll places = (b : Book) (rest : ℕ) (os : List Order) → waiting b ≡ os → AreApart os → rest ≤ left_in_first places os → (look level taker places b rest).rest ≡ 0

  module _ (places : ℕ) (more : TakesAll places) (b : Book) (rest : ℕ) (some : rest ≢ 0) where
    -- the order at the front has something left
    all-live : (o : Order) (os : List Order) → waiting b ≡ o ∷ os → AreApart (o ∷ os) → rest ≤ o.left + left_in_first places os → (look level taker places (traded b level o taker (min o.left rest)) (rest - min o.left rest)).rest ≡ 0
    all-live o os e apart low = elim (leb_tells o.left rest) [
      | inl within ↦
          let all : min o.left rest ≡ o.left = omega (arith, within.1) in
          subst (λ m. (look level taker places (traded b level o taker m) (rest - m)).rest ≡ 0) (sym all)
          (more (traded b level o taker o.left) (rest - o.left) os (waiting-emptied b o os e apart) (apart-tail o os apart) (omega (arith, low)))
      | inr above ↦ omega (arith, above.1, look-rest level taker places (traded b level o taker (min o.left rest)) (rest - min o.left rest))
    ]

    -- an order is at the front
    all-at : (o : Order) (os : List Order) → waiting b ≡ o ∷ os → AreApart (o ∷ os) → rest ≤ o.left + left_in_first places os → (look_at (Some o) level taker b rest (look level taker places)).rest ≡ 0
    all-at o os e apart low =
        let taken = min o.left rest in
        elim (o.left == 0) as (λ t. (o.left == 0) ≡ t → (cond t (look level taker places (pass b level) rest) (first_part o taken (look level taker places (traded b level o taker taken) (rest - taken)))).rest ≡ 0) [
          | true ↦ λ none. more (pass b level) rest os (waiting-pass b ∙ ap (drop 1) e) (apart-tail o os apart) (omega (arith, low, eqb-true o.left 0 none))
          | false ↦ λ _. all-live o os e apart low
        ] refl

    -- an order is at the front, or none
    all-front : (os : List Order) → waiting b ≡ os → AreApart os → rest ≤ left_in_first (suc places) os → (look_at (slice_get os 0) level taker b rest (look level taker places)).rest ≡ 0
    all-front [] e apart low = absurd (some (omega (arith, low)))
    all-front (o ∷ os) e apart low = all-at o os e apart (omega (arith, low, sum_by-cons (λ (p : Order). p.left) o (take places os)))

  takes-all : (places : ℕ) → TakesAll places
  unfolding look
  takes-all zero b rest os e apart low = omega (arith, low)
  takes-all (suc places) b rest os e apart low =
      elim (rest == 0) as (λ t. (rest == 0) ≡ t → (cond t (ended b rest) (look_at (front_order b level) level taker b rest (look level taker places))).rest ≡ 0) [
        | true ↦ λ none. eqb-true rest 0 none
        | false ↦ λ some.
            let front : slice_get os 0 ≡ front_order b level = ap (λ xs. slice_get xs 0) (sym e) ∙ get-drop (b.passed level) (orders_at b level) in
            subst (λ o. (look_at o level taker b rest (look level taker places)).rest ≡ 0) front (all-front places (takes-all places) b rest (eqb-false rest 0 some) os e apart low)
      ] refl

-- so a kill that takes anything takes all
kill-whole : (b : Book) (account level quantity places : ℕ) → AreApart b.orders → let r = (kill_step b account level quantity places).reply in (r ≡ reply.Killed) ⊎ (told_taken r ≡ quantity)
kill-whole b account level quantity places apart =
    elim (nat_le quantity (left_within b level places)) as (λ t. nat_le quantity (left_within b level places) ≡ t → let r = (cond t (fill_step b account level quantity places) (record { book = b; reply = reply.Killed })).reply in (r ≡ reply.Killed) ⊎ (told_taken r ≡ quantity)) [
      | true ↦ λ enough.
          let waits = apart-drop (b.passed level) (orders_at b level) (apart-filter (is_at level) b.orders apart) in
          let none = takes-all level account places b quantity (drop (b.passed level) (orders_at b level)) refl waits (leb-true quantity (left_within b level places) enough) in
          inr (omega (arith, none, look-rest level account places b quantity))
      | false ↦ λ _. inl refl
    ] refl

step-whole : (b : Book) (c : Command) → AreApart b.orders → IsWhole (c, (book_step b c).reply)
step-whole b (Place name account side price quantity) apart = tt
step-whole b (Cancel name) apart = tt
step-whole b (Fill account side price quantity places) apart = tt
step-whole b (Kill account side price quantity places) apart = kill-whole b account (level_of side price) quantity places apart
step-whole b (Depth side price) apart = tt
step-whole b (Account account) apart = tt

run-whole : (cs : List Command) (b : Book) → IsOpen Known b cs → All IsWhole (zip cs (replies_to b cs))
run-whole [] b is = All-nil IsWhole
run-whole (c ∷ cs) b is =
    All-cons IsWhole (c, (book_step b c).reply) (zip cs (replies_to (book_step b c).book cs)) (step-whole b c (names-distinct Known b (c ∷ cs) is)) (run-whole cs (book_step b c).book (step-open Known b c cs is))

pub kills-are-whole : KillsAreWhole
kills-are-whole cs day = run-whole cs empty_book (opening Known cs day (all-known cs))
