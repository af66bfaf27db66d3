-- Of whichever orders, what was placed is what was cancelled, was taken and is left.
use Rattle.std.proofs.Common.{◌≡◌, ℕ, ◌+◌, ◌-◌, nat_eq, Bool, true, false, cond, List, ◌∷◌, map, refl, ap, Option, Some, None, arith}
use Rattle.std.specs.Prelude.{All, slice_index_or}
use Rattle.std.specs.List.{IsDistinct}
use Rattle.std.proofs.lemmas.Bool.{eqb-true, and_parts}
use Rattle.std.proofs.lemmas.List.Sums.{sum_by_push}
use Rattle.md_book.specs.declared.commands.Side.{Side}
use Rattle.md_book.specs.declared.commands.Command.{Command}
use Rattle.md_book.specs.declared.commands.Command.TheVariants.{Place, Cancel, Fill, Kill, Depth, Account}
use Rattle.md_book.specs.declared.commands.Part.{Part}
use Rattle.md_book.specs.declared.commands.BookReply.{BookReply}
use Rattle.md_book.specs.Book.{Order, Book, empty_book, level_of, find_open, look, cancel_step, fill_step, book_step}
use Rattle.md_book.specs.Trading.{answered, placed_among, cancelled_among, taken_from, left_among, OrdersAddUp}
use Rattle.md_book.proofs.sums.Sums.{sum_by-plus}
use Rattle.md_book.proofs.books.Lessened.{find-has, lessened-sum}
use Rattle.md_book.proofs.steps.Kills.{kill-either}
use Rattle.md_book.proofs.sums.LookSums.{look-left}
use Rattle.md_book.proofs.sums.Days.{PlaceKnows, names-distinct, opening, run-adds}
use Rattle.md_book.proofs.sums.FillsAddUp.{sum-padded}

-- nothing is nothing either way
pub none_of : (t : Bool) → cond {A = ℕ} t 0 0 ≡ 0
none_of true = refl
none_of false = refl

-- what is cancelled of these orders or taken from them
lost : (ℕ → Bool) → Command × BookReply → ℕ
lost of told = cancelled_among of told + taken_from of told

module _ (of : ℕ → Bool) (b : Book) (distinct : IsDistinct nat_eq (map (λ o. o.name) b.orders)) where
  cancel-adds : (name : ℕ) (found : Option Order) → find_open b name ≡ found → left_among of (cancel_step b found).book + lost of (Cancel name, (cancel_step b found).reply) ≡ left_among of b
  unfolding lost
  cancel-adds name None e = omega (arith, none_of (of name))
  cancel-adds name (Some o) e =
      let has = find-has _ b.orders o e in
      let same : o.name ≡ name = eqb-true o.name name (and_parts _ _ has.1).0 in
      let f : Order → ℕ = λ p. cond (of p.name) p.left 0 in
      let fell = lessened-sum f b.orders o o.left distinct has.0 in
      let mine : f o ≡ f (record o { left = o.left - o.left }) + cond (of o.name) o.left 0 = elim (of o.name) as (λ t. cond t o.left 0 ≡ cond t (o.left - o.left) 0 + cond t o.left 0) [ true ↦ omega arith | false ↦ omega arith ] in
      omega (arith, fell, mine, ap (λ n. cond (of n) o.left 0) same)

  -- a fill takes from these orders what they have less
  fill-adds : (account : ℕ) (side : Side) (price quantity places : ℕ)
      → let step = fill_step b account (level_of side price) quantity places in
      left_among of step.book + lost of (Fill account side price quantity places, step.reply) ≡ left_among of b + placed_among of (Fill account side price quantity places, step.reply)
  unfolding lost
  fill-adds account side price quantity places =
      let l = look (level_of side price) account places b quantity in
      let none = none_of (of 0) in
      omega (arith, look-left (level_of side price) account of places b quantity distinct, sum-padded (λ (p : Part). cond (of p.name) p.taken 0) none l.parts)

  step-adds : (c : Command) → left_among of (book_step b c).book + lost of (c, (book_step b c).reply) ≡ left_among of b + placed_among of (c, (book_step b c).reply)
  unfolding lost
  step-adds (Place name account side price quantity) =
      omega (arith, sum_by_push (λ (o : Order). cond (of o.name) o.left 0) b.orders (record { name = name; account = account; side = side; price = price; left = quantity }))
  step-adds (Cancel name) = omega (arith, cancel-adds name (find_open b name) refl)
  step-adds (Fill account side price quantity places) = fill-adds account side price quantity places
  step-adds (Kill account side price quantity places) =
      let c = Kill account side price quantity places in
      kill-either b account (level_of side price) quantity places (λ step. left_among of step.book + lost of (c, step.reply) ≡ left_among of b + placed_among of (c, step.reply))
      (fill-adds account side price quantity places) (omega arith)
  step-adds (Depth side price) = omega arith
  step-adds (Account account) = omega arith

-- nothing needs to be known of the orders
abbrev pub Known : ℕ → Side → ℕ → ℕ → Type 0
Known name side price account = Unit {0}

each-known : (c : Command) → PlaceKnows Known c
each-known (Place name account side price quantity) = tt
each-known (Cancel name) = tt
each-known (Fill account side price quantity places) = tt
each-known (Kill account side price quantity places) = tt
each-known (Depth side price) = tt
each-known (Account account) = tt

pub all-known : (cs : List Command) → All (PlaceKnows Known) cs
all-known cs k d below = each-known (slice_index_or cs k d)

pub orders-add-up : OrdersAddUp
unfolding lost
orders-add-up cs of day =
    omega (
      arith,
      run-adds Known (left_among of) (placed_among of) (lost of) (λ b c cs is. step-adds of b (names-distinct Known b (c ∷ cs) is) c) cs empty_book (opening Known cs day (all-known cs)),
      sum_by-plus (cancelled_among of) (taken_from of) (answered cs),
    )
