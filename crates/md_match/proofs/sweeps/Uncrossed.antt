-- A matching book is never crossed.
use Rattle.std.proofs.Common.{◌≡◌, ◌≢◌, ℕ, ◌<◌, ◌≤◌, nat_le, min, List, [], ◌∷◌, refl, sym, ap, ◌∙◌, inl, inr, Option, Some, None, arith}
use Rattle.std.specs.Prelude.{All}
use Rattle.std.proofs.lemmas.Bool.{cases_eq, cases_Bool, leb-false}
use Rattle.std.proofs.lemmas.List.Elements.{All-head, All-tail}
use Rattle.md_book.specs.declared.commands.Side.{Side}
use Rattle.md_book.specs.declared.commands.Side.TheVariants.{Buy, Sell}
use Rattle.md_book.specs.Book.{Order, Book, IsPrice, empty_book, level_of, depth, traded, find_open, look}
use Rattle.md_book.proofs.looks.Looks.{look-relates}
use Rattle.md_book.proofs.sums.LookSums.{traded-orders}
use Rattle.md_book.proofs.books.ChangedBooks.{with_less, depth-with_less-le}
use Rattle.md_book.proofs.books.Orders.{with_order, depth-other}
use Rattle.md_match.specs.declared.commands.MatchCommand.{MatchCommand}
use Rattle.md_match.specs.declared.commands.MatchCommand.TheVariants.{Match, Cancel, Depth}
use Rattle.md_match.specs.declared.limits.TheConstants.{MAX_LOOKS}
use Rattle.md_match.specs.Matching.{opposite, reaches, Swept, settle, cancel_match, sweep, match_step, matched_after}
use Rattle.md_match.specs.Commands.{IsMatchCommand}
use Rattle.md_match.specs.Crossing.{IsUncrossed, StaysUncrossed, NeverCrossed}
use Rattle.md_match.proofs.sweeps.BestPrices.{IsWithin, none-within}
use Rattle.md_match.proofs.sweeps.Sweeps.{sweep-relates, settle-either}

-- no level has more depth than before
abbrev pub Falls : Book → Book → Type 0
Falls b b' = (at : ℕ) → depth b' at ≤ depth b at

-- a book that only lost depth is uncrossed still
pub falls-uncrossed : (b b' : Book) → Falls b b' → IsUncrossed b → IsUncrossed b'
falls-uncrossed b b' falls uncrossed bid ask bids asks wanted offered =
    uncrossed bid ask bids asks (omega (arith, falls (level_of Buy bid), wanted)) (omega (arith, falls (level_of Sell ask), offered))

-- looks at places only take
pub look-falls : (level taker places : ℕ) (b : Book) (rest : ℕ) → Falls b (look level taker places b rest).book
look-falls level taker = look-relates level taker (λ b rest l. Falls b l.book) (record {
  ends = λ b rest at. omega arith;
  dead = λ b rest o l e empty some more at. more at;
  live = λ b rest o l e left some more at.
      let same : depth (traded b level o taker (min o.left rest)) at ≡ depth (with_less b o.name (min o.left rest)) at =
      ap (λ os. depth (record b { orders = os }) at) (traded-orders b level o taker (min o.left rest)) in
      omega (arith, more at, same, depth-with_less-le b o.name (min o.left rest) at);
})

module _ (account : ℕ) (side : Side) (limit : ℕ) where
  -- a sweep only takes
  pub sweep-falls : (looks : ℕ) (b : Book) (rest : ℕ) → Falls b (sweep account side limit looks b rest).book
  sweep-falls = sweep-relates account side limit (λ b rest s. Falls b s.book) (record {
    ends = λ b rest at. omega arith;
    looks = λ b rest price more some e then at.
        omega (arith, then at, look-falls (level_of (opposite side) price) account 1 b rest at);
  })

buy-sell : (p q : ℕ) → IsPrice p → IsPrice q → level_of Buy p ≢ level_of Sell q
buy-sell p q low high e = omega (arith, low.high, high.low)

-- an order is placed that no level of the other side reaches
module _ (b : Book) (o : Order) (priced : IsPrice o.price) (uncrossed : IsUncrossed b)
    (clear : (price : ℕ) → IsWithin o.side o.price price → depth b (level_of (opposite o.side) price) ≡ 0) where
  -- where its level isn't, nothing changes
  other-depth : (at : ℕ) → at ≢ level_of o.side o.price → depth (with_order b o) at ≡ depth b at
  other-depth at apart = depth-other b o at apart

  buys : o.side ≡ Buy → IsUncrossed (with_order b o)
  buys is bid ask bids asks wanted offered =
      let level : level_of o.side o.price ≡ level_of Buy o.price = ap (λ s. level_of s o.price) is in
      let still : 0 < depth b (level_of Sell ask) = omega (arith, offered, other-depth (level_of Sell ask) (λ e. buy-sell o.price ask priced asks (sym (e ∙ level)))) in
      elim (cases_eq bid o.price) [
        | inl same ↦ elim (cases_Bool (nat_le ask o.price)) [
          | inl reached ↦
              let none : depth b (level_of (opposite o.side) ask) ≡ 0 = clear ask (record { priced = asks; good = ap (λ s. reaches s o.price ask) is ∙ reached }) in
              absurd (omega (arith, still, none, ap (λ s. depth b (level_of (opposite s) ask)) is))
          | inr beyond ↦ omega (arith, same, leb-false ask o.price beyond)
        ]
        | inr apart ↦
            let wants : 0 < depth b (level_of Buy bid) = omega (arith, wanted, other-depth (level_of Buy bid) (λ e. apart (omega (arith, e ∙ level, bids.low, priced.low)))) in
            uncrossed bid ask bids asks wants still
      ]

  sells : o.side ≡ Sell → IsUncrossed (with_order b o)
  sells is bid ask bids asks wanted offered =
      let level : level_of o.side o.price ≡ level_of Sell o.price = ap (λ s. level_of s o.price) is in
      let still : 0 < depth b (level_of Buy bid) = omega (arith, wanted, other-depth (level_of Buy bid) (λ e. buy-sell bid o.price bids priced (e ∙ level))) in
      elim (cases_eq ask o.price) [
        | inl same ↦ elim (cases_Bool (nat_le o.price bid)) [
          | inl reached ↦
              let none : depth b (level_of (opposite o.side) bid) ≡ 0 = clear bid (record { priced = bids; good = ap (λ s. reaches s o.price bid) is ∙ reached }) in
              absurd (omega (arith, still, none, ap (λ s. depth b (level_of (opposite s) bid)) is))
          | inr beyond ↦ omega (arith, same, leb-false o.price bid beyond)
        ]
        | inr apart ↦
            let offers : 0 < depth b (level_of Sell ask) = omega (arith, offered, other-depth (level_of Sell ask) (λ e. apart (omega (arith, e ∙ level, asks.low, priced.low)))) in
            uncrossed bid ask bids asks still offers
      ]

-- so the book with that order is uncrossed
pub placed-uncrossed : (b : Book) (o : Order) → IsPrice o.price → IsUncrossed b
    → ((price : ℕ) → IsWithin o.side o.price price → depth b (level_of (opposite o.side) price) ≡ 0) → IsUncrossed (with_order b o)
placed-uncrossed b o priced uncrossed clear =
    let P : Side → Type 0 = λ side. o.side ≡ side → IsUncrossed (with_order b o) in
    let each : (side : Side) → P side = λ side. elim side as P [ Buy ↦ buys b o priced uncrossed clear | Sell ↦ sells b o priced uncrossed clear ] in
    each o.side refl

settle-uncrossed : (s : Swept) (o : Order) → IsPrice o.price → IsUncrossed s.book → IsUncrossed (settle s o).book
settle-uncrossed s o priced uncrossed =
    settle-either s o (λ step. IsUncrossed step.book)
    (λ placed. placed-uncrossed s.book (record o { left = s.rest }) priced uncrossed (none-within s.book o.side o.price priced placed.none))
    (λ _. uncrossed)

cancel-uncrossed : (b : Book) (found : Option Order) → IsUncrossed b → IsUncrossed (cancel_match b found).book
cancel-uncrossed b None uncrossed = uncrossed
cancel-uncrossed b (Some o) uncrossed = falls-uncrossed b (with_less b o.name o.left) (depth-with_less-le b o.name o.left) uncrossed

-- each command leaves a book uncrossed
pub stays-uncrossed : StaysUncrossed
stays-uncrossed b (Match name account side price quantity) is uncrossed =
    settle-uncrossed (sweep account side price MAX_LOOKS b quantity) (record { name = name; account = account; side = side; price = price; left = quantity })
    is.offer.priced (falls-uncrossed b (sweep account side price MAX_LOOKS b quantity).book (sweep-falls account side price MAX_LOOKS b quantity) uncrossed)
stays-uncrossed b (Cancel name) is uncrossed = cancel-uncrossed b (find_open b name) uncrossed
stays-uncrossed b (Depth side price) is uncrossed = uncrossed

empty-uncrossed : IsUncrossed empty_book
empty-uncrossed bid ask bids asks wanted offered = absurd (omega (arith, wanted))

run-uncrossed : (cs : List MatchCommand) (b : Book) → All IsMatchCommand cs → IsUncrossed b → IsUncrossed (matched_after b cs)
run-uncrossed [] b lawful uncrossed = uncrossed
run-uncrossed (c ∷ cs) b lawful uncrossed =
    run-uncrossed cs (match_step b c).book (All-tail IsMatchCommand c cs lawful) (stays-uncrossed b c (All-head IsMatchCommand c cs lawful) uncrossed)

-- so do all commands, one after another
pub never-crossed : NeverCrossed
never-crossed cs lawful = run-uncrossed cs empty_book lawful empty-uncrossed
