-- The sums of those who rest at a side, and of those who take from it.
use Rattle.std.proofs.Common.{◌≡◌, ◌≢◌, ℕ, ◌+◌, ◌^◌, ◌<◌, ◌≤◌, ◌==◌, true, false, cond, List, ap, ◌∙◌, arith}
use Rattle.std.specs.Prelude.{sum_by, if◌then◌else◌}
use Rattle.std.proofs.lemmas.List.Sums.{sum_by_push, sum_by-le-sum_by}
use Rattle.md_book.specs.declared.commands.Side.{Side}
use Rattle.md_book.specs.declared.commands.Side.TheVariants.{Buy, Sell}
use Rattle.md_book.specs.declared.maps.TheConstants.{DEPTHS, MAPS, OPEN_ORDERS}
use Rattle.md_book.specs.Book.{Trade, Book, buyer, seller, bought, sold}
use Rattle.md_book.specs.Stands.{IsSound}
use Rattle.md_book.specs.Filling.{resting_sums, taker_sums}
use Rattle.md_book.proofs.books.ChangedBooks.{with_trade}

abbrev pub bought_in : List Trade → ℕ → ℕ
bought_in trades account = sum_by (λ t. if buyer t == account then t.taken else 0) trades

abbrev pub sold_in : List Trade → ℕ → ℕ
sold_in trades account = sum_by (λ t. if seller t == account then t.taken else 0) trades

abbrev pub rested_in : Side → List Trade → ℕ → ℕ
rested_in Buy trades account = bought_in trades account
rested_in Sell trades account = sold_in trades account

abbrev pub took_in : Side → List Trade → ℕ → ℕ
took_in Buy trades account = sold_in trades account
took_in Sell trades account = bought_in trades account

-- what an account that rests at a side bought or sold
abbrev pub resting_sum : Side → Book → ℕ → ℕ
resting_sum side b account = rested_in side b.trades account

-- what an account that takes from a side sold or bought
abbrev pub taker_sum : Side → Book → ℕ → ℕ
taker_sum side b account = took_in side b.trades account

pub resting_apart : (side : Side) → (resting_sums side ≢ OPEN_ORDERS) × (resting_sums side ≢ DEPTHS) × (taker_sums side ≢ OPEN_ORDERS) × (taker_sums side ≢ DEPTHS) × (taker_sums side ≢ resting_sums side)
resting_apart Buy = (λ e. omega arith, λ e. omega arith, λ e. omega arith, λ e. omega arith, λ e. omega arith)
resting_apart Sell = (λ e. omega arith, λ e. omega arith, λ e. omega arith, λ e. omega arith, λ e. omega arith)

pub sums-low : (side : Side) → (resting_sums side < MAPS) × (taker_sums side < MAPS)
sums-low Buy = (omega arith, omega arith)
sums-low Sell = (omega arith, omega arith)

-- a trade's part in an account's sum
abbrev pub at_account : ℕ → ℕ → ℕ → ℕ
at_account own account taken = cond (own == account) taken 0

abbrev buyer_at : Side → Trade → ℕ
buyer_at side x = elim side [ Buy ↦ x.resting | Sell ↦ x.taker ]

abbrev seller_at : Side → Trade → ℕ
seller_at side x = elim side [ Buy ↦ x.taker | Sell ↦ x.resting ]

module _ (b : Book) (x : Trade) (account : ℕ) where
  bought-push : bought (with_trade b x) account ≡ bought b account + at_account (buyer x) account x.taken
  bought-push = sum_by_push (λ (t : Trade). at_account (buyer t) account t.taken) b.trades x

  sold-push : sold (with_trade b x) account ≡ sold b account + at_account (seller x) account x.taken
  sold-push = sum_by_push (λ (t : Trade). at_account (seller t) account t.taken) b.trades x

  pub resting_sum-with_trade : (side : Side) → x.side ≡ side → resting_sum side (with_trade b x) account ≡ resting_sum side b account + at_account x.resting account x.taken
  resting_sum-with_trade Buy e = bought-push ∙ ap (λ s. bought b account + at_account (buyer_at s x) account x.taken) e
  resting_sum-with_trade Sell e = sold-push ∙ ap (λ s. sold b account + at_account (seller_at s x) account x.taken) e

  pub taker_sum-with_trade : (side : Side) → x.side ≡ side → taker_sum side (with_trade b x) account ≡ taker_sum side b account + at_account x.taker account x.taken
  taker_sum-with_trade Buy e = sold-push ∙ ap (λ s. sold b account + at_account (seller_at s x) account x.taken) e
  taker_sum-with_trade Sell e = bought-push ∙ ap (λ s. bought b account + at_account (buyer_at s x) account x.taken) e

at_account-le : (own account taken : ℕ) → at_account own account taken ≤ taken
at_account-le own account taken = elim (own == account) as (λ t. cond t taken 0 ≤ taken) [ true ↦ omega arith | false ↦ omega arith ]

module _ (b : Book) (account : ℕ) where
  bought-le : bought b account ≤ sum_by (λ t. t.taken) b.trades
  bought-le = sum_by-le-sum_by (λ (t : Trade). at_account (buyer t) account t.taken) (λ (t : Trade). t.taken) b.trades (λ t. at_account-le (buyer t) account t.taken)

  sold-le : sold b account ≤ sum_by (λ t. t.taken) b.trades
  sold-le = sum_by-le-sum_by (λ (t : Trade). at_account (seller t) account t.taken) (λ (t : Trade). t.taken) b.trades (λ t. at_account-le (seller t) account t.taken)

  -- a sound book's sums have room
  pub resting_sum-le : (side : Side) → resting_sum side b account ≤ sum_by (λ t. t.taken) b.trades
  resting_sum-le Buy = bought-le
  resting_sum-le Sell = sold-le

  pub taker_sum-le : (side : Side) → taker_sum side b account ≤ sum_by (λ t. t.taken) b.trades
  taker_sum-le Buy = sold-le
  taker_sum-le Sell = bought-le

pub traded-room : (b : Book) → IsSound b → sum_by (λ t. t.taken) b.trades < 2 ^ 63
traded-room b sound = omega (arith, sound.total, sound.few)
