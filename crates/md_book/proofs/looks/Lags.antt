-- By how much depths and takers' sums lag behind a book that is being filled.
use Rattle.std.proofs.Common.{◌≡◌, ℕ, ◌+◌, ◌≤◌, ◌==◌, true, false, cond, refl, sym, ap, ◌∙◌, arith}
use Rattle.std.specs.Prelude.{filter, sum_by}
use Rattle.md_book.specs.declared.commands.Side.{Side}
use Rattle.md_book.specs.Book.{Order, Book, level_of, depth, pass, traded}
use Rattle.md_book.specs.Stands.{IsSound}
use Rattle.md_book.proofs.books.Lessened.{Has}
use Rattle.md_book.proofs.sums.LookSums.{traded-orders, traded-trades}
use Rattle.md_book.proofs.books.ChangedBooks.{is_at, with_less, depth-with_less}
use Rattle.md_book.proofs.sums.SideSums.{took_in, taker_sum, at_account, taker_sum-with_trade}

-- so much was taken at a level by an account, of which depths and takers' sums don't know yet
pub record Lags (side : Side) (level taker : ℕ) (depths takers : ℕ → ℕ) (b : Book) (taken : ℕ) : Type 0 where
  pub depths_lag : (at : ℕ) → depths at ≡ depth b at + at_account level at taken
  pub takers_lag : (account : ℕ) → taker_sum side b account ≡ takers account + at_account taker account taken

at-nothing : (own at n : ℕ) → n ≡ n + at_account own at 0
at-nothing own at n = elim (own == at) as (λ t. n ≡ n + cond t 0 0) [ true ↦ omega arith | false ↦ omega arith ]

pub at-more : (own at taken by : ℕ) → at_account own at (taken + by) ≡ at_account own at taken + at_account own at by
at-more own at taken by = elim (own == at) as (λ t. cond t (taken + by) 0 ≡ cond t taken 0 + cond t by 0) [ true ↦ refl | false ↦ omega arith ]

module _ (side : Side) (level taker : ℕ) where
  pub lags-start : (b : Book) → Lags side level taker (depth b) (taker_sum side b) b 0
  lags-start b = record { depths_lag = λ at. at-nothing level at (depth b at); takers_lag = λ account. at-nothing taker account (taker_sum side b account) }

  module _ {depths takers : ℕ → ℕ} {b : Book} {taken : ℕ} (lags : Lags side level taker depths takers b taken) where
    pub lags-pass : Lags side level taker depths takers (pass b level) taken
    lags-pass = record { depths_lag = lags.depths_lag; takers_lag = lags.takers_lag }

    module _ (o : Order) (by : ℕ) (sound : IsSound b) (has : Has b.orders o) (at_level : level_of o.side o.price ≡ level) (same_side : o.side ≡ side) (within : by ≤ o.left) where
      abbrev after : Book
      after = traded b level o taker by

      fell : (at : ℕ) → depth after at + at_account level at by ≡ depth b at
      fell at =
          ap (λ os. sum_by (λ (p : Order). p.left) (filter (is_at at) os) + at_account level at by) (traded-orders b level o taker by)
          ∙ ap (λ l. depth (with_less b o.name by) at + at_account l at by) (sym at_level)
          ∙ depth-with_less b o by sound has within at

      rose : (account : ℕ) → taker_sum side after account ≡ taker_sum side b account + at_account taker account by
      rose account = ap (λ ts. took_in side ts account) (traded-trades b level o taker by) ∙ taker_sum-with_trade b (record { side = o.side; resting = o.account; taker = taker; taken = by }) account side same_side

      pub lags-traded : Lags side level taker depths takers after (taken + by)
      lags-traded = record {
        depths_lag = λ at. omega (arith, lags.depths_lag at, fell at, at-more level at taken by);
        takers_lag = λ account. omega (arith, lags.takers_lag account, rose account, at-more taker account taken by);
      }
