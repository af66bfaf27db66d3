-- What a packed order holds is what was packed.
use Rattle.std.proofs.Common.{◌≡◌, ℕ, ◌-◌, ◌≤◌, refl, arith}
use Rattle.md_book.specs.declared.commands.Side.{Side}
use Rattle.md_book.specs.declared.commands.Side.TheVariants.{Buy, Sell}
use Rattle.md_book.specs.declared.limits.TheConstants.{MAX_QUANTITY}
use Rattle.md_book.specs.Book.{IsPrice, level_of}
use Rattle.md_book.specs.Stands.{packed, account_in, level_in, left_in}

module _ (account price left : ℕ) (priced : IsPrice price) (low : left ≤ MAX_QUANTITY) where
  pub account_in-packed : (side : Side) → account_in (packed account side price left) ≡ account
  account_in-packed Buy = omega arith
  account_in-packed Sell = omega arith

  pub level_in-packed : (side : Side) → level_in (packed account side price left) ≡ level_of side price
  level_in-packed Buy = omega arith
  level_in-packed Sell = omega arith

  pub left_in-packed : (side : Side) → left_in (packed account side price left) ≡ left
  left_in-packed Buy = omega arith
  left_in-packed Sell = omega arith

  -- with less left, it is packed into a number that is as much smaller
  pub packed-less : (side : Side) (by : ℕ) → by ≤ left → packed account side price left - by ≡ packed account side price (left - by)
  packed-less Buy by within = omega arith
  packed-less Sell by within = omega arith

-- the side is that of the level
pub side-level : (s t : Side) (p q : ℕ) → IsPrice p → IsPrice q → level_of s p ≡ level_of t q → s ≡ t
side-level Buy Buy p q is other e = refl
side-level Buy Sell p q is other e = absurd (omega arith)
side-level Sell Buy p q is other e = absurd (omega arith)
side-level Sell Sell p q is other e = refl
