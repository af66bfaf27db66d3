-- Words whose bits tell which numbers below 64 pass a test.
use Rattle.std.proofs.Common.{◌≡◌, ◌≢◌, ℕ, suc, ◌*◌, ◌/◌, ◌%◌, ◌^◌, ◌<◌, ◌≤◌, Bool, true, false, cond, refl, sym, ap, subst, ◌∙◌, inl, inr, arith}
use Rattle.std.specs.Int.{bit_at, bit_not, trailing_zeros, w64}
use Rattle.std.proofs.lemmas.Bool.{cases_eq}
use Rattle.std.proofs.lemmas.Nat.{or_lt, and_le_l, leading_top}
use Rattle.std.proofs.lemmas.Nat.Bits.{bit_at-zero, bit_at_set_same, bit_at_set_other, bit_at_clear_same, bit_at_clear_other, bit_at-trailing_zeros, bit_at_above}
use Rattle.md_book.specs.declared.commands.Side.{Side}
use Rattle.md_book.specs.declared.commands.Side.TheVariants.{Buy, Sell}
use Rattle.md_match.specs.Stands.{Tells}
use Rattle.md_match.specs.Scripts.{with_bit, without_bit}
use Rattle.md_match.specs.Sweeping.{best_bit}

-- a test as a bit
abbrev bit : Bool → ℕ
bit t = cond t 1 0

bit-true : (t : Bool) → t ≡ true → bit t ≡ 1
bit-true t e = ap bit e

bit-false : (t : Bool) → t ≡ false → bit t ≡ 0
bit-false t e = ap bit e

true-bit : (t : Bool) → bit t ≡ 1 → t ≡ true
true-bit true e = refl
true-bit false e = absurd (omega (arith, e))

false-bit : (t : Bool) → bit t ≡ 0 → t ≡ false
false-bit true e = absurd (omega (arith, e))
false-bit false e = refl

module _ {word : ℕ} {test : ℕ → Bool} (tells : Tells word test) where
  -- another test that passes the same numbers
  pub tells-same : (other : ℕ → Bool) → ((i : ℕ) → i < 64 → other i ≡ test i) → Tells word other
  tells-same other same = record { fits = tells.fits; bits = λ i low. tells.bits i low ∙ ap bit (sym (same i low)) }

  -- a bit more is set
  pub tells-set : (k : ℕ) (other : ℕ → Bool) → k < 64 → other k ≡ true → ((i : ℕ) → i < 64 → i ≢ k → other i ≡ test i) → Tells (with_bit word k) other
  tells-set k other low passes same = record {
    fits = or_lt 64 word (1 * 2 ^ k % 2 ^ 64) tells.fits (omega arith);
    bits = λ i within. elim (cases_eq i k) [
      | inl e ↦ ap (bit_at (with_bit word k)) e ∙ bit_at_set_same w64 word k low ∙ sym (bit-true (other i) (ap other e ∙ passes))
      | inr apart ↦ bit_at_set_other w64 word k low i apart ∙ tells.bits i within ∙ ap bit (sym (same i within apart))
    ];
  }

  -- a bit is cleared
  pub tells-clear : (k : ℕ) (other : ℕ → Bool) → k < 64 → other k ≡ false → ((i : ℕ) → i < 64 → i ≢ k → other i ≡ test i) → Tells (without_bit word k) other
  tells-clear k other low fails same = record {
    fits = omega (arith, and_le_l word (bit_not w64 (1 * 2 ^ k % 2 ^ 64)), tells.fits);
    bits = λ i within. elim (cases_eq i k) [
      | inl e ↦ ap (bit_at (without_bit word k)) e ∙ bit_at_clear_same w64 word k low ∙ sym (bit-false (other i) (ap other e ∙ fails))
      | inr apart ↦ bit_at_clear_other w64 word k low i within apart ∙ tells.bits i within ∙ ap bit (sym (same i within apart))
    ];
  }

  -- a word that is 0 has no bit set
  pub tells-none : word ≡ 0 → (i : ℕ) → i < 64 → test i ≡ false
  tells-none none i low = false-bit (test i) (sym (tells.bits i low) ∙ ap (λ w. bit_at w i) none ∙ bit_at-zero i)

  -- a word with a bit set isn't 0
  pub tells-some : (i : ℕ) → i < 64 → test i ≡ true → 0 < word
  tells-some i low passes = elim (cases_eq word 0) [
    | inl none ↦ absurd (false≢ (sym (tells-none none i low) ∙ passes))
    | inr some ↦ omega (arith, some)
  ]
    where
      false≢ : false ≡ true → ⊥
      false≢ e = cc

-- whether a bit of a side is better than another
abbrev pub IsBetter : Side → ℕ → ℕ → Type 0
IsBetter Buy j i = i < j
IsBetter Sell j i = j < i

-- the best bit of a side: it is set, and no better one is
pub record IsBest (side : Side) (test : ℕ → Bool) (i : ℕ) : Type 0 where
  pub low : i < 64
  pub passes : test i ≡ true
  pub best : (j : ℕ) → j < 64 → IsBetter side j i → test j ≡ false

module _ {word : ℕ} {test : ℕ → Bool} (tells : Tells word test) (some : 0 < word) where
  highest : IsBest Buy test (best_bit Buy word)
  highest =
      let top = leading_top 64 word some tells.fits in
      let is : best_bit Buy word ≡ top.0 = omega (arith, top.1) in
      let low : top.0 < 64 = omega (arith, top.1) in
      let one : word / 2 ^ top.0 ≡ 1 = quotient word (2 ^ top.0) top.2 (omega (arith, top.3, double top.0)) in
      subst (IsBest Buy test) (sym is) (record {
        low = low;
        passes = true-bit (test top.0) (sym (tells.bits top.0 low) ∙ ap (λ n. n % 2) one);
        best = λ j within above. false-bit (test j) (sym (tells.bits j within) ∙ bit_at_above word (suc top.0) j top.3 (omega arith));
      })
    where
      double : (k : ℕ) → 2 ^ suc k ≡ 2 * 2 ^ k
      double k = omega arith

      quotient : (n d : ℕ) → d ≤ n → n < 2 * d → n / d ≡ 1
      quotient n d low high = grind arith

  lowest : IsBest Sell test (best_bit Sell word)
  lowest =
      let found = bit_at-trailing_zeros w64 word some tells.fits in
      record {
        low = found.0;
        passes = true-bit (test (trailing_zeros w64 word)) (sym (tells.bits (trailing_zeros w64 word) found.0) ∙ found.1);
        best = λ j within below. false-bit (test j) (sym (tells.bits j within) ∙ found.2 j below);
      }

  -- the best bit of a word that tells a test
  pub best-bit : (side : Side) → IsBest side test (best_bit side word)
  best-bit Buy = highest
  best-bit Sell = lowest
