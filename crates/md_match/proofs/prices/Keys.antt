-- Where the bit of a level is.
use Rattle.std.proofs.Common.{◌≡◌, ◌≢◌, ℕ, ◌+◌, ◌/◌, ◌%◌, ◌<◌, ◌≤◌, refl, arith}
use Rattle.md_book.specs.declared.commands.Side.{Side}
use Rattle.md_book.specs.declared.commands.Side.TheVariants.{Buy, Sell}
use Rattle.md_book.specs.declared.limits.TheConstants.{MAX_PRICE}
use Rattle.md_book.specs.Book.{level_of}
use Rattle.md_match.specs.Stands.{word_key, summary_key}
use Rattle.md_match.specs.Scripts.{key_of, bit_of, summary_of, word_of}

module _ (i : ℕ) (low : i < MAX_PRICE) where
  -- the key of the word of a price counted from 0
  pub key-level : (side : Side) → key_of (level_of side (i + 1)) ≡ word_key side (i / 64)
  key-level Buy = omega arith
  key-level Sell = omega arith

  -- its bit there
  pub bit-level : (side : Side) → bit_of (level_of side (i + 1)) ≡ i % 64
  bit-level Buy = omega arith
  bit-level Sell = omega arith

  -- the key of the summary of its side
  pub summary-level : (side : Side) → summary_of (level_of side (i + 1)) ≡ summary_key side
  summary-level Buy = omega arith
  summary-level Sell = omega arith

  -- the bit of its word there
  pub word-level : (side : Side) → word_of (level_of side (i + 1)) ≡ i / 64
  word-level Buy = omega arith
  word-level Sell = omega arith

-- words and summaries have keys of their own
pub key-low : (side : Side) (w : ℕ) → w < 16 → word_key side w < 32
key-low Buy w low = omega arith
key-low Sell w low = omega arith

-- summaries come after words
pub summary-above : (side : Side) → 32 ≤ summary_key side
summary-above Buy = omega arith
summary-above Sell = omega arith

-- there are two of them
pub summary-below : (side : Side) → summary_key side < 34
summary-below Buy = omega arith
summary-below Sell = omega arith

-- no word has the key of a summary
pub word-apart : (s t : Side) (v : ℕ) → v < 16 → word_key s v ≢ summary_key t
word-apart Buy Buy v low e = omega arith
word-apart Buy Sell v low e = omega arith
word-apart Sell Buy v low e = omega arith
word-apart Sell Sell v low e = omega arith

-- one key is that of one side and one word
pub key-side : (s t : Side) (v w : ℕ) → v < 16 → w < 16 → word_key s v ≡ word_key t w → s ≡ t
key-side Buy Buy v w low high e = refl
key-side Buy Sell v w low high e = absurd (omega arith)
key-side Sell Buy v w low high e = absurd (omega arith)
key-side Sell Sell v w low high e = refl

-- and so is the word
pub key-word : (s t : Side) (v w : ℕ) → v < 16 → w < 16 → word_key s v ≡ word_key t w → v ≡ w
key-word Buy Buy v w low high e = omega arith
key-word Buy Sell v w low high e = omega arith
key-word Sell Buy v w low high e = omega arith
key-word Sell Sell v w low high e = omega arith

-- a summary is that of one side
pub summary-side : (s t : Side) → summary_key s ≡ summary_key t → s ≡ t
summary-side Buy Buy e = refl
summary-side Buy Sell e = absurd (omega arith)
summary-side Sell Buy e = absurd (omega arith)
summary-side Sell Sell e = refl
