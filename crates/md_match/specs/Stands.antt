-- When maps and queues stand for a matching book.
use Rattle.std.specs.Prelude.{◌≡◌, ◌≢◌, ◌≤◌, ◌<◌, ℕ, ◌+◌, ◌*◌, ◌^◌, ◌&&◌, nat_lt, Bool, if◌then◌else◌, Some, None, unwrap_or, length}
use Rattle.std.specs.Int.{bit_at}
use Rattle.std.specs.FinMap as fin
use Rattle.md_history.specs.State.{State, map_at}
use Rattle.md_book.specs.declared.commands.Side.{Side}
use Rattle.md_book.specs.declared.limits.TheConstants.{MAX_PRICE}
use Rattle.md_book.specs.declared.maps.TheConstants.{LEVELS}
use Rattle.md_book.specs.Book.{Book, level_of, depth}
use Rattle.md_book.specs.Stands.{side_bit, Shows}
use Rattle.md_match.specs.declared.maps.TheConstants.{MATCH_MAPS, PRICE_BITS}

-- the word of price bits at a key, which is 0 if the key is absent
abbrev pub word_at : State → ℕ → ℕ
word_at s key = unwrap_or (fin.get (map_at s PRICE_BITS) key) 0

-- the bits of a word tell of each number below 64 whether it passes a test
pub record Tells (word : ℕ) (test : ℕ → Bool) : Type 0 where
  pub fits : word < 2 ^ 64
  pub bits : (i : ℕ) → i < 64 → bit_at word i ≡ (if test i then 1 else 0)

-- the key of a side's word that has the bits of 64 prices, from the first to the last
abbrev pub word_key : Side → ℕ → ℕ
word_key side word = 16 * side_bit side + word

-- the key of a side's summary, which has a bit for each of these words
abbrev pub summary_key : Side → ℕ
summary_key side = 32 + side_bit side

-- whether the level of a side and a price has depth; prices are counted from 0 here, so that the price is one more
abbrev pub has_depth : Book → Side → ℕ → Bool
has_depth b side i = nat_lt i MAX_PRICE && nat_lt 0 (depth b (level_of side (i + 1)))

-- The fifth map: each word tells which of its prices have depth; a side's summary tells which of its words aren't 0; no
-- word that is 0 has a key; and there are no other keys. So the best price is found by two words.
pub record ShowsPrices (s : State) (deep : Side → ℕ → Bool) : Type 0 where
  pub words : (side : Side) (w : ℕ) → w < 16 → Tells (word_at s (word_key side w)) (λ i. deep side (64 * w + i))
  pub summaries : (side : Side)
      → Tells (word_at s (summary_key side)) (λ w. nat_lt w 16 && nat_lt 0 (word_at s (word_key side w)))
  pub nonzero : (key : ℕ) → fin.get (map_at s PRICE_BITS) key ≢ Some 0
  pub no_more : (key : ℕ) → 34 ≤ key → fin.get (map_at s PRICE_BITS) key ≡ None

-- there are the maps and queues of a matching book, and no others
pub record IsMatchSized (s : State) : Type 0 where
  pub maps : length s.maps ≡ MATCH_MAPS
  pub queues : length s.queues ≡ LEVELS

-- the maps and queues stand for a matching book
pub record StandsForMatch (s : State) (b : Book) : Type 0 where
  pub sized : IsMatchSized s
  pub shows : Shows s b
  pub prices : ShowsPrices s (has_depth b)
