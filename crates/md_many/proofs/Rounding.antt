-- A round leaves fewer lines, or as many and a worn engine.
use Rattle.std.proofs.Common.{◌≡◌, ◌<◌, ◌≤◌, ◌+◌, ℕ, zero, suc, replicate, Bool, true, false, ap, sym, arith, refl, Vec, Global}
use Rattle.std.proofs.lemmas.Bool.{false≢true}
use Rattle.md_many_attempts.specs.ByCaller.{lines_of}
use Rattle.md_many.specs.Played.{fronts_and_left, left_after, rounds_left}

suc-one : (k : ℕ) → k + 1 ≡ suc k
suc-one k = omega arith

one-later : (k l : ℕ) → k + 1 + l ≡ k + suc l
one-later k l = omega arith

none-later : (k : ℕ) → k + 0 ≡ k
none-later k = omega arith

none-first : (k : ℕ) → 0 + k ≡ k
none-first k = omega arith

-- where no line was played, as many are left as there are
left-from : (line_count : ℕ → ℕ) (before n : ℕ)
    → lines_of line_count before + left_after line_count before (replicate n 0) ≡ lines_of line_count (before + n)
left-from line_count before zero = omega (arith, ap (lines_of line_count) (none-later before))
left-from line_count before (suc n) = omega (
  arith,
  left-from line_count (before + 1) n,
  ap (lines_of line_count) (suc-one before),
  ap line_count (suc-one before),
  ap (lines_of line_count) (one-later before n),
)

pub left-none : (line_count : ℕ → ℕ) (n : ℕ) → left_after line_count 0 (replicate n 0) ≡ lines_of line_count n
left-none line_count n = omega (arith, left-from line_count 0 n, ap (lines_of line_count) (none-first n))

module _ (line_count : ℕ → ℕ) (old middle new : Vec ℕ Global) (same : middle ≡ old) where
  left-same : left_after line_count 0 middle.items ≡ left_after line_count 0 old.items
  left-same = ap (λ (d : Vec ℕ Global). left_after line_count 0 d.items) same

  -- a line was played
  pub less-played : (worn worn' : Bool) → left_after line_count 0 new.items < left_after line_count 0 middle.items
      → rounds_left line_count new.items worn' < rounds_left line_count old.items worn
  less-played true true less = omega (arith, less, left-same)
  less-played true false less = omega (arith, less, left-same)
  less-played false true less = omega (arith, less, left-same)
  less-played false false less = omega (arith, less, left-same)

  -- the engine is worn, and wasn't before the round
  pub less-worn : (worn worn' : Bool) → worn' ≡ true → (worn ≡ true → worn' ≡ false)
      → left_after line_count 0 new.items ≤ left_after line_count 0 middle.items
      → rounds_left line_count new.items worn' < rounds_left line_count old.items worn
  less-worn true true is renewed less = absurd (false≢true (sym (renewed refl)))
  less-worn false true is renewed less = omega (arith, less, left-same)
  less-worn true false is renewed less = absurd (false≢true is)
  less-worn false false is renewed less = absurd (false≢true is)

  -- a line was played, after one renewal at most
  pub fronts-played : (fronts fronts' : ℕ) → fronts' ≤ fronts + 1
      → left_after line_count 0 new.items < left_after line_count 0 middle.items
      → fronts_and_left line_count fronts' new.items ≤ fronts_and_left line_count fronts old.items
  fronts-played fronts fronts' few less = omega (arith, few, less, left-same)

  -- there was no renewal
  pub fronts-kept : (fronts fronts' : ℕ) → fronts' ≡ fronts
      → left_after line_count 0 new.items ≤ left_after line_count 0 middle.items
      → fronts_and_left line_count fronts' new.items ≤ fronts_and_left line_count fronts old.items
  fronts-kept fronts fronts' same less = omega (arith, same, less, left-same)
