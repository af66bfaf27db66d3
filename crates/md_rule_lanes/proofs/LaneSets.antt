-- Bit sets and the lists of their lanes.
use Rattle.std.proofs.Common.{◌≡◌, ◌≢◌, ◌==◌, ◌&&◌, ◌||◌, ℕ, zero, suc, ◌+◌, ◌-◌, ◌*◌, ◌/◌, ◌^◌, ◌%◌, ◌<◌, ◌≤◌, Bool, true, false, List, [], ◌∷◌, filter, take, drop, length, get_or, min, max, nat_lt, nat_le, eq-eqb, ne_eqb, arith, refl, sym, ap, ◌∙◌, subst, ⊎_elim, w64, bit_and, bit_or, bit_xor}
use Rattle.std.specs.Int.{bit_at, bit_not, trailing_zeros}
use Rattle.std.specs.List.{range_with_len}
use Rattle.std.proofs.lemmas.Bool.{cond_both, cases_eq, cases_lt, cond-true, cond-false, le-leb, lt-leb}
use Rattle.std.proofs.lemmas.Nat.Bits.{bit_at-zero, bit_at-trailing_zeros, bit_at_clear_same, bit_at_clear_other, bit_at_or, bit_at_and, bit_at_xor, bit_at-lt, bit_at_mask_inside, bit_at_mask_below, bit_at_ones, bit_at_ones_above, bit_at_above, ones_shl, ones_shr}
use Rattle.md_words.specs.declared.limits.TheConstants.{LANES}
use Rattle.md_words.specs.declared.shape.Shape.{Shape}
use Rattle.md_history.specs.Front.{is_lane_of}
use Rattle.md_rule_lanes.specs.LaneSet.{has_lane, lanes_in}

and_off : (b c : Bool) → c ≡ false → (b && c) ≡ false
and_off true c e = e
and_off false c e = refl

and_on : (b c : Bool) → c ≡ true → (b && c) ≡ b
and_on true c e = e
and_on false c e = refl

module _ (p : ℕ → Bool) where
  at_first : (a n : ℕ) (P : List ℕ → Type 0) → (p a ≡ true → P (a ∷ filter p (range_with_len (a + 1) n))) → (p a ≡ false → P (filter p (range_with_len (a + 1) n))) → P (filter p (range_with_len a (suc n)))
  at_first a n P passes fails = cond_both (p a) (a ∷ filter p (range_with_len (a + 1) n)) (filter p (range_with_len (a + 1) n)) P passes fails

  if_passes : (a n : ℕ) → p a ≡ true → filter p (range_with_len a (suc n)) ≡ a ∷ filter p (range_with_len (a + 1) n)
  if_passes a n e = cond-true (p a) (a ∷ filter p (range_with_len (a + 1) n)) (filter p (range_with_len (a + 1) n)) e

  if_fails : (a n : ℕ) → p a ≡ false → filter p (range_with_len a (suc n)) ≡ filter p (range_with_len (a + 1) n)
  if_fails a n e = cond-false (p a) (a ∷ filter p (range_with_len (a + 1) n)) (filter p (range_with_len (a + 1) n)) e

  -- where no number of a range passes, where all do, and where none does from some number on
  none_pass : (a n : ℕ) → ((i : ℕ) → a ≤ i → p i ≡ false) → filter p (range_with_len a n) ≡ []
  none_pass a zero fails = refl
  none_pass a (suc n) fails = if_fails a n (fails a (omega arith)) ∙ none_pass (a + 1) n (λ i h. fails i (omega (arith, h)))

  all_pass : (a n : ℕ) → ((i : ℕ) → i < a + n → p i ≡ true) → filter p (range_with_len a n) ≡ range_with_len a n
  all_pass a zero passes = refl
  all_pass a (suc n) passes = if_passes a n (passes a (omega arith)) ∙ ap (λ l. a ∷ l) (all_pass (a + 1) n (λ i h. passes i (omega (arith, h))))

  short_pass : (a n k : ℕ) → ((i : ℕ) → a + n ≤ i → p i ≡ false) → filter p (range_with_len a (n + k)) ≡ filter p (range_with_len a n)
  short_pass a zero k fails = let e : 0 + k ≡ k = omega arith in rw e (none_pass a k (λ i h. fails i (omega (arith, h))))
  short_pass a (suc n) k fails =
      let e : suc n + k ≡ suc (n + k) = omega arith in
      let rest = short_pass (a + 1) n k (λ i h. fails i (omega (arith, h))) in
      rw e (at_first a n (λ l. filter p (range_with_len a (suc (n + k))) ≡ l)
      (λ t. if_passes a (n + k) t ∙ ap (λ l. a ∷ l) rest)
      (λ f. if_fails a (n + k) f ∙ rest))

  -- what passes is of the range
  passed_from : (a n k t : ℕ) → k < length (filter p (range_with_len a n)) → get_or (filter p (range_with_len a n)) k 0 ≡ t → a ≤ t
  passed_from a zero k t = λ inside is. absurd (omega (arith, inside))
  passed_from a (suc n) zero t = at_first a n (λ l. 0 < length l → get_or l 0 0 ≡ t → a ≤ t)
      (λ _ inside is. omega (arith, is))
      (λ _ inside is. let h = passed_from (a + 1) n zero t inside is in omega (arith, h))
  passed_from a (suc n) (suc k) t = at_first a n (λ l. suc k < length l → get_or l (suc k) 0 ≡ t → a ≤ t)
      (λ _ inside is. let h = passed_from (a + 1) n k t (omega (arith, inside)) is in omega (arith, h))
      (λ _ inside is. let h = passed_from (a + 1) n (suc k) t inside is in omega (arith, h))

  -- a number is among those that pass exactly where it passes
  none_any : (a n l : ℕ) → l < a → is_lane_of (filter p (range_with_len a n)) l ≡ false
  none_any a zero l low = refl
  none_any a (suc n) l low = at_first a n (λ xs. is_lane_of xs l ≡ false)
      (λ _. ap (λ b. b || is_lane_of (filter p (range_with_len (a + 1) n)) l) (ne_eqb a l (λ e. omega (arith, low, e))) ∙ none_any (a + 1) n l (omega (arith, low)))
      (λ _. none_any (a + 1) n l (omega (arith, low)))

  pub any_pass : (a n l : ℕ) → a ≤ l → l < a + n → is_lane_of (filter p (range_with_len a n)) l ≡ p l
  any_pass a zero l low high = absurd (omega (arith, low, high))
  any_pass a (suc n) l low high = ⊎_elim
      (λ (e : a ≡ l). at_first a n (λ xs. is_lane_of xs l ≡ p l)
      (λ t. ap (λ b. b || is_lane_of (filter p (range_with_len (a + 1) n)) l) (eq-eqb a l e) ∙ sym (ap p (sym e) ∙ t))
      (λ f. none_any (a + 1) n l (omega (arith, e)) ∙ sym (ap p (sym e) ∙ f)))
      (λ ne. at_first a n (λ xs. is_lane_of xs l ≡ p l)
      (λ _. ap (λ b. b || is_lane_of (filter p (range_with_len (a + 1) n)) l) (ne_eqb a l ne) ∙ any_pass (a + 1) n l (omega (arith, low, ne)) (omega (arith, high)))
      (λ _. any_pass (a + 1) n l (omega (arith, low, ne)) (omega (arith, high))))
      (cases_eq a l)

  -- the test of the numbers below one, and from it on
  abbrev below : (t : ℕ) → ℕ → Bool
  below t i = p i && nat_lt i t

  abbrev from : (t : ℕ) → ℕ → Bool
  from t i = p i && nat_le t i

-- where two tests agree
same_pass : (p q : ℕ → Bool) (a n : ℕ) → ((i : ℕ) → a ≤ i → i < a + n → p i ≡ q i) → filter p (range_with_len a n) ≡ filter q (range_with_len a n)
same_pass p q a zero same = refl
same_pass p q a (suc n) same =
    let rest = same_pass p q (a + 1) n (λ i h k. same i (omega (arith, h)) (omega (arith, k))) in
    let first = same a (omega arith) (omega arith) in
    at_first p a n (λ l. l ≡ filter q (range_with_len a (suc n)))
    (λ t. ap (λ l. a ∷ l) rest ∙ sym (if_passes q a n (sym first ∙ t)))
    (λ f. rest ∙ sym (if_fails q a n (sym first ∙ f)))

-- a first number that passes, and a test that passes the others
first_passes : (p q : ℕ → Bool) (a n z : ℕ) → a ≤ z → z < a + n → p z ≡ true → q z ≡ false → ((i : ℕ) → i < z → p i ≡ false) → ((i : ℕ) → i < a + n → i ≢ z → q i ≡ p i)
    → filter p (range_with_len a n) ≡ z ∷ filter q (range_with_len a n)
first_passes p q a zero z low high passes fails before other = absurd (omega (arith, low, high))
first_passes p q a (suc n) z low high passes fails before other = ⊎_elim
    (λ (e : a ≡ z). subst (λ y. filter p (range_with_len a (suc n)) ≡ y ∷ filter q (range_with_len a (suc n))) e
    (if_passes p a n (ap p e ∙ passes)
    ∙ ap (λ l. a ∷ l) (same_pass p q (a + 1) n (λ i h k. sym (other i (omega (arith, k)) (λ (f : i ≡ z). omega (arith, h, e, f))))
    ∙ sym (if_fails q a n (ap q e ∙ fails)))))
    (λ ne.
    let past : a < z = omega (arith, low, ne) in
    if_fails p a n (before a past)
    ∙ first_passes p q (a + 1) n z (omega (arith, past)) (omega (arith, high)) passes fails before (λ i k. other i (omega (arith, k)))
    ∙ ap (λ l. z ∷ l) (sym (if_fails q a n (other a (omega arith) ne ∙ before a past))))
    (cases_eq a z)

-- the numbers that pass below one of them, and those from it on
low_pass : (p : ℕ → Bool) (a n k t : ℕ) → k < length (filter p (range_with_len a n)) → get_or (filter p (range_with_len a n)) k 0 ≡ t
    → filter (below p t) (range_with_len a n) ≡ take k (filter p (range_with_len a n))
low_pass p a zero k t = λ inside is. absurd (omega (arith, inside))
low_pass p a (suc n) zero t = at_first p a n (λ l. 0 < length l → get_or l 0 0 ≡ t → filter (below p t) (range_with_len a (suc n)) ≡ [])
    (λ passes inside is. none_pass (below p t) a (suc n) (λ i h. and_off (p i) (nat_lt i t) (lt-leb (suc i) t (omega (arith, h, is)))))
    (λ fails inside is. if_fails (below p t) a n (ap (λ b. b && nat_lt a t) fails) ∙ low_pass p (a + 1) n zero t inside is)
low_pass p a (suc n) (suc k) t = at_first p a n (λ l. suc k < length l → get_or l (suc k) 0 ≡ t → filter (below p t) (range_with_len a (suc n)) ≡ take (suc k) l)
    (λ passes inside is.
    let h = passed_from p (a + 1) n k t (omega (arith, inside)) is in
    if_passes (below p t) a n (and_on (p a) (nat_lt a t) (le-leb (suc a) t (omega (arith, h))) ∙ passes)
    ∙ ap (λ l. a ∷ l) (low_pass p (a + 1) n k t (omega (arith, inside)) is))
    (λ fails inside is. if_fails (below p t) a n (ap (λ b. b && nat_lt a t) fails) ∙ low_pass p (a + 1) n (suc k) t inside is)

high_pass : (p : ℕ → Bool) (a n k t : ℕ) → k < length (filter p (range_with_len a n)) → get_or (filter p (range_with_len a n)) k 0 ≡ t
    → filter (from p t) (range_with_len a n) ≡ drop k (filter p (range_with_len a n))
high_pass p a zero k t = λ inside is. absurd (omega (arith, inside))
high_pass p a (suc n) zero t = at_first p a n (λ l. 0 < length l → get_or l 0 0 ≡ t → filter (from p t) (range_with_len a (suc n)) ≡ l)
    (λ passes inside is. same_pass (from p t) p a (suc n) (λ i h _. and_on (p i) (nat_le t i) (le-leb t i (omega (arith, h, is)))) ∙ if_passes p a n passes)
    (λ fails inside is. if_fails (from p t) a n (ap (λ b. b && nat_le t a) fails) ∙ high_pass p (a + 1) n zero t inside is)
high_pass p a (suc n) (suc k) t = at_first p a n (λ l. suc k < length l → get_or l (suc k) 0 ≡ t → filter (from p t) (range_with_len a (suc n)) ≡ drop (suc k) l)
    (λ passes inside is.
    let h = passed_from p (a + 1) n k t (omega (arith, inside)) is in
    if_fails (from p t) a n (and_off (p a) (nat_le t a) (lt-leb t a (omega (arith, h))))
    ∙ high_pass p (a + 1) n k t (omega (arith, inside)) is)
    (λ fails inside is. if_fails (from p t) a n (ap (λ b. b && nat_le t a) fails) ∙ high_pass p (a + 1) n (suc k) t inside is)

-- the empty set
pub lanes_none : lanes_in 0 ≡ []
unfolding lanes_in
lanes_none = none_pass (has_lane 0) 0 LANES (λ i h. ap (λ b. b == 1) (bit_at-zero i))

pub lanes_some : (bits : ℕ) → 0 < length (lanes_in bits) → 0 < bits
lanes_some zero some = absurd (let none = ap length lanes_none in omega (arith, some, none))
lanes_some (suc n) some = omega arith

-- the bit of a lane, cleared
abbrev pub cleared : (bits lane : ℕ) → ℕ
cleared bits lane = bit_and bits (bit_not w64 (1 * 2 ^ lane % 2 ^ 64))

-- the lowest lane, and the set without it
pub lanes_first : (bits : ℕ) → 0 < bits → bits < 2 ^ 64 → lanes_in bits ≡ trailing_zeros w64 bits ∷ lanes_in (cleared bits (trailing_zeros w64 bits))
unfolding lanes_in
lanes_first bits some fits =
    let z = trailing_zeros w64 bits in
    let low = bit_at-trailing_zeros w64 bits some fits in
    first_passes (has_lane bits) (has_lane (cleared bits z)) 0 LANES z (omega arith) low.0 (ap (λ b. b == 1) low.1) (ap (λ b. b == 1) (bit_at_clear_same w64 bits z low.0))
    (λ i h. ap (λ b. b == 1) (low.2 i h)) (λ i k ne. ap (λ b. b == 1) (bit_at_clear_other w64 bits z low.0 i k ne))

-- the bits from a lane on, and those below it
abbrev pub high_bits : (bits t : ℕ) → ℕ
high_bits bits t = bit_and bits ((2 ^ 64 - 1) * 2 ^ t % 2 ^ 64)

abbrev pub low_bits : (bits t : ℕ) → ℕ
low_bits bits t = bit_xor bits (high_bits bits t)

high_bit : (bits t i : ℕ) → t < LANES → i < LANES → t ≤ i → bit_at (high_bits bits t) i ≡ bit_at bits i
high_bit bits t i inside fits h =
    let x = bit_at-lt bits i in
    bit_at_and bits ((2 ^ 64 - 1) * 2 ^ t % 2 ^ 64) i
    ∙ ap (λ m. min (bit_at bits i) (bit_at m i)) (ones_shl 64 t (omega (arith, inside)))
    ∙ ap (min (bit_at bits i)) (bit_at_mask_inside t LANES i h fits)
    ∙ omega (arith, x)

high_bit-below : (bits t i : ℕ) → t < LANES → i < t → bit_at (high_bits bits t) i ≡ 0
high_bit-below bits t i inside h =
    bit_at_and bits ((2 ^ 64 - 1) * 2 ^ t % 2 ^ 64) i
    ∙ ap (λ m. min (bit_at bits i) (bit_at m i)) (ones_shl 64 t (omega (arith, inside)))
    ∙ ap (min (bit_at bits i)) (bit_at_mask_below t LANES i h)
    ∙ omega arith

has_high : (bits t i : ℕ) → t < LANES → i < LANES → has_lane (high_bits bits t) i ≡ from (has_lane bits) t i
has_high bits t i inside fits = ⊎_elim
    (λ (h : i < t). ap (λ b. b == 1) (high_bit-below bits t i inside h) ∙ sym (and_off (has_lane bits i) (nat_le t i) (lt-leb t i h)))
    (λ (h : t ≤ i). ap (λ b. b == 1) (high_bit bits t i inside fits h) ∙ sym (and_on (has_lane bits i) (nat_le t i) (le-leb t i h)))
    (cases_lt i t)

has_low : (bits t i : ℕ) → t < LANES → i < LANES → has_lane (low_bits bits t) i ≡ below (has_lane bits) t i
has_low bits t i inside fits =
    let x = bit_at-lt bits i in
    ⊎_elim
    (λ (h : i < t).
    let none = high_bit-below bits t i inside h in
    ap (λ b. b == 1) (bit_at_xor bits (high_bits bits t) i ∙ ap (λ b. (bit_at bits i + b) % 2) none ∙ omega (arith, x))
    ∙ sym (and_on (has_lane bits i) (nat_lt i t) (le-leb (suc i) t h)))
    (λ (h : t ≤ i).
    let same = high_bit bits t i inside fits h in
    ap (λ b. b == 1) {y = 0} (bit_at_xor bits (high_bits bits t) i ∙ ap (λ b. (bit_at bits i + b) % 2) same ∙ omega arith)
    ∙ sym (and_off (has_lane bits i) (nat_lt i t) (lt-leb (suc i) t (omega (arith, h)))))
    (cases_lt i t)

pub lanes_from : (bits k t : ℕ) → k < length (lanes_in bits) → get_or (lanes_in bits) k 0 ≡ t → t < LANES → lanes_in (high_bits bits t) ≡ drop k (lanes_in bits)
unfolding lanes_in
lanes_from bits k t inside is fits = same_pass (has_lane (high_bits bits t)) (from (has_lane bits) t) 0 LANES (λ i _ h. has_high bits t i fits h) ∙ high_pass (has_lane bits) 0 LANES k t inside is

pub lanes_below : (bits k t : ℕ) → k < length (lanes_in bits) → get_or (lanes_in bits) k 0 ≡ t → t < LANES → lanes_in (low_bits bits t) ≡ take k (lanes_in bits)
unfolding lanes_in
lanes_below bits k t inside is fits = same_pass (has_lane (low_bits bits t)) (below (has_lane bits) t) 0 LANES (λ i _ h. has_low bits t i fits h) ∙ low_pass (has_lane bits) 0 LANES k t inside is

-- all lanes below a number
pub lanes_all : (n : ℕ) → n ≤ LANES → lanes_in ((2 ^ 64 - 1) / 2 ^ (LANES - n)) ≡ range_with_len 0 n
unfolding lanes_in
lanes_all n fits =
    let e : n + (LANES - n) ≡ LANES = omega (arith, fits) in
    let back : LANES - (LANES - n) ≡ n = omega (arith, fits) in
    let p = has_lane (2 ^ n - 1) in
    ap (λ bits. filter (has_lane bits) (range_with_len 0 LANES)) (ones_shr 64 (LANES - n) (omega arith) ∙ ap (λ k. 2 ^ k - 1) back)
    ∙ ap (λ k. filter p (range_with_len 0 k)) (sym e)
    ∙ short_pass p 0 n (LANES - n) (λ i h. ap (λ b. b == 1) (bit_at_ones_above n i (omega (arith, h))))
    ∙ all_pass p 0 n (λ i h. ap (λ b. b == 1) (bit_at_ones n i (omega (arith, h))))

-- a lane is in the list exactly where its bit is 1
pub lane_is_in : (bits l : ℕ) → l < LANES → is_lane_of (lanes_in bits) l ≡ has_lane bits l
unfolding lanes_in
lane_is_in bits l fits = any_pass (has_lane bits) 0 LANES l (omega arith) (omega (arith, fits))

-- the lanes of both of two sets, all of which are below a number
one_of : (x y : ℕ) → x < 2 → y < 2 → (max x y == 1) ≡ ((x == 1) || (y == 1))
one_of zero zero h k = refl
one_of zero (suc zero) h k = refl
one_of (suc zero) zero h k = refl
one_of (suc zero) (suc zero) h k = refl
one_of (suc (suc x)) y h k = absurd (omega (arith, h))
one_of x (suc (suc y)) h k = absurd (omega (arith, k))

has_both : (a b i : ℕ) → has_lane (bit_or a b) i ≡ (has_lane a i || has_lane b i)
has_both a b i = ap (λ n. n == 1) (bit_at_or a b i) ∙ one_of (bit_at a i) (bit_at b i) (bit_at-lt a i) (bit_at-lt b i)

-- where a set has no lane from some number on, its bits are 0 there
pub no_lanes : (bits n : ℕ) → bits < 2 ^ 64 → ((i : ℕ) → n ≤ i → is_lane_of (lanes_in bits) i ≡ false) → (i : ℕ) → n ≤ i → has_lane bits i ≡ false
no_lanes bits n fits none i h = ⊎_elim (λ (k : i < LANES). sym (lane_is_in bits i k) ∙ none i h) (λ (k : LANES ≤ i). ap (λ b. b == 1) (bit_at_above bits 64 i fits k)) (cases_lt i LANES)

pub lanes_or : (a b n : ℕ) → n ≤ LANES → ((i : ℕ) → n ≤ i → has_lane a i ≡ false) → ((i : ℕ) → n ≤ i → has_lane b i ≡ false)
    → lanes_in (bit_or a b) ≡ filter (λ l. is_lane_of (lanes_in a) l || is_lane_of (lanes_in b) l) (range_with_len 0 n)
unfolding lanes_in
lanes_or a b n fits none_a none_b =
    let e : n + (LANES - n) ≡ LANES = omega (arith, fits) in
    let p = has_lane (bit_or a b) in
    ap (λ k. filter p (range_with_len 0 k)) (sym e)
    ∙ short_pass p 0 n (LANES - n) (λ i h. has_both a b i ∙ ap (λ c. c || has_lane b i) (none_a i (omega (arith, h))) ∙ none_b i (omega (arith, h)))
    ∙ same_pass p (λ l. is_lane_of (filter (has_lane a) (range_with_len 0 LANES)) l || is_lane_of (filter (has_lane b) (range_with_len 0 LANES)) l) 0 n
    (λ i _ h. has_both a b i ∙ sym (ap (λ c. c || is_lane_of (filter (has_lane b) (range_with_len 0 LANES)) i) (any_pass (has_lane a) 0 LANES i (omega arith) (omega (arith, h, fits)))
    ∙ ap (λ c. has_lane a i || c) (any_pass (has_lane b) 0 LANES i (omega arith) (omega (arith, h, fits)))))

-- no set has more lanes than a shape may have, and each of them is one of these
few : (p : ℕ → Bool) (a n : ℕ) → length (filter p (range_with_len a n)) ≤ n
few p a zero = omega arith
few p a (suc n) = at_first p a n (λ l. length l ≤ suc n) (λ _. let h = few p (a + 1) n in omega (arith, h)) (λ _. let h = few p (a + 1) n in omega (arith, h))

pub lanes_few : (bits : ℕ) → length (lanes_in bits) ≤ LANES
unfolding lanes_in
lanes_few bits = few (has_lane bits) 0 LANES

passed_below : (p : ℕ → Bool) (a n k : ℕ) → k < length (filter p (range_with_len a n)) → get_or (filter p (range_with_len a n)) k 0 < a + n
passed_below p a zero k = λ inside. absurd (omega (arith, inside))
passed_below p a (suc n) zero = at_first p a n (λ l. 0 < length l → get_or l 0 0 < a + suc n) (λ _ inside. omega arith) (λ _ inside. let h = passed_below p (a + 1) n zero inside in omega (arith, h))
passed_below p a (suc n) (suc k) = at_first p a n (λ l. suc k < length l → get_or l (suc k) 0 < a + suc n)
    (λ _ inside. let h = passed_below p (a + 1) n k (omega (arith, inside)) in omega (arith, h))
    (λ _ inside. let h = passed_below p (a + 1) n (suc k) inside in omega (arith, h))

pub lanes_fit : (bits k : ℕ) → k < length (lanes_in bits) → get_or (lanes_in bits) k 0 < LANES
unfolding lanes_in
lanes_fit bits k inside = passed_below (has_lane bits) 0 LANES k inside

-- a shape has at most so many lanes, and one at least
pub few_lanes : (shape : Shape) → shape.lanes ≤ LANES
few_lanes shape = shape.in_range.lanes_fit.1

pub some_lanes : (shape : Shape) → 1 ≤ shape.lanes
some_lanes shape = shape.in_range.lanes_fit.0
