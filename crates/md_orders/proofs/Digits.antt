-- Numbers, a digit at a time.
use Rattle.std.proofs.Common.{◌≡◌, ◌<◌, ◌≤◌, ◌+◌, ◌-◌, ◌*◌, ℕ, List, Some, None, length, get_or, drop, refl, sym, inl, inr, drop-cons, add-one}
use Rattle.std.specs.Prelude.{nat_le, ◌&&◌, if◌then◌else◌}
use Rattle.std.specs.Char.{is_ascii_digit}
use Rattle.std.proofs.lemmas.Bool.{cases_Bool}
use Rattle.std.proofs.lemmas.List.{drop_all}
use Rattle.md_orders.specs.Grammar.{digits_after, number}

-- the digits from a place on, by the digit there
pub digits_step : (n i : ℕ) (xs : List ℕ) → i < length xs
    → digits_after n (drop i xs) ≡ (if is_ascii_digit (get_or xs i 0) then digits_after (n * 10 + (get_or xs i 0 - 48)) (drop (i + 1) xs) else None)
unfolding digits_after
digits_step n i xs inside = rw (drop-cons xs i 0 inside, add-one i) refl

-- a field with another byte than a digit
pub number_none : (field : List ℕ) → digits_after 0 field ≡ None → None ≡ number field
number_none field none = elim (cases_Bool (nat_le 1 (length field) && nat_le (length field) 10)) [ inl short ↦ rw short (sym none) | inr long ↦ rw long refl ]

-- past the last digit the number is whole
pub digits_end : (n i : ℕ) (xs : List ℕ) → length xs ≤ i → digits_after n (drop i xs) ≡ Some n
unfolding digits_after
digits_end n i xs past = rw (drop_all i xs past) refl
