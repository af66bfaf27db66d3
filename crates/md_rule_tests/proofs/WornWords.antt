-- A field of zeros but for a worn head may be opened.
use Rattle.std.proofs.Common.{◌≡◌, ◌≢◌, ◌≤◌, ◌<◌, ℕ, zero, suc, true, List, [], replicate, set, slice_index, refl, ap, ◌∙◌, arith}
use Rattle.std.proofs.lemmas.List.{length-replicate, length-set}
use Rattle.std.proofs.lemmas.List.Elements.{All-nil}
use Rattle.std.proofs.Math.Nat.{mul-pos}
use Rattle.md_words.specs.declared.shape.Shape.{Shape}
use Rattle.md_words.specs.Content.{count_of, is_even}
use Rattle.md_words.specs.Layout.{address, first_desc, first_node, words_of}
use Rattle.md_machine.specs.Event.{CanOpen}
use Rattle.example_cell.specs.CellMeaning.{cell_meaning}
use Rattle.md_nbtc_law.specs.declared.seen.TheConstants.{WORN}

-- zeros, but for one word
abbrev pub zeros_but : (n held : ℕ) → List ℕ
zeros_but n held = set (replicate n 0) 1 held

zero_at : (n word : ℕ) → slice_index (replicate n 0) word ≡ 0
zero_at zero word = refl
zero_at (suc n) zero = refl
zero_at (suc n) (suc word) = zero_at n word

-- the others are 0, and each is even if that one is
other_at : (n held word : ℕ) → word ≢ 1 → slice_index (zeros_but n held) word ≡ 0
other_at zero held word ne = refl
other_at (suc zero) held zero ne = refl
other_at (suc zero) held (suc word) ne = refl
other_at (suc (suc n)) held zero ne = refl
other_at (suc (suc n)) held (suc zero) ne = absurd (ne refl)
other_at (suc (suc n)) held (suc (suc word)) ne = zero_at n word

even_at : (n held word : ℕ) → is_even (count_of 0) ≡ true → is_even (count_of held) ≡ true → is_even (count_of (slice_index (zeros_but n held) word)) ≡ true
even_at zero held word none one = none
even_at (suc zero) held zero none one = none
even_at (suc zero) held (suc word) none one = none
even_at (suc (suc n)) held zero none one = none
even_at (suc (suc n)) held (suc zero) none one = one
even_at (suc (suc n)) held (suc (suc word)) none one = ap (λ x. is_even (count_of x)) (zero_at n word) ∙ none

module _ (shape : Shape) where
  -- nodes and descriptors come after the first head
  nodes_after : 2 ≤ first_node shape
  nodes_after = let some = mul-pos {m = shape.maps} {n = shape.buckets} shape.in_range.maps_fit.0 shape.in_range.buckets_fit.0 in omega (arith, some)

  descs_after : 2 ≤ first_desc shape
  descs_after = let past = nodes_after in omega (arith, past)

  pub has_two : 1 < words_of shape
  unfolding words_of
  has_two = let past = descs_after in omega (arith, past)

  not_one : (n : ℕ) → first_node shape ≤ n → n ≢ 1
  not_one n far is = let past = nodes_after in omega (arith, past, far, is)

  pub worn_opens : CanOpen cell_meaning (record { shape = shape; words = zeros_but (words_of shape) WORN; placed = [] })
  unfolding count_of is_even address
  worn_opens = record {
    field = length-set (replicate (words_of shape) 0) 1 WORN ∙ length-replicate (words_of shape) 0;
    base = other_at (words_of shape) WORN 0 (λ e. cc);
    even = λ word counted. even_at (words_of shape) WORN word refl refl;
    placed = All-nil _;
    once = λ i j d before inside. absurd (omega (arith, inside));
    unused = λ lane node own. record {
      key = other_at (words_of shape) WORN _ (not_one _ (omega arith));
      value = other_at (words_of shape) WORN _ (not_one _ (omega arith));
      next = other_at (words_of shape) WORN _ (not_one _ (omega arith));
    };
    descs = λ word beyond. other_at (words_of shape) WORN word (λ is. let past = descs_after in omega (arith, past, beyond, is));
    valid = λ node. refl;
  }
