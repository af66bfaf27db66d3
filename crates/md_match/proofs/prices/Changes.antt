-- What a change of price bits leaves.
use Rattle.std.proofs.Common.{◌≡◌, ◌≢◌, ℕ, ◌+◌, ◌*◌, ◌<◌, ◌≤◌, ◌&&◌, nat_lt, Bool, true, false, refl, sym, ap, subst, ◌∙◌, inl, inr, Some, None, arith}
use Rattle.std.specs.Prelude.{unwrap_or}
use Rattle.std.specs.FinMap as fin
use Rattle.std.proofs.lemmas.Bool.{cases_eq, ltb-true}
use Rattle.md_history.specs.State.{State, map_at}
use Rattle.md_book.specs.declared.commands.Side.{Side}
use Rattle.md_book.specs.Stands.{unless_0}
use Rattle.md_book.proofs.books.Changes.{Sets}
use Rattle.md_book.proofs.books.Raises.{value_or_0-unless_0}
use Rattle.md_match.specs.declared.maps.TheConstants.{PRICE_BITS}
use Rattle.md_match.specs.Stands.{word_at, Tells, word_key, summary_key, ShowsPrices}
use Rattle.md_match.proofs.prices.Words.{tells-same}
use Rattle.md_match.proofs.prices.Keys.{key-low, summary-below, word-apart, key-side, key-word, summary-side}

-- a word has this value now, and all else is as it was
pub record Rewrites (s t : State) (key word : ℕ) : Type 0 where
  pub sets : Sets s t PRICE_BITS key (unless_0 word)

-- no key has the value 0
pub unless_0-nonzero : (n : ℕ) → unless_0 n ≢ Some 0
unless_0-nonzero n e = elim (cases_eq n 0) [
  | inl none ↦ let is : unless_0 n ≡ None = ap unless_0 none in cc
  | inr some ↦ let back = ap (λ o. unwrap_or o 0) e in some (sym (value_or_0-unless_0 n) ∙ back)
]

module _ {s t : State} {key word : ℕ} (rewrites : Rewrites s t key word) where
  -- the word is that one
  pub word-here : word_at t key ≡ word
  word-here = ap (λ o. unwrap_or o 0) rewrites.sets.here ∙ value_or_0-unless_0 word

  -- other words are as they were
  pub word-other : (other : ℕ) → other ≢ key → word_at t other ≡ word_at s other
  word-other other apart = ap (λ o. unwrap_or o 0) (rewrites.sets.other_keys other apart)

  -- still no key has the value 0
  pub nonzero-still : ((k : ℕ) → fin.get (map_at s PRICE_BITS) k ≢ Some 0) → (k : ℕ) → fin.get (map_at t PRICE_BITS) k ≢ Some 0
  nonzero-still before k e = elim (cases_eq k key) [
    | inl same ↦ unless_0-nonzero word (sym (ap (fin.get (map_at t PRICE_BITS)) same ∙ rewrites.sets.here) ∙ e)
    | inr apart ↦ before k (sym (rewrites.sets.other_keys k apart) ∙ e)
  ]

  -- still there are no further keys
  pub no-more-still : key < 34 → ((k : ℕ) → 34 ≤ k → fin.get (map_at s PRICE_BITS) k ≡ None) → (k : ℕ) → 34 ≤ k → fin.get (map_at t PRICE_BITS) k ≡ None
  no-more-still low before k above = rewrites.sets.other_keys k (λ e. omega (arith, e)) ∙ before k above

-- whether a word of a side isn't 0
abbrev pub is_some_word : State → Side → ℕ → Bool
is_some_word s side w = nat_lt w 16 && nat_lt 0 (word_at s (word_key side w))

-- one word of a side is rewritten, by which one test becomes another
module _ {s t : State} {deep : Side → ℕ → Bool} (deep' : Side → ℕ → Bool) (shows : ShowsPrices s deep) (own : Side) (v : ℕ) (low : v < 16) (word : ℕ) (first : Rewrites s t (word_key own v) word)
    (tells : Tells word (λ i. deep' own (64 * v + i))) (same : (side : Side) (w : ℕ) → w < 16 → word_key side w ≢ word_key own v → (i : ℕ) → i < 64 → deep' side (64 * w + i) ≡ deep side (64 * w + i)) where
  words-told : (side : Side) (w : ℕ) → w < 16 → Tells (word_at t (word_key side w)) (λ i. deep' side (64 * w + i))
  words-told side w within = elim (cases_eq (word_key side w) (word_key own v)) [
    | inl e ↦
        let same_side = key-side side own w v within low e in
        let same_word = key-word side own w v within low e in
        subst (λ n. Tells n (λ i. deep' side (64 * w + i))) (sym (ap (word_at t) e ∙ word-here first))
        (subst (λ z. Tells word (λ i. deep' z (64 * w + i))) (sym same_side) (subst (λ n. Tells word (λ i. deep' own (64 * n + i))) (sym same_word) tells))
    | inr apart ↦ subst (λ n. Tells n (λ i. deep' side (64 * w + i))) (sym (word-other first (word_key side w) apart))
        (tells-same (shows.words side w within) (λ i. deep' side (64 * w + i)) (λ i inside. same side w within apart i inside))
  ]

  -- where the word was 0 before as it is now, or neither was, the summaries stand
  module _ (still : nat_lt 0 word ≡ nat_lt 0 (word_at s (word_key own v))) where
    some-still : (side : Side) (w : ℕ) → w < 16 → nat_lt 0 (word_at t (word_key side w)) ≡ nat_lt 0 (word_at s (word_key side w))
    some-still side w within = elim (cases_eq (word_key side w) (word_key own v)) [
      | inl e ↦ ap (λ k. nat_lt 0 (word_at t k)) e ∙ ap (nat_lt 0) (word-here first) ∙ still ∙ ap (λ k. nat_lt 0 (word_at s k)) (sym e)
      | inr apart ↦ ap (nat_lt 0) (word-other first (word_key side w) apart)
    ]

    summary-still : (side : Side) (w : ℕ) → is_some_word t side w ≡ is_some_word s side w
    summary-still side w = elim (nat_lt w 16) as (λ b. nat_lt w 16 ≡ b → (b && nat_lt 0 (word_at t (word_key side w))) ≡ (b && nat_lt 0 (word_at s (word_key side w)))) [
      | true ↦ λ e. some-still side w (ltb-true w 16 e)
      | false ↦ λ e. refl
    ] refl

    -- so the price bits tell the other test
    pub shows-kept : ShowsPrices t deep'
    shows-kept = record {
      words = words-told;
      summaries = λ side. subst (λ n. Tells n (is_some_word t side)) (sym (word-other first (summary_key side) (λ e. word-apart own side v low (sym e))))
          (tells-same (shows.summaries side) (is_some_word t side) (λ w _. summary-still side w));
      nonzero = nonzero-still first shows.nonzero;
      no_more = no-more-still first (omega (arith, key-low own v low)) shows.no_more;
    }

  -- the summary of its side is rewritten as well
  module _ {u : State} (summary : ℕ) (second : Rewrites t u (summary_key own) summary) (told : Tells summary (is_some_word t own)) where
    word-kept : (side : Side) (w : ℕ) → w < 16 → word_at u (word_key side w) ≡ word_at t (word_key side w)
    word-kept side w within = word-other second (word_key side w) (word-apart side own w within)

    some-kept : (side : Side) (w : ℕ) → is_some_word u side w ≡ is_some_word t side w
    some-kept side w = elim (nat_lt w 16) as (λ b. nat_lt w 16 ≡ b → (b && nat_lt 0 (word_at u (word_key side w))) ≡ (b && nat_lt 0 (word_at t (word_key side w)))) [
      | true ↦ λ e. ap (nat_lt 0) (word-kept side w (ltb-true w 16 e))
      | false ↦ λ e. refl
    ] refl

    -- another side's words and summary are untouched
    other-kept : (side : Side) → side ≢ own → (w : ℕ) → is_some_word t side w ≡ is_some_word s side w
    other-kept side apart w = elim (nat_lt w 16) as (λ b. nat_lt w 16 ≡ b → (b && nat_lt 0 (word_at t (word_key side w))) ≡ (b && nat_lt 0 (word_at s (word_key side w)))) [
      | true ↦ λ e. ap (nat_lt 0) (word-other first (word_key side w) (λ f. apart (key-side side own w v (ltb-true w 16 e) low f)))
      | false ↦ λ e. refl
    ] refl

    summaries-told : (side : Side) → Tells (word_at u (summary_key side)) (is_some_word u side)
    summaries-told side = elim (cases_eq (summary_key side) (summary_key own)) [
      | inl e ↦
          let same_side = summary-side side own e in
          subst (λ n. Tells n (is_some_word u side)) (sym (ap (word_at u) e ∙ word-here second))
          (subst (λ z. Tells summary (is_some_word u z)) (sym same_side) (tells-same told (is_some_word u own) (λ w _. some-kept own w)))
      | inr apart ↦
          subst (λ n. Tells n (is_some_word u side)) (sym (word-other second (summary_key side) apart ∙ word-other first (summary_key side) (λ e. word-apart own side v low (sym e))))
          (tells-same (shows.summaries side) (is_some_word u side) (λ w _. some-kept side w ∙ other-kept side (λ e. apart (ap summary_key e)) w))
    ]

    -- so the price bits tell the other test
    pub shows-summed : ShowsPrices u deep'
    shows-summed = record {
      words = λ side w within. subst (λ n. Tells n (λ i. deep' side (64 * w + i))) (sym (word-kept side w within)) (words-told side w within);
      summaries = summaries-told;
      nonzero = nonzero-still second (nonzero-still first shows.nonzero);
      no_more = no-more-still second (summary-below own) (no-more-still first (omega (arith, key-low own v low)) shows.no_more);
    }

-- the map of price bits is as it was, and so is which levels have depth
pub shows-same : {s t : State} {deep deep' : Side → ℕ → Bool} → map_at t PRICE_BITS ≡ map_at s PRICE_BITS → ((side : Side) (i : ℕ) → deep' side i ≡ deep side i)
    → ShowsPrices s deep → ShowsPrices t deep'
shows-same {s} {t} {deep} {deep'} e same shows =
    let word : (key : ℕ) → word_at t key ≡ word_at s key = λ key. ap (λ m. unwrap_or (fin.get m key) 0) e in
    record {
      words = λ side w within. subst (λ n. Tells n (λ i. deep' side (64 * w + i))) (sym (word (word_key side w))) (tells-same (shows.words side w within) (λ i. deep' side (64 * w + i)) (λ i _. same side (64 * w + i)));
      summaries = λ side. subst (λ n. Tells n (is_some_word t side)) (sym (word (summary_key side)))
          (tells-same (shows.summaries side) (is_some_word t side) (λ w _. ap (λ n. nat_lt w 16 && nat_lt 0 n) (word (word_key side w))));
      nonzero = λ key zero. shows.nonzero key (ap (λ m. fin.get m key) (sym e) ∙ zero);
      no_more = λ key above. ap (λ m. fin.get m key) e ∙ shows.no_more key above;
    }
