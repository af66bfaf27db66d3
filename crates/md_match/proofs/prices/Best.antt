-- The best price is found by the price bits.
use Rattle.std.proofs.Common.{◌≡◌, ◌≢◌, ℕ, ◌+◌, ◌-◌, ◌*◌, ◌/◌, ◌%◌, ◌<◌, ◌&&◌, nat_lt, nat_le, Bool, true, false, cond, List, ◌∷◌, map, refl, sym, ap, subst, ◌∙◌, inl, inr, Option, Some, None, arith}
use Rattle.std.specs.Prelude.{find, unwrap_or}
use Rattle.std.specs.List.{range_with_len}
use Rattle.std.specs.FinMap as fin
use Rattle.std.proofs.lemmas.Bool.{cases_eq, cases_Bool, and_parts, lt-ltb, le-ltb, ltb-true, ltb-false, leb-true, leb-false, le-leb}
use Rattle.md_history.specs.declared.acts.Act.{Act}
use Rattle.md_history.specs.declared.acts.Op.TheVariants.{Get}
use Rattle.md_history.specs.declared.acts.Reply.TheVariants.{Value}
use Rattle.md_history.specs.Act.{act_of}
use Rattle.md_history.specs.State.{State, map_at}
use Rattle.md_history.specs.Script.{Script, done, call}
use Rattle.md_history.specs.Branches.{by_value}
use Rattle.md_history.proofs.Plays.{played, outcome, made}
use Rattle.md_book.specs.declared.commands.Side.{Side}
use Rattle.md_book.specs.declared.commands.Side.TheVariants.{Buy, Sell}
use Rattle.md_book.specs.declared.limits.TheConstants.{MAX_PRICE}
use Rattle.md_book.specs.Book.{Book, IsPrice, level_of, depth}
use Rattle.md_book.proofs.steps.Costs.{Costs, costs-append, costs-more, costs-get}
use Rattle.md_match.specs.declared.maps.TheConstants.{PRICE_BITS}
use Rattle.md_match.specs.Matching.{opposite, prices_by_limit, best_price}
use Rattle.md_match.specs.Stands.{Tells, word_at, word_key, summary_key, has_depth, ShowsPrices}
use Rattle.md_match.specs.Sweeping.{best_bit, within, find_best}
use Rattle.md_match.proofs.sweeps.Ranges.{finds-first, finds-none, map-same}
use Rattle.md_match.proofs.sweeps.BestPrices.{listed-within}
use Rattle.md_match.proofs.prices.Words.{IsBetter, IsBest, best-bit, tells-none}
use Rattle.md_match.proofs.prices.Changes.{is_some_word}

module _ (b : Book) (limit : ℕ) (is : IsPrice limit) where
  abbrev deep_at : Side → ℕ → Bool
  deep_at from price = nat_lt 0 (depth b (level_of from price))

  buys : (p : ℕ) → IsPrice p → 0 < depth b (level_of Sell p) → ((q : ℕ) → IsPrice q → q < p → depth b (level_of Sell q) ≡ 0) → best_price b Buy limit ≡ within Buy limit p
  buys p priced deep better = elim (cases_Bool (nat_le p limit)) [
    | inl good ↦
        let found : find (deep_at Sell) (map (λ x. x) (range_with_len 1 limit)) ≡ Some p =
        finds-first (λ x. x) (deep_at Sell) 1 limit p priced.low (omega (arith, leb-true p limit good)) (lt-ltb 0 (depth b (level_of Sell p)) deep)
        (λ j low under. le-ltb 0 (depth b (level_of Sell j)) (omega (arith, better j (record { low = low; high = omega (arith, under, priced.high) }) under))) in
        subst (λ xs. find (deep_at Sell) xs ≡ Some p) (map-same (range_with_len 1 limit)) found
        ∙ sym (ap (λ t. cond (t && nat_le p MAX_PRICE) (Some p) None) good ∙ ap (λ t. cond t (Some p) None) (le-leb p MAX_PRICE priced.high))
    | inr bad ↦
        finds-none (deep_at Sell) (range_with_len 1 limit) (λ q has. let listed = listed-within Buy limit q is has in
        le-ltb 0 (depth b (level_of Sell q)) (omega (arith, better q listed.priced (omega (arith, leb-true q limit listed.good, leb-false p limit bad)))))
        ∙ sym (ap (λ t. cond (t && nat_le p MAX_PRICE) (Some p) None) bad)
  ]

  sells : (p : ℕ) → IsPrice p → 0 < depth b (level_of Buy p) → ((q : ℕ) → IsPrice q → p < q → depth b (level_of Buy q) ≡ 0) → best_price b Sell limit ≡ within Sell limit p
  sells p priced deep better = elim (cases_Bool (nat_le limit p)) [
    | inl good ↦
        let back : MAX_PRICE - (MAX_PRICE - p) ≡ p = omega (arith, priced.high) in
        finds-first (λ below. MAX_PRICE - below) (deep_at Buy) 0 (MAX_PRICE + 1 - limit) (MAX_PRICE - p) (omega arith) (omega (arith, leb-true limit p good, priced.high, is.high))
        (ap (deep_at Buy) back ∙ lt-ltb 0 (depth b (level_of Buy p)) deep)
        (λ j low under. le-ltb 0 (depth b (level_of Buy (MAX_PRICE - j))) (omega (arith, better (MAX_PRICE - j) (record { low = omega (arith, under, priced.low); high = omega arith }) (omega (arith, under, priced.high)))))
        ∙ ap Some back
        ∙ sym (ap (λ t. cond (t && nat_le p MAX_PRICE) (Some p) None) good ∙ ap (λ t. cond t (Some p) None) (le-leb p MAX_PRICE priced.high))
    | inr bad ↦
        finds-none (deep_at Buy) (prices_by_limit Sell limit) (λ q has. let listed = listed-within Sell limit q is has in
        le-ltb 0 (depth b (level_of Buy q)) (omega (arith, better q listed.priced (omega (arith, leb-true limit q listed.good, leb-false limit p bad)))))
        ∙ sym (ap (λ t. cond (t && nat_le p MAX_PRICE) (Some p) None) bad)
  ]

  -- a price counted from 0, whose level has depth where no better one has, is the best price if it reaches the limit
  best-is : (side : Side) (i : ℕ) → i < MAX_PRICE → 0 < depth b (level_of (opposite side) (i + 1)) → ((j : ℕ) → j < MAX_PRICE → IsBetter (opposite side) j i → depth b (level_of (opposite side) (j + 1)) ≡ 0)
      → best_price b side limit ≡ within side limit (i + 1)
  best-is Buy i low deep better = buys (i + 1) (record { low = omega arith; high = omega arith }) deep
      (λ q priced under. let p : (q - 1) + 1 ≡ q = omega (arith, priced.low) in ap (λ n. depth b (level_of Sell n)) (sym p) ∙ better (q - 1) (omega (arith, priced.high, priced.low)) (omega (arith, under, priced.low)))
  best-is Sell i low deep better = sells (i + 1) (record { low = omega arith; high = omega arith }) deep
      (λ q priced above. let p : (q - 1) + 1 ≡ q = omega (arith, priced.low) in ap (λ n. depth b (level_of Buy n)) (sym p) ∙ better (q - 1) (omega (arith, priced.high, priced.low)) (omega (arith, above, priced.low)))

  -- where no level has depth there is no best price
  none-is : (side : Side) → ((j : ℕ) → j < MAX_PRICE → depth b (level_of (opposite side) (j + 1)) ≡ 0) → best_price b side limit ≡ None
  none-is side none = finds-none (deep_at (opposite side)) (prices_by_limit side limit) (λ q has.
      let priced = (listed-within side limit q is has).priced in
      let p : (q - 1) + 1 ≡ q = omega (arith, priced.low) in
      le-ltb 0 (depth b (level_of (opposite side) q)) (omega (arith, ap (λ n. depth b (level_of (opposite side) n)) (sym p) ∙ none (q - 1) (omega (arith, priced.high, priced.low)))))

  no-depth : (from : Side) (j : ℕ) → j < MAX_PRICE → has_depth b from j ≡ false → depth b (level_of from (j + 1)) ≡ 0
  no-depth from j low none =
      let fails : nat_lt 0 (depth b (level_of from (j + 1))) ≡ false = ap (λ t. t && nat_lt 0 (depth b (level_of from (j + 1)))) (sym (lt-ltb j MAX_PRICE low)) ∙ none in
      omega (arith, ltb-false 0 (depth b (level_of from (j + 1))) fails)

  module _ (s : State) (shows : ShowsPrices s (has_depth b)) where
    -- a word that is 0 tells of no depth
    word-0 : (from : Side) (j : ℕ) → j < MAX_PRICE → word_at s (word_key from (j / 64)) ≡ 0 → depth b (level_of from (j + 1)) ≡ 0
    word-0 from j low none =
        let whole : 64 * (j / 64) + j % 64 ≡ j = omega arith in
        no-depth from j low (ap (has_depth b from) (sym whole) ∙ tells-none (shows.words from (j / 64) (omega arith)) none (j % 64) (omega arith))

    some-word : (from : Side) (w : ℕ) → is_some_word s from w ≡ true → (w < 16) × (0 < word_at s (word_key from w))
    some-word from w e =
        let both = and_parts (nat_lt w 16) (nat_lt 0 (word_at s (word_key from w))) e in
        (ltb-true w 16 both.0, ltb-true 0 (word_at s (word_key from w)) both.1)

    no-word : (from : Side) (v : ℕ) → v < 16 → is_some_word s from v ≡ false → word_at s (word_key from v) ≡ 0
    no-word from v low e =
        let fails : nat_lt 0 (word_at s (word_key from v)) ≡ false = ap (λ t. t && nat_lt 0 (word_at s (word_key from v))) (sym (lt-ltb v 16 low)) ∙ e in
        omega (arith, ltb-false 0 (word_at s (word_key from v)) fails)

    -- a better price is in a better word, or a better one of the same
    better-parts : (from : Side) (w i j : ℕ) → i < 64 → IsBetter from j (64 * w + i) → (j / 64 ≢ w → IsBetter from (j / 64) w) × (j / 64 ≡ w → IsBetter from (j % 64) i)
    better-parts Buy w i j low better = (λ apart. omega (arith, apart), λ same. omega (arith, same))
    better-parts Sell w i j low better = (λ apart. omega (arith, apart), λ same. omega (arith, same))

    module _ (side : Side) where
      abbrev from : Side
      from = opposite side

      -- the best bit of the best word is the best price
      two-bits : (w i : ℕ) → IsBest from (is_some_word s from) w → IsBest from (λ j. has_depth b from (64 * w + j)) i → best_price b side limit ≡ within side limit (64 * w + i + 1)
      two-bits w i best_word best_one =
          let both = and_parts (nat_lt (64 * w + i) MAX_PRICE) (nat_lt 0 (depth b (level_of from (64 * w + i + 1)))) best_one.passes in
          best-is side (64 * w + i) (ltb-true (64 * w + i) MAX_PRICE both.0) (ltb-true 0 (depth b (level_of from (64 * w + i + 1))) both.1)
          (λ j low better. let parts = better-parts from w i j best_one.low better in
          elim (cases_eq (j / 64) w) [
            | inl same ↦
                let whole : 64 * w + j % 64 ≡ j = omega (arith, same) in
                no-depth from j low (ap (has_depth b from) (sym whole) ∙ best_one.best (j % 64) (omega arith) (parts.1 same))
            | inr apart ↦ word-0 from j low (no-word from (j / 64) (omega arith) (best_word.best (j / 64) (omega arith) (parts.0 apart)))
          ])

      -- what is found: nothing changed, and it is the best price
      pub record Finds (q : ℕ) (t : State) (best : Option ℕ) (acts : List Act) : Type 0 where
        pub same : t ≡ s
        pub is_best : best ≡ best_price b side limit
        pub costs : Costs q acts 2 2 0

      module _ (q : ℕ) where
        abbrev skey : ℕ
        skey = summary_key from

        -- what is done with what the summary's key has, and with what the word's key has
        abbrev by_word : ℕ → Option ℕ → Script (Option ℕ)
        by_word summary o = by_value (Value o) (done None) (λ word. done (within side limit (64 * best_bit from summary + best_bit from word + 1)))

        abbrev by_summary : Option ℕ → Script (Option ℕ)
        by_summary o = by_value (Value o) (done None) (λ summary. call (Get PRICE_BITS (word_key from (best_bit from summary))) (λ r. by_value r (done None) (λ word. done (within side limit (64 * best_bit from summary + best_bit from word + 1)))))

        module _ (summary : ℕ) (e : fin.get (map_at s PRICE_BITS) skey ≡ Some summary) where
          abbrev w : ℕ
          w = best_bit from summary

          some-summary : 0 < summary
          some-summary = elim (cases_eq summary 0) [
            | inl none ↦ absurd (shows.nonzero skey (e ∙ ap Some none))
            | inr some ↦ omega (arith, some)
          ]

          best_word : IsBest from (is_some_word s from) w
          best_word = best-bit (subst (λ n. Tells n (is_some_word s from)) (ap (λ x. unwrap_or x 0) e) (shows.summaries from)) some-summary from

          found-word : (o : Option ℕ) → fin.get (map_at s PRICE_BITS) (word_key from w) ≡ o
              → Finds q (played (by_word summary o) s) (outcome (by_word summary o) s) (act_of (Get PRICE_BITS skey) (Value (Some summary)) ∷ act_of (Get PRICE_BITS (word_key from w)) (Value o) ∷ made (by_word summary o) s)
          found-word None f = absurd (omega (arith, (some-word from w best_word.passes).1, ap (λ x. unwrap_or x 0) f))
          found-word (Some word) f =
              let there = some-word from w best_word.passes in
              let is_word : word_at s (word_key from w) ≡ word = ap (λ x. unwrap_or x 0) f in
              let best_one = best-bit (subst (λ n. Tells n (λ j. has_depth b from (64 * w + j))) is_word (shows.words from w there.0)) (subst (λ n. 0 < n) is_word there.1) from in
              record {
                same = refl;
                is_best = sym (two-bits w (best_bit from word) best_word best_one);
                costs = costs-append (costs-get q PRICE_BITS skey (Some summary)) (costs-get q PRICE_BITS (word_key from w) (Some word));
              }

        found-summary : (o : Option ℕ) → fin.get (map_at s PRICE_BITS) skey ≡ o → Finds q (played (by_summary o) s) (outcome (by_summary o) s) (act_of (Get PRICE_BITS skey) (Value o) ∷ made (by_summary o) s)
        found-summary None e = record {
          same = refl;
          is_best = sym (none-is side (λ j low. word-0 from j low (no-word from (j / 64) (omega arith) (tells-none (shows.summaries from) (ap (λ x. unwrap_or x 0) e) (j / 64) (omega arith)))));
          costs = costs-more (costs-get q PRICE_BITS skey None) 2 2 0 (omega arith) (omega arith) (omega arith);
        }
        found-summary (Some summary) e = found-word summary e (fin.get (map_at s PRICE_BITS) (word_key from (best_bit from summary))) refl

        -- so the best price is found
        pub finds-best : Finds q (played (find_best side limit) s) (outcome (find_best side limit) s) (made (find_best side limit) s)
        finds-best = found-summary (fin.get (map_at s PRICE_BITS) skey) refl
