-- What opening and closing a level leaves.
use Rattle.std.proofs.Common.{◌≡◌, ◌≢◌, ℕ, ◌+◌, ◌*◌, ◌/◌, ◌%◌, ◌<◌, ◌==◌, ◌&&◌, nat_lt, Bool, true, false, cond, List, [], ◌++◌, length, refl, sym, ap, subst, ◌∙◌, Option, Some, None, arith}
use Rattle.std.specs.Prelude.{unwrap_or}
use Rattle.std.specs.FinMap as fin
use Rattle.std.proofs.lemmas.Bool.{eqb-true, eqb-false, lt-ltb, le-ltb, and_from, and_right}
use Rattle.md_history.specs.declared.acts.Act.{Act}
use Rattle.md_history.specs.State.{State, map_at}
use Rattle.md_history.specs.Script.{Script, done, bind}
use Rattle.md_history.proofs.Plays.{played, made, ends-bind}
use Rattle.md_book.specs.declared.commands.Side.{Side}
use Rattle.md_book.specs.declared.limits.TheConstants.{MAX_PRICE}
use Rattle.md_book.specs.Book.{level_of}
use Rattle.md_book.proofs.steps.Costs.{Costs, costs-append, costs-more, costs-none}
use Rattle.md_match.specs.declared.maps.TheConstants.{PRICE_BITS}
use Rattle.md_match.specs.Stands.{word_at, Tells, word_key, summary_key, ShowsPrices}
use Rattle.md_match.specs.Scripts.{bit_of, summary_of, word_of, with_bit, without_bit, set_bit, clear_bit, open_level, close_level}
use Rattle.md_match.proofs.prices.Words.{tells-set, tells-clear, tells-some}
use Rattle.md_match.proofs.prices.Keys.{key-level, bit-level, summary-level, word-level, word-apart}
use Rattle.md_match.proofs.prices.Changes.{Rewrites, word-here, word-other, is_some_word, shows-kept, shows-summed}
use Rattle.md_match.proofs.prices.Bits.{Beside, beside-then, rewrites-beside, set-rewrites, set-costs, with_bit-some, clear-rewrites, clear-outcome, clear-most, clear-gone}

-- the price bits of a state tell this, and nothing else changed
pub record Noted (s : State) (deep : Side → ℕ → Bool) (q read write take : ℕ) (t : State) (acts : List Act) : Type 0 where
  pub prices : ShowsPrices t deep
  pub beside : Beside s t
  pub costs : Costs q acts read write take

-- two tests agree but at one price
abbrev pub AgreeBut : Side → ℕ → (Side → ℕ → Bool) → (Side → ℕ → Bool) → Type 0
AgreeBut side i deep deep' = (z : Side) (j : ℕ) → (z ≡ side → j ≢ i) → deep' z j ≡ deep z j

stood-some : (s : State) (key : ℕ) → 0 < word_at s key → (x : ℕ) × (fin.get (map_at s PRICE_BITS) key ≡ Some x)
stood-some s key some = by (fin.get (map_at s PRICE_BITS) key) refl some
  where
    by : (o : Option ℕ) → fin.get (map_at s PRICE_BITS) key ≡ o → 0 < unwrap_or o 0 → (x : ℕ) × (fin.get (map_at s PRICE_BITS) key ≡ Some x)
    by None e less = absurd (omega arith)
    by (Some x) e less = (x, e)

module _ {s : State} {deep : Side → ℕ → Bool} (deep' : Side → ℕ → Bool) (shows : ShowsPrices s deep) (below : PRICE_BITS < length s.maps) (side : Side) (i : ℕ) (low : i < MAX_PRICE) (agree : AgreeBut side i deep deep') (q : ℕ) where
  abbrev w : ℕ
  w = i / 64

  abbrev k : ℕ
  k = i % 64

  abbrev key : ℕ
  key = word_key side w

  abbrev skey : ℕ
  skey = summary_key side

  w-low : w < 16
  w-low = omega arith

  k-low : k < 64
  k-low = omega arith

  own : 64 * w + k ≡ i
  own = omega arith

  before : Tells (word_at s key) (λ j. deep side (64 * w + j))
  before = shows.words side w w-low

  -- the tests of the level's own word agree but at its bit
  word-agrees : (j : ℕ) → j < 64 → j ≢ k → deep' side (64 * w + j) ≡ deep side (64 * w + j)
  word-agrees j inside apart = agree side (64 * w + j) (λ _ e. apart (omega (arith, e)))

  -- and those of other words do
  others-agree : (z : Side) (v : ℕ) → v < 16 → word_key z v ≢ key → (j : ℕ) → j < 64 → deep' z (64 * v + j) ≡ deep z (64 * v + j)
  others-agree z v within apart j inside =
      agree z (64 * v + j) (λ same e. apart (let is : v ≡ w = omega (arith, e) in ap (λ x. word_key x v) same ∙ ap (word_key side) is))

  in-summary : (t : State) (v : ℕ) → v < 16 → 0 < word_at t (word_key side v) → is_some_word t side v ≡ true
  in-summary t v within some = and_from (nat_lt v 16) (nat_lt 0 (word_at t (word_key side v))) (lt-ltb v 16 within) (lt-ltb 0 (word_at t (word_key side v)) some)

  -- after the level's own word changed, no other word did
  module _ {t : State} {word : ℕ} (first : Rewrites s t key word) where
    summary-agrees : (v : ℕ) → v < 64 → v ≢ w → is_some_word t side v ≡ is_some_word s side v
    summary-agrees v inside apart = elim (nat_lt v 16) as (λ b. nat_lt v 16 ≡ b → (b && nat_lt 0 (word_at t (word_key side v))) ≡ (b && nat_lt 0 (word_at s (word_key side v)))) [
      | true ↦ λ e. ap (nat_lt 0) (word-other first (word_key side v) (λ f. apart (omega (arith, f))))
      | false ↦ λ e. refl
    ] refl

    summary-before : Tells (word_at t skey) (is_some_word s side)
    summary-before = subst (λ n. Tells n (is_some_word s side)) (sym (word-other first skey (λ e. word-apart side side w w-low (sym e)))) (shows.summaries side)

  abbrev Q : ℕ → ℕ → ℕ → State → Unit {0} → List Act → Type 0
  Q r wr n t _ acts = Noted s deep' q r wr n t acts

  module _ (opens : deep' side i ≡ true) where
    abbrev then_set : Bool → Script (Unit {0})
    then_set was_empty = cond was_empty (bind (set_bit skey w) (λ _. done tt)) (done tt)

    abbrev opening : Script (Unit {0})
    opening = bind (set_bit key k) then_set

    abbrev t1 : State
    t1 = played (set_bit key k) s

    set1 : Rewrites s t1 key (with_bit (word_at s key) k)
    set1 = set-rewrites s key below k k-low

    told1 : Tells (with_bit (word_at s key) k) (λ j. deep' side (64 * w + j))
    told1 = tells-set before k (λ j. deep' side (64 * w + j)) k-low (ap (deep' side) own ∙ opens) word-agrees

    some1 : 0 < with_bit (word_at s key) k
    some1 = omega (arith, with_bit-some (word_at s key) k k-low)

    below1 : PRICE_BITS < length t1.maps
    below1 = omega (arith, set1.sets.maps, below)

    was-0 : Noted s deep' q 2 6 2 (played (then_set true) t1) (made (set_bit key k) s ++ made (then_set true) t1)
    was-0 =
        let set2 = set-rewrites t1 skey below1 w (omega (arith, w-low)) in
        ends-bind (set_bit skey w) (λ _. done (tt {0})) t1 (λ t _ acts. Noted s deep' q 2 6 2 t (made (set_bit key k) s ++ acts)) (record {
          prices = shows-summed deep' shows side w w-low (with_bit (word_at s key) k) set1 told1 others-agree (with_bit (word_at t1 skey) w) set2
              (tells-set (summary-before set1) w (is_some_word t1 side) (omega (arith, w-low)) (in-summary t1 w w-low (subst (λ n. 0 < n) (sym (word-here set1)) some1)) (summary-agrees set1));
          beside = beside-then (rewrites-beside set1) (rewrites-beside set2);
          costs = costs-append (set-costs s key below k q) (costs-append (set-costs t1 skey below1 w q) (costs-none q));
        })

    was-some : word_at s key ≢ 0 → Noted s deep' q 2 6 2 t1 (made (set_bit key k) s ++ [])
    was-some some = record {
      prices = shows-kept deep' shows side w w-low (with_bit (word_at s key) k) set1 told1 others-agree (lt-ltb 0 (with_bit (word_at s key) k) some1 ∙ sym (lt-ltb 0 (word_at s key) (omega (arith, some))));
      beside = rewrites-beside set1;
      costs = costs-more (costs-append (set-costs s key below k q) (costs-none q)) 2 6 2 (omega arith) (omega arith) (omega arith);
    }

    opened : Noted s deep' q 2 6 2 (played opening s) (made opening s)
    opened = ends-bind (set_bit key k) then_set s (Q 2 6 2)
        (elim (word_at s key == 0) as (λ b. (word_at s key == 0) ≡ b → Noted s deep' q 2 6 2 (played (then_set b) t1) (made (set_bit key k) s ++ made (then_set b) t1)) [
          | true ↦ λ _. was-0
          | false ↦ λ e. was-some (eqb-false (word_at s key) 0 e)
        ] refl)

    -- opening a level notes that it has depth
    pub open-noted : Noted s deep' q 2 6 2 (played (open_level (level_of side (i + 1))) s) (made (open_level (level_of side (i + 1))) s)
    open-noted =
        let level = level_of side (i + 1) in
        let P : ℕ → ℕ → ℕ → ℕ → Type 0 = λ a b c d. let p = bind (set_bit a b) (λ x. cond x (bind (set_bit c d) (λ _. done tt)) (done tt)) in Noted s deep' q 2 6 2 (played p s) (made p s) in
        subst (λ a. P a (bit_of level) (summary_of level) (word_of level)) (sym (key-level i low side))
        (subst (λ b. P key b (summary_of level) (word_of level)) (sym (bit-level i low side))
        (subst (λ c. P key k c (word_of level)) (sym (summary-level i low side)) (subst (P key k skey) (sym (word-level i low side)) opened)))

  module _ (was : deep side i ≡ true) (closes : deep' side i ≡ false) where
    abbrev then_clear : Bool → Script (Unit {0})
    then_clear is_empty = cond is_empty (bind (clear_bit skey w) (λ _. done tt)) (done tt)

    abbrev closing : Script (Unit {0})
    closing = bind (clear_bit key k) then_clear

    abbrev c1 : State
    c1 = played (clear_bit key k) s

    abbrev word1 : ℕ
    word1 = without_bit (word_at s key) k

    clear1 : Rewrites s c1 key word1
    clear1 = clear-rewrites s key below k

    kept1 : Tells word1 (λ j. deep' side (64 * w + j))
    kept1 = tells-clear before k (λ j. deep' side (64 * w + j)) k-low (ap (deep' side) own ∙ closes) word-agrees

    some0 : 0 < word_at s key
    some0 = tells-some before k k-low (ap (deep side) own ∙ was)

    stood0 : (x : ℕ) × (fin.get (map_at s PRICE_BITS) key ≡ Some x)
    stood0 = stood-some s key some0

    below2 : PRICE_BITS < length c1.maps
    below2 = omega (arith, clear1.sets.maps, below)

    is-0 : word1 ≡ 0 → Noted s deep' q 2 5 1 (played (then_clear true) c1) (made (clear_bit key k) s ++ made (then_clear true) c1)
    is-0 none =
        let clear2 = clear-rewrites c1 skey below2 w in
        let stood2 = stood-some c1 skey (tells-some (summary-before clear1) w (omega (arith, w-low)) (in-summary s w w-low some0)) in
        ends-bind (clear_bit skey w) (λ _. done (tt {0})) c1 (λ t _ acts. Noted s deep' q 2 5 1 t (made (clear_bit key k) s ++ acts)) (record {
          prices = shows-summed deep' shows side w w-low word1 clear1 kept1 others-agree (without_bit (word_at c1 skey) w) clear2
              (tells-clear (summary-before clear1) w (is_some_word c1 side) (omega (arith, w-low)) (and_right (nat_lt w 16) (nat_lt 0 (word_at c1 key)) (le-ltb 0 (word_at c1 key) (omega (arith, word-here clear1, none)))) (summary-agrees clear1));
          beside = beside-then (rewrites-beside clear1) (rewrites-beside clear2);
          costs = costs-append (clear-gone s key below k q stood0.0 stood0.1 none) (costs-append (clear-most c1 skey below2 w q stood2.0 stood2.1) (costs-none q));
        })

    is-some : word1 ≢ 0 → Noted s deep' q 2 5 1 c1 (made (clear_bit key k) s ++ [])
    is-some some = record {
      prices = shows-kept deep' shows side w w-low word1 clear1 kept1 others-agree (lt-ltb 0 word1 (omega (arith, some)) ∙ sym (lt-ltb 0 (word_at s key) some0));
      beside = rewrites-beside clear1;
      costs = costs-more (costs-append (clear-most s key below k q stood0.0 stood0.1) (costs-none q)) 2 5 1 (omega arith) (omega arith) (omega arith);
    }

    closed : Noted s deep' q 2 5 1 (played closing s) (made closing s)
    closed =
        let P : Bool → Type 0 = λ b. Noted s deep' q 2 5 1 (played (then_clear b) c1) (made (clear_bit key k) s ++ made (then_clear b) c1) in
        let each : (b : Bool) → (word1 == 0) ≡ b → P b = λ b. elim b as (λ b. (word1 == 0) ≡ b → P b) [
          | true ↦ λ e. is-0 (eqb-true word1 0 e)
          | false ↦ λ e. is-some (eqb-false word1 0 e)
        ] in
        ends-bind (clear_bit key k) then_clear s (Q 2 5 1) (subst P (sym (clear-outcome s key below k)) (each (word1 == 0) refl))

    -- closing a level notes that it has none
    pub close-noted : Noted s deep' q 2 5 1 (played (close_level (level_of side (i + 1))) s) (made (close_level (level_of side (i + 1))) s)
    close-noted =
        let level = level_of side (i + 1) in
        let P : ℕ → ℕ → ℕ → ℕ → Type 0 = λ a b c d. let p = bind (clear_bit a b) (λ x. cond x (bind (clear_bit c d) (λ _. done tt)) (done tt)) in Noted s deep' q 2 5 1 (played p s) (made p s) in
        subst (λ a. P a (bit_of level) (summary_of level) (word_of level)) (sym (key-level i low side))
        (subst (λ b. P key b (summary_of level) (word_of level)) (sym (bit-level i low side))
        (subst (λ c. P key k c (word_of level)) (sym (summary-level i low side)) (subst (P key k skey) (sym (word-level i low side)) closed)))
