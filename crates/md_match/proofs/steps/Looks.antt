-- A look at the first place of a level, with what it takes taken off the depth and the price bits.
use Rattle.std.proofs.Common.{◌≡◌, ◌≢◌, ℕ, ◌+◌, ◌-◌, ◌<◌, ◌≤◌, ◌==◌, ◌&&◌, min, nat_lt, Bool, true, false, cond, List, [], ◌∷◌, ◌++◌, map, length, refl, sym, ap, subst, ◌∙◌, inl, inr, Option, Some, None, arith}
use Rattle.std.specs.FinMap as fin
use Rattle.std.proofs.lemmas.Bool.{cases_lt, eq-eqb, ne_eqb, lt-ltb, le-ltb, and_left}
use Rattle.md_history.specs.declared.acts.Act.{Act}
use Rattle.md_history.specs.State.{State, map_at}
use Rattle.md_history.specs.Script.{done}
use Rattle.md_history.proofs.Plays.{played, outcome, made, ends-bind}
use Rattle.md_book.specs.declared.commands.Side.{Side}
use Rattle.md_book.specs.declared.commands.Side.TheVariants.{Buy, Sell}
use Rattle.md_book.specs.declared.fronts.Look.{Look}
use Rattle.md_book.specs.declared.fronts.Look.TheVariants.{Live}
use Rattle.md_book.specs.declared.limits.TheConstants.{MAX_PRICE}
use Rattle.md_book.specs.declared.maps.TheConstants.{LEVELS, DEPTHS}
use Rattle.md_book.specs.Book.{Order, Book, IsAccount, IsPrice, level_of, depth, front_order, pass, traded, Looked, ended, first_part, look_at, look}
use Rattle.md_book.specs.Stands.{unless_0}
use Rattle.md_book.specs.Filling.{look_front}
use Rattle.md_book.proofs.books.Changes.{Sets}
use Rattle.md_book.proofs.books.Reflects.{Reflects, reflects-depth}
use Rattle.md_book.proofs.books.Unpacking.{side-level}
use Rattle.md_book.proofs.looks.AtFront.{IsLive}
use Rattle.md_book.proofs.looks.FrontLooks.{IsNobody, IsDead, LooksAt, front-looks}
use Rattle.md_book.proofs.looks.Lags.{Lags, lags-start, lags-traded}
use Rattle.md_book.proofs.steps.Costs.{Costs, costs-append, costs-more, costs-none}
use Rattle.md_book.proofs.steps.Placing.{level_of-below}
use Rattle.md_book.proofs.steps.TakingOut.{unless, front-in_range}
use Rattle.md_book.proofs.sums.LookSums.{front-has}
use Rattle.md_book.proofs.sums.SideSums.{taker_sum, at_account}
use Rattle.md_match.specs.declared.commands.At.{At}
use Rattle.md_match.specs.declared.maps.TheConstants.{MATCH_MAPS, PRICE_BITS}
use Rattle.md_match.specs.Matching.{at_price}
use Rattle.md_match.specs.Stands.{has_depth, ShowsPrices}
use Rattle.md_match.specs.Scripts.{lower_level}
use Rattle.md_match.specs.Sweeping.{take_off, take_at}
use Rattle.md_match.proofs.prices.Changes.{shows-same}
use Rattle.md_match.proofs.prices.Levels.{AgreeBut}
use Rattle.md_match.proofs.prices.Depths.{Changed, lower-changed}
use Rattle.md_match.proofs.steps.Frames.{spared, same-maps, spares-look, reflects-beside}

-- in the middle of a sweep: the maps and queues are the book's, but that the taker's sum lags by what was taken so far
pub record Amid (from : Side) (taker : ℕ) (takers : ℕ → ℕ) (s : State) (b : Book) (taken : ℕ) : Type 0 where
  pub maps : MATCH_MAPS ≤ length s.maps
  pub reflects : Reflects s b from (depth b) takers
  pub prices : ShowsPrices s (has_depth b)
  pub lag : (account : ℕ) → taker_sum from b account ≡ takers account + at_account taker account taken

-- the part that was taken, if one was
abbrev pub listed : Option At → List At
listed None = []
listed (Some part) = part ∷ []

-- how much that is
abbrev pub took : Option At → ℕ
took None = 0
took (Some part) = part.taken

-- a look came to this
pub record Looks (from : Side) (price taker : ℕ) (takers : ℕ → ℕ) (taken rest : ℕ) (l : Looked) (t : State) (part : Option At) (acts : List Act) : Type 0 where
  pub amid : Amid from taker takers t l.book (taken + took part)
  pub parts : map (at_price price) l.parts ≡ listed part
  pub left : l.rest ≡ rest - took part
  pub within : took part ≤ rest
  pub costs : Costs (level_of from price) acts 5 13 3

-- levels of different sides or prices differ
level-apart : (z from : Side) (j i : ℕ) → j < MAX_PRICE → i < MAX_PRICE → (z ≡ from → j ≢ i) → level_of z (j + 1) ≢ level_of from (i + 1)
level-apart Buy Buy j i low high apart e = apart refl (omega (arith, e))
level-apart Buy Sell j i low high apart e = omega (arith, e)
level-apart Sell Buy j i low high apart e = omega (arith, e)
level-apart Sell Sell j i low high apart e = apart refl (omega (arith, e))

-- books whose depths differ at one level at most have the same levels with depth but for that
pub depths-agree : (b b' : Book) (from : Side) (i : ℕ) → i < MAX_PRICE → ((at : ℕ) → at ≢ level_of from (i + 1) → depth b' at ≡ depth b at) → AgreeBut from i (has_depth b) (has_depth b')
depths-agree b b' from i low same z j apart = elim (cases_lt j MAX_PRICE) [
  | inl inside ↦ ap (λ n. nat_lt j MAX_PRICE && nat_lt 0 n) (same (level_of z (j + 1)) (level-apart z from j i inside low apart))
  | inr past ↦ and_left (nat_lt j MAX_PRICE) (nat_lt 0 (depth b' (level_of z (j + 1)))) (le-ltb j MAX_PRICE past) ∙ sym (and_left (nat_lt j MAX_PRICE) (nat_lt 0 (depth b (level_of z (j + 1)))) (le-ltb j MAX_PRICE past))
]

-- whether a level has depth, where its price is one
pub deep-at : (b : Book) (from : Side) (i : ℕ) → i < MAX_PRICE → has_depth b from i ≡ nat_lt 0 (depth b (level_of from (i + 1)))
deep-at b from i low = ap (λ t. t && nat_lt 0 (depth b (level_of from (i + 1)))) (lt-ltb i MAX_PRICE low)

-- one look
pub look-one : (level taker : ℕ) (b : Book) (rest : ℕ) → rest ≢ 0 → look level taker 1 b rest ≡ look_at (front_order b level) level taker b rest ended
unfolding look
look-one level taker b rest some = ap (λ t. cond t (ended b rest) (look_at (front_order b level) level taker b rest ended)) (ne_eqb rest 0 some)

module _ (from : Side) (price : ℕ) (priced : IsPrice price) (taker : ℕ) (in_range : IsAccount taker) (takers : ℕ → ℕ) {s : State} {b : Book} {taken : ℕ} (amid : Amid from taker takers s b taken) (rest : ℕ) (some : rest ≢ 0) where
  abbrev level : ℕ
  level = level_of from price

  abbrev i : ℕ
  i = price - 1

  i-low : i < MAX_PRICE
  i-low = omega (arith, priced.low, priced.high)

  i-level : level_of from (i + 1) ≡ level
  i-level = let is : (price - 1) + 1 ≡ price = omega (arith, priced.low) in ap (level_of from) is

  below : level < LEVELS
  below = level_of-below from price priced

  abbrev t : State
  t = played (look_front from level rest) s

  maps-still : MATCH_MAPS ≤ length t.maps
  maps-still = omega (arith, same-maps (look_front from level rest) s, amid.maps)

  bits-still : map_at t PRICE_BITS ≡ map_at s PRICE_BITS
  bits-still = spared (look_front from level rest) s (spares-look from level rest)

  -- what a look comes to, by what it met
  abbrev After : Looked → State → Look → List Act → Type 0
  After l u met acts = Looks from price taker takers taken rest l (played (take_off level price met) u) (outcome (take_off level price met) u) (acts ++ made (take_off level price met) u)

  still-lags : (account : ℕ) → taker_sum from b account ≡ takers account + at_account taker account (taken + 0)
  still-lags account = let none : taken ≡ taken + 0 = omega arith in amid.lag account ∙ ap (λ n. takers account + at_account taker account n) none

  after-nobody : (met : Look) (acts : List Act) → IsNobody b level from (depth b) takers t met acts → After (ended b rest) t met acts
  after-nobody met acts is = subst (λ m. After (ended b rest) t m acts) (sym is.look_is) (record {
    amid = record { maps = maps-still; reflects = is.reflects; prices = shows-same bits-still (λ _ _. refl) amid.prices; lag = still-lags };
    parts = refl;
    left = omega arith;
    within = omega arith;
    costs = costs-more (costs-append is.costs (costs-none level)) 5 13 3 (omega arith) (omega arith) (omega arith);
  })

  after-dead : (o : Order) (met : Look) (acts : List Act) → IsDead b level from (depth b) takers o t met acts → After (ended (pass b level) rest) t met acts
  after-dead o met acts is = subst (λ m. After (ended (pass b level) rest) t m acts) (sym is.look_is) (record {
    amid = record { maps = maps-still; reflects = is.reflects; prices = shows-same bits-still (λ _ _. refl) amid.prices; lag = still-lags };
    parts = refl;
    left = omega arith;
    within = omega arith;
    costs = costs-more (costs-append is.costs (costs-none level)) 5 13 3 (omega arith) (omega arith) (omega arith);
  })

  module _ (o : Order) (front : front_order b level ≡ Some o) (live : 0 < o.left) where
    abbrev m : ℕ
    m = min o.left rest

    abbrev now : Book
    now = traded b level o taker m

    lags : Lags from level taker (depth b) (taker_sum from b) now m
    lags =
        let in_book = front-in_range amid.reflects level below o front live in
        let has = front-has b level o front in
        let whole : 0 + m ≡ m = omega arith in
        subst (Lags from level taker (depth b) (taker_sum from b) now) whole (lags-traded from level taker (lags-start from level taker b) o m amid.reflects.sound has.0 has.1 (side-level o.side from o.price price in_book.price priced has.1) (omega arith))

    unless-low : (emptied : Bool) → unless emptied ≤ 1
    unless-low true = omega arith
    unless-low false = omega arith

    own-account : (own n : ℕ) → at_account own own n ≡ n
    own-account own n = ap (λ t. cond t n 0) (eq-eqb own own refl)

    other-account : (own at n : ℕ) → at ≢ own → at_account own at n ≡ 0
    other-account own at n apart = ap (λ t. cond t n 0) (ne_eqb own at (λ e. apart (sym e)))

    sum-account : (own at n k : ℕ) → at_account own at n + at_account own at k ≡ at_account own at (n + k)
    sum-account own at n k = elim (own == at) as (λ t. cond t n 0 + cond t k 0 ≡ cond t (n + k) 0) [ true ↦ refl | false ↦ omega arith ]

    fell : depth b level ≡ depth now level + m
    fell = omega (arith, lags.depths_lag level, own-account level m)

    unmoved : (at : ℕ) → at ≢ level → depth now at ≡ depth b at
    unmoved at apart = omega (arith, lags.depths_lag at, other-account level at m apart)

    lag-live : (account : ℕ) → taker_sum from now account ≡ takers account + at_account taker account (taken + m)
    lag-live account = omega (arith, lags.takers_lag account, amid.lag account, sum-account taker account taken m)

    after-live : (met : Look) (acts : List Act) → IsLive b level from (depth b) takers taker o m 2 (5 + unless (o.left == m)) (1 + unless (o.left == m)) t met acts → After (first_part o m (ended now (rest - m))) t met acts
    after-live met acts is =
        let stood = is.reflects.has_depths level in
        let changed = lower-changed (has_depth now) (shows-same bits-still (λ _ _. refl) amid.prices) (omega (arith, maps-still)) from i i-low
        (depths-agree b now from i i-low (λ at apart. unmoved at (λ e. apart (e ∙ sym i-level)))) level (depth b level) m (subst (λ n. fin.get (map_at t DEPTHS) n ≡ unless_0 (depth b level)) (sym i-level) stood)
        (omega (arith, fell, live, some)) (deep-at b from i i-low ∙ ap (λ n. nat_lt 0 (depth b n)) i-level ∙ lt-ltb 0 (depth b level) (omega (arith, fell, live, some)))
        (deep-at now from i i-low ∙ ap (λ n. nat_lt 0 (depth now n)) i-level ∙ ap (nat_lt 0) (left-is fell)) in
        subst (λ x. After (first_part o m (ended now (rest - m))) t x acts) (sym is.look_is)
        (finish acts is (subst (λ n. Changed t n (depth b level - m) (has_depth now) level 3 7 1 (played (lower_level n m) t) (made (lower_level n m) t)) i-level changed))
      where
        left-is : depth b level ≡ depth now level + m → depth now level ≡ depth b level - m
        left-is e = omega (arith, e)

        finish : (acts : List Act) → IsLive b level from (depth b) takers taker o m 2 (5 + unless (o.left == m)) (1 + unless (o.left == m)) t met acts
            → Changed t level (depth b level - m) (has_depth now) level 3 7 1 (played (lower_level level m) t) (made (lower_level level m) t)
            → After (first_part o m (ended now (rest - m))) t (Live (record { name = o.name; taken = m })) acts
        finish acts is changed = ends-bind (lower_level level m) (λ _. done (Some (at_price price (record { name = o.name; taken = m })))) t (λ u part xs. Looks from price taker takers taken rest (first_part o m (ended now (rest - m))) u part (acts ++ xs)) (record {
          amid = record {
            maps = omega (arith, changed.beside.maps, changed.sets.maps, maps-still);
            reflects = reflects-beside changed.beside (reflects-depth is.reflects changed.mid level (subst (Sets t changed.mid DEPTHS level) (ap unless_0 (sym (left-is fell))) changed.sets) (λ at apart. sym (unmoved at apart)));
            prices = changed.prices;
            lag = lag-live;
          };
          parts = refl;
          left = refl;
          within = omega arith;
          costs = costs-more (costs-append is.costs (costs-append changed.costs (costs-none level))) 5 13 3 (omega arith) (omega (arith, unless-low (o.left == m))) (omega (arith, unless-low (o.left == m)));
        })

  -- what a look comes to, by the order at the front
  by-front : (found : Option Order) → front_order b level ≡ found → (met : Look) (acts : List Act) → LooksAt from price priced taker in_range amid.reflects below rest found t met acts
      → After (look_at found level taker b rest ended) t met acts
  by-front None e met acts is = after-nobody met acts is
  by-front (Some o) e met acts is = elim is.1 [
    | inl dead ↦ subst (λ l. After l t met acts) (sym (ap (λ c. cond c (ended (pass b level) rest) (first_part o (min o.left rest) (ended (traded b level o taker (min o.left rest)) (rest - min o.left rest)))) (eq-eqb o.left 0 dead.empty))) (after-dead o met acts dead)
    | inr lives ↦ subst (λ l. After l t met acts) (sym (ap (λ c. cond c (ended (pass b level) rest) (first_part o (min o.left rest) (ended (traded b level o taker (min o.left rest)) (rest - min o.left rest)))) (ne_eqb o.left 0 (λ none. omega (arith, none, lives.0))))) (after-live o e lives.0 met acts lives.1)
  ]

  -- a look at a level
  pub looks-at : Looks from price taker takers taken rest (look level taker 1 b rest) (played (take_at from price rest) s) (outcome (take_at from price rest) s) (made (take_at from price rest) s)
  looks-at = ends-bind (look_front from level rest) (take_off level price) s (Looks from price taker takers taken rest (look level taker 1 b rest))
      (subst (λ l. After l t (outcome (look_front from level rest) s) (made (look_front from level rest) s)) (sym (look-one level taker b rest some))
      (by-front (front_order b level) refl (outcome (look_front from level rest) s) (made (look_front from level rest) s) (front-looks from price priced taker in_range amid.reflects below rest some)))
