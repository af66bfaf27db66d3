-- What raising and lowering a level's depth leaves.
use Rattle.std.proofs.Common.{◌≡◌, ◌≢◌, ℕ, ◌+◌, ◌-◌, ◌^◌, ◌<◌, ◌==◌, ◌⊎◌, min, nat_lt, Bool, true, false, cond, List, [], ◌∷◌, length, refl, sym, ap, subst, ◌∙◌, inl, inr, Option, Some, None, arith}
use Rattle.std.specs.FinMap as fin
use Rattle.std.proofs.lemmas.Bool.{cases_eq, eqb-true, eqb-false, lt-ltb, le-ltb}
use Rattle.md_history.specs.declared.acts.Act.{Act}
use Rattle.md_history.specs.declared.acts.Op.TheVariants.{Get, Remove, Put}
use Rattle.md_history.specs.declared.acts.Reply.TheVariants.{Value}
use Rattle.md_history.specs.Act.{act_of}
use Rattle.md_history.specs.State.{State, map_at, after}
use Rattle.md_history.specs.Script.{Script, done, call}
use Rattle.md_history.proofs.Plays.{played, made}
use Rattle.md_book.specs.declared.commands.Side.{Side}
use Rattle.md_book.specs.declared.commands.Side.TheVariants.{Buy, Sell}
use Rattle.md_book.specs.declared.limits.TheConstants.{MAX_PRICE}
use Rattle.md_book.specs.declared.maps.TheConstants.{DEPTHS}
use Rattle.md_book.specs.Book.{level_of}
use Rattle.md_book.specs.Stands.{unless_0}
use Rattle.md_book.specs.Scripts.{value_or_0}
use Rattle.md_book.proofs.books.Changes.{Sets, remove-sets, put-sets}
use Rattle.md_book.proofs.books.Raises.{value_or_0-unless_0, unless_0-some}
use Rattle.md_book.proofs.steps.Costs.{Costs, costs-append, costs-more, costs-put, costs-taken}
use Rattle.md_match.specs.declared.maps.TheConstants.{PRICE_BITS}
use Rattle.md_match.specs.Stands.{ShowsPrices}
use Rattle.md_match.specs.Scripts.{open_level, close_level, raise_level, lower_level}
use Rattle.md_match.proofs.prices.Changes.{shows-same}
use Rattle.md_match.proofs.prices.Bits.{Beside, beside-same}
use Rattle.md_match.proofs.prices.Levels.{AgreeBut, open-noted, close-noted}

-- a level has this depth now, the price bits tell so, and nothing else changed
pub record Changed (s : State) (level depth : ℕ) (deep : Side → ℕ → Bool) (q read write take : ℕ) (t : State) (acts : List Act) : Type 0 where
  pub mid : State
  pub sets : Sets s mid DEPTHS level (unless_0 depth)
  pub beside : Beside mid t
  pub prices : ShowsPrices t deep
  pub costs : Costs q acts read write take

side-cases : (s t : Side) → (s ≡ t) ⊎ (s ≢ t)
side-cases Buy Buy = inl refl
side-cases Buy Sell = inr (λ e. cc)
side-cases Sell Buy = inr (λ e. cc)
side-cases Sell Sell = inl refl

-- tests that agree there too agree everywhere
agree-all : (side : Side) (i : ℕ) (deep deep' : Side → ℕ → Bool) → AgreeBut side i deep deep' → deep' side i ≡ deep side i → (z : Side) (j : ℕ) → deep' z j ≡ deep z j
agree-all side i deep deep' agree there z j = elim (side-cases z side) [
  | inl same ↦ elim (cases_eq j i) [
    | inl e ↦ ap (λ x. deep' x j) same ∙ ap (deep' side) e ∙ there ∙ sym (ap (λ x. deep x j) same ∙ ap (deep side) e)
    | inr apart ↦ agree z j (λ _. apart)
  ]
  | inr other ↦ agree z j (λ same. absurd (other same))
]

module _ {s : State} {deep : Side → ℕ → Bool} (deep' : Side → ℕ → Bool) (shows : ShowsPrices s deep) (below : PRICE_BITS < length s.maps) (side : Side) (i : ℕ) (low : i < MAX_PRICE) (agree : AgreeBut side i deep deep') (q : ℕ)
    (d by : ℕ) (stood : fin.get (map_at s DEPTHS) (level_of side (i + 1)) ≡ unless_0 d) where
  abbrev level : ℕ
  level = level_of side (i + 1)

  abbrev removed : State
  removed = after s (Remove DEPTHS level)

  gone : Sets s removed DEPTHS level None
  gone = remove-sets s DEPTHS level (omega (arith, below))

  abbrev stood_at : Option ℕ
  stood_at = fin.get (map_at s DEPTHS) level

  -- with a depth put there
  abbrev put : ℕ → State
  put depth = after s (Put DEPTHS level depth)

  puts : (depth : ℕ) → depth ≢ 0 → Sets s (put depth) DEPTHS level (unless_0 depth)
  puts depth some = subst (Sets s (put depth) DEPTHS level) (unless_0-some depth some) (put-sets s DEPTHS level depth (omega (arith, below)))

  value : value_or_0 (Value (fin.get (map_at s DEPTHS) level)) ≡ d
  value = ap (λ o. value_or_0 (Value o)) stood ∙ value_or_0-unless_0 d

  -- a change of depths leaves the price bits
  beside-depths : {t : State} {now : Option ℕ} → Sets s t DEPTHS level now → ShowsPrices t deep
  beside-depths sets = shows-same (sets.other_maps PRICE_BITS (λ e. omega arith)) (λ _ _. refl) shows

  module _ (some : 0 < d) (was : deep side i ≡ true) (now : deep' side i ≡ nat_lt 0 (d - by)) where
    stood-some : fin.get (map_at s DEPTHS) level ≡ Some d
    stood-some = stood ∙ sym (unless_0-some d (λ e. omega (arith, e)))

    abbrev put_if : ℕ → Bool → Script (Unit {0})
    put_if v none = cond none (call (Remove DEPTHS level) (λ _. close_level level)) (call (Put DEPTHS level v) (λ _. done tt))

    abbrev Lowers : ℕ → Bool → Type 0
    Lowers v none = Changed s level (d - by) deep' q 3 7 1 (played (put_if v none) s) (act_of (Get DEPTHS level) (Value stood_at) ∷ made (put_if v none) s)

    lowers-gone : d - by ≡ 0 → Lowers (d - by) true
    lowers-gone none =
        let noted = close-noted deep' (beside-depths gone) (omega (arith, gone.maps, below)) side i low agree q was (now ∙ le-ltb 0 (d - by) (omega (arith, none))) in
        record {
          mid = removed;
          sets = subst (Sets s removed DEPTHS level) (sym (ap unless_0 none)) gone;
          beside = noted.beside;
          prices = noted.prices;
          costs = costs-append (subst (λ o. Costs q (act_of (Get DEPTHS level) (Value o) ∷ act_of (Remove DEPTHS level) (Value o) ∷ []) 1 2 0) (sym stood-some) (costs-taken q DEPTHS level d d)) noted.costs;
        }

    lowers-some : d - by ≢ 0 → Lowers (d - by) false
    lowers-some left =
        let sets = puts (d - by) left in
        record {
          mid = put (d - by);
          sets = sets;
          beside = beside-same (put (d - by));
          prices = shows-same (sets.other_maps PRICE_BITS (λ e. omega arith)) (agree-all side i deep deep' agree (now ∙ lt-ltb 0 (d - by) (omega (arith, left)) ∙ sym was)) shows;
          costs = costs-more (costs-put q DEPTHS level stood_at stood_at (d - by)) 3 7 1 (omega arith) (omega arith) (omega arith);
        }

    lowers : Lowers (d - by) ((d - by) == 0)
    lowers = elim ((d - by) == 0) as (λ b. ((d - by) == 0) ≡ b → Lowers (d - by) b) [
      | true ↦ λ e. lowers-gone (eqb-true (d - by) 0 e)
      | false ↦ λ e. lowers-some (eqb-false (d - by) 0 e)
    ] refl

    -- so a depth falls
    pub lower-changed : Changed s level (d - by) deep' q 3 7 1 (played (lower_level level by) s) (made (lower_level level by) s)
    lower-changed = subst (λ v. Lowers (v - by) ((v - by) == 0)) (sym value) lowers

  module _ (more : 0 < by) (room : d + by < 2 ^ 64) (was : deep side i ≡ nat_lt 0 d) (now : deep' side i ≡ true) where
    abbrev Raises : ℕ → Bool → Type 0
    Raises v b =
        let p : Script (Unit {0}) = cond b (open_level level) (done tt) in
        Changed s level (d + by) deep' q 3 9 3 (played p (put v)) (act_of (Get DEPTHS level) (Value stood_at) ∷ act_of (Put DEPTHS level v) (Value stood_at) ∷ made p (put v))

    sum-sets : Sets s (put (d + by)) DEPTHS level (unless_0 (d + by))
    sum-sets = puts (d + by) (λ e. omega (arith, e))

    raises-none : Raises (d + by) true
    raises-none =
        let noted = open-noted deep' (beside-depths sum-sets) (omega (arith, sum-sets.maps, below)) side i low agree q now in
        record {
          mid = put (d + by);
          sets = sum-sets;
          beside = noted.beside;
          prices = noted.prices;
          costs = costs-append (costs-put q DEPTHS level stood_at stood_at (d + by)) noted.costs;
        }

    raises-some : d ≢ 0 → Raises (d + by) false
    raises-some stands = record {
      mid = put (d + by);
      sets = sum-sets;
      beside = beside-same (put (d + by));
      prices = shows-same (sum-sets.other_maps PRICE_BITS (λ e. omega arith)) (agree-all side i deep deep' agree (now ∙ sym (was ∙ lt-ltb 0 d (omega (arith, stands))))) shows;
      costs = costs-more (costs-put q DEPTHS level stood_at stood_at (d + by)) 3 9 3 (omega arith) (omega arith) (omega arith);
    }

    raises : Raises (d + by) (d == 0)
    raises = elim (d == 0) as (λ b. (d == 0) ≡ b → Raises (d + by) b) [
      | true ↦ λ e. raises-none
      | false ↦ λ e. raises-some (eqb-false d 0 e)
    ] refl

    -- so a depth grows
    pub raise-changed : Changed s level (d + by) deep' q 3 9 3 (played (raise_level level by) s) (made (raise_level level by) s)
    raise-changed =
        subst (λ v. Raises (min (v + by) (2 ^ 64 - 1)) (v == 0)) (sym value)
        (subst (λ v. Raises v (d == 0)) (sum-is (d + by) room) raises)
      where
        sum-is : (n : ℕ) → n < 2 ^ 64 → n ≡ min n (2 ^ 64 - 1)
        sum-is n low = omega arith
