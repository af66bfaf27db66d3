-- Taking parts from places is what looks at them come to.
use Rattle.std.proofs.Common.{◌≡◌, ◌≢◌, ℕ, zero, suc, ◌+◌, ◌-◌, ◌*◌, ◌<◌, ◌≤◌, ◌==◌, min, true, false, cond, List, [], ◌∷◌, ◌++◌, length, replicate, refl, sym, ap, subst, ◌∙◌, inl, inr, Option, Some, None, arith}
use Rattle.std.specs.Prelude.{sum_by, slice_set}
use Rattle.std.proofs.lemmas.Bool.{cases_eq, eq-eqb, ne_eqb, eqb-false}
use Rattle.std.proofs.lemmas.List.{append-nil, append_assoc, length_push, set_at}
use Rattle.std.proofs.lemmas.List.Sums.{sum_by_push}
use Rattle.md_history.specs.declared.acts.Act.{Act}
use Rattle.md_history.specs.State.{State}
use Rattle.md_history.specs.Script.{Script, done, bind}
use Rattle.md_history.proofs.Plays.{played, outcome, made, ends-bind}
use Rattle.md_book.specs.declared.commands.Side.{Side}
use Rattle.md_book.specs.declared.commands.Part.{Part}
use Rattle.md_book.specs.declared.fill.Filling.{Filling}
use Rattle.md_book.specs.declared.fronts.Look.{Look}
use Rattle.md_book.specs.declared.fronts.Look.TheVariants.{Dead, Live}
use Rattle.md_book.specs.declared.maps.TheConstants.{LEVELS}
use Rattle.md_book.specs.declared.limits.TheConstants.{MAX_PARTS}
use Rattle.md_book.specs.Book.{Order, Book, IsAccount, IsPrice, level_of, front_order, pass, traded, Looked, ended, first_part, look_at, look, padded}
use Rattle.md_book.specs.Filling.{look_front, with_part, go_on, take_parts}
use Rattle.md_book.specs.Places.{places_looked}
use Rattle.md_book.proofs.steps.Costs.{Costs, costs-append, costs-more, costs-none}
use Rattle.md_book.proofs.books.Places.{PlaceCosts, place-costs-append}
use Rattle.md_book.proofs.steps.Fills.{take_parts-none}
use Rattle.md_book.proofs.sums.LookSums.{front-has}
use Rattle.md_book.proofs.books.Unpacking.{side-level}
use Rattle.md_book.proofs.books.Reflects.{Reflects}
use Rattle.md_book.proofs.steps.TakingOut.{unless, front-in_range}
use Rattle.md_book.proofs.looks.AtFront.{IsLive}
use Rattle.md_book.proofs.looks.FrontLooks.{IsNobody, IsDead, LooksAt, front-looks}
use Rattle.md_book.proofs.looks.Lags.{Lags, lags-pass, lags-traded}

-- what was taken in parts
abbrev pub taken_in : List Part → ℕ
taken_in parts = sum_by (λ p. p.taken) parts

-- so far a fill has come
pub record Amid (side : Side) (level taker quantity : ℕ) (depths takers : ℕ → ℕ) (s : State) (b : Book) (f : Filling) (taken : List Part) : Type 0 where
  pub reflects : Reflects s b side depths takers
  pub lags : Lags side level taker depths takers b (taken_in taken)
  pub remains : taken_in taken + f.rest ≡ quantity
  pub count : f.count ≡ length taken
  pub parts : f.parts ≡ padded taken

-- what it comes to, beside parts that were taken before, in so many places at most
pub record Took (side : Side) (level taker quantity : ℕ) (depths takers : ℕ → ℕ) (before : List Part) (places : ℕ) (l : Looked) (t : State) (f : Filling) (acts : List Act) : Type 0 where
  pub amid : Amid side level taker quantity depths takers t l.book f (before ++ l.parts)
  pub rest : f.rest ≡ l.rest
  pub costs : Costs level acts (2 * places) (5 * places + 1) (places + 1)
  pub by_places : PlaceCosts level acts 1 1 1

abbrev no_part : Part
no_part = record { name = 0; taken = 0 }

-- a part more is written behind those that were taken
padded-push : (taken : List Part) (part : Part) → length taken < MAX_PARTS → slice_set (padded taken) (length taken) part ≡ padded (taken ++ part ∷ [])
padded-push taken part room =
    let left : MAX_PARTS - length taken ≡ suc (MAX_PARTS - length (taken ++ part ∷ [])) = omega (arith, length_push taken part) in
    ap (λ n. slice_set (taken ++ replicate n no_part) (length taken) part) left
    ∙ set_at taken no_part (replicate (MAX_PARTS - length (taken ++ part ∷ [])) no_part) part (length taken) refl
    ∙ sym (append_assoc taken (part ∷ []) (replicate (MAX_PARTS - length (taken ++ part ∷ [])) no_part))

module _ (side : Side) (price : ℕ) (priced : IsPrice price) (taker : ℕ) (taker_in_range : IsAccount taker) (below : level_of side price < LEVELS) (quantity : ℕ) (depths takers : ℕ → ℕ) where
  abbrev level : ℕ
  level = level_of side price

  -- what it is to take parts from so many places
  abbrev pub TakesAs : ℕ → State → Book → Filling → List Part → Script Filling → Looked → Type 0
  TakesAs places s b f before p l = Took side level taker quantity depths takers before places l (played p s) (outcome p s) (made p s)

  abbrev pub Takes : ℕ → Type 0
  Takes places = (s : State) (b : Book) (f : Filling) (before : List Part) → Amid side level taker quantity depths takers s b f before → length before + places ≤ MAX_PARTS
      → TakesAs places s b f before (take_parts side level places f) (look level taker places b f.rest)

  -- nothing more is taken
  stays : (places : ℕ) (s : State) (b : Book) (f : Filling) (before : List Part) → Amid side level taker quantity depths takers s b f before → Took side level taker quantity depths takers before places (ended b f.rest) s f []
  stays places s b f before amid = record {
    amid = subst (Amid side level taker quantity depths takers s b f) (sym (append-nil before)) amid;
    rest = refl;
    costs = costs-more (costs-none level) (2 * places) (5 * places + 1) (places + 1) (omega arith) (omega arith) (omega arith);
    by_places = costs-more (costs-none level) _ _ _ (omega arith) (omega arith) (omega arith);
  }

  module _ (places : ℕ) (more : Takes places) (s : State) (b : Book) (f : Filling) (before : List Part) (amid : Amid side level taker quantity depths takers s b f before) (room : length before + suc places ≤ MAX_PARTS) (some : f.rest ≢ 0) where
    abbrev next : Look → Script Filling
    next look = go_on look f (take_parts side level places)

    abbrev looks : Book → ℕ → Looked
    looks = look level taker places

    -- what it comes to after a look
    abbrev Goes : Option Order → State → Look → List Act → Type 0
    Goes front t look acts = Took side level taker quantity depths takers before (suc places) (look_at front level taker b f.rest looks) (played (next look) t) (outcome (next look) t) (acts ++ made (next look) t)

    goes-nobody : (t : State) (look : Look) (acts : List Act) → IsNobody b level side depths takers t look acts → Goes None t look acts
    goes-nobody t look acts is = subst (λ l. Goes None t l acts) (sym is.look_is) (
        let still = stays (suc places) t b f before (record { reflects = is.reflects; lags = amid.lags; remains = amid.remains; count = amid.count; parts = amid.parts }) in
        record {
          amid = still.amid;
          rest = refl;
          costs = costs-more (costs-append is.costs (costs-none level)) (2 * suc places) (5 * suc places + 1) (suc places + 1) (omega arith) (omega arith) (omega arith);
          by_places = costs-more (costs-append is.costs (costs-none level)) _ _ _ (omega arith) (omega arith) (omega arith);
        })

    goes-dead : (o : Order) (t : State) (look : Look) (acts : List Act) → 1 ≤ places_looked acts → IsDead b level side depths takers o t look acts → Goes (Some o) t look acts
    goes-dead o t look acts seen is = subst (λ l. Goes (Some o) t l acts) (sym is.look_is) (
        subst (λ l. Took side level taker quantity depths takers before (suc places) l (played (next Dead) t) (outcome (next Dead) t) (acts ++ made (next Dead) t))
        (sym (ap (λ c. cond c (looks (pass b level) f.rest) (first_part o (min o.left f.rest) (looks (traded b level o taker (min o.left f.rest)) (f.rest - min o.left f.rest)))) (eq-eqb o.left 0 is.empty))) (
        let then = more t (pass b level) f before (record { reflects = is.reflects; lags = lags-pass side level taker amid.lags; remains = amid.remains; count = amid.count; parts = amid.parts }) (omega arith) in
        record {
          amid = then.amid;
          rest = then.rest;
          costs = costs-more (costs-append is.costs then.costs) (2 * suc places) (5 * suc places + 1) (suc places + 1) (omega arith) (omega arith) (omega arith);
          by_places = place-costs-append 0 0 0 1 1 1 (costs-more is.costs _ _ _ (omega (arith, seen)) (omega (arith, seen)) (omega arith)) then.by_places;
        }))

    module _ (o : Order) (front : front_order b level ≡ Some o) (live : 0 < o.left) (t : State) (acts : List Act) (seen : 1 ≤ places_looked acts) where
      abbrev taken : ℕ
      taken = min o.left f.rest

      abbrev part : Part
      part = record { name = o.name; taken = taken }

      push : taken_in (before ++ part ∷ []) ≡ taken_in before + taken
      push = sum_by_push (λ (p : Part). p.taken) before part

      module _ (reflects : Reflects t (traded b level o taker taken) side depths takers) where
        amid_more : Amid side level taker quantity depths takers t (traded b level o taker taken) (with_part f part) (before ++ part ∷ [])
        amid_more =
            let in_range = front-in_range amid.reflects level below o front live in
            let has = front-has b level o front in
            record {
              reflects = reflects;
              lags = subst (Lags side level taker depths takers (traded b level o taker taken)) (sym push)
                  (lags-traded side level taker amid.lags o taken amid.reflects.sound has.0 has.1 (side-level o.side side o.price price in_range.price priced has.1) (omega arith));
              remains = omega (arith, push, amid.remains);
              count = omega (arith, length_push before part, amid.count);
              parts = ap (λ ps. slice_set ps f.count part) amid.parts ∙ ap (λ n. slice_set (padded before) n part) amid.count ∙ padded-push before part (omega arith);
            }

        then_more : Took side level taker quantity depths takers (before ++ part ∷ []) places (looks (traded b level o taker taken) (f.rest - taken)) (played (next (Live part)) t) (outcome (next (Live part)) t) (made (next (Live part)) t)
        then_more = more t (traded b level o taker taken) (with_part f part) (before ++ part ∷ []) amid_more (omega (arith, length_push before part))

      abbrev Cost : List Act → Type 0
      Cost ys = Costs level (acts ++ ys) (2 * suc places) (5 * suc places + 1) (suc places + 1) × PlaceCosts level (acts ++ ys) 1 1 1

      -- either the order was emptied, or nothing remains
      cost : (ys : List Act) → Costs level acts 2 (5 + unless (o.left == taken)) (1 + unless (o.left == taken)) → Costs level ys (2 * places) (5 * places + 1) (places + 1) → PlaceCosts level ys 1 1 1
          → (f.rest - taken ≡ 0 → ys ≡ []) → Cost ys
      cost ys look_costs more_costs more_places last = elim (cases_eq o.left taken) [
        | inl same ↦
            let emptied = ap unless (eq-eqb o.left taken same) in (
              costs-more (costs-append look_costs more_costs) (2 * suc places) (5 * suc places + 1) (suc places + 1) (omega arith) (omega (arith, emptied)) (omega (arith, emptied)),
              place-costs-append 0 0 0 1 1 1 (costs-more look_costs _ _ _ (omega (arith, seen)) (omega (arith, seen, emptied)) (omega (arith, seen, emptied))) more_places,
            )
        | inr other ↦
            let kept = ap unless (ne_eqb o.left taken other) in
            subst Cost (sym (last (omega (arith, other)))) (
              costs-more (costs-append look_costs (costs-none level)) (2 * suc places) (5 * suc places + 1) (suc places + 1) (omega arith) (omega (arith, kept)) (omega (arith, kept)),
              place-costs-append 0 1 1 1 0 0 (costs-more look_costs _ _ _ (omega (arith, seen)) (omega (arith, seen, kept)) (omega (arith, seen, kept))) (costs-more (costs-none level) _ _ _ (omega arith) (omega arith) (omega arith)),
            )
      ]

      goes-live : (look : Look) → IsLive b level side depths takers taker o taken 2 (5 + unless (o.left == taken)) (1 + unless (o.left == taken)) t look acts → Goes (Some o) t look acts
      goes-live look is = subst (λ l. Goes (Some o) t l acts) (sym is.look_is) (
          subst (λ l. Took side level taker quantity depths takers before (suc places) l (played (next (Live part)) t) (outcome (next (Live part)) t) (acts ++ made (next (Live part)) t))
          (sym (ap (λ c. cond c (looks (pass b level) f.rest) (first_part o taken (looks (traded b level o taker taken) (f.rest - taken)))) (ne_eqb o.left 0 (λ e. omega arith)))) (
          let then = then_more is.reflects in
          let costs = cost (made (next (Live part)) t) is.costs then.costs then.by_places (λ none. ap (λ (p : Script Filling). made p t) (take_parts-none side level (with_part f part) places none)) in
          record {
            amid = subst (Amid side level taker quantity depths takers (played (next (Live part)) t) (looks (traded b level o taker taken) (f.rest - taken)).book (outcome (next (Live part)) t)) (append_assoc before (part ∷ []) (looks (traded b level o taker taken) (f.rest - taken)).parts) then.amid;
            rest = then.rest;
            costs = costs.0;
            by_places = costs.1;
          }))

    goes-on : (front : Option Order) → front_order b level ≡ front → (t : State) (look : Look) (acts : List Act) → LooksAt side price priced taker taker_in_range amid.reflects below f.rest front t look acts → Goes front t look acts
    goes-on None e t look acts is = goes-nobody t look acts is
    goes-on (Some o) e t look acts is = elim is.1 [ inl dead ↦ goes-dead o t look acts is.0 dead | inr lives ↦ goes-live o e lives.0 t acts is.0 look lives.1 ]

    goes : Took side level taker quantity depths takers before (suc places) (look_at (front_order b level) level taker b f.rest looks)
        (played (bind (look_front side level f.rest) next) s) (outcome (bind (look_front side level f.rest) next) s) (made (bind (look_front side level f.rest) next) s)
    goes = ends-bind (look_front side level f.rest) next s (Took side level taker quantity depths takers before (suc places) (look_at (front_order b level) level taker b f.rest looks))
        (goes-on (front_order b level) refl _ _ _ (front-looks side price priced taker taker_in_range amid.reflects below f.rest some))

  takes-more : (places : ℕ) → Takes places → Takes (suc places)
  unfolding take_parts look
  takes-more places more s b f before amid room =
      elim (f.rest == 0) as (λ e. (f.rest == 0) ≡ e → TakesAs (suc places) s b f before (cond e (done f) (bind (look_front side level f.rest) (λ l. go_on l f (take_parts side level places)))) (cond e (ended b f.rest) (look_at (front_order b level) level taker b f.rest (look level taker places)))) [
        | true ↦ λ _. stays (suc places) s b f before amid
        | false ↦ λ e. goes places more s b f before amid room (eqb-false f.rest 0 e)
      ] refl

  takes-none : Takes 0
  unfolding take_parts look
  takes-none s b f before amid room = stays 0 s b f before amid

  pub takes-all : (places : ℕ) → Takes places
  takes-all zero = takes-none
  takes-all (suc places) = takes-more places (takes-all places)
