-- Matching an order is one step of the matching book.
use Rattle.std.proofs.Common.{◌≡◌, ◌≢◌, ℕ, ◌+◌, ◌-◌, ◌^◌, ◌<◌, ◌≤◌, ◌==◌, nat_lt, Bool, true, false, cond, List, [], ◌++◌, length, refl, sym, ap, subst, ◌∙◌, arith}
use Rattle.std.specs.Prelude.{All, is_none}
use Rattle.std.proofs.lemmas.Bool.{and_parts, ltb-true}
use Rattle.std.proofs.lemmas.List.{append-nil, length-map}
use Rattle.md_history.specs.declared.acts.Act.{Act}
use Rattle.md_history.specs.Counts.{AreFew}
use Rattle.md_history.specs.State.{State}
use Rattle.md_history.specs.Script.{Script, done, bind}
use Rattle.md_history.proofs.Plays.{played, outcome, made, ends-bind}
use Rattle.md_book.specs.declared.commands.Side.{Side}
use Rattle.md_book.specs.Book.{Order, Book, IsAccount, IsPrice, level_of}
use Rattle.md_book.specs.Stands.{Shows}
use Rattle.md_book.specs.Commands.{IsPlace}
use Rattle.md_book.proofs.books.Orders.{with_order}
use Rattle.md_book.proofs.books.Reflects.{shows-reflects}
use Rattle.md_book.proofs.books.Sizes.{HasMapsAndQueues}
use Rattle.md_book.proofs.steps.Costs.{Costs, costs-append, costs-more, costs-none}
use Rattle.md_book.proofs.sums.SideSums.{taker_sum, at_account}
use Rattle.md_match.specs.declared.commands.MatchCommand.TheVariants.{Match}
use Rattle.md_match.specs.declared.commands.MatchReply.{MatchReply}
use Rattle.md_match.specs.declared.commands.MatchReply.TheVariants.{Matched}
use Rattle.md_match.specs.declared.limits.TheConstants.{MAX_LOOKS}
use Rattle.md_match.specs.declared.sweeping.Sweep.{Sweep}
use Rattle.md_match.specs.Matching.{opposite, Swept, MatchStep, taken_in, matched, settle, best_price, sweep}
use Rattle.md_match.specs.Stands.{StandsForMatch, ShowsPrices, has_depth}
use Rattle.md_match.specs.Sweeping.{unswept, sweep_levels, book_taker, place_rest, finish}
use Rattle.md_match.specs.Meets.{MayMatch, match_bounds}
use Rattle.md_match.proofs.sweeps.Sweeps.{placed_step, dropped_step}
use Rattle.md_match.proofs.trading.Parts.{sweep-map, sweep-All}
use Rattle.md_match.proofs.steps.Few.{within-costs, within-append}
use Rattle.md_match.proofs.steps.Finishing.{Booked, taker-booked, placing, places}
use Rattle.md_match.proofs.steps.Frames.{same-queues}
use Rattle.md_match.proofs.steps.Stepping.{IsStep, MakesStep}
use Rattle.md_match.proofs.steps.Sweeping.{SoFar, Sweeps, sweeps-all}

module _ (s : State) (b : Book) (room : HasMapsAndQueues s) (stands : StandsForMatch s b) (name account : ℕ) (side : Side) (price quantity : ℕ) (is : IsPlace name account price quantity) where
  abbrev from : Side
  from = opposite side

  abbrev takers : ℕ → ℕ
  takers = taker_sum from b

  abbrev limit_in : IsPrice price
  limit_in = is.offer.priced

  abbrev account_in : IsAccount account
  account_in = is.offer.in_range

  abbrev l : Swept
  l = sweep account side price MAX_LOOKS b quantity

  abbrev may : Type 0
  may = MayMatch b (Match name account side price quantity)

  -- the order, if so much of it is placed
  abbrev rest_of : ℕ → Order
  rest_of left = record { name = name; account = account; side = side; price = price; left = left }

  no-lag : (own at n : ℕ) → n ≡ n + at_account own at 0
  no-lag own at n = elim (own == at) as (λ t. n ≡ n + cond t 0 0) [ true ↦ omega arith | false ↦ omega arith ]

  begun : SoFar side price limit_in account account_in takers quantity s b (unswept quantity) []
  begun = record {
    amid = record {
      maps = omega (arith, stands.sized.maps);
      reflects = shows-reflects s b room stands.shows from;
      prices = stands.prices;
      lag = λ at. no-lag account at (taker_sum from b at);
    };
    remains = omega arith;
    count = refl;
    parts = refl;
  }

  abbrev sweeping : Script Sweep
  sweeping = sweep_levels side price MAX_LOOKS (unswept quantity)

  swept-all : Sweeps side price limit_in account account_in takers quantity [] MAX_LOOKS l (played sweeping s) (outcome sweeping s) (made sweeping s)
  swept-all = sweeps-all side price limit_in account account_in takers quantity MAX_LOOKS s b (unswept quantity) [] begun refl (omega arith)

  -- the name is new to the book after the sweep too, and there is room
  still-may : may → All (λ o. o.name ≢ name) l.book.orders × (length l.book.orders + 1 < 2 ^ 32)
  still-may allowed = (
    sweep-All account side price (λ o. o.name ≢ name) (λ _ _ _ apart. apart) MAX_LOOKS b quantity allowed.0,
    omega (arith, allowed.1, ap length (sweep-map account side price (λ (o : Order). o.name) (λ _ _. refl) MAX_LOOKS b quantity), length-map l.book.orders (λ (o : Order). o.name), length-map b.orders (λ (o : Order). o.name)),
  )

  module _ (t : State) (f : Sweep) (acts : List Act) (queues : length t.queues ≡ length s.queues) (sweeps : Sweeps side price limit_in account account_in takers quantity [] MAX_LOOKS l t f acts) where
    abbrev taken : ℕ
    taken = quantity - f.rest

    taken-is : taken ≡ taken_in l.parts
    taken-is = omega (arith, sweeps.so_far.remains)

    abbrev q : ℕ
    q = level_of side price

    abbrev u : State
    u = played (book_taker from account taken) t

    booked : Booked l.book q u (made (book_taker from account taken) t)
    booked = subst (λ n. Booked l.book q (played (book_taker from account n) t) (made (book_taker from account n) t)) (sym taken-is)
        (taker-booked from account takers (taken_in l.parts) sweeps.so_far.amid q)

    abbrev replying : ℕ → Script MatchReply
    replying placed = done (Matched taken placed (f.rest - placed) f.count f.parts)

    -- the reply, by what is placed
    replied : (placed dropped : ℕ) → f.rest - placed ≡ dropped → Matched taken placed (f.rest - placed) f.count f.parts ≡ matched l.parts placed dropped
    replied placed dropped e =
        ap (λ n. Matched n placed (f.rest - placed) f.count f.parts) taken-is
        ∙ ap (λ n. Matched (taken_in l.parts) placed n f.count f.parts) e
        ∙ ap (λ n. Matched (taken_in l.parts) placed dropped n f.parts) sweeps.so_far.count
        ∙ ap (Matched (taken_in l.parts) placed dropped (length l.parts)) sweeps.so_far.parts

    -- what is placed and replied, if there is a price left or not
    abbrev Ends : Bool → Type 0
    Ends clear =
        let p = bind (cond clear (placing (rest_of f.rest)) (done 0)) replying in
        IsStep may (cond clear (placed_step l (rest_of quantity)) (dropped_step l)) (played p u) (outcome p u) (acts ++ (made (book_taker from account taken) t ++ made p u))

    all-few : {xs : List Act} → Costs q xs 4 13 5 → AreFew match_bounds (acts ++ (made (book_taker from account taken) t ++ xs))
    all-few costs =
        let all = within-append sweeps.few (within-costs (costs-append booked.costs costs)) in
        record { reads = omega (arith, all.reads_few); writes = omega (arith, all.writes_few); nodes = omega (arith, all.nodes_few) }

    dropped : Ends false
    dropped = record {
      replied = replied 0 l.rest (omega (arith, sweeps.rest));
      shows = λ _. booked.shows;
      prices = booked.prices;
      few = all-few (costs-more (costs-none q) 4 13 5 (omega arith) (omega arith) (omega arith));
    }

    placed : f.clear ≡ true → Ends true
    placed clear =
        let both = and_parts (nat_lt 0 l.rest) (is_none (best_price l.book side price)) (sym sweeps.clear ∙ clear) in
        let some : 1 ≤ f.rest = omega (arith, sweeps.rest, ltb-true 0 l.rest both.0) in
        let offered : IsPlace name account price f.rest = record { named = is.named; offer = record { in_range = is.offer.in_range; priced = is.offer.priced; quantity_low = some; quantity_high = omega (arith, sweeps.so_far.remains, is.offer.quantity_high) } } in
        let now = places u l.book (rest_of f.rest) booked.maps (record { maps = omega (arith, booked.maps); queues = omega (arith, room.queues, queues, same-queues (book_taker from account taken) t) }) booked.shows booked.prices offered in
        ends-bind (placing (rest_of f.rest)) replying u (λ v r xs. IsStep may (placed_step l (rest_of quantity)) v r (acts ++ (made (book_taker from account taken) t ++ xs))) (record {
          replied = let all = now.all in replied (outcome (placing (rest_of f.rest)) u) 0 (omega (arith, all)) ∙ ap (λ n. matched l.parts n 0) (all ∙ sweeps.rest);
          shows = λ allowed. subst (λ n. Shows (played (placing (rest_of f.rest)) u) (with_order l.book (rest_of n))) sweeps.rest (now.is_placed.shows (still-may allowed));
          prices = subst (λ n. ShowsPrices (played (placing (rest_of f.rest)) u) (has_depth (with_order l.book (rest_of n)))) sweeps.rest now.is_placed.prices;
          few = all-few (subst (λ xs. Costs q xs 4 13 5) (sym (append-nil (made (placing (rest_of f.rest)) u))) now.is_placed.costs);
        })

    ends : Ends f.clear
    ends = elim f.clear as (λ c. f.clear ≡ c → Ends c) [ true ↦ λ e. placed e | false ↦ λ _. dropped ] refl

    abbrev Finishes : MatchStep → Type 0
    Finishes step = let p = finish name account side price quantity f in IsStep may step (played p t) (outcome p t) (acts ++ made p t)

    finishes : Finishes (settle l (rest_of quantity))
    finishes =
        subst Finishes (ap (λ c. cond c (placed_step l (rest_of quantity)) (dropped_step l)) sweeps.clear)
        (ends-bind (book_taker from account taken) (λ _. bind (place_rest name account side price f) replying) t
        (λ v r xs. IsStep may (cond f.clear (placed_step l (rest_of quantity)) (dropped_step l)) v r (acts ++ xs)) ends)

  -- matching is a step
  pub match-steps : MakesStep s b (Match name account side price quantity)
  match-steps = ends-bind sweeping (finish name account side price quantity) s (IsStep may (settle l (rest_of quantity)))
      (finishes (played sweeping s) (outcome sweeping s) (made sweeping s) (same-queues sweeping s) swept-all)
