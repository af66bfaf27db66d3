-- After a sweep the taker's sum is raised, and what remains is placed or dropped.
use Rattle.std.proofs.Common.{◌≡◌, ◌≢◌, ℕ, ◌+◌, ◌-◌, ◌^◌, ◌<◌, ◌≤◌, ◌==◌, nat_lt, true, false, cond, List, [], ◌∷◌, length, refl, sym, ap, subst, ◌∙◌, arith}
use Rattle.std.specs.Prelude.{All, is_none}
use Rattle.std.specs.FinMap as fin
use Rattle.std.proofs.lemmas.Bool.{eqb-true, eqb-false, eq-eqb, ne_eqb, lt-ltb, cond_both}
use Rattle.md_history.specs.declared.acts.Act.{Act}
use Rattle.md_history.specs.declared.acts.Op.TheVariants.{Insert, Enqueue}
use Rattle.md_history.specs.declared.acts.Reply.TheVariants.{Flag, Nothing}
use Rattle.md_history.specs.Act.{act_of}
use Rattle.md_history.specs.State.{State, map_at, with_map, after}
use Rattle.md_history.specs.Script.{Script, done, call, bind}
use Rattle.md_history.proofs.Runs.{length-maps}
use Rattle.md_history.proofs.Plays.{played, outcome, made, ends-bind}
use Rattle.std.proofs.lemmas.List.{get_or-set_other}
use Rattle.md_book.specs.declared.commands.Side.{Side}
use Rattle.md_book.specs.declared.limits.TheConstants.{MAX_PRICE}
use Rattle.md_book.specs.declared.maps.TheConstants.{OPEN_ORDERS, DEPTHS}
use Rattle.md_book.specs.Book.{Order, Book, level_of, depth}
use Rattle.md_book.specs.Stands.{packed, unless_0, Shows}
use Rattle.md_book.specs.Scripts.{raise}
use Rattle.md_book.specs.Filling.{taker_sums}
use Rattle.md_book.specs.Commands.{IsPlace}
use Rattle.md_book.proofs.books.Changes.{Sets}
use Rattle.md_book.proofs.books.Orders.{with_order, depth-room, depth-here, depth-other}
use Rattle.md_book.proofs.books.Raises.{raise-sets}
use Rattle.md_book.proofs.books.Reflects.{reflects-shows, reflects-taker}
use Rattle.md_book.proofs.books.Replacing.{raise-costs}
use Rattle.md_book.proofs.books.Sizes.{HasMapsAndQueues}
use Rattle.md_book.proofs.steps.Costs.{Costs, costs-append, costs-more, costs-none, costs-insert, costs-enqueue}
use Rattle.md_book.proofs.steps.Placing.{placed-shows}
use Rattle.md_book.proofs.sums.SideSums.{taker_sum, at_account, taker_sum-le, sums-low, traded-room}
use Rattle.md_match.specs.declared.maps.TheConstants.{MATCH_MAPS, PRICE_BITS}
use Rattle.md_match.specs.Stands.{has_depth, ShowsPrices}
use Rattle.md_match.specs.Scripts.{raise_level}
use Rattle.md_match.specs.Sweeping.{book_taker}
use Rattle.md_match.proofs.prices.Changes.{shows-same}
use Rattle.md_match.proofs.prices.Depths.{Changed, raise-changed}
use Rattle.md_match.proofs.steps.Frames.{spared, same-maps, spares-taker, shows-beside}
use Rattle.md_match.proofs.steps.Looks.{Amid, depths-agree, deep-at}

-- the taker's sum has caught up: the maps and queues show the book
pub record Booked (b : Book) (q : ℕ) (t : State) (acts : List Act) : Type 0 where
  pub shows : Shows t b
  pub prices : ShowsPrices t (has_depth b)
  pub maps : MATCH_MAPS ≤ length t.maps
  pub costs : Costs q acts 1 3 1

module _ (from : Side) (taker : ℕ) (takers : ℕ → ℕ) {s : State} {b : Book} (taken : ℕ) (amid : Amid from taker takers s b taken) (q : ℕ) where
  nothing-taken : (own at : ℕ) → taken ≡ 0 → at_account own at taken ≡ 0
  nothing-taken own at none = elim (own == at) as (λ t. cond t taken 0 ≡ 0) [ true ↦ none | false ↦ refl ]

  none-booked : taken ≡ 0 → Booked b q s []
  none-booked none = record {
    shows = reflects-shows s b (depth b) takers from amid.reflects (λ _. refl) (λ account. omega (arith, amid.lag account, nothing-taken taker account none));
    prices = amid.prices;
    maps = amid.maps;
    costs = costs-more (costs-none q) 1 3 1 (omega arith) (omega arith) (omega arith);
  }

  abbrev raised : State
  raised = played (raise (taker_sums from) taker taken) s

  some-booked : taken ≢ 0 → Booked b q raised (made (raise (taker_sums from) taker taken) s)
  some-booked some =
      let r = amid.reflects in
      let own : at_account taker taker taken ≡ taken = ap (λ t. cond t taken 0) (eq-eqb taker taker refl) in
      let new_sum : takers taker + taken ≡ taker_sum from b taker = omega (arith, amid.lag taker, own) in
      let below : taker_sums from < length s.maps = omega (arith, r.maps, (sums-low from).1) in
      let sets = subst (λ n. Sets s raised (taker_sums from) taker (unless_0 n)) new_sum
      (raise-sets s (taker_sums from) taker (takers taker) taken below (r.has_takers taker) some (omega (arith, new_sum, taker_sum-le b taker from, traded-room b r.sound))) in
      let others : (account : ℕ) → account ≢ taker → takers account ≡ taker_sum from b account = λ account apart.
      omega (arith, amid.lag account, (let no : at_account taker account taken ≡ 0 = ap (λ t. cond t taken 0) (ne_eqb taker account (λ e. apart (sym e))) in no)) in
      record {
        shows = reflects-shows raised b (depth b) (taker_sum from b) from (reflects-taker r raised taker sets others) (λ _. refl) (λ _. refl);
        prices = shows-same (spared (raise (taker_sums from) taker taken) s (spares-taker from taker taken)) (λ _ _. refl) amid.prices;
        maps = omega (arith, same-maps (raise (taker_sums from) taker taken) s, amid.maps);
        costs = raise-costs q s (taker_sums from) taker taken;
      }

  -- raising the taker's sum, or nothing if nothing was taken
  pub taker-booked : Booked b q (played (book_taker from taker taken) s) (made (book_taker from taker taken) s)
  taker-booked = elim (taken == 0) as (λ t. (taken == 0) ≡ t → Booked b q (played {R = Unit {0}} (cond t (done tt) (raise (taker_sums from) taker taken)) s) (made {R = Unit {0}} (cond t (done tt) (raise (taker_sums from) taker taken)) s)) [
    | true ↦ λ e. none-booked (eqb-true taken 0 e)
    | false ↦ λ e. some-booked (eqb-false taken 0 e)
  ] refl

insert-other : (s : State) (m k v j : ℕ) → j ≢ m → map_at (after s (Insert m k v)) j ≡ map_at s j
insert-other s m k v j apart =
    cond_both (is_none (fin.get (map_at s m) k)) (with_map s m (fin.insert (map_at s m) k v)) s (λ t. map_at t j ≡ map_at s j)
    (λ _. get_or-set_other s.maps m j (fin.insert (map_at s m) k v) fin.empty apart) (λ _. refl)

-- the script by which an order joins the book
abbrev pub placing : Order → Script ℕ
placing o =
    call (Insert OPEN_ORDERS o.name (packed o.account o.side o.price o.left)) (λ _. call (Enqueue (level_of o.side o.price) o.name) (λ _.
    bind (raise_level (level_of o.side o.price) o.left) (λ _. done o.left)))

-- an order joins the book; the maps and queues show it where its name is new and there is room
pub record Placed (may : Type 0) (b : Book) (q : ℕ) (t : State) (acts : List Act) : Type 0 where
  pub shows : may → Shows t b
  pub prices : ShowsPrices t (has_depth b)
  pub costs : Costs q acts 4 13 5

module _ (s : State) (b : Book) (o : Order) (maps : MATCH_MAPS ≤ length s.maps) (room : HasMapsAndQueues s) (shows : Shows s b) (prices : ShowsPrices s (has_depth b)) (is : IsPlace o.name o.account o.price o.left) where
  abbrev level : ℕ
  level = level_of o.side o.price

  abbrev i : ℕ
  i = o.price - 1

  i-low : i < MAX_PRICE
  i-low = omega (arith, is.offer.priced.low, is.offer.priced.high)

  i-level : level_of o.side (i + 1) ≡ level
  i-level = let back : (o.price - 1) + 1 ≡ o.price = omega (arith, is.offer.priced.low) in ap (level_of o.side) back

  abbrev order : ℕ
  order = packed o.account o.side o.price o.left

  abbrev e : State
  e = after (after s (Insert OPEN_ORDERS o.name order)) (Enqueue level o.name)

  other : (j : ℕ) → j ≢ OPEN_ORDERS → map_at e j ≡ map_at s j
  other j apart = insert-other s OPEN_ORDERS o.name order j apart

  below : PRICE_BITS < length e.maps
  below = omega (arith, length-maps s (Insert OPEN_ORDERS o.name order), maps)

  raised-level : Changed e level (depth b level + o.left) (has_depth (with_order b o)) level 3 9 3 (played (raise_level level o.left) e) (made (raise_level level o.left) e)
  raised-level =
      subst (λ n. Changed e n (depth b level + o.left) (has_depth (with_order b o)) level 3 9 3 (played (raise_level n o.left) e) (made (raise_level n o.left) e)) i-level
      (raise-changed (has_depth (with_order b o)) (shows-same (other PRICE_BITS (λ f. omega arith)) (λ _ _. refl) prices) below o.side i i-low
      (depths-agree b (with_order b o) o.side i i-low (λ at apart. depth-other b o at (λ f. apart (f ∙ sym i-level)))) level (depth b level) o.left
      (subst (λ n. fin.get (map_at e DEPTHS) n ≡ unless_0 (depth b level)) (sym i-level) (ap (λ m. fin.get m level) (other DEPTHS (λ f. omega arith)) ∙ shows.depths level))
      (omega (arith, is.offer.quantity_low)) (depth-room b level o.left shows.sound is.offer.quantity_high)
      (deep-at b o.side i i-low ∙ ap (λ n. nat_lt 0 (depth b n)) i-level)
      (deep-at (with_order b o) o.side i i-low ∙ ap (λ n. nat_lt 0 (depth (with_order b o) n)) i-level ∙ lt-ltb 0 (depth (with_order b o) level) (omega (arith, depth-here b o level refl, is.offer.quantity_low))))

  abbrev May : Type 0
  May = All (λ p. p.name ≢ o.name) b.orders × (length b.orders + 1 < 2 ^ 32)

  -- what placing leaves and answers
  pub record IsPlacing (t : State) (placed : ℕ) (acts : List Act) : Type 0 where
    pub all : placed ≡ o.left
    pub is_placed : Placed May (with_order b o) level t acts

  -- placing an order
  pub places : IsPlacing (played (placing o) s) (outcome (placing o) s) (made (placing o) s)
  places =
      let changed = raised-level in
      ends-bind (raise_level level o.left) (λ _. done o.left) e
      (λ t placed acts. IsPlacing t placed (act_of (Insert OPEN_ORDERS o.name order) (Flag (is_none (fin.get (map_at s OPEN_ORDERS) o.name))) ∷ act_of (Enqueue level o.name) Nothing ∷ acts)) (record {
        all = refl;
        is_placed = record {
          shows = λ may. shows-beside changed.beside (placed-shows s b o room shows is may changed.sets);
          prices = changed.prices;
          costs = costs-append (costs-insert level OPEN_ORDERS o.name order (is_none (fin.get (map_at s OPEN_ORDERS) o.name))) (costs-append (costs-enqueue level o.name) (costs-append changed.costs (costs-none level)));
        };
      })
