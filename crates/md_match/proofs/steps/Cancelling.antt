-- Cancelling an order, and looking up a depth, are steps of the matching book.
use Rattle.std.proofs.Common.{◌≡◌, ℕ, ◌+◌, ◌-◌, ◌<◌, ◌≤◌, ◌==◌, nat_lt, List, ◌∷◌, length, refl, sym, ap, subst, ◌∙◌, Option, Some, None, arith}
use Rattle.std.specs.Option.{option_map}
use Rattle.std.specs.FinMap as fin
use Rattle.std.proofs.lemmas.Bool.{and_parts, ltb-true, lt-ltb}
use Rattle.md_history.specs.declared.acts.Act.{Act}
use Rattle.md_history.specs.declared.acts.Op.TheVariants.{Remove}
use Rattle.md_history.specs.declared.acts.Reply.TheVariants.{Value}
use Rattle.md_history.specs.Act.{act_of}
use Rattle.md_history.specs.Counts.{AreFew}
use Rattle.md_history.specs.State.{State, map_at, after}
use Rattle.md_history.specs.Script.{Script, done, bind}
use Rattle.md_history.specs.Branches.{by_value}
use Rattle.md_history.proofs.Plays.{played, outcome, made, ends-bind}
use Rattle.md_book.specs.declared.commands.Side.{Side}
use Rattle.md_book.specs.declared.commands.Side.TheVariants.{Buy}
use Rattle.md_book.specs.declared.limits.TheConstants.{MAX_PRICE}
use Rattle.md_book.specs.declared.maps.TheConstants.{DEPTHS, OPEN_ORDERS}
use Rattle.md_book.specs.Book.{Order, Book, level_of, depth, sold, find_open}
use Rattle.md_book.specs.Stands.{left_in, level_in, unless_0, IsInRange}
use Rattle.md_book.specs.Scripts.{value_or_0}
use Rattle.md_book.proofs.books.Sizes.{HasMapsAndQueues}
use Rattle.md_book.proofs.books.Changes.{Sets}
use Rattle.md_book.proofs.books.ChangedBooks.{with_less}
use Rattle.md_book.proofs.books.Lessened.{find-has}
use Rattle.md_book.proofs.books.OpenOrders.{is_open}
use Rattle.md_book.proofs.books.Raises.{value_or_0-unless_0}
use Rattle.md_book.proofs.books.Reflects.{reflects-shows, reflects-same, reflects-depth, shows-reflects}
use Rattle.md_book.proofs.books.Unpacking.{left_in-packed, level_in-packed}
use Rattle.md_book.proofs.steps.Costs.{Costs, costs-append, costs-absent, costs-removed, costs-none, costs-get}
use Rattle.md_book.proofs.steps.Cancelling.{gone, in_range, lessened_reflects, depth_here, depth_other}
use Rattle.md_book.proofs.steps.TakingOut.{packed_order}
use Rattle.md_match.specs.declared.commands.MatchCommand.TheVariants.{Cancel, Depth}
use Rattle.md_match.specs.declared.commands.MatchReply.{MatchReply}
use Rattle.md_match.specs.declared.commands.MatchReply.TheVariants as reply
use Rattle.md_match.specs.declared.limits.TheConstants.{MATCH_READS, MATCH_WRITES, MATCH_NODES}
use Rattle.md_match.specs.declared.maps.TheConstants.{PRICE_BITS}
use Rattle.md_match.specs.Matching.{cancel_match}
use Rattle.md_match.specs.Stands.{has_depth, StandsForMatch}
use Rattle.md_match.specs.Scripts.{lower_level}
use Rattle.md_match.specs.Meets.{match_bounds}
use Rattle.md_match.proofs.prices.Changes.{shows-same}
use Rattle.md_match.proofs.prices.Depths.{Changed, lower-changed}
use Rattle.md_match.proofs.steps.Few.{within-costs}
use Rattle.md_match.proofs.steps.Frames.{reflects-beside}
use Rattle.md_match.proofs.steps.Looks.{depths-agree, deep-at}
use Rattle.md_match.proofs.steps.Stepping.{IsStep, MakesStep}

few : {q : ℕ} {acts : List Act} {r w n : ℕ} → Costs q acts r w n → r + 1 ≤ MATCH_READS → w + 3 ≤ MATCH_WRITES → n ≤ MATCH_NODES → AreFew match_bounds acts
few costs r w n = let all = within-costs costs in record { reads = omega (arith, all.reads_few); writes = omega (arith, all.writes_few); nodes = omega (arith, all.nodes_few) }

-- what follows once an order was found
abbrev book_cancelled : ℕ → ℕ → Script MatchReply
book_cancelled level left = bind (lower_level level left) (λ _. done (reply.Cancelled left))

abbrev found : ℕ → Script MatchReply
found order = book_cancelled (level_in order) (left_in order)

module _ (s : State) (b : Book) (name : ℕ) (room : HasMapsAndQueues s) (stands : StandsForMatch s b) where
  abbrev may : Type 0
  may = Unit {0}

  abbrev removed : State
  removed = after s (Remove OPEN_ORDERS name)

  out : Sets s removed OPEN_ORDERS name None
  out = gone s b name room stands.shows

  bits-still : map_at removed PRICE_BITS ≡ map_at s PRICE_BITS
  bits-still = out.other_maps PRICE_BITS (λ e. omega arith)

  below : PRICE_BITS < length removed.maps
  below = omega (arith, out.maps, stands.sized.maps)

  -- the step where the order of the name was such, or none
  abbrev CancelsAs : Option Order → Type 0
  CancelsAs f =
      let p = by_value (Value (option_map packed_order f)) (done reply.Gone) found in
      IsStep may (cancel_match b f) (played p removed) (outcome p removed) (act_of (Remove OPEN_ORDERS name) (Value (option_map packed_order f)) ∷ made p removed)

  cancels-none : find_open b name ≡ None → CancelsAs None
  cancels-none none = record {
    replied = refl;
    shows = λ _. reflects-shows removed b (depth b) (sold b) Buy (reflects-same (shows-reflects s b room stands.shows Buy) removed name (subst (Sets s removed OPEN_ORDERS name) (sym (ap (option_map packed_order) none)) out)) (λ _. refl) (λ _. refl);
    prices = shows-same bits-still (λ _ _. refl) stands.prices;
    few = few (costs-absent 0 OPEN_ORDERS name) (omega arith) (omega arith) (omega arith);
  }

  module _ (o : Order) (is : find_open b name ≡ Some o) where
    abbrev level : ℕ
    level = level_of o.side o.price

    abbrev less : Book
    less = with_less b o.name o.left

    in_book : IsInRange o
    in_book = in_range s b name room stands.shows o is

    abbrev i : ℕ
    i = o.price - 1

    some : 0 < o.left
    some = ltb-true 0 o.left (and_parts (o.name == name) (nat_lt 0 o.left) (find-has (is_open name) b.orders o is).1).1

    i-low : i < MAX_PRICE
    i-low = omega (arith, in_book.price.low, in_book.price.high)

    i-level : level_of o.side (i + 1) ≡ level
    i-level = let back : (o.price - 1) + 1 ≡ o.price = omega (arith, in_book.price.low) in ap (level_of o.side) back

    here : depth less level + o.left ≡ depth b level
    here = depth_here s b name room stands.shows o is

    less-left : depth less level ≡ depth b level - o.left
    less-left = omega (arith, here)

    lowered : Changed removed level (depth b level - o.left) (has_depth less) 0 3 7 1 (played (lower_level level o.left) removed) (made (lower_level level o.left) removed)
    lowered =
        subst (λ n. Changed removed n (depth b level - o.left) (has_depth less) 0 3 7 1 (played (lower_level n o.left) removed) (made (lower_level n o.left) removed)) i-level
        (lower-changed (has_depth less) (shows-same bits-still (λ _ _. refl) stands.prices) below o.side i i-low
        (depths-agree b less o.side i i-low (λ at apart. sym (depth_other s b name room stands.shows o is at (λ e. apart (e ∙ sym i-level))))) 0 (depth b level) o.left
        (subst (λ n. fin.get (map_at removed DEPTHS) n ≡ unless_0 (depth b level)) (sym i-level) (ap (λ m. fin.get m level) (out.other_maps DEPTHS (λ e. omega arith)) ∙ stands.shows.depths level))
        (omega (arith, here, some)) (deep-at b o.side i i-low ∙ ap (λ n. nat_lt 0 (depth b n)) i-level ∙ lt-ltb 0 (depth b level) (omega (arith, here, some)))
        (deep-at less o.side i i-low ∙ ap (λ n. nat_lt 0 (depth less n)) i-level ∙ ap (nat_lt 0) less-left))

    cancels : IsStep may (cancel_match b (Some o)) (played (book_cancelled level o.left) removed) (outcome (book_cancelled level o.left) removed) (act_of (Remove OPEN_ORDERS name) (Value (Some (packed_order o))) ∷ made (book_cancelled level o.left) removed)
    cancels = ends-bind (lower_level level o.left) (λ _. done (reply.Cancelled o.left)) removed (λ t r acts. IsStep may (cancel_match b (Some o)) t r (act_of (Remove OPEN_ORDERS name) (Value (Some (packed_order o))) ∷ acts))
        (record {
          replied = refl;
          shows = λ _. reflects-shows (played (lower_level level o.left) removed) less (depth less) (sold b) Buy
              (reflects-beside lowered.beside (reflects-depth (lessened_reflects s b name room stands.shows o is) lowered.mid level (subst (Sets removed lowered.mid DEPTHS level) (ap unless_0 (sym less-left)) lowered.sets) (depth_other s b name room stands.shows o is))) (λ _. refl) (λ _. refl);
          prices = lowered.prices;
          few = few (costs-append (costs-removed 0 OPEN_ORDERS name (packed_order o)) (costs-append lowered.costs (costs-none 0))) (omega arith) (omega arith) (omega arith);
        })

    cancels-some : CancelsAs (Some o)
    cancels-some =
        let P : ℕ → ℕ → Type 0 = λ at left. IsStep may (cancel_match b (Some o)) (played (book_cancelled at left) removed) (outcome (book_cancelled at left) removed) (act_of (Remove OPEN_ORDERS name) (Value (Some (packed_order o))) ∷ made (book_cancelled at left) removed) in
        subst (λ at. P at (left_in (packed_order o))) (sym (level_in-packed o.account o.price o.left in_book.price in_book.left o.side))
        (subst (P level) (sym (left_in-packed o.account o.price o.left in_book.price in_book.left o.side)) cancels)

  cancels-as : (f : Option Order) → find_open b name ≡ f → CancelsAs f
  cancels-as None is = cancels-none is
  cancels-as (Some o) is = cancels-some o is

  -- cancelling is a step
  pub cancel-steps : MakesStep s b (Cancel name)
  cancel-steps =
      subst (λ o. IsStep may (cancel_match b (find_open b name)) (played (by_value (Value o) (done reply.Gone) found) removed) (outcome (by_value (Value o) (done reply.Gone) found) removed) (act_of (Remove OPEN_ORDERS name) (Value o) ∷ made (by_value (Value o) (done reply.Gone) found) removed))
      (sym (stands.shows.orders name)) (cancels-as (find_open b name) refl)

-- looking up a depth is a step
pub depth-steps : (s : State) (b : Book) → StandsForMatch s b → (side : Side) (price : ℕ) → MakesStep s b (Depth side price)
depth-steps s b stands side price =
    let level = level_of side price in
    record {
      replied = ap (λ o. reply.Depth (value_or_0 (Value o))) (stands.shows.depths level) ∙ ap reply.Depth (value_or_0-unless_0 (depth b level));
      shows = λ _. stands.shows;
      prices = stands.prices;
      few = few (costs-get 0 DEPTHS level (fin.get (map_at s DEPTHS) level)) (omega arith) (omega arith) (omega arith);
    }
