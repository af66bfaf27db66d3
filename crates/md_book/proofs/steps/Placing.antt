-- Placing an order is one step of the book.
use Rattle.std.proofs.Common.{◌≡◌, ◌≢◌, ℕ, ◌+◌, ◌<◌, [], ◌∷◌, ◌++◌, map, length, drop, refl, sym, ap, subst, ◌∙◌, Some, arith}
use Rattle.std.specs.Prelude.{is_none}
use Rattle.std.specs.FinMap as fin
use Rattle.md_history.specs.declared.acts.Op.TheVariants.{Insert, Enqueue}
use Rattle.md_history.specs.declared.acts.Reply.TheVariants.{Flag, Nothing}
use Rattle.md_history.specs.Act.{act_of}
use Rattle.md_history.specs.State.{State, map_at, queue_at, after}
use Rattle.md_history.specs.Counts.{AreFew}
use Rattle.md_history.specs.Script.{done}
use Rattle.md_history.proofs.Plays.{played, made, played-bind, outcome-bind, ends-bind}
use Rattle.md_book.specs.declared.commands.Side.{Side}
use Rattle.md_book.specs.declared.commands.Side.TheVariants.{Buy, Sell}
use Rattle.md_book.specs.declared.commands.Command.TheVariants.{Place}
use Rattle.md_book.specs.declared.commands.BookReply.TheVariants.{Placed}
use Rattle.md_book.specs.declared.maps.TheConstants.{BOUGHT, DEPTHS, LEVELS, OPEN_ORDERS, SOLD}
use Rattle.md_book.specs.Book.{IsPrice, Order, Book, level_of, orders_at, depth}
use Rattle.md_book.specs.Stands.{packed, open_order, unless_0, Shows}
use Rattle.md_book.specs.Scripts.{place, raise}
use Rattle.md_book.specs.Commands.{IsPlace}
use Rattle.md_book.specs.Meets.{MayTake, command_bounds}
use Rattle.md_book.proofs.books.Sizes.{HasMapsAndQueues}
use Rattle.md_book.proofs.books.Changes.{at_each, Sets, Lines, insert-sets, enqueue-lines, map_at-lines, queue_at-sets}
use Rattle.md_book.proofs.books.Raises.{raise-sets}
use Rattle.md_book.proofs.steps.Costs.{costs-append, costs-none, costs-insert, costs-enqueue, few-cost}
use Rattle.md_book.proofs.books.Replacing.{raise-costs}
use Rattle.md_book.proofs.steps.Stepping.{MakesStep}
use Rattle.md_book.proofs.books.Orders.{with_order, depth-room, depth-here, depth-other, open_order-new, open_order-here, open_order-other, names-here, names-other, sound-with_order}

-- a level has a queue
pub level_of-below : (side : Side) (price : ℕ) → IsPrice price → level_of side price < LEVELS
level_of-below Buy price is = omega arith
level_of-below Sell price is = omega arith

-- placing is few acts, whatever the name
pub place-few : (s : State) (o : Order) → AreFew command_bounds (made (place o.name o.account o.side o.price o.left) s)
place-few s o =
    let level = level_of o.side o.price in
    let order = packed o.account o.side o.price o.left in
    let t = after (after s (Insert OPEN_ORDERS o.name order)) (Enqueue level o.name) in
    let new = is_none (fin.get (map_at s OPEN_ORDERS) o.name) in
    ends-bind (raise DEPTHS level o.left) (λ _. done Placed) t (λ _ _ acts. AreFew command_bounds (act_of (Insert OPEN_ORDERS o.name order) (Flag new) ∷ act_of (Enqueue level o.name) Nothing ∷ acts))
    (few-cost (costs-append (costs-insert level OPEN_ORDERS o.name order new) (costs-append (costs-enqueue level o.name)
    (costs-append (raise-costs level t DEPTHS level o.left) (costs-none level))))
    (omega arith) (omega arith) (omega arith))

module _ (s : State) (b : Book) (o : Order) (room : HasMapsAndQueues s) (shows : Shows s b) (is : IsPlace o.name o.account o.price o.left) (may : MayTake b (Place o.name o.account o.side o.price o.left)) where
  abbrev level : ℕ
  level = level_of o.side o.price

  abbrev pub after_insert : State
  after_insert = after s (Insert OPEN_ORDERS o.name (packed o.account o.side o.price o.left))

  abbrev pub after_enqueue : State
  after_enqueue = after after_insert (Enqueue level o.name)

  inserted : Sets s after_insert OPEN_ORDERS o.name (Some (packed o.account o.side o.price o.left))
  inserted = insert-sets s OPEN_ORDERS o.name _ (omega (arith, room.maps)) (shows.orders o.name ∙ open_order-new b o may.0)

  lined : Lines after_insert after_enqueue level (queue_at after_insert level ++ o.name ∷ [])
  lined = enqueue-lines after_insert level o.name (omega (arith, level_of-below o.side o.price is.offer.priced, ap length inserted.queues, room.queues))

  -- other maps are as they were
  pub other_map : (m : ℕ) → m ≢ OPEN_ORDERS → map_at after_enqueue m ≡ map_at s m
  other_map m h = map_at-lines lined m ∙ inserted.other_maps m h

  -- there are as many maps as before
  pub enqueued-maps : length after_enqueue.maps ≡ length s.maps
  enqueued-maps = ap length lined.maps ∙ inserted.maps

  -- the level's depth is as before
  pub enqueued-depth : fin.get (map_at after_enqueue DEPTHS) level ≡ unless_0 (depth b level)
  enqueued-depth = ap (λ t. fin.get t level) (other_map DEPTHS (λ e. omega arith)) ∙ shows.depths level

  -- the level's depth has grown as well
  module _ {t : State} (raised : Sets after_enqueue t DEPTHS level (unless_0 (depth b level + o.left))) where
    untouched_map : (m : ℕ) → m ≢ OPEN_ORDERS → m ≢ DEPTHS → map_at t m ≡ map_at s m
    untouched_map m h k = raised.other_maps m k ∙ other_map m h

    queue : (q : ℕ) → queue_at t q ≡ queue_at after_enqueue q
    queue = queue_at-sets raised

    orders_stand : (name : ℕ) → fin.get (map_at t OPEN_ORDERS) name ≡ open_order (with_order b o) name
    orders_stand name =
        ap (λ t. fin.get t name) (raised.other_maps OPEN_ORDERS (λ e. omega arith) ∙ map_at-lines lined OPEN_ORDERS)
        ∙ at_each (λ n. fin.get (map_at after_insert OPEN_ORDERS) n ≡ open_order (with_order b o) n) o.name
        (inserted.here ∙ sym (open_order-here b o may.0 is.offer.quantity_low))
        (λ n h. inserted.other_keys n h ∙ shows.orders n ∙ sym (open_order-other b o n h))
        name

    depths_stand : (at : ℕ) → fin.get (map_at t DEPTHS) at ≡ unless_0 (depth (with_order b o) at)
    depths_stand = at_each (λ at. fin.get (map_at t DEPTHS) at ≡ unless_0 (depth (with_order b o) at)) level
        (raised.here ∙ ap unless_0 (sym (depth-here b o level refl)))
        (λ at h. raised.other_keys at h ∙ ap (λ t. fin.get t at) (other_map DEPTHS (λ e. omega arith)) ∙ shows.depths at ∙ ap unless_0 (sym (depth-other b o at h)))

    names_stand : (at : ℕ) → at < LEVELS → queue_at t at ≡ drop (b.passed at) (map (λ p. p.name) (orders_at (with_order b o) at))
    names_stand = at_each (λ at. at < LEVELS → queue_at t at ≡ drop (b.passed at) (map (λ p. p.name) (orders_at (with_order b o) at))) level
        (λ below. queue level ∙ lined.here ∙ ap (λ xs. xs ++ o.name ∷ []) (queue_at-sets inserted level ∙ shows.names level below) ∙ sym (names-here b o level refl (shows.sound.passed level)))
        (λ at h below. queue at ∙ lined.others at h ∙ queue_at-sets inserted at ∙ shows.names at below ∙ sym (names-other b o at h))

    -- the maps and queues show the book with the order
    pub placed-shows : Shows t (with_order b o)
    placed-shows = record {
      sound = sound-with_order b o may.0 shows.sound may.1 (record { account = is.offer.in_range; price = is.offer.priced; left = is.offer.quantity_high });
      orders = orders_stand;
      depths = depths_stand;
      bought = λ account. ap (λ t. fin.get t account) (untouched_map BOUGHT (λ e. omega arith) (λ e. omega arith)) ∙ shows.bought account;
      sold = λ account. ap (λ t. fin.get t account) (untouched_map SOLD (λ e. omega arith) (λ e. omega arith)) ∙ shows.sold account;
      names = names_stand;
    }

  abbrev after_raise : State
  after_raise = played (raise DEPTHS level o.left) after_enqueue

  raised_depth : Sets after_enqueue after_raise DEPTHS level (unless_0 (depth b level + o.left))
  raised_depth = raise-sets after_enqueue DEPTHS level (depth b level) o.left (omega (arith, room.maps, enqueued-maps)) enqueued-depth (λ e. omega (arith, e, is.offer.quantity_low)) (depth-room b level o.left shows.sound is.offer.quantity_high)

  pub place-steps : MakesStep s b (Place o.name o.account o.side o.price o.left)
  place-steps = record {
    replied = outcome-bind (raise DEPTHS level o.left) (λ _. done Placed) after_enqueue;
    shows = subst (λ t. Shows t (with_order b o)) (sym (played-bind (raise DEPTHS level o.left) (λ _. done Placed) after_enqueue)) (placed-shows raised_depth);
    few = place-few s o;
  }
