-- Maps and queues that stand for a book but for the depths and the takers' sums, as they do while it is filled.
use Rattle.std.proofs.Common.{◌≡◌, ◌≢◌, ℕ, ◌+◌, ◌<◌, ◌≤◌, zero, suc, cond, List, [], ◌∷◌, map, length, drop, refl, sym, ap, ◌∙◌, arith}
use Rattle.std.specs.Prelude.{slice_get}
use Rattle.std.specs.Option.{option_map}
use Rattle.std.specs.FinMap as fin
use Rattle.std.proofs.lemmas.Bool.{eq-eqb, ne_eqb}
use Rattle.std.proofs.lemmas.List.{drop-drop}
use Rattle.std.proofs.lemmas.Option.{slice_get-map}
use Rattle.md_history.specs.State.{State, map_at, queue_at}
use Rattle.md_book.specs.declared.commands.Side.{Side}
use Rattle.md_book.specs.declared.commands.Side.TheVariants.{Buy, Sell}
use Rattle.md_book.specs.declared.maps.TheConstants.{BOUGHT, DEPTHS, LEVELS, MAPS, OPEN_ORDERS, SOLD}
use Rattle.md_book.specs.Book.{Order, Trade, Book, orders_at, depth, bought, sold, lessened, front_order, pass}
use Rattle.md_book.specs.Stands.{open_order, unless_0, IsSound, Shows}
use Rattle.md_book.specs.Filling.{resting_sums, taker_sums}
use Rattle.md_book.proofs.books.Sizes.{HasMapsAndQueues}
use Rattle.md_book.proofs.books.Changes.{at_each, Sets, Lines, map_at-lines, queue_at-sets}
use Rattle.md_book.proofs.books.ChangedBooks.{with_less, sound-with_less, names-with_less, open_order-with_less_other, passed-here, passed-other, with_trade}
use Rattle.md_book.proofs.sums.SideSums.{resting_sum, taker_sum, resting_apart, at_account, resting_sum-with_trade}

-- the maps and queues are a book's, but the map of depths and that of takers' sums have these
pub record Reflects (s : State) (b : Book) (side : Side) (depths takers : ℕ → ℕ) : Type 0 where
  pub maps : MAPS ≤ length s.maps
  pub queues : LEVELS ≤ length s.queues
  pub sound : IsSound b
  pub orders : (name : ℕ) → fin.get (map_at s OPEN_ORDERS) name ≡ open_order b name
  pub has_depths : (level : ℕ) → fin.get (map_at s DEPTHS) level ≡ unless_0 (depths level)
  pub resting : (account : ℕ) → fin.get (map_at s (resting_sums side)) account ≡ unless_0 (resting_sum side b account)
  pub has_takers : (account : ℕ) → fin.get (map_at s (taker_sums side)) account ≡ unless_0 (takers account)
  pub names : (level : ℕ) → level < LEVELS → queue_at s level ≡ drop (b.passed level) (map (λ o. o.name) (orders_at b level))

module _ (s : State) (b : Book) where
  module _ (room : HasMapsAndQueues s) (shows : Shows s b) where
    resting_stand : (side : Side) (account : ℕ) → fin.get (map_at s (resting_sums side)) account ≡ unless_0 (resting_sum side b account)
    resting_stand Buy account = shows.bought account
    resting_stand Sell account = shows.sold account

    takers_stand : (side : Side) (account : ℕ) → fin.get (map_at s (taker_sums side)) account ≡ unless_0 (taker_sum side b account)
    takers_stand Buy account = shows.sold account
    takers_stand Sell account = shows.bought account

    pub shows-reflects : (side : Side) → Reflects s b side (depth b) (taker_sum side b)
    shows-reflects side = record {
      maps = room.maps;
      queues = room.queues;
      sound = shows.sound;
      orders = shows.orders;
      has_depths = shows.depths;
      resting = resting_stand side;
      has_takers = takers_stand side;
      names = shows.names;
    }

  module _ (depths takers : ℕ → ℕ) where
    bought_stand : (side : Side) → Reflects s b side depths takers → ((account : ℕ) → takers account ≡ taker_sum side b account) → (account : ℕ) → fin.get (map_at s BOUGHT) account ≡ unless_0 (bought b account)
    bought_stand Buy r same account = r.resting account
    bought_stand Sell r same account = r.has_takers account ∙ ap unless_0 (same account)

    sold_stand : (side : Side) → Reflects s b side depths takers → ((account : ℕ) → takers account ≡ taker_sum side b account) → (account : ℕ) → fin.get (map_at s SOLD) account ≡ unless_0 (sold b account)
    sold_stand Buy r same account = r.has_takers account ∙ ap unless_0 (same account)
    sold_stand Sell r same account = r.resting account

    -- where those are the book's, they show it
    pub reflects-shows : (side : Side) → Reflects s b side depths takers → ((level : ℕ) → depths level ≡ depth b level) → ((account : ℕ) → takers account ≡ taker_sum side b account) → Shows s b
    reflects-shows side r same_depths same_takers = record {
      sound = r.sound;
      orders = r.orders;
      depths = λ level. r.has_depths level ∙ ap unless_0 (same_depths level);
      bought = bought_stand side r same_takers;
      sold = sold_stand side r same_takers;
      names = r.names;
    }

pub get-drop : {X : Type 0} (n : ℕ) (xs : List X) → slice_get (drop n xs) 0 ≡ slice_get xs n
get-drop zero [] = refl
get-drop zero (x ∷ xs) = refl
get-drop (suc n) [] = refl
get-drop (suc n) (x ∷ xs) = get-drop n xs

-- the first name that waits at a level is that of the order at its front
pub reflects-front : {s : State} {b : Book} {side : Side} {depths takers : ℕ → ℕ} → Reflects s b side depths takers → (level : ℕ) → level < LEVELS → slice_get (queue_at s level) 0 ≡ option_map (λ o. o.name) (front_order b level)
reflects-front {b = b} r level below =
    ap (λ xs. slice_get xs 0) (r.names level below) ∙ get-drop (b.passed level) (map (λ o. o.name) (orders_at b level)) ∙ slice_get-map (λ o. o.name) (orders_at b level) (b.passed level)

module _ {s : State} {b : Book} {side : Side} {depths takers : ℕ → ℕ} (r : Reflects s b side depths takers) (t : State) where
  -- one name's order is another, of which more or less or nothing is left
  reflects-orders : (orders : List Order) (name : ℕ) → IsSound (record b { orders = orders }) → ((n : ℕ) → n ≢ name → open_order (record b { orders = orders }) n ≡ open_order b n)
      → ((level : ℕ) → map (λ o. o.name) (orders_at (record b { orders = orders }) level) ≡ map (λ o. o.name) (orders_at b level))
      → Sets s t OPEN_ORDERS name (open_order (record b { orders = orders }) name) → Reflects t (record b { orders = orders }) side depths takers
  reflects-orders orders name sound others same_names sets = record {
    maps = omega (arith, sets.maps, r.maps);
    queues = omega (arith, ap length sets.queues, r.queues);
    sound = sound;
    orders = at_each (λ n. fin.get (map_at t OPEN_ORDERS) n ≡ open_order (record b { orders = orders }) n) name sets.here (λ n h. sets.other_keys n h ∙ r.orders n ∙ sym (others n h));
    has_depths = λ level. ap (λ m. fin.get m level) (sets.other_maps DEPTHS (λ e. omega arith)) ∙ r.has_depths level;
    resting = λ account. ap (λ m. fin.get m account) (sets.other_maps (resting_sums side) (resting_apart side).0) ∙ r.resting account;
    has_takers = λ account. ap (λ m. fin.get m account) (sets.other_maps (taker_sums side) (resting_apart side).2) ∙ r.has_takers account;
    names = λ level below. queue_at-sets sets level ∙ r.names level below ∙ ap (drop (b.passed level)) (sym (same_names level));
  }

  -- nothing changed
  pub reflects-same : (name : ℕ) → Sets s t OPEN_ORDERS name (open_order b name) → Reflects t b side depths takers
  reflects-same name sets = reflects-orders b.orders name r.sound (λ _ _. refl) (λ _. refl) sets

  -- an order has less left
  pub reflects-less : (name by : ℕ) → Sets s t OPEN_ORDERS name (open_order (with_less b name by) name) → Reflects t (with_less b name by) side depths takers
  reflects-less name by sets = reflects-orders (lessened b.orders name by) name (sound-with_less b name by r.sound) (open_order-with_less_other b name by) (names-with_less b name by) sets

  -- a place is passed
  pub reflects-pass : (level : ℕ) → IsSound (pass b level) → Lines s t level (drop 1 (queue_at s level)) → Reflects t (pass b level) side depths takers
  reflects-pass level sound lines = record {
    maps = omega (arith, ap length lines.maps, r.maps);
    queues = omega (arith, lines.queues, r.queues);
    sound = sound;
    orders = λ n. ap (λ m. fin.get m n) (map_at-lines lines OPEN_ORDERS) ∙ r.orders n;
    has_depths = λ at. ap (λ m. fin.get m at) (map_at-lines lines DEPTHS) ∙ r.has_depths at;
    resting = λ account. ap (λ m. fin.get m account) (map_at-lines lines (resting_sums side)) ∙ r.resting account;
    has_takers = λ account. ap (λ m. fin.get m account) (map_at-lines lines (taker_sums side)) ∙ r.has_takers account;
    names = at_each (λ at. at < LEVELS → queue_at t at ≡ drop ((pass b level).passed at) (map (λ o. o.name) (orders_at b at))) level
        (λ below. lines.here ∙ ap (drop 1) (r.names level below) ∙ drop-drop 1 (b.passed level) (map (λ o. o.name) (orders_at b level)) ∙ ap (λ n. drop n (map (λ o. o.name) (orders_at b level))) (sym (passed-here b level)))
        (λ at h below. lines.others at h ∙ r.names at below ∙ ap (λ n. drop n (map (λ o. o.name) (orders_at b at))) (sym (passed-other b level at h)));
  }

  -- a trade is added
  pub reflects-trade : (x : Trade) → IsSound (with_trade b x) → x.side ≡ side → Sets s t (resting_sums side) x.resting (unless_0 (resting_sum side b x.resting + x.taken)) → Reflects t (with_trade b x) side depths takers
  reflects-trade x sound same sets = record {
    maps = omega (arith, sets.maps, r.maps);
    queues = omega (arith, ap length sets.queues, r.queues);
    sound = sound;
    orders = λ n. ap (λ m. fin.get m n) (sets.other_maps OPEN_ORDERS (λ e. (resting_apart side).0 (sym e))) ∙ r.orders n;
    has_depths = λ level. ap (λ m. fin.get m level) (sets.other_maps DEPTHS (λ e. (resting_apart side).1 (sym e))) ∙ r.has_depths level;
    resting = at_each (λ a. fin.get (map_at t (resting_sums side)) a ≡ unless_0 (resting_sum side (with_trade b x) a)) x.resting
        (sets.here ∙ ap (λ n. unless_0 (resting_sum side b x.resting + n)) (ap (λ c. cond c x.taken 0) (sym (eq-eqb x.resting x.resting refl))) ∙ ap unless_0 (sym (resting_sum-with_trade b x x.resting side same)))
        (λ a h. sets.other_keys a h ∙ r.resting a ∙ ap unless_0 (unmoved a h ∙ sym (resting_sum-with_trade b x a side same)));
    has_takers = λ account. ap (λ m. fin.get m account) (sets.other_maps (taker_sums side) (resting_apart side).4) ∙ r.has_takers account;
    names = λ level below. queue_at-sets sets level ∙ r.names level below;
  }
    where
      unmoved : (a : ℕ) → a ≢ x.resting → resting_sum side b a ≡ resting_sum side b a + at_account x.resting a x.taken
      unmoved a h = omega (arith, ap (λ c. cond c x.taken 0) (ne_eqb x.resting a (λ e. h (sym e))))

  -- a level has its depth
  pub reflects-depth : (level : ℕ) → Sets s t DEPTHS level (unless_0 (depth b level)) → ((at : ℕ) → at ≢ level → depths at ≡ depth b at) → Reflects t b side (depth b) takers
  reflects-depth level sets same = record {
    maps = omega (arith, sets.maps, r.maps);
    queues = omega (arith, ap length sets.queues, r.queues);
    sound = r.sound;
    orders = λ n. ap (λ m. fin.get m n) (sets.other_maps OPEN_ORDERS (λ e. omega arith)) ∙ r.orders n;
    has_depths = at_each (λ at. fin.get (map_at t DEPTHS) at ≡ unless_0 (depth b at)) level sets.here (λ at h. sets.other_keys at h ∙ r.has_depths at ∙ ap unless_0 (same at h));
    resting = λ account. ap (λ m. fin.get m account) (sets.other_maps (resting_sums side) (resting_apart side).1) ∙ r.resting account;
    has_takers = λ account. ap (λ m. fin.get m account) (sets.other_maps (taker_sums side) (resting_apart side).3) ∙ r.has_takers account;
    names = λ at below. queue_at-sets sets at ∙ r.names at below;
  }

  -- a taker has its sum
  pub reflects-taker : (taker : ℕ) → Sets s t (taker_sums side) taker (unless_0 (taker_sum side b taker)) → ((account : ℕ) → account ≢ taker → takers account ≡ taker_sum side b account) → Reflects t b side depths (taker_sum side b)
  reflects-taker taker sets same = record {
    maps = omega (arith, sets.maps, r.maps);
    queues = omega (arith, ap length sets.queues, r.queues);
    sound = r.sound;
    orders = λ n. ap (λ m. fin.get m n) (sets.other_maps OPEN_ORDERS (λ e. (resting_apart side).2 (sym e))) ∙ r.orders n;
    has_depths = λ at. ap (λ m. fin.get m at) (sets.other_maps DEPTHS (λ e. (resting_apart side).3 (sym e))) ∙ r.has_depths at;
    resting = λ account. ap (λ m. fin.get m account) (sets.other_maps (resting_sums side) (λ e. (resting_apart side).4 (sym e))) ∙ r.resting account;
    has_takers = at_each (λ a. fin.get (map_at t (taker_sums side)) a ≡ unless_0 (taker_sum side b a)) taker sets.here (λ a h. sets.other_keys a h ∙ r.has_takers a ∙ ap unless_0 (same a h));
    names = λ at below. queue_at-sets sets at ∙ r.names at below;
  }
