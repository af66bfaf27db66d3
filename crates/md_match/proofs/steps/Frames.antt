-- What scripts leave as it was.
use Rattle.std.proofs.Common.{◌≡◌, ◌≢◌, ℕ, ◌-◌, ◌==◌, min, Bool, cond, List, [], length, refl, sym, ap, ◌∙◌, Option, Some, None, arith}
use Rattle.std.specs.FinMap as fin
use Rattle.std.specs.Prelude.{slice_index_or, is_none}
use Rattle.std.proofs.lemmas.Bool.{cond_both}
use Rattle.std.proofs.lemmas.List.{get_or-set_other}
use Rattle.md_history.specs.declared.acts.Op.{Op}
use Rattle.md_history.specs.declared.acts.Op.TheVariants.{Get, Insert, Remove, Put, Enqueue, Dequeue, Front, Line}
use Rattle.md_history.specs.declared.acts.Reply.{Reply}
use Rattle.md_history.specs.State.{State, Table, map_at, queue_at, with_map, answer, after}
use Rattle.md_history.specs.Script.{Script, done, call, bind}
use Rattle.md_history.specs.Branches.{by_option, value_in}
use Rattle.md_history.proofs.Runs.{length-maps, length-queues}
use Rattle.md_history.proofs.Plays.{played}
use Rattle.md_book.specs.declared.commands.Side.{Side}
use Rattle.md_book.specs.declared.commands.Side.TheVariants.{Buy, Sell}
use Rattle.md_book.specs.declared.fronts.Look.{Look}
use Rattle.md_book.specs.declared.fronts.Look.TheVariants.{Nobody, Dead, Live}
use Rattle.md_book.specs.declared.maps.TheConstants.{OPEN_ORDERS, DEPTHS, BOUGHT, SOLD}
use Rattle.md_book.specs.Book.{Book}
use Rattle.md_book.specs.Stands.{left_in, account_in, Shows}
use Rattle.md_book.specs.Scripts.{raise}
use Rattle.md_book.specs.Filling.{resting_sums, taker_sums, take_out, take_from, look_front}
use Rattle.md_book.proofs.books.Reflects.{Reflects}
use Rattle.md_match.specs.declared.maps.TheConstants.{PRICE_BITS}
use Rattle.md_match.proofs.prices.Bits.{Beside}

-- an operation doesn't change the map of price bits
abbrev pub SparesOp : Op → Type 0
SparesOp (Get m k) = Unit {0}
SparesOp (Insert m k v) = m ≢ PRICE_BITS
SparesOp (Remove m k) = m ≢ PRICE_BITS
SparesOp (Put m k v) = m ≢ PRICE_BITS
SparesOp (Enqueue q v) = Unit {0}
SparesOp (Dequeue q) = Unit {0}
SparesOp (Front q) = Unit {0}
SparesOp (Line q n) = Unit {0}

-- nor does a script, whatever is replied
abbrev pub Spares : {R : Type 0} → Script R → Type 0
Spares (done r) = Unit {0}
Spares (call op next) = SparesOp op × ((r : Reply) → Spares (next r))

other-map : (s : State) (m : ℕ) (t : Table) → m ≢ PRICE_BITS → map_at (with_map s m t) PRICE_BITS ≡ map_at s PRICE_BITS
other-map s m t apart = get_or-set_other s.maps m PRICE_BITS t fin.empty (λ e. apart (sym e))

spared-op : (s : State) (op : Op) → SparesOp op → map_at (after s op) PRICE_BITS ≡ map_at s PRICE_BITS
spared-op s (Get m k) spares = refl
spared-op s (Insert m k v) spares =
    cond_both (is_none (fin.get (map_at s m) k)) (with_map s m (fin.insert (map_at s m) k v)) s (λ t. map_at t PRICE_BITS ≡ map_at s PRICE_BITS) (λ _. other-map s m (fin.insert (map_at s m) k v) spares) (λ _. refl)
spared-op s (Remove m k) spares = other-map s m (fin.remove (map_at s m) k) spares
spared-op s (Put m k v) spares = other-map s m (fin.insert (map_at s m) k v) spares
spared-op s (Enqueue q v) spares = refl
spared-op s (Dequeue q) spares = refl
spared-op s (Front q) spares = refl
spared-op s (Line q n) spares = refl

-- the map of price bits stays as it was
pub spared : {R : Type 0} (p : Script R) (s : State) → Spares p → map_at (played p s) PRICE_BITS ≡ map_at s PRICE_BITS
spared (done r) s spares = refl
spared (call op next) s spares = spared (next (answer s op)) (after s op) (spares.1 (answer s op)) ∙ spared-op s op spares.0

-- there are as many maps as before
pub same-maps : {R : Type 0} (p : Script R) (s : State) → length (played p s).maps ≡ length s.maps
same-maps (done r) s = refl
same-maps (call op next) s = same-maps (next (answer s op)) (after s op) ∙ length-maps s op

-- and as many queues
pub same-queues : {R : Type 0} (p : Script R) (s : State) → length (played p s).queues ≡ length s.queues
same-queues (done r) s = refl
same-queues (call op next) s = same-queues (next (answer s op)) (after s op) ∙ length-queues s op

-- one script after another
pub spares-bind : {A B : Type 0} (p : Script A) (next : A → Script B) → Spares p → ((a : A) → Spares (next a)) → Spares (bind p next)
spares-bind (done r) next spares more = more r
spares-bind (call op rest) next spares more = (spares.0, λ r. spares-bind (rest r) next (spares.1 r) more)

spares-option : {R : Type 0} (o : Option ℕ) (none : Script R) (some : ℕ → Script R) → Spares none → ((v : ℕ) → Spares (some v)) → Spares (by_option o none some)
spares-option None none some n s = n
spares-option (Some v) none some n s = s v

spares-cond : {R : Type 0} (b : Bool) (p q : Script R) → Spares p → Spares q → Spares (cond b p q)
spares-cond b p q f g = cond_both b p q Spares (λ _. f) (λ _. g)

-- a sum grows in another map
pub spares-raise : (m k by : ℕ) → m ≢ PRICE_BITS → Spares (raise m k by)
spares-raise m k by apart = (tt, λ _. (apart, λ _. tt))

sums-apart : (side : Side) → (resting_sums side ≢ PRICE_BITS) × (taker_sums side ≢ PRICE_BITS)
sums-apart Buy = (λ e. omega arith, λ e. omega arith)
sums-apart Sell = (λ e. omega arith, λ e. omega arith)

-- a taker's sum grows
pub spares-taker : (side : Side) (account taken : ℕ) → Spares (raise (taker_sums side) account taken)
spares-taker side account taken = spares-raise (taker_sums side) account taken (sums-apart side).1

spares-take_out : (level name order taken : ℕ) → Spares (take_out level name order taken)
spares-take_out level name order taken =
    spares-cond (left_in order == taken) (call (Remove OPEN_ORDERS name) (λ _. call (Dequeue level) (λ _. done tt))) (call (Put OPEN_ORDERS name (order - taken)) (λ _. done tt))
    ((λ e. omega arith), λ _. (tt, λ _. tt)) ((λ e. omega arith), λ _. tt)

spares-take_from : (side : Side) (level name order taken : ℕ) → Spares (take_from side level name order taken)
spares-take_from side level name order taken =
    spares-bind (take_out level name order taken) (λ _. bind (raise (resting_sums side) (account_in order) taken) (λ _. done (Live (record { name = name; taken = taken })))) (spares-take_out level name order taken)
    (λ _. spares-bind (raise (resting_sums side) (account_in order) taken) (λ _. done (Live (record { name = name; taken = taken }))) (spares-raise (resting_sums side) (account_in order) taken (sums-apart side).0) (λ _. tt))

-- a look at a level's front place changes no price bits
pub spares-look : (side : Side) (level rest : ℕ) → Spares (look_front side level rest)
spares-look side level rest = (tt, λ r. spares-option (value_in r) (done Nobody) (look_name side level rest) tt (λ name. (tt, λ s. spares-option (value_in s) (call (Dequeue level) (λ _. done Dead)) (λ order. take_from side level name order (min (left_in order) rest)) (tt, λ _. tt) (λ order. spares-take_from side level name order (min (left_in order) rest)))))
  where
    look_name : Side → ℕ → ℕ → ℕ → Script Look
    look_name side level rest name = call (Get OPEN_ORDERS name) (λ s. by_option (value_in s) (call (Dequeue level) (λ _. done Dead)) (λ order. take_from side level name order (min (left_in order) rest)))

module _ {s t : State} (beside : Beside s t) where
  same-queue : (q : ℕ) → queue_at t q ≡ queue_at s q
  same-queue q = ap (λ (qs : List (List ℕ)). slice_index_or qs q []) beside.queues

  -- where only price bits changed, the other maps and the queues show what they did
  pub reflects-beside : {b : Book} {side : Side} {depths takers : ℕ → ℕ} → Reflects s b side depths takers → Reflects t b side depths takers
  reflects-beside {b} {side} r = record {
    maps = omega (arith, beside.maps, r.maps);
    queues = omega (arith, ap length beside.queues, r.queues);
    sound = r.sound;
    orders = λ n. ap (λ m. fin.get m n) (beside.others OPEN_ORDERS (λ e. omega arith)) ∙ r.orders n;
    has_depths = λ n. ap (λ m. fin.get m n) (beside.others DEPTHS (λ e. omega arith)) ∙ r.has_depths n;
    resting = λ n. ap (λ m. fin.get m n) (beside.others (resting_sums side) (sums-apart side).0) ∙ r.resting n;
    has_takers = λ n. ap (λ m. fin.get m n) (beside.others (taker_sums side) (sums-apart side).1) ∙ r.has_takers n;
    names = λ level below. same-queue level ∙ r.names level below;
  }

  -- and the whole book
  pub shows-beside : {b : Book} → Shows s b → Shows t b
  shows-beside {b} shows = record {
    sound = shows.sound;
    orders = λ n. ap (λ m. fin.get m n) (beside.others OPEN_ORDERS (λ e. omega arith)) ∙ shows.orders n;
    depths = λ n. ap (λ m. fin.get m n) (beside.others DEPTHS (λ e. omega arith)) ∙ shows.depths n;
    bought = λ n. ap (λ m. fin.get m n) (beside.others BOUGHT (λ e. omega arith)) ∙ shows.bought n;
    sold = λ n. ap (λ m. fin.get m n) (beside.others SOLD (λ e. omega arith)) ∙ shows.sold n;
    names = λ level below. same-queue level ∙ shows.names level below;
  }
