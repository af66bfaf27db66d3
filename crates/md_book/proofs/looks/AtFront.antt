-- What is taken from the order at a level's front.
use Rattle.std.proofs.Common.{◌≡◌, ◌≢◌, ℕ, ◌+◌, ◌*◌, ◌<◌, ◌≤◌, ◌==◌, Bool, true, false, List, ◌∷◌, ◌++◌, length, refl, ap, subst, ◌∙◌, Some, arith}
use Rattle.std.specs.Prelude.{if◌then◌else◌, sum_by}
use Rattle.std.proofs.lemmas.List.{length-map}
use Rattle.md_history.specs.declared.acts.Act.{Act}
use Rattle.md_history.specs.State.{State}
use Rattle.md_history.specs.Script.{Script, done, bind}
use Rattle.md_history.proofs.Plays.{played, outcome, made, ends-bind}
use Rattle.md_book.specs.declared.commands.Side.{Side}
use Rattle.md_book.specs.declared.fronts.Look.{Look}
use Rattle.md_book.specs.declared.fronts.Look.TheVariants.{Live}
use Rattle.md_book.specs.declared.maps.TheConstants.{LEVELS}
use Rattle.md_book.specs.declared.limits.TheConstants.{MAX_QUANTITY}
use Rattle.md_book.specs.Book.{Order, Trade, Book, IsAccount, IsPrice, level_of, lessen, front_order, pass, trade, traded}
use Rattle.md_book.specs.Scripts.{raise}
use Rattle.md_book.specs.Filling.{resting_sums}
use Rattle.md_book.proofs.books.Raises.{raise-sets}
use Rattle.md_book.proofs.steps.Costs.{Costs, costs-append, costs-more, costs-none}
use Rattle.md_book.proofs.books.Replacing.{raise-costs}
use Rattle.md_book.proofs.sums.LookSums.{front-has}
use Rattle.md_book.proofs.books.Unpacking.{side-level}
use Rattle.md_book.proofs.books.ChangedBooks.{with_less, left-with_less, with_trade, sound-with_trade}
use Rattle.md_book.proofs.sums.SideSums.{resting_sum, resting_sum-le, sums-low, traded-room}
use Rattle.md_book.proofs.books.Reflects.{Reflects, reflects-trade}
use Rattle.md_book.proofs.steps.TakingOut.{unless, IsOut, look_up, packed_order, out_by, front-in_range, taken_out}

-- so much was taken from an order
pub record IsLive (b : Book) (level : ℕ) (side : Side) (depths takers : ℕ → ℕ) (taker : ℕ) (o : Order) (taken read write take : ℕ) (t : State) (look : Look) (acts : List Act) : Type 0 where
  pub look_is : look ≡ Live (record { name = o.name; taken = taken })
  pub reflects : Reflects t (traded b level o taker taken) side depths takers
  pub costs : Costs level acts read write take

abbrev trade_of : Order → ℕ → ℕ → Trade
trade_of o taker taken = record { side = o.side; resting = o.account; taker = taker; taken = taken }

-- what is done once the order is out
abbrev pub then_raise : Side → Order → ℕ → ℕ → Script Look
then_raise side o taken account = bind (raise (resting_sums side) account taken) (λ _. done (Live (record { name = o.name; taken = taken })))

abbrev pub taking : Side → ℕ → Order → ℕ → Bool → ℕ → Script Look
taking side level o taken emptied account = bind (out_by level o taken emptied) (λ _. then_raise side o taken account)

module _ (side : Side) (price : ℕ) (priced : IsPrice price) (taker : ℕ) (taker_in_range : IsAccount taker) {s : State} {b : Book} {depths takers : ℕ → ℕ} (r : Reflects s b side depths takers) (below : level_of side price < LEVELS) where
  abbrev level : ℕ
  level = level_of side price

  module _ (o : Order) (front : front_order b level ≡ Some o) (live : 0 < o.left) where
    abbrev order : ℕ
    order = packed_order o

    same_side : o.side ≡ side
    same_side = side-level o.side side o.price price (front-in_range r level below o front live).price priced (front-has b level o front).1

    module _ (taken : ℕ) (some : taken ≢ 0) (within : taken ≤ o.left) where
      abbrev less : Book
      less = with_less b o.name taken

      abbrev out : Bool → Book
      out emptied = if emptied then pass less level else less

      out-orders : (emptied : Bool) → (out emptied).orders ≡ less.orders
      out-orders true = refl
      out-orders false = refl

      out-trades : (emptied : Bool) → (out emptied).trades ≡ b.trades
      out-trades true = refl
      out-trades false = refl

      out-traded : (emptied : Bool) → with_trade (out emptied) (trade_of o taker taken) ≡ (if emptied then pass (trade b o taker taken) level else trade b o taker taken)
      out-traded true = refl
      out-traded false = refl

      -- the trade is added where the resting account's sum grows
      module _ (emptied : Bool) (same : emptied ≡ (o.left == taken)) (t : State) (acts : List Act) (is : IsOut less level o side depths takers emptied t acts) where
        abbrev now : Book
        now = out emptied

        total : sum_by (λ p. p.left) now.orders + taken + sum_by (λ x. x.taken) now.trades ≤ MAX_QUANTITY * length now.orders
        total = omega (
          arith,
          r.sound.total,
          left-with_less b o taken r.sound (front-has b level o front).0 within,
          length-map b.orders (lessen o.name taken),
          ap (sum_by (λ (p : Order). p.left)) (out-orders emptied),
          ap length (out-orders emptied),
          ap (sum_by (λ (x : Trade). x.taken)) (out-trades emptied),
        )

        below_maps : resting_sums side < length t.maps
        below_maps = omega (arith, is.reflects.maps, (sums-low side).0)

        raised : Reflects (played (raise (resting_sums side) o.account taken) t) (with_trade now (trade_of o taker taken)) side depths takers
        raised =
            let in_range = front-in_range r level below o front live in
            reflects-trade is.reflects (played (raise (resting_sums side) o.account taken) t) (trade_of o taker taken)
            (sound-with_trade now (trade_of o taker taken) is.reflects.sound in_range.account taker_in_range total) same_side
            (raise-sets t (resting_sums side) o.account (resting_sum side now o.account) taken below_maps (is.reflects.resting o.account) some
            (omega (arith, resting_sum-le now o.account side, traded-room now is.reflects.sound, in_range.left)))

        raises : IsLive b level side depths takers taker o taken 2 (5 + unless (o.left == taken)) (1 + unless (o.left == taken)) (played (then_raise side o taken o.account) t) (outcome (then_raise side o taken o.account) t) (look_up o ∷ acts ++ made (then_raise side o taken o.account) t)
        raises =
            ends-bind (raise (resting_sums side) o.account taken) (λ _. done (Live (record { name = o.name; taken = taken }))) t
            (λ u look xs. IsLive b level side depths takers taker o taken 2 (5 + unless (o.left == taken)) (1 + unless (o.left == taken)) u look (look_up o ∷ acts ++ xs))
            (record {
              look_is = refl;
              reflects = subst (λ x. Reflects (played (raise (resting_sums side) o.account taken) t) x side depths takers) (out-traded emptied ∙ ap (λ e. if e then pass (trade b o taker taken) level else trade b o taker taken) same) raised;
              costs = costs-more (costs-append is.costs (costs-append (raise-costs level t (resting_sums side) o.account taken) (costs-none level)))
                  2 (5 + unless (o.left == taken)) (1 + unless (o.left == taken)) (omega arith) (omega (arith, ap unless same)) (omega (arith, ap unless same));
            })

      pub takes_live : IsLive b level side depths takers taker o taken 2 (5 + unless (o.left == taken)) (1 + unless (o.left == taken))
          (played (taking side level o taken (o.left == taken) o.account) s) (outcome (taking side level o taken (o.left == taken) o.account) s) (look_up o ∷ made (taking side level o taken (o.left == taken) o.account) s)
      takes_live =
          ends-bind (out_by level o taken (o.left == taken)) (λ _. then_raise side o taken o.account) s
          (λ t look acts. IsLive b level side depths takers taker o taken 2 (5 + unless (o.left == taken)) (1 + unless (o.left == taken)) t look (look_up o ∷ acts))
          (raises (o.left == taken) refl _ _ (taken_out r level below o front live taken within))
