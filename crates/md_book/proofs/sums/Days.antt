-- Runs of commands, one step after another.
use Rattle.std.proofs.Common.{◌≡◌, ◌≤◌, ℕ, ◌+◌, nat_eq, false, List, [], ◌∷◌, ◌++◌, map, refl, sym, ap, subst, ◌∙◌, Option, Some, None, arith}
use Rattle.std.specs.Prelude.{sum_by, All}
use Rattle.std.specs.List.{IsDistinct, AllByRecursion, zip}
use Rattle.std.proofs.lemmas.List.{map_push, append_assoc}
use Rattle.std.proofs.lemmas.List.Elements.{All-nil, All-head, All-tail, All-push, recursion_from_All}
use Rattle.std.proofs.lemmas.List.Sums.{sum_by-cons}
use Rattle.md_book.specs.declared.commands.Side.{Side}
use Rattle.md_book.specs.declared.commands.Command.{Command}
use Rattle.md_book.specs.declared.commands.Command.TheVariants.{Place, Cancel, Fill, Kill, Depth, Account}
use Rattle.md_book.specs.declared.commands.BookReply.{BookReply}
use Rattle.md_book.specs.Book.{Order, Trade, Book, IsAccount, IsPrice, empty_book, level_of, find_open, look, cancel_step, fill_step, book_step, book_after, replies_to}
use Rattle.md_book.specs.Commands.{IsCommand}
use Rattle.md_book.specs.Trading.{names_placed, IsDay}
use Rattle.md_book.proofs.books.Lessened.{lessened-map, lessened-All}
use Rattle.md_book.proofs.steps.Kills.{kill-either}
use Rattle.md_book.proofs.sums.LookSums.{look-map, look-All, look-accounts}

-- what is known of the name, side, price and account of an order that is placed
abbrev pub PlaceKnows : (ℕ → Side → ℕ → ℕ → Type 0) → Command → Type 0
PlaceKnows K (Place name account side price quantity) = K name side price account
PlaceKnows K (Cancel name) = Unit {0}
PlaceKnows K (Fill account side price quantity places) = Unit {0}
PlaceKnows K (Kill account side price quantity places) = Unit {0}
PlaceKnows K (Depth side price) = Unit {0}
PlaceKnows K (Account account) = Unit {0}

-- in the middle of a day: the book so far, and the commands to come; K is known of each order
pub record IsOpen (K : ℕ → Side → ℕ → ℕ → Type 0) (b : Book) (cs : List Command) : Type 0 where
  pub distinct : IsDistinct nat_eq (map (λ o. o.name) b.orders ++ names_placed cs)
  pub lawful : All IsCommand cs
  pub priced : All (λ o. IsPrice o.price) b.orders
  pub accounts : All (λ o. IsAccount o.account) b.orders
  pub trades : All (λ t. IsAccount t.resting × IsAccount t.taker) b.trades
  pub known : All (λ o. K o.name o.side o.price o.account) b.orders
  pub knows : All (PlaceKnows K) cs

front-all : {X : Type 0} (P : X → Type 0) (xs ys : List X) → AllByRecursion P (xs ++ ys) → AllByRecursion P xs
front-all P [] ys all = tt
front-all P (x ∷ xs) ys all = (all.0, front-all P xs ys all.1)

front-distinct : (xs ys : List ℕ) → IsDistinct nat_eq (xs ++ ys) → IsDistinct nat_eq xs
unfolding IsDistinct
front-distinct [] ys distinct = tt
front-distinct (x ∷ xs) ys distinct = (front-all (λ n. nat_eq x n ≡ false) xs ys distinct.0, front-distinct xs ys distinct.1)

module _ (K : ℕ → Side → ℕ → ℕ → Type 0) where
  -- the names in the book differ
  pub names-distinct : (b : Book) (cs : List Command) → IsOpen K b cs → IsDistinct nat_eq (map (λ o. o.name) b.orders)
  names-distinct b cs is = front-distinct (map (λ o. o.name) b.orders) (names_placed cs) is.distinct

  -- a day begins
  pub opening : (cs : List Command) → IsDay cs → All (PlaceKnows K) cs → IsOpen K empty_book cs
  opening cs day knows = record {
    distinct = day.distinct;
    lawful = day.lawful;
    priced = All-nil (λ (o : Order). IsPrice o.price);
    accounts = All-nil (λ (o : Order). IsAccount o.account);
    trades = All-nil (λ (t : Trade). IsAccount t.resting × IsAccount t.taker);
    known = All-nil (λ (o : Order). K o.name o.side o.price o.account);
    knows = knows;
  }

  place-open : (b : Book) (name account : ℕ) (side : Side) (price quantity : ℕ) (cs : List Command) → IsOpen K b (Place name account side price quantity ∷ cs) → IsOpen K (book_step b (Place name account side price quantity)).book cs
  place-open b name account side price quantity cs is =
      let o : Order = record { name = name; account = account; side = side; price = price; left = quantity } in
      let c = Place name account side price quantity in
      let lawful = All-head IsCommand c cs is.lawful in
      let names : map (λ p. p.name) (b.orders ++ o ∷ []) ++ names_placed cs ≡ map (λ p. p.name) b.orders ++ name ∷ names_placed cs =
      ap (λ ns. ns ++ names_placed cs) (map_push (λ (p : Order). p.name) b.orders o) ∙ append_assoc (map (λ p. p.name) b.orders) (name ∷ []) (names_placed cs) in
      record {
        distinct = subst (IsDistinct nat_eq) (sym names) is.distinct;
        lawful = All-tail IsCommand c cs is.lawful;
        priced = All-push (λ (p : Order). IsPrice p.price) b.orders o is.priced lawful.offer.priced;
        accounts = All-push (λ (p : Order). IsAccount p.account) b.orders o is.accounts lawful.offer.in_range;
        trades = is.trades;
        known = All-push (λ (p : Order). K p.name p.side p.price p.account) b.orders o is.known (All-head (PlaceKnows K) c cs is.knows);
        knows = All-tail (PlaceKnows K) c cs is.knows;
      }

  -- a command that places nothing, where the orders only have less left
  less-open : (b b' : Book) (c : Command) (cs : List Command) → names_placed (c ∷ cs) ≡ names_placed cs
      → map (λ o. o.name) b'.orders ≡ map (λ o. o.name) b.orders
      → ((P : Order → Type 0) → ((o : Order) (left : ℕ) → left ≤ o.left → P o → P (record o { left = left })) → All P b.orders → All P b'.orders)
      → All (λ t. IsAccount t.resting × IsAccount t.taker) b'.trades
      → IsOpen K b (c ∷ cs) → IsOpen K b' cs
  less-open b b' c cs none names keeps trades is = record {
    distinct = subst (IsDistinct nat_eq) (ap (λ ns. map (λ (o : Order). o.name) b.orders ++ ns) none ∙ ap (λ ns. ns ++ names_placed cs) (sym names)) is.distinct;
    lawful = All-tail IsCommand c cs is.lawful;
    priced = keeps (λ o. IsPrice o.price) (λ _ _ _ p. p) is.priced;
    accounts = keeps (λ o. IsAccount o.account) (λ _ _ _ p. p) is.accounts;
    trades = trades;
    known = keeps (λ o. K o.name o.side o.price o.account) (λ _ _ _ p. p) is.known;
    knows = All-tail (PlaceKnows K) c cs is.knows;
  }

  cancel-open : (b : Book) (name : ℕ) (found : Option Order) (cs : List Command) → IsOpen K b (Cancel name ∷ cs) → IsOpen K (cancel_step b found).book cs
  cancel-open b name None cs is = less-open b b (Cancel name) cs refl refl (λ P less all. all) is.trades is
  cancel-open b name (Some o) cs is =
      less-open b (cancel_step b (Some o)).book (Cancel name) cs refl (lessened-map o.name o.left (λ p. p.name) (λ _ _. refl) b.orders) (λ P less. lessened-All o.name o.left P less b.orders) is.trades is

  -- when an account takes from places, the orders only have less left
  look-open : (b : Book) (account level quantity places : ℕ) (c : Command) (cs : List Command) → names_placed (c ∷ cs) ≡ names_placed cs → IsAccount account
      → IsOpen K b (c ∷ cs) → IsOpen K (fill_step b account level quantity places).book cs
  look-open b account level quantity places c cs none takes is =
      less-open b (look level account places b quantity).book c cs none (look-map level account (λ o. o.name) (λ _ _. refl) places b quantity) (λ P less. look-All level account P less places b quantity)
      (look-accounts level account takes places b quantity (recursion_from_All (λ (o : Order). IsAccount o.account) b.orders is.accounts) is.trades) is

  -- after each command the day goes on
  pub step-open : (b : Book) (c : Command) (cs : List Command) → IsOpen K b (c ∷ cs) → IsOpen K (book_step b c).book cs
  step-open b (Place name account side price quantity) cs is = place-open b name account side price quantity cs is
  step-open b (Cancel name) cs is = cancel-open b name (find_open b name) cs is
  step-open b (Fill account side price quantity places) cs is =
      let c = Fill account side price quantity places in
      look-open b account (level_of side price) quantity places c cs refl (All-head IsCommand c cs is.lawful).offer.in_range is
  step-open b (Kill account side price quantity places) cs is =
      let c = Kill account side price quantity places in
      kill-either b account (level_of side price) quantity places (λ step. IsOpen K step.book cs)
      (look-open b account (level_of side price) quantity places c cs refl (All-head IsCommand c cs is.lawful).offer.in_range is) (less-open b b c cs refl refl (λ P less all. all) is.trades is)
  step-open b (Depth side price) cs is = less-open b b (Depth side price) cs refl refl (λ P less all. all) is.trades is
  step-open b (Account account) cs is = less-open b b (Account account) cs refl refl (λ P less all. all) is.trades is

  -- to its end
  pub run-open : (cs : List Command) (b : Book) → IsOpen K b cs → IsOpen K (book_after b cs) []
  run-open [] b is = is
  run-open (c ∷ cs) b is = run-open cs (book_step b c).book (step-open b c cs is)

  -- what a measure of the book gains and loses at each command, it gains and loses in all
  pub run-adds : (M : Book → ℕ) (gain loss : Command × BookReply → ℕ)
      → ((b : Book) (c : Command) (cs : List Command) → IsOpen K b (c ∷ cs) → M (book_step b c).book + loss (c, (book_step b c).reply) ≡ M b + gain (c, (book_step b c).reply))
      → (cs : List Command) (b : Book) → IsOpen K b cs → M (book_after b cs) + sum_by loss (zip cs (replies_to b cs)) ≡ M b + sum_by gain (zip cs (replies_to b cs))
  run-adds M gain loss step [] b is = refl
  run-adds M gain loss step (c ∷ cs) b is =
      let next = (book_step b c).book in
      let told : Command × BookReply = (c, (book_step b c).reply) in
      omega (arith, step b c cs is, run-adds M gain loss step cs next (step-open b c cs is), sum_by-cons loss told (zip cs (replies_to next cs)), sum_by-cons gain told (zip cs (replies_to next cs)))
