-- What looks at places change, and what stays.
use Rattle.std.proofs.Common.{◌≡◌, ◌≤◌, ℕ, ◌+◌, ◌-◌, ◌==◌, nat_eq, min, Bool, true, false, cond, [], ◌∷◌, ◌++◌, map, refl, sym, ap, subst, ◌∙◌, Some, arith}
use Rattle.std.specs.Prelude.{sum_by, All}
use Rattle.std.specs.List.{IsDistinct, AllByRecursion}
use Rattle.std.proofs.lemmas.Bool.{cond_both, eqb-true}
use Rattle.std.proofs.lemmas.List.Elements.{All-push, recursion_from_All, All-from_recursion}
use Rattle.std.proofs.lemmas.List.Sums.{sum_by-cons, sum_by_push}
use Rattle.md_book.specs.declared.commands.Part.{Part}
use Rattle.md_book.specs.Book.{Order, Trade, Book, IsAccount, pass, trade, traded, level_of, front_order, lessened, look}
use Rattle.md_book.specs.Trading.{left_among}
use Rattle.md_book.proofs.books.Lessened.{Has, All-has, filter-has, lessened-map, lessened-All, lessened-sum}
use Rattle.md_book.proofs.looks.Looks.{look-relates}

module _ (b : Book) (level : ℕ) (o : Order) (taker taken : ℕ) where
  pub traded-orders : (traded b level o taker taken).orders ≡ lessened b.orders o.name taken
  traded-orders = cond_both (o.left == taken) (pass (trade b o taker taken) level) (trade b o taker taken) (λ c. c.orders ≡ lessened b.orders o.name taken) (λ _. refl) (λ _. refl)

  pub traded-trades : (traded b level o taker taken).trades ≡ b.trades ++ record { side = o.side; resting = o.account; taker = taker; taken = taken } ∷ []
  traded-trades = cond_both (o.left == taken) (pass (trade b o taker taken) level) (trade b o taker taken) (λ c. c.trades ≡ b.trades ++ record { side = o.side; resting = o.account; taker = taker; taken = taken } ∷ []) (λ _. refl) (λ _. refl)

-- the order at the front stands in the book, at that level
pub front-has : (b : Book) (level : ℕ) (o : Order) → front_order b level ≡ Some o → Has b.orders o × (level_of o.side o.price ≡ level)
front-has b level o e =
    let has = filter-has (λ p. level_of p.side p.price == level) b.orders (b.passed level) o e in
    (has.0, eqb-true (level_of o.side o.price) level has.1)

module _ (level taker : ℕ) where
  -- what remains and the parts add up to what was asked for
  pub look-rest : (places : ℕ) (b : Book) (rest : ℕ) → sum_by (λ p. p.taken) (look level taker places b rest).parts + (look level taker places b rest).rest ≡ rest
  look-rest = look-relates level taker (λ b rest l. sum_by (λ p. p.taken) l.parts + l.rest ≡ rest) (record {
    ends = λ b rest. omega arith;
    dead = λ b rest o l e empty some more. more;
    live = λ b rest o l e left some more. omega (arith, more, sum_by-cons (λ (p : Part). p.taken) (record { name = o.name; taken = min o.left rest }) l.parts);
  })

  -- what doesn't tell how much is left of the orders stays
  pub look-map : {A : Type 0} (f : Order → A) → ((o : Order) (left : ℕ) → f (record o { left = left }) ≡ f o) → (places : ℕ) (b : Book) (rest : ℕ) → map f (look level taker places b rest).book.orders ≡ map f b.orders
  look-map f same = look-relates level taker (λ b rest l. map f l.book.orders ≡ map f b.orders) (record {
    ends = λ b rest. refl;
    dead = λ b rest o l e empty some more. more;
    live = λ b rest o l e left some more. more ∙ ap (map f) (traded-orders b level o taker (min o.left rest)) ∙ lessened-map o.name (min o.left rest) f same b.orders;
  })

  -- what holds also with less left stays true of each order
  pub look-All : (P : Order → Type 0) → ((o : Order) (left : ℕ) → left ≤ o.left → P o → P (record o { left = left })) → (places : ℕ) (b : Book) (rest : ℕ) → All P b.orders → All P (look level taker places b rest).book.orders
  look-All P less = look-relates level taker (λ b rest l. All P b.orders → All P l.book.orders) (record {
    ends = λ b rest all. all;
    dead = λ b rest o l e empty some more all. more all;
    live = λ b rest o l e left some more all. more (subst (All P) (sym (traded-orders b level o taker (min o.left rest))) (lessened-All o.name (min o.left rest) P less b.orders all));
  })

  -- what the trades took grows by the parts
  pub look-trades : (places : ℕ) (b : Book) (rest : ℕ) → sum_by (λ t. t.taken) (look level taker places b rest).book.trades ≡ sum_by (λ t. t.taken) b.trades + sum_by (λ p. p.taken) (look level taker places b rest).parts
  look-trades = look-relates level taker (λ b rest l. sum_by (λ t. t.taken) l.book.trades ≡ sum_by (λ t. t.taken) b.trades + sum_by (λ p. p.taken) l.parts) (record {
    ends = λ b rest. omega arith;
    dead = λ b rest o l e empty some more. more;
    live = λ b rest o l e left some more.
        let now : Trade = record { side = o.side; resting = o.account; taker = taker; taken = min o.left rest } in
        omega (arith, more, ap (sum_by (λ (t : Trade). t.taken)) (traded-trades b level o taker (min o.left rest)), sum_by_push (λ (t : Trade). t.taken) b.trades now, sum_by-cons (λ (p : Part). p.taken) (record { name = o.name; taken = min o.left rest }) l.parts);
  })

  -- of whichever orders, what is left falls by what is taken from them
  pub look-left : (of : ℕ → Bool) (places : ℕ) (b : Book) (rest : ℕ) → IsDistinct nat_eq (map (λ o. o.name) b.orders)
      → left_among of (look level taker places b rest).book + sum_by (λ p. cond (of p.name) p.taken 0) (look level taker places b rest).parts ≡ left_among of b
  look-left of = look-relates level taker (λ b rest l. IsDistinct nat_eq (map (λ o. o.name) b.orders) → left_among of l.book + sum_by (λ p. cond (of p.name) p.taken 0) l.parts ≡ left_among of b) (record {
    ends = λ b rest distinct. omega arith;
    dead = λ b rest o l e empty some more distinct. more distinct;
    live = λ b rest o l e left some more distinct.
        let taken = min o.left rest in
        let orders = traded-orders b level o taker taken in
        let names = ap (map (λ (p : Order). p.name)) orders ∙ lessened-map o.name taken (λ p. p.name) (λ _ _. refl) b.orders in
        let after = more (subst (IsDistinct nat_eq) (sym names) distinct) in
        let f : Order → ℕ = λ p. cond (of p.name) p.left 0 in
        let fell = lessened-sum f b.orders o taken distinct (front-has b level o e).0 in
        let mine : f o ≡ f (record o { left = o.left - taken }) + cond (of o.name) taken 0 = elim (of o.name) as (λ t. cond t o.left 0 ≡ cond t (o.left - taken) 0 + cond t taken 0) [ true ↦ omega arith | false ↦ omega arith ] in
        omega (arith, after, fell, mine, ap (sum_by f) orders, sum_by-cons (λ (p : Part). cond (of p.name) p.taken 0) (record { name = o.name; taken = taken }) l.parts);
  })

  -- each part is of an order of this level
  pub look-parts : (K : ℕ → ℕ → Type 0) (places : ℕ) (b : Book) (rest : ℕ) → AllByRecursion (λ o. K o.name (level_of o.side o.price)) b.orders
      → AllByRecursion (λ p. K p.name level) (look level taker places b rest).parts
  look-parts K = look-relates level taker (λ b rest l. AllByRecursion (λ o. K o.name (level_of o.side o.price)) b.orders → AllByRecursion (λ p. K p.name level) l.parts) (record {
    ends = λ b rest known. tt;
    dead = λ b rest o l e empty some more known. more known;
    live = λ b rest o l e left some more known.
        let has = front-has b level o e in
        let orders = traded-orders b level o taker (min o.left rest) in (
          subst (K o.name) has.1 (All-has (λ p. K p.name (level_of p.side p.price)) b.orders o known has.0),
          more (subst (AllByRecursion (λ p. K p.name (level_of p.side p.price))) (sym orders) (recursion_from_All (λ p. K p.name (level_of p.side p.price)) (lessened b.orders o.name (min o.left rest)) (lessened-All o.name (min o.left rest) (λ p. K p.name (level_of p.side p.price)) (λ _ _ _ k. k) b.orders (All-from_recursion (λ p. K p.name (level_of p.side p.price)) b.orders known)))),
        );
  })

  -- each trade is of accounts in range, where the orders' accounts and the taker's are
  pub look-accounts : IsAccount taker → (places : ℕ) (b : Book) (rest : ℕ) → AllByRecursion (λ o. IsAccount o.account) b.orders → All (λ t. IsAccount t.resting × IsAccount t.taker) b.trades
      → All (λ t. IsAccount t.resting × IsAccount t.taker) (look level taker places b rest).book.trades
  look-accounts takes = look-relates level taker (λ b rest l. AllByRecursion (λ o. IsAccount o.account) b.orders → All (λ t. IsAccount t.resting × IsAccount t.taker) b.trades → All (λ t. IsAccount t.resting × IsAccount t.taker) l.book.trades) (record {
    ends = λ b rest accounts trades. trades;
    dead = λ b rest o l e empty some more accounts trades. more accounts trades;
    live = λ b rest o l e left some more accounts trades.
        let taken = min o.left rest in
        let now : Trade = record { side = o.side; resting = o.account; taker = taker; taken = taken } in
        more (subst (AllByRecursion (λ p. IsAccount p.account)) (sym (traded-orders b level o taker taken)) (recursion_from_All (λ p. IsAccount p.account) (lessened b.orders o.name taken) (lessened-All o.name taken (λ p. IsAccount p.account) (λ _ _ _ k. k) b.orders (All-from_recursion (λ p. IsAccount p.account) b.orders accounts))))
        (subst (All (λ t. IsAccount t.resting × IsAccount t.taker)) (sym (traded-trades b level o taker taken)) (All-push (λ t. IsAccount t.resting × IsAccount t.taker) b.trades now trades (All-has (λ p. IsAccount p.account) b.orders o accounts (front-has b level o e).0, takes)));
  })
