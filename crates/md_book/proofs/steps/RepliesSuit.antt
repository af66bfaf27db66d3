-- Replies suit their commands.
use Rattle.std.proofs.Common.{◌≡◌, ◌≤◌, ◌⊎◌, ℕ, suc, zero, ◌-◌, ◌==◌, min, true, false, cond, List, [], ◌∷◌, length, refl, inl, inr, Option, Some, None, arith}
use Rattle.std.specs.Prelude.{All}
use Rattle.std.specs.List.{AllByRecursion, zip}
use Rattle.std.proofs.lemmas.List.Elements.{All-nil, All-cons, All-head, All-tail, All-push, All-from_recursion, recursion_from_All}
use Rattle.md_book.specs.declared.commands.Part.{Part}
use Rattle.md_book.specs.declared.commands.Command.{Command}
use Rattle.md_book.specs.declared.commands.Command.TheVariants.{Place, Cancel, Fill, Kill, Depth, Account}
use Rattle.md_book.specs.declared.commands.BookReply.TheVariants as reply
use Rattle.md_book.specs.declared.limits.TheConstants.{MAX_QUANTITY}
use Rattle.md_book.specs.Book.{Order, Book, empty_book, level_of, front_order, pass, traded, ended, first_part, look_at, look, find_open, cancel_step, fill_step, book_step, replies_to}
use Rattle.md_book.specs.Commands.{IsName, IsCommand}
use Rattle.md_book.specs.Suits.{IsPart, IsTaken, Suits, RepliesSuit}
use Rattle.md_book.proofs.books.Lessened.{All-has, find-has, lessened-All}
use Rattle.md_book.proofs.looks.Looks.{look-relates}
use Rattle.md_book.proofs.sums.LookSums.{look-rest, look-All, look-parts}
use Rattle.md_book.proofs.steps.Kills.{kill-either}

-- what is known of the orders of a book
abbrev pub Fits : Order → Type 0
Fits o = IsName o.name × (o.left ≤ MAX_QUANTITY)

-- an order that has less left fits too
pub fits-less : (o : Order) (left : ℕ) → left ≤ o.left → Fits o → Fits (record o { left = left })
fits-less o left less is = (is.0, omega (arith, less, is.1))

module _ (level taker : ℕ) where
  -- no more parts are taken than there are places
  few-at : (places : ℕ) → ((b : Book) (rest : ℕ) → length (look level taker places b rest).parts ≤ places) → (b : Book) (rest : ℕ) (front : Option Order)
      → length (look_at front level taker b rest (look level taker places)).parts ≤ suc places
  few-at places few b rest None = omega arith
  few-at places few b rest (Some o) =
      let taken = min o.left rest in
      elim (o.left == 0) as (λ t. length (cond t (look level taker places (pass b level) rest) (first_part o taken (look level taker places (traded b level o taker taken) (rest - taken)))).parts ≤ suc places) [
        | true ↦ omega (arith, few (pass b level) rest)
        | false ↦ omega (arith, few (traded b level o taker taken) (rest - taken))
      ]

  pub look-few : (places : ℕ) (b : Book) (rest : ℕ) → length (look level taker places b rest).parts ≤ places
  unfolding look
  look-few zero b rest = omega arith
  look-few (suc places) b rest = elim (rest == 0) as (λ t. length (cond t (ended b rest) (look_at (front_order b level) level taker b rest (look level taker places))).parts ≤ suc places) [
    | true ↦ omega arith
    | false ↦ few-at places (look-few places) b rest (front_order b level)
  ]

  -- each takes something, and no more than is asked for
  AreSome : ℕ → List Part → Type 0
  AreSome rest = AllByRecursion (λ p. (1 ≤ p.taken) × (p.taken ≤ rest))

  some-less : (less rest : ℕ) → less ≤ rest → (parts : List Part) → AreSome less parts → AreSome rest parts
  unfolding AreSome
  some-less less rest low [] all = tt
  some-less less rest low (p ∷ parts) all = ((all.0.0, omega (arith, low, all.0.1)), some-less less rest low parts all.1)

  look-some : (places : ℕ) (b : Book) (rest : ℕ) → AreSome rest (look level taker places b rest).parts
  unfolding AreSome
  look-some = look-relates level taker (λ b rest l. AreSome rest l.parts) (record {
    ends = λ b rest. tt;
    dead = λ b rest o l e empty some more. more;
    live = λ b rest o l e left some more. ((omega (arith, left, some), omega arith), some-less (rest - min o.left rest) rest (omega arith) l.parts more);
  })

  -- so each is a part of an order
  both : (quantity : ℕ) → quantity ≤ MAX_QUANTITY → (parts : List Part) → AllByRecursion (λ p. IsName p.name) parts → AreSome quantity parts → AllByRecursion IsPart parts
  unfolding AreSome
  both quantity low [] names some = tt
  both quantity low (p ∷ parts) names some = (record { named = names.0; low = some.0.0; high = omega (arith, low, some.0.1) }, both quantity low parts names.1 some.1)

  -- orders that fit have names
  only-names : (os : List Order) → AllByRecursion Fits os → AllByRecursion (λ o. IsName o.name) os
  only-names [] all = tt
  only-names (o ∷ os) all = (all.0.0, only-names os all.1)

  -- what is taken from orders that fit are parts of orders
  pub look-each : (b : Book) (quantity places : ℕ) → quantity ≤ MAX_QUANTITY → All Fits b.orders → AllByRecursion IsPart (look level taker places b quantity).parts
  look-each b quantity places low fit =
      both quantity low (look level taker places b quantity).parts (look-parts level taker (λ name _. IsName name) places b quantity (only-names b.orders (recursion_from_All Fits b.orders fit))) (look-some places b quantity)

  -- a fill answers what was taken
  pub fill-suits : (b : Book) (quantity places : ℕ) → quantity ≤ MAX_QUANTITY → All Fits b.orders → IsTaken quantity places (fill_step b taker level quantity places).reply
  fill-suits b quantity places low fit =
      let l = look level taker places b quantity in
      record {
        parts = l.parts;
        rest = l.rest;
        is = refl;
        few = look-few places b quantity;
        each = All-from_recursion IsPart l.parts (look-each b quantity places low fit);
        adds_up = look-rest level taker places b quantity;
      }

module _ (b : Book) (fit : All Fits b.orders) where
  -- each reply suits
  cancel-suits : (name : ℕ) (found : Option Order) → find_open b name ≡ found → Suits (Cancel name, (cancel_step b found).reply)
  cancel-suits name None e = inl refl
  cancel-suits name (Some o) e = inr (record { left = o.left; is = refl; high = (All-has Fits b.orders o (recursion_from_All Fits b.orders fit) (find-has _ b.orders o e).0).1 })

  step-suits : (c : Command) → IsCommand c → Suits (c, (book_step b c).reply)
  step-suits (Place name account side price quantity) is = refl
  step-suits (Cancel name) is = cancel-suits name (find_open b name) refl
  step-suits (Fill account side price quantity places) is = fill-suits (level_of side price) account b quantity places is.offer.quantity_high fit
  step-suits (Kill account side price quantity places) is =
      kill-either b account (level_of side price) quantity places (λ step. (step.reply ≡ reply.Killed) ⊎ IsTaken quantity places step.reply) (inr (fill-suits (level_of side price) account b quantity places is.offer.quantity_high fit)) (inl refl)
  step-suits (Depth side price) is = record { depth = _; is = refl }
  step-suits (Account account) is = record { bought = _; sold = _; is = refl }

  -- the orders fit after each command
  cancel-fits : (found : Option Order) → All Fits (cancel_step b found).book.orders
  cancel-fits None = fit
  cancel-fits (Some o) = lessened-All o.name o.left Fits fits-less b.orders fit

  fill-fits : (account level quantity places : ℕ) → All Fits (fill_step b account level quantity places).book.orders
  fill-fits account level quantity places = look-All level account Fits fits-less places b quantity fit

  step-fits : (c : Command) → IsCommand c → All Fits (book_step b c).book.orders
  step-fits (Place name account side price quantity) is = All-push Fits b.orders (record { name = name; account = account; side = side; price = price; left = quantity }) fit (is.named, is.offer.quantity_high)
  step-fits (Cancel name) is = cancel-fits (find_open b name)
  step-fits (Fill account side price quantity places) is = fill-fits account (level_of side price) quantity places
  step-fits (Kill account side price quantity places) is = kill-either b account (level_of side price) quantity places (λ step. All Fits step.book.orders) (fill-fits account (level_of side price) quantity places) fit
  step-fits (Depth side price) is = fit
  step-fits (Account account) is = fit

run-suits : (cs : List Command) (b : Book) → All IsCommand cs → All Fits b.orders → All Suits (zip cs (replies_to b cs))
run-suits [] b lawful fit = All-nil Suits
run-suits (c ∷ cs) b lawful fit =
    let is = All-head IsCommand c cs lawful in
    All-cons Suits (c, (book_step b c).reply) (zip cs (replies_to (book_step b c).book cs)) (step-suits b fit c is) (run-suits cs (book_step b c).book (All-tail IsCommand c cs lawful) (step-fits b fit c is))

pub replies-suit : RepliesSuit
replies-suit cs day = run-suits cs empty_book day.lawful (All-nil Fits)
