-- The names of a book's orders, and tags that are different from them.
use Rattle.std.proofs.Common.{◌≡◌, ◌≢◌, ℕ, ◌+◌, ◌≤◌, ◌<◌, ◌^◌, List, [], ◌∷◌, ◌++◌, length, map, Option, Some, None, true, false, cond, refl, sym, ap, subst, ◌∙◌, arith}
use Rattle.std.specs.Prelude.{nat_le}
use Rattle.std.specs.List.{AllByRecursion}
use Rattle.std.proofs.lemmas.List.{append-nil, length-append, length-map, map_push}
use Rattle.std.proofs.lemmas.List.Elements.{All-from_recursion}
use Rattle.md_book.specs.declared.commands.Command.{Command}
use Rattle.md_book.specs.declared.commands.Command.TheVariants.{Place, Cancel, Fill, Kill, Depth, Account}
use Rattle.md_book.specs.declared.commands.BookReply.TheVariants.{Killed}
use Rattle.md_book.specs.Book.{Order, Book, book_step, cancel_step, fill_step, kill_step, left_within, find_open, level_of}
use Rattle.md_book.specs.Trading.{names_placed}
use Rattle.md_book.specs.Meets.{MayTake}
use Rattle.md_book.proofs.books.Lessened.{lessened-map}
use Rattle.md_book.proofs.sums.LookSums.{look-map}
use Rattle.md_orders.specs.Scripts.{IsNamed}
pub use Rattle.md_rounds.specs.Traded.{HasNone, AreDifferent}

abbrev pub names_in : Book → List ℕ
names_in b = map (λ (o : Order). o.name) b.orders

cancel-names : (b : Book) (o : Option Order) → map (λ (o : Order). o.name) (cancel_step b o).book.orders ≡ names_in b
cancel-names b None = refl
cancel-names b (Some o) = lessened-map o.name o.left (λ (o : Order). o.name) (λ o left. refl) b.orders

kill-names : (b : Book) (account level quantity places : ℕ) → names_in (kill_step b account level quantity places).book ≡ names_in b
kill-names b account level quantity places =
    elim (nat_le quantity (left_within b level places)) as (λ t. names_in (cond t (fill_step b account level quantity places) (record { book = b; reply = Killed })).book ≡ names_in b) [
      | true ↦ look-map level account (λ (o : Order). o.name) (λ o left. refl) places b quantity
      | false ↦ refl
    ]

-- a step of the book adds the name that it places, and takes none away
names-step : (b : Book) (c : Command) → names_in (book_step b c).book ≡ names_in b ++ names_placed (c ∷ [])
names-step b (Place name account side price quantity) = map_push (λ (o : Order). o.name) b.orders _
names-step b (Cancel name) = cancel-names b (find_open b name) ∙ sym (append-nil (names_in b))
names-step b (Fill account side price quantity places) = look-map (level_of side price) account (λ (o : Order). o.name) (λ o left. refl) places b quantity ∙ sym (append-nil (names_in b))
names-step b (Kill account side price quantity places) = kill-names b account (level_of side price) quantity places ∙ sym (append-nil (names_in b))
names-step b (Depth side price) = sym (append-nil (names_in b))
names-step b (Account account) = sym (append-nil (names_in b))

-- no name is one of these tags
abbrev pub AreApart : List ℕ → List ℕ → Type 0
AreApart [] ns = Unit {0}
AreApart (t ∷ ts) ns = HasNone t ns × AreApart ts ns

none-push : (t : ℕ) (ns : List ℕ) (n : ℕ) → HasNone t ns → n ≢ t → HasNone t (ns ++ n ∷ [])
none-push t [] n h other = (other, tt)
none-push t (m ∷ ns) n h other = (h.0, none-push t ns n h.1 other)

apart-push : (ts ns : List ℕ) (n : ℕ) → AreApart ts ns → HasNone n ts → AreApart ts (ns ++ n ∷ [])
apart-push [] ns n a h = tt
apart-push (t ∷ ts) ns n a h = (none-push t ns n a.0 (λ e. h.0 (sym e)), apart-push ts ns n a.1 h.1)

-- at the start there is no name
pub apart-none : (ts : List ℕ) → AreApart ts []
apart-none [] = tt
apart-none (t ∷ ts) = (tt, apart-none ts)

apart-placed : (b : Book) (c : Command) (t : ℕ) (ts : List ℕ) → IsNamed t c → AreApart ts (names_in b) → HasNone t ts → AreApart ts (names_in b ++ names_placed (c ∷ []))
apart-placed b (Place name account side price quantity) t ts is a h = apart-push ts (names_in b) name a (subst (λ n. HasNone n ts) (sym is) h)
apart-placed b (Cancel name) t ts is a h = subst (AreApart ts) (sym (append-nil (names_in b))) a
apart-placed b (Fill account side price quantity places) t ts is a h = subst (AreApart ts) (sym (append-nil (names_in b))) a
apart-placed b (Kill account side price quantity places) t ts is a h = subst (AreApart ts) (sym (append-nil (names_in b))) a
apart-placed b (Depth side price) t ts is a h = subst (AreApart ts) (sym (append-nil (names_in b))) a
apart-placed b (Account account) t ts is a h = subst (AreApart ts) (sym (append-nil (names_in b))) a

-- after a command that its tag names, the names are still none of the later tags
pub apart-step : (b : Book) (c : Command) (t : ℕ) (ts : List ℕ) → IsNamed t c → AreApart ts (names_in b) → HasNone t ts → AreApart ts (names_in (book_step b c).book)
apart-step b c t ts is a h = subst (AreApart ts) (sym (names-step b c)) (apart-placed b c t ts is a h)

placed-few : (c : Command) → length (names_placed (c ∷ [])) ≤ 1
placed-few (Place name account side price quantity) = omega arith
placed-few (Cancel name) = omega arith
placed-few (Fill account side price quantity places) = omega arith
placed-few (Kill account side price quantity places) = omega arith
placed-few (Depth side price) = omega arith
placed-few (Account account) = omega arith

-- and at most one order joined
pub few-step : (b : Book) (c : Command) → length (book_step b c).book.orders ≤ length b.orders + 1
few-step b c = omega (arith, placed-few c, ap length (names-step b c), length-append (names_in b) (names_placed (c ∷ [])), length-map b.orders (λ (o : Order). o.name), length-map (book_step b c).book.orders (λ (o : Order). o.name))

none-orders : (t : ℕ) (os : List Order) → HasNone t (map (λ (o : Order). o.name) os) → AllByRecursion (λ (o : Order). o.name ≢ t) os
none-orders t [] h = tt
none-orders t (o ∷ os) h = (h.0, none-orders t os h.1)

-- a book can take a command that a new tag names
pub may-take : (b : Book) (c : Command) (t : ℕ) → IsNamed t c → HasNone t (names_in b) → length b.orders + 1 < 2 ^ 32 → MayTake b c
may-take b (Place name account side price quantity) t is none room =
    (All-from_recursion (λ (o : Order). o.name ≢ name) b.orders (none-orders name b.orders (subst (λ n. HasNone n (names_in b)) (sym is) none)), room)
may-take b (Cancel name) t is none room = tt
may-take b (Fill account side price quantity places) t is none room = tt
may-take b (Kill account side price quantity places) t is none room = tt
may-take b (Depth side price) t is none room = tt
may-take b (Account account) t is none room = tt
