-- Of each order, what was placed is what was cancelled, was taken and is left.
use Rattle.std.proofs.Common.{◌≡◌, ◌<◌, ℕ, ◌+◌, ◌==◌, nat_eq, false, cond, List, [], ◌∷◌, length, zero, suc, refl, sym, ap, subst, ◌∙◌, inl, inr, arith}
use Rattle.std.specs.Prelude.{sum_by, slice_index_or}
use Rattle.std.specs.List.{IsDistinct, AllByRecursion, zip}
use Rattle.std.proofs.lemmas.Bool.{eq-eqb}
use Rattle.std.proofs.lemmas.List.Sums.{sum_by-cons}
use Rattle.std.proofs.lemmas.Map.Keys.{IsDistinct-head, IsDistinct-tail}
use Rattle.md_book.specs.declared.commands.Side.{Side}
use Rattle.md_book.specs.declared.commands.Command.{Command}
use Rattle.md_book.specs.declared.commands.Command.TheVariants.{Place, Cancel, Fill, Kill, Depth, Account}
use Rattle.md_book.specs.declared.commands.BookReply.{BookReply}
use Rattle.md_book.specs.Book.{Book, empty_book, book_step, replies_to}
use Rattle.md_book.specs.Trading.{names_placed, placed_among, EachOrderAddsUp}
use Rattle.md_book.proofs.books.Lessened.{Has, apart-flip}
use Rattle.md_book.proofs.sums.OrdersAddUp.{orders-add-up}

has-from_index : {X : Type 0} (xs : List X) (k : ℕ) (x : X) → k < length xs → slice_index_or xs k x ≡ x → Has xs x
has-from_index [] k x below e = absurd (omega arith)
has-from_index (y ∷ ys) zero x below e = inl e
has-from_index (y ∷ ys) (suc k) x below e = inr (has-from_index ys k x (omega arith) e)

module _ (name account : ℕ) (side : Side) (price quantity : ℕ) where
  abbrev own : Command
  own = Place name account side price quantity

  abbrev placed_own : Command × BookReply → ℕ
  placed_own told = placed_among (λ n. n == name) told

  -- what holds of all names that are placed holds of this one
  all-placed : (P : ℕ → Type 0) (cs : List Command) → AllByRecursion P (names_placed cs) → Has cs own → P name
  all-placed P [] all has = absurd has
  all-placed P (c ∷ cs) all (inl same) = (subst (λ ds. AllByRecursion P (names_placed ds)) (ap (λ d. d ∷ cs) same) all).0
  all-placed P (Place n a s p q ∷ cs) all (inr there) = all-placed P cs all.1 there
  all-placed P (Cancel n ∷ cs) all (inr there) = all-placed P cs all there
  all-placed P (Fill a s p q n ∷ cs) all (inr there) = all-placed P cs all there
  all-placed P (Kill a s p q n ∷ cs) all (inr there) = all-placed P cs all there
  all-placed P (Depth s p ∷ cs) all (inr there) = all-placed P cs all there
  all-placed P (Account a ∷ cs) all (inr there) = all-placed P cs all there

  told-cons : (c : Command) (cs : List Command) (b : Book) → sum_by placed_own (zip (c ∷ cs) (replies_to b (c ∷ cs))) ≡ placed_own (c, (book_step b c).reply) + sum_by placed_own (zip cs (replies_to (book_step b c).book cs))
  told-cons c cs b = sum_by-cons placed_own (c, (book_step b c).reply) (zip cs (replies_to (book_step b c).book cs))

  placed-other : (n quantity' : ℕ) → nat_eq n name ≡ false → cond (n == name) quantity' 0 ≡ 0
  placed-other n quantity' apart = ap (λ t. cond t quantity' 0) apart

  -- under other names nothing of it is placed
  placed-none : (cs : List Command) (b : Book) → AllByRecursion (λ n. nat_eq n name ≡ false) (names_placed cs) → sum_by placed_own (zip cs (replies_to b cs)) ≡ 0
  placed-none [] b apart = refl
  placed-none (Place n a s p q ∷ cs) b apart = omega (arith, told-cons (Place n a s p q) cs b, placed-other n q apart.0, placed-none cs (book_step b (Place n a s p q)).book apart.1)
  placed-none (Cancel n ∷ cs) b apart = omega (arith, told-cons (Cancel n) cs b, placed-none cs (book_step b (Cancel n)).book apart)
  placed-none (Fill a s p q n ∷ cs) b apart = omega (arith, told-cons (Fill a s p q n) cs b, placed-none cs (book_step b (Fill a s p q n)).book apart)
  placed-none (Kill a s p q n ∷ cs) b apart = omega (arith, told-cons (Kill a s p q n) cs b, placed-none cs (book_step b (Kill a s p q n)).book apart)
  placed-none (Depth s p ∷ cs) b apart = omega (arith, told-cons (Depth s p) cs b, placed-none cs (book_step b (Depth s p)).book apart)
  placed-none (Account a ∷ cs) b apart = omega (arith, told-cons (Account a) cs b, placed-none cs (book_step b (Account a)).book apart)

  flipped : (ns : List ℕ) → AllByRecursion (λ n. nat_eq name n ≡ false) ns → AllByRecursion (λ n. nat_eq n name ≡ false) ns
  flipped [] apart = tt
  flipped (n ∷ ns) apart = (apart-flip name n apart.0, flipped ns apart.1)

  -- its quantity is placed, once
  placed-once : (cs : List Command) (b : Book) → IsDistinct nat_eq (names_placed cs) → Has cs own → sum_by placed_own (zip cs (replies_to b cs)) ≡ quantity
  placed-once [] b distinct has = absurd has
  placed-once (c ∷ cs) b distinct (inl same) =
      let names = subst (λ ds. IsDistinct nat_eq (names_placed ds)) (ap (λ d. d ∷ cs) same) distinct in
      let apart = flipped (names_placed cs) (IsDistinct-head nat_eq name (names_placed cs) names) in
      let mine : placed_own (c, (book_step b c).reply) ≡ quantity = ap (λ d. placed_own (d, (book_step b c).reply)) same ∙ ap (λ t. cond t quantity 0) (eq-eqb name name refl) in
      omega (arith, told-cons c cs b, mine, placed-none cs (book_step b c).book apart)
  placed-once (Place n a s p q ∷ cs) b distinct (inr there) =
      let apart = all-placed (λ m. nat_eq n m ≡ false) cs (IsDistinct-head nat_eq n (names_placed cs) distinct) there in
      omega (arith, told-cons (Place n a s p q) cs b, placed-other n q apart, placed-once cs (book_step b (Place n a s p q)).book (IsDistinct-tail nat_eq n (names_placed cs) distinct) there)
  placed-once (Cancel n ∷ cs) b distinct (inr there) = omega (arith, told-cons (Cancel n) cs b, placed-once cs (book_step b (Cancel n)).book distinct there)
  placed-once (Fill a s p q n ∷ cs) b distinct (inr there) = omega (arith, told-cons (Fill a s p q n) cs b, placed-once cs (book_step b (Fill a s p q n)).book distinct there)
  placed-once (Kill a s p q n ∷ cs) b distinct (inr there) = omega (arith, told-cons (Kill a s p q n) cs b, placed-once cs (book_step b (Kill a s p q n)).book distinct there)
  placed-once (Depth s p ∷ cs) b distinct (inr there) = omega (arith, told-cons (Depth s p) cs b, placed-once cs (book_step b (Depth s p)).book distinct there)
  placed-once (Account a ∷ cs) b distinct (inr there) = omega (arith, told-cons (Account a) cs b, placed-once cs (book_step b (Account a)).book distinct there)

pub each-order-adds-up : EachOrderAddsUp
each-order-adds-up cs name account side price quantity day has =
    sym (placed-once name account side price quantity cs empty_book day.distinct (has-from_index cs has.0 (Place name account side price quantity) has.1 has.2)) ∙ orders-add-up cs (λ n. n == name) day
