-- Looks at the best levels, one after another.
use Rattle.std.proofs.Common.{◌≡◌, ◌≢◌, ◌<◌, ◌==◌, nat_lt, ℕ, suc, zero, true, false, refl, Option, Some, None}
use Rattle.std.specs.Prelude.{is_none}
use Rattle.std.proofs.lemmas.Bool.{eqb-false, cond_both, and_parts, ltb-true}
use Rattle.md_book.specs.declared.commands.Side.{Side}
use Rattle.md_book.specs.Book.{Order, Book, level_of, look}
use Rattle.md_book.proofs.books.Orders.{with_order}
use Rattle.md_match.specs.Matching.{opposite, best_price, Swept, swept, look_then, look_best, sweep, MatchStep, matched, is_placed, settle}

-- what relates a book and what remains to what a sweep comes to: it is enough to show it where it ends, and where one
-- place of the best level is looked at
module _ (account : ℕ) (side : Side) (limit : ℕ) (R : Book → ℕ → Swept → Type 0) where
  -- where it ends, and where a place is looked at
  pub record Steps : Type 0 where
    pub ends : (b : Book) (rest : ℕ) → R b rest (swept b rest)
    pub looks : (b : Book) (rest price : ℕ) (more : Book → ℕ → Swept) → rest ≢ 0 → best_price b side limit ≡ Some price
        → R (look (level_of (opposite side) price) account 1 b rest).book (look (level_of (opposite side) price) account 1 b rest).rest
        (more (look (level_of (opposite side) price) account 1 b rest).book (look (level_of (opposite side) price) account 1 b rest).rest)
        → R b rest (look_then price (look (level_of (opposite side) price) account 1 b rest) more)

  by_best : Steps → (more : Book → ℕ → Swept) → ((b : Book) (rest : ℕ) → R b rest (more b rest)) → (b : Book) (rest : ℕ) → rest ≢ 0
      → (best : Option ℕ) → best_price b side limit ≡ best → R b rest (look_best account side best b rest more)
  by_best steps more relates b rest some None e = steps.ends b rest
  by_best steps more relates b rest some (Some price) e =
      steps.looks b rest price more some e (relates (look (level_of (opposite side) price) account 1 b rest).book (look (level_of (opposite side) price) account 1 b rest).rest)

  -- so it is related
  pub sweep-relates : Steps → (looks : ℕ) (b : Book) (rest : ℕ) → R b rest (sweep account side limit looks b rest)
  unfolding sweep
  sweep-relates steps zero b rest = steps.ends b rest
  sweep-relates steps (suc looks) b rest =
      cond_both (rest == 0) (swept b rest) (look_best account side (best_price b side limit) b rest (sweep account side limit looks)) (R b rest)
      (λ _. steps.ends b rest)
      (λ some. by_best steps (sweep account side limit looks) (sweep-relates steps looks) b rest (eqb-false rest 0 some) (best_price b side limit) refl)

-- what remains is placed: something remains, and there is no price left
pub record IsRest (s : Swept) (side : Side) (limit : ℕ) : Type 0 where
  pub some : 0 < s.rest
  pub none : best_price s.book side limit ≡ None

none-is : {A : Type 0} (o : Option A) → is_none o ≡ true → o ≡ None
none-is None e = refl
none-is (Some x) e = cc

-- the book and the reply where what remains is placed, and where it is dropped
abbrev pub placed_step : Swept → Order → MatchStep
placed_step s o = record { book = with_order s.book (record o { left = s.rest }); reply = matched s.parts s.rest 0 }

-- and where it is dropped
abbrev pub dropped_step : Swept → MatchStep
dropped_step s = record { book = s.book; reply = matched s.parts 0 s.rest }

-- what holds of both holds of either
pub settle-either : (s : Swept) (o : Order) (P : MatchStep → Type 0) → (IsRest s o.side o.price → P (placed_step s o))
    → (is_placed s o.side o.price ≡ false → P (dropped_step s)) → P (settle s o)
settle-either s o P placed dropped =
    cond_both (is_placed s o.side o.price) (placed_step s o) (dropped_step s) P
    (λ e. let both = and_parts (nat_lt 0 s.rest) (is_none (best_price s.book o.side o.price)) e in
    placed (record { some = ltb-true 0 s.rest both.0; none = none-is (best_price s.book o.side o.price) both.1 }))
    dropped
