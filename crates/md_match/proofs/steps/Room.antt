-- How many nodes the contents of a matching book need.
use Rattle.std.proofs.Common.{◌≡◌, ◌+◌, ◌≤◌, List, [], ◌∷◌, length, sym, ap, ◌∙◌, inl, inr, arith}
use Rattle.std.specs.Prelude.{is_some, slice_index_or, sum_by}
use Rattle.std.specs.FinMap as fin
use Rattle.std.proofs.lemmas.Bool.{cases_lt, false≢true}
use Rattle.md_history.specs.State.{State, Table, map_at}
use Rattle.md_book.specs.Book.{Book}
use Rattle.md_book.proofs.books.Few.{few-below}
use Rattle.md_book.proofs.books.Room.{orders-few, depths-few, bought-few, sold-few, queues-few}
use Rattle.md_match.specs.declared.maps.TheConstants.{PRICE_BITS}
use Rattle.md_match.specs.Stands.{StandsForMatch}
use Rattle.md_match.specs.Meets.{ContentsAreFew}

sum-5 : (ms : List Table) → length ms ≡ 5 → sum_by fin.len ms
    ≡ fin.len (slice_index_or ms 0 fin.empty) + (fin.len (slice_index_or ms 1 fin.empty) + (fin.len (slice_index_or ms 2 fin.empty)
    + (fin.len (slice_index_or ms 3 fin.empty) + fin.len (slice_index_or ms 4 fin.empty))))
sum-5 [] five = absurd (omega arith)
sum-5 (a ∷ []) five = absurd (omega arith)
sum-5 (a ∷ b ∷ []) five = absurd (omega arith)
sum-5 (a ∷ b ∷ c ∷ []) five = absurd (omega arith)
sum-5 (a ∷ b ∷ c ∷ d ∷ []) five = absurd (omega arith)
sum-5 (a ∷ b ∷ c ∷ d ∷ e ∷ []) five = omega arith
sum-5 (a ∷ b ∷ c ∷ d ∷ e ∷ f ∷ ms) five = absurd (omega arith)

-- there are 34 words of price bits at most
words-few : (s : State) (b : Book) → StandsForMatch s b → fin.len (map_at s PRICE_BITS) ≤ 34
words-few s b stands = few-below 34 (map_at s PRICE_BITS) (λ key has. elim (cases_lt key 34) [
  | inl low ↦ low
  | inr past ↦ absurd (false≢true (ap is_some (sym (stands.prices.no_more key past)) ∙ has))
])

-- the contents of a matching book need few nodes
pub contents-are-few : ContentsAreFew
contents-are-few s b stands few =
    let shows = stands.shows in
    omega (arith, few, sum-5 s.maps stands.sized.maps, orders-few s b shows, depths-few s b shows, bought-few s b shows, sold-few s b shows, words-few s b stands, queues-few s b shows stands.sized.queues, stands.sized.queues)
