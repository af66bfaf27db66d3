-- A look at a level's front place.
use Rattle.std.proofs.Common.{◌≡◌, ◌≢◌, ℕ, ◌+◌, ◌<◌, ◌≤◌, ◌==◌, ◌⊎◌, min, cond, List, [], ◌∷◌, refl, sym, ap, subst, ◌∙◌, inl, inr, Option, Some, None, arith}
use Rattle.std.specs.Prelude.{slice_get}
use Rattle.std.specs.Option.{option_map}
use Rattle.std.specs.FinMap as fin
use Rattle.std.proofs.lemmas.Bool.{cases_eq, le-ltb}
use Rattle.md_history.specs.declared.acts.Act.{Act}
use Rattle.md_history.specs.declared.acts.Op.TheVariants.{Get, Dequeue, Front}
use Rattle.md_history.specs.declared.acts.Reply.TheVariants.{Value}
use Rattle.md_history.specs.Act.{act_of}
use Rattle.md_history.specs.State.{State, map_at, queue_at, after}
use Rattle.md_history.specs.Script.{Script, done, call}
use Rattle.md_history.specs.Branches.{by_value}
use Rattle.md_history.proofs.Plays.{played, outcome, made}
use Rattle.md_book.specs.declared.commands.Side.{Side}
use Rattle.md_book.specs.declared.fronts.Look.{Look}
use Rattle.md_book.specs.declared.fronts.Look.TheVariants.{Nobody, Dead}
use Rattle.md_book.specs.declared.maps.TheConstants.{LEVELS, OPEN_ORDERS}
use Rattle.md_book.specs.Book.{Order, Book, IsAccount, IsPrice, level_of, front_order, pass}
use Rattle.md_book.specs.Stands.{account_in, left_in}
use Rattle.md_book.specs.Filling.{take_from, look_front}
use Rattle.md_book.specs.Places.{places_looked}
use Rattle.md_book.proofs.books.Places.{look-seen}
use Rattle.md_book.proofs.books.Changes.{dequeue-lines}
use Rattle.md_book.proofs.steps.Costs.{Costs, costs-append, costs-more, costs-front, costs-end, costs-get, costs-dequeue}
use Rattle.md_book.proofs.sums.LookSums.{front-has}
use Rattle.md_book.proofs.books.Unpacking.{account_in-packed, left_in-packed}
use Rattle.md_book.proofs.books.ChangedBooks.{open_order-own, sound-pass}
use Rattle.md_book.proofs.books.Reflects.{Reflects, reflects-front, reflects-pass}
use Rattle.md_book.proofs.steps.TakingOut.{unless, packed_order, front-in_range, front-stood}
use Rattle.md_book.proofs.looks.AtFront.{IsLive, taking, takes_live}

-- nobody is there
pub record IsNobody (b : Book) (level : ℕ) (side : Side) (depths takers : ℕ → ℕ) (t : State) (look : Look) (acts : List Act) : Type 0 where
  pub look_is : look ≡ Nobody
  pub reflects : Reflects t b side depths takers
  pub costs : Costs level acts 1 0 0

-- a dead place was passed
pub record IsDead (b : Book) (level : ℕ) (side : Side) (depths takers : ℕ → ℕ) (o : Order) (t : State) (look : Look) (acts : List Act) : Type 0 where
  pub empty : o.left ≡ 0
  pub look_is : look ≡ Dead
  pub reflects : Reflects t (pass b level) side depths takers
  pub costs : Costs level acts 1 1 0

-- what is done with what the front names, and with what the map has there
abbrev at_order : Side → ℕ → ℕ → ℕ → Option ℕ → Script Look
at_order side level rest name v = by_value (Value v) (call (Dequeue level) (λ _. done Dead)) (λ order. take_from side level name order (min (left_in order) rest))

abbrev at_name : Side → ℕ → ℕ → Option ℕ → Script Look
at_name side level rest v =
    by_value (Value v) (done Nobody) (λ name. call (Get OPEN_ORDERS name) (λ s. by_value s (call (Dequeue level) (λ _. done Dead)) (λ order. take_from side level name order (min (left_in order) rest))))

module _ (side : Side) (price : ℕ) (priced : IsPrice price) (taker : ℕ) (taker_in_range : IsAccount taker) {s : State} {b : Book} {depths takers : ℕ → ℕ} (r : Reflects s b side depths takers) (below : level_of side price < LEVELS) (rest : ℕ) where
  abbrev level : ℕ
  level = level_of side price

  -- a dead place, or a live order, of which the smaller of what it has left and what remains is taken
  abbrev pub LooksAtOrder : Order → State → Look → List Act → Type 0
  LooksAtOrder o t look acts =
      IsDead b level side depths takers o t look acts
      ⊎ ((0 < o.left) × IsLive b level side depths takers taker o (min o.left rest) 2 (5 + unless (o.left == min o.left rest)) (1 + unless (o.left == min o.left rest)) t look acts)

  -- what a look is, by the order at the front
  abbrev pub LooksAt : Option Order → State → Look → List Act → Type 0
  LooksAt None t look acts = IsNobody b level side depths takers t look acts
  LooksAt (Some o) t look acts = (1 ≤ places_looked acts) × LooksAtOrder o t look acts

  module _ (o : Order) (front : front_order b level ≡ Some o) where
    first : slice_get (queue_at s level) 0 ≡ Some o.name
    first = reflects-front r level below ∙ ap (option_map (λ p. p.name)) front

    -- the acts so far
    abbrev so_far : Option ℕ → List Act → List Act
    so_far v acts = act_of (Front level) (Value (Some o.name)) ∷ act_of (Get OPEN_ORDERS o.name) (Value v) ∷ acts

    passes_dead : o.left ≡ 0 → IsDead b level side depths takers o (after s (Dequeue level)) Dead (so_far None (act_of (Dequeue level) (Value (slice_get (queue_at s level) 0)) ∷ []))
    passes_dead empty = record {
      empty = empty;
      look_is = refl;
      reflects = reflects-pass r (after s (Dequeue level)) level (sound-pass b level o front empty r.sound) (dequeue-lines s level (omega (arith, below, r.queues)));
      costs = subst (λ v. Costs level (so_far None (act_of (Dequeue level) (Value v) ∷ [])) 1 1 0) (sym first)
          (costs-append (costs-front level o.name) (costs-append (costs-get level OPEN_ORDERS o.name None) (costs-dequeue level o.name)));
    }

    abbrev Lives : State → Look → List Act → Type 0
    Lives t look acts = IsLive b level side depths takers taker o (min o.left rest) 2 (5 + unless (o.left == min o.left rest)) (1 + unless (o.left == min o.left rest)) t look acts

    takes_at : (some : rest ≢ 0) (live : 0 < o.left) → Lives (played (at_order side level rest o.name (Some (packed_order o))) s) (outcome (at_order side level rest o.name (Some (packed_order o))) s) (so_far (Some (packed_order o)) (made (at_order side level rest o.name (Some (packed_order o))) s))
    takes_at some live =
        let in_range = front-in_range r level below o front live in
        let taken = takes_live side price priced taker taker_in_range r below o front live (min o.left rest) (λ e. some (omega (arith, e, live))) (omega arith) in
        let P : ℕ → ℕ → Type 0 = λ left account. Lives (played (taking side level o (min left rest) (left == min left rest) account) s) (outcome (taking side level o (min left rest) (left == min left rest) account) s)
        (so_far (Some (packed_order o)) (made (taking side level o (min left rest) (left == min left rest) account) s)) in
        subst (λ left. P left (account_in (packed_order o))) (sym (left_in-packed o.account o.price o.left in_range.price in_range.left o.side))
        (subst (P o.left) (sym (account_in-packed o.account o.price o.left in_range.price in_range.left o.side))
        (record {
          look_is = taken.look_is;
          reflects = taken.reflects;
          costs = costs-more (costs-append (costs-front level o.name) taken.costs) 2 (5 + unless (o.left == min o.left rest)) (1 + unless (o.left == min o.left rest)) (omega arith) (omega arith) (omega arith);
        }))

    some_looks : rest ≢ 0 → LooksAtOrder o (played (at_name side level rest (Some o.name)) s) (outcome (at_name side level rest (Some o.name)) s) (act_of (Front level) (Value (Some o.name)) ∷ made (at_name side level rest (Some o.name)) s)
    some_looks remains =
        let P : Option ℕ → Type 0 = λ v. LooksAtOrder o (played (at_order side level rest o.name v) s) (outcome (at_order side level rest o.name v) s) (so_far v (made (at_order side level rest o.name v) s)) in
        elim (cases_eq o.left 0) [
          | inl empty ↦
              let none : fin.get (map_at s OPEN_ORDERS) o.name ≡ None = r.orders o.name ∙ open_order-own b o r.sound (front-has b level o front).0 ∙ ap (λ t. cond t (Some (packed_order o)) None) (le-ltb 0 o.left (omega arith)) in
              subst P (sym none) (inl (passes_dead empty))
          | inr some ↦
              let live : 0 < o.left = omega (arith, some) in
              subst P (sym (front-stood r level below o front live)) (inr (live, takes_at remains live))
        ]

  by_front : rest ≢ 0 → (front : Option Order) → front_order b level ≡ front → LooksAt front (played (at_name side level rest (option_map (λ p. p.name) front)) s) (outcome (at_name side level rest (option_map (λ p. p.name) front)) s)
      (act_of (Front level) (Value (option_map (λ p. p.name) front)) ∷ made (at_name side level rest (option_map (λ p. p.name) front)) s)
  by_front remains None e = record { look_is = refl; reflects = r; costs = costs-end level }
  by_front remains (Some o) e = (look-seen level o.name (made (at_name side level rest (Some o.name)) s), some_looks o e remains)

  pub front-looks : rest ≢ 0 → LooksAt (front_order b level) (played (look_front side level rest) s) (outcome (look_front side level rest) s) (made (look_front side level rest) s)
  front-looks remains = subst (λ v. LooksAt (front_order b level) (played (at_name side level rest v) s) (outcome (at_name side level rest v) s) (act_of (Front level) (Value v) ∷ made (at_name side level rest v) s))
      (sym (reflects-front r level below)) (by_front remains (front_order b level) refl)
