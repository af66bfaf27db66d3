-- Looks at the places of a level, one after another.
use Rattle.std.proofs.Common.{◌≡◌, ◌≢◌, ◌-◌, ◌==◌, min, ℕ, suc, zero, refl, Option, Some, None}
use Rattle.std.proofs.lemmas.Bool.{eqb-true, eqb-false, cond_both}
use Rattle.md_book.specs.Book.{Order, Book, Looked, ended, first_part, pass, traded, front_order, look_at, look}

-- what relates a book and what remains to what looks come to: it is enough to show it where they end, where a dead
-- place is passed, and where from an order is taken
module _ (level taker : ℕ) (R : Book → ℕ → Looked → Type 0) where
  pub record Steps : Type 0 where
    pub ends : (b : Book) (rest : ℕ) → R b rest (ended b rest)
    pub dead : (b : Book) (rest : ℕ) (o : Order) (l : Looked) → front_order b level ≡ Some o → o.left ≡ 0 → rest ≢ 0 → R (pass b level) rest l → R b rest l
    pub live : (b : Book) (rest : ℕ) (o : Order) (l : Looked) → front_order b level ≡ Some o → o.left ≢ 0 → rest ≢ 0 → R (traded b level o taker (min o.left rest)) (rest - min o.left rest) l → R b rest (first_part o (min o.left rest) l)

  at_front : Steps → (more : Book → ℕ → Looked) → ((b : Book) (rest : ℕ) → R b rest (more b rest)) → (b : Book) (rest : ℕ) → rest ≢ 0 → (front : Option Order) → front_order b level ≡ front → R b rest (look_at front level taker b rest more)
  at_front steps more relates b rest some None e = steps.ends b rest
  at_front steps more relates b rest some (Some o) e =
      let taken = min o.left rest in
      cond_both (o.left == 0) (more (pass b level) rest) (first_part o taken (more (traded b level o taker taken) (rest - taken))) (R b rest)
      (λ empty. steps.dead b rest o (more (pass b level) rest) e (eqb-true o.left 0 empty) some (relates (pass b level) rest))
      (λ live. steps.live b rest o (more (traded b level o taker taken) (rest - taken)) e (eqb-false o.left 0 live) some (relates (traded b level o taker taken) (rest - taken)))

  pub look-relates : Steps → (places : ℕ) (b : Book) (rest : ℕ) → R b rest (look level taker places b rest)
  unfolding look
  look-relates steps zero b rest = steps.ends b rest
  look-relates steps (suc places) b rest =
      cond_both (rest == 0) (ended b rest) (look_at (front_order b level) level taker b rest (look level taker places)) (R b rest)
      (λ _. steps.ends b rest)
      (λ some. at_front steps (look level taker places) (look-relates steps places) b rest (eqb-false rest 0 some) (front_order b level) refl)
