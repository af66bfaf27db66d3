-- What is left of orders of which one has less left, and what is found.
use Rattle.std.proofs.Common.{◌≡◌, ◌≢◌, ℕ, ◌+◌, ◌-◌, ◌≤◌, ◌==◌, ◌&&◌, nat_lt, Bool, true, false, cond, List, [], ◌∷◌, refl, sym, ap, ◌∙◌, inl, inr, Some, arith}
use Rattle.std.specs.Prelude.{find, sum_by}
use Rattle.std.proofs.lemmas.Bool.{ne_eqb, eqb-true}
use Rattle.md_book.specs.Book.{Order, lessen, lessened}
use Rattle.md_book.proofs.books.Lessened.{Has, lessened-sum}
use Rattle.md_book.proofs.books.OpenOrders.{AreApart, is_open}

-- a function of an order that doesn't see what it has left
abbrev pub SeesNotLeft : {X : Type 0} → (Order → X) → Type 0
SeesNotLeft f = (p : Order) (left : ℕ) → f (record p { left = left }) ≡ f p

-- nothing is left where nothing was
pub left-lessen_0 : (name by : ℕ) (p : Order) → p.left ≡ 0 → (lessen name by p).left ≡ 0
left-lessen_0 name by p none = elim (p.name == name) as (λ b. (cond b (record p { left = p.left - by }) p).left ≡ 0) [ true ↦ omega arith | false ↦ none ]

pub left-lessen-le : (name by : ℕ) (p : Order) → (lessen name by p).left ≤ p.left
left-lessen-le name by p = elim (p.name == name) as (λ b. (cond b (record p { left = p.left - by }) p).left ≤ p.left) [ true ↦ omega arith | false ↦ omega arith ]

pub has-lessened : (ps : List Order) (o : Order) (name by : ℕ) → Has ps o → Has (lessened ps name by) (lessen name by o)
has-lessened [] o name by h = absurd h
has-lessened (p ∷ ps) o name by h = elim h [ inl same ↦ inl (ap (lessen name by) same) | inr later ↦ inr (has-lessened ps o name by later) ]

-- an order of another name is found as before
pub find-lessened_other : (ps : List Order) (name by other : ℕ) → other ≢ name → find (is_open other) (lessened ps name by) ≡ find (is_open other) ps
find-lessened_other [] name by other apart = refl
find-lessened_other (p ∷ ps) name by other apart =
    elim (p.name == name) as (λ b. (p.name == name) ≡ b → cond (is_open other (cond b (record p { left = p.left - by }) p)) (Some (cond b (record p { left = p.left - by }) p)) (find (is_open other) (lessened ps name by)) ≡ find (is_open other) (p ∷ ps)) [
      | true ↦ λ e. let away : (p.name == other) ≡ false = ne_eqb p.name other (λ f. apart (sym f ∙ eqb-true p.name name e)) in
          ap (λ t. cond (t && nat_lt 0 (p.left - by)) (Some (record p { left = p.left - by })) (find (is_open other) (lessened ps name by))) away
          ∙ find-lessened_other ps name by other apart
          ∙ sym (ap (λ t. cond (t && nat_lt 0 p.left) (Some p) (find (is_open other) ps)) away)
      | false ↦ λ e. ap (cond (is_open other p) (Some p)) (find-lessened_other ps name by other apart)
    ] refl

-- what is left of the orders that pass a test
abbrev pub left_where : (Order → Bool) → Order → ℕ
left_where w p = cond (w p) p.left 0

-- that falls by what one of them is lessened by
pub left-lessened : (w : Order → Bool) → SeesNotLeft w → (ps : List Order) (o : Order) (by : ℕ) → AreApart ps → Has ps o → by ≤ o.left
    → sum_by (left_where w) (lessened ps o.name by) + cond (w o) by 0 ≡ sum_by (left_where w) ps
left-lessened w blind ps o by apart has within =
    let own : left_where w (record o { left = o.left - by }) + cond (w o) by 0 ≡ left_where w o =
    ap (λ t. cond t (o.left - by) 0 + cond (w o) by 0) (blind o (o.left - by))
    ∙ elim (w o) as (λ b. cond b (o.left - by) 0 + cond b by 0 ≡ cond b o.left 0) [ true ↦ omega arith | false ↦ omega arith ] in
    omega (arith, lessened-sum (left_where w) ps o by apart has, own)
