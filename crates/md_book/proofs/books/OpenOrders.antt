-- Orders with names of their own: one that stands among them is found by its name.
use Rattle.std.proofs.Common.{◌≡◌, ◌≢◌, ℕ, ◌==◌, ◌&&◌, nat_eq, nat_lt, Bool, false, cond, List, [], ◌∷◌, map, refl, sym, ap, subst, ◌∙◌, inl, inr, Some, None}
use Rattle.std.specs.Prelude.{find}
use Rattle.std.specs.List.{IsDistinct, AllByRecursion}
use Rattle.std.proofs.lemmas.Bool.{eq-eqb, ne_eqb, eqb-false}
use Rattle.std.proofs.lemmas.Map.Keys.{IsDistinct-head, IsDistinct-tail}
use Rattle.md_book.specs.Book.{Order}
use Rattle.md_book.proofs.books.Lessened.{Has}

-- no two orders have one name
abbrev pub AreApart : List Order → Type 0
AreApart orders = IsDistinct nat_eq (map (λ o. o.name) orders)

-- none of these has the name
abbrev pub HasNone : ℕ → List Order → Type 0
HasNone name orders = AllByRecursion (λ other. nat_eq name other ≡ false) (map (λ o. o.name) orders)

-- an order of a name with something left, as a book finds it
abbrev pub is_open : ℕ → Order → Bool
is_open name o = (o.name == name) && nat_lt 0 o.left

-- what the head of orders that are apart says of the rest
pub apart-head : (p : Order) (ps : List Order) → AreApart (p ∷ ps) → HasNone p.name ps
apart-head p ps apart = IsDistinct-head nat_eq p.name (map (λ o. o.name) ps) apart

pub apart-tail : (p : Order) (ps : List Order) → AreApart (p ∷ ps) → AreApart ps
apart-tail p ps apart = IsDistinct-tail nat_eq p.name (map (λ o. o.name) ps) apart

pub other-name : (name : ℕ) (ps : List Order) (o : Order) → HasNone name ps → Has ps o → name ≢ o.name
other-name name [] o none h = absurd h
other-name name (p ∷ ps) o none h = elim h [
  | inl same ↦ subst (λ x. name ≢ x.name) same (eqb-false name p.name none.0)
  | inr later ↦ other-name name ps o none.1 later
]

find-none : (name : ℕ) (ps : List Order) → HasNone name ps → find (is_open name) ps ≡ None
find-none name [] none = refl
find-none name (p ∷ ps) none =
    let other : (p.name == name) ≡ false = ne_eqb p.name name (λ e. eqb-false name p.name none.0 (sym e)) in
    ap (λ t. cond (t && nat_lt 0 p.left) (Some p) (find (is_open name) ps)) other ∙ find-none name ps none.1

-- the order of a name is found where it has something left
pub find-own : (ps : List Order) (o : Order) → AreApart ps → Has ps o → find (is_open o.name) ps ≡ cond (nat_lt 0 o.left) (Some o) None
find-own [] o apart h = absurd h
find-own (p ∷ ps) o apart h = elim h [
  | inl same ↦ subst (λ x. find (is_open x.name) (p ∷ ps) ≡ cond (nat_lt 0 x.left) (Some x) None) same
      (ap (λ t. cond (t && nat_lt 0 p.left) (Some p) (find (is_open p.name) ps)) (eq-eqb p.name p.name refl)
      ∙ ap (cond (nat_lt 0 p.left) (Some p)) (find-none p.name ps (apart-head p ps apart)))
  | inr later ↦
      let other : (p.name == o.name) ≡ false = ne_eqb p.name o.name (other-name p.name ps o (apart-head p ps apart) later) in
      ap (λ t. cond (t && nat_lt 0 p.left) (Some p) (find (is_open o.name) ps)) other ∙ find-own ps o (apart-tail p ps apart) later
]
