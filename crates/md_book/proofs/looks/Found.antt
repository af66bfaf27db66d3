-- What a kill finds when it looks the orders of a level up.
use Rattle.std.proofs.Common.{◌≡◌, ℕ, suc, ◌+◌, ◌-◌, ◌<◌, ◌==◌, Bool, true, false, cond, List, [], ◌∷◌, map, length, refl, sym, ap, subst, ◌∙◌, inl, inr, Some, None, arith}
use Rattle.std.specs.Prelude.{sum_by, nat_le, nat_lt}
use Rattle.std.specs.List.{AllByRecursion}
use Rattle.std.specs.FinMap as fin
use Rattle.std.proofs.lemmas.Bool.{eqb-true, eqb-false, cases_Bool, le-leb, ltb-false}
use Rattle.std.proofs.lemmas.Bool.Decides.{leb_tells}
use Rattle.std.proofs.lemmas.List.Elements.{recursion_from_All}
use Rattle.std.proofs.lemmas.List.Sums.{sum_by-cons}
use Rattle.md_history.specs.declared.acts.Act.{Act}
use Rattle.md_history.specs.declared.acts.Reply.TheVariants.{Value}
use Rattle.md_history.specs.State.{State, map_at}
use Rattle.md_history.specs.Script.{Script, done}
use Rattle.md_history.proofs.Plays.{played, outcome, made}
use Rattle.md_book.specs.declared.maps.TheConstants.{OPEN_ORDERS}
use Rattle.md_book.specs.Book.{Order, Book}
use Rattle.md_book.specs.Stands.{left_in, IsInRange, Shows}
use Rattle.md_book.specs.Scripts.{value_or_0}
use Rattle.md_book.specs.Killing.{have_left}
use Rattle.md_book.proofs.steps.Costs.{Costs, costs-append, costs-more, costs-none, costs-get}
use Rattle.md_book.proofs.books.Lessened.{Has, All-has}
use Rattle.md_book.proofs.looks.Lookups.{looks_up}
use Rattle.md_book.proofs.books.Unpacking.{left_in-packed}
use Rattle.md_book.proofs.books.ChangedBooks.{open_order-own}
use Rattle.md_book.proofs.steps.TakingOut.{packed_order}

-- nothing lacks, told by either test
le-none : (lacking : ℕ) → (lacking == 0) ≡ nat_le lacking 0
le-none lacking = elim (cases_Bool (lacking == 0)) [
  | inl none ↦ none ∙ sym (le-leb lacking 0 (omega (arith, eqb-true lacking 0 none)))
  | inr some ↦ some ∙ sym (above-leb lacking 0 (omega (arith, eqb-false lacking 0 some)))
]
  where
    above-leb : (a b : ℕ) → b < a → nat_le a b ≡ false
    above-leb a b above = elim (leb_tells a b) [
      | inl is ↦ absurd (omega (arith, is.1))
      | inr isnt ↦ isnt.0
    ]

-- what lacks after some is found
le-less : (lacking by more : ℕ) → nat_le (lacking - by) more ≡ nat_le lacking (by + more)
le-less lacking by more = elim (leb_tells (lacking - by) more) [
  | inl is ↦ is.0 ∙ sym (le-leb lacking (by + more) (omega (arith, is.1)))
  | inr isnt ↦ elim (leb_tells lacking (by + more)) [
    | inl other ↦ absurd (omega (arith, isnt.1, other.1))
    | inr same ↦ isnt.0 ∙ sym same.0
  ]
]

module _ {s : State} {b : Book} (shows : Shows s b) where
  -- an order is found with what it has left
  found-left : (o : Order) → Has b.orders o → left_in (value_or_0 (Value (fin.get (map_at s OPEN_ORDERS) o.name))) ≡ o.left
  found-left o has =
      let in_range = All-has IsInRange b.orders o (recursion_from_All IsInRange b.orders shows.sound.in_range) has in
      ap (λ v. left_in (value_or_0 (Value v))) (shows.orders o.name ∙ open_order-own b o shows.sound has)
      ∙ elim (nat_lt 0 o.left) as (λ t. nat_lt 0 o.left ≡ t → left_in (value_or_0 (Value (cond t (Some (packed_order o)) None))) ≡ o.left) [
        | true ↦ λ _. left_in-packed o.account o.price o.left in_range.price in_range.left o.side
        | false ↦ λ none. omega (arith, ltb-false 0 o.left none)
      ] refl

  module _ (level : ℕ) where
    -- the orders' names are looked up until they have as much left: that tells whether all of them have, and changes nothing
    pub record Finds (lacking : ℕ) (os : List Order) (t : State) (enough : Bool) (acts : List Act) : Type 0 where
      pub same : t ≡ s
      pub tells : enough ≡ nat_le lacking (sum_by (λ o. o.left) os)
      pub costs : Costs level acts (length os) (length os) 0

    abbrev pub FindsBy : ℕ → List Order → Script Bool → Type 0
    FindsBy lacking os p = Finds lacking os (played p s) (outcome p s) (made p s)

    -- nothing lacks
    finds-none : (os : List Order) → Finds 0 os s true []
    finds-none os = record { same = refl; tells = sym (le-leb 0 (sum_by (λ o. o.left) os) (omega arith)); costs = costs-more (costs-none level) (length os) (length os) 0 (omega arith) (omega arith) (omega arith) }

    -- an order is looked up, and then the others
    finds-one : (lacking : ℕ) (o : Order) (os : List Order) → Has b.orders o → ((less : ℕ) → FindsBy less os (have_left less (map (λ p. p.name) os)))
        → FindsBy lacking (o ∷ os) (looks_up lacking o.name (map (λ p. p.name) os))
    finds-one lacking o os has more =
        let value = fin.get (map_at s OPEN_ORDERS) o.name in
        let then = more (lacking - left_in (value_or_0 (Value value))) in
        record {
          same = then.same;
          tells = then.tells ∙ ap (λ n. nat_le (lacking - n) (sum_by (λ p. p.left) os)) (found-left o has) ∙ le-less lacking o.left (sum_by (λ p. p.left) os) ∙ ap (nat_le lacking) (sym (sum_by-cons (λ (p : Order). p.left) o os));
          costs = costs-more (costs-append (costs-get level OPEN_ORDERS o.name value) then.costs) (suc (length os)) (suc (length os)) 0 (omega arith) (omega arith) (omega arith);
        }

    pub finds : (os : List Order) (lacking : ℕ) → AllByRecursion (Has b.orders) os → FindsBy lacking os (have_left lacking (map (λ o. o.name) os))
    unfolding have_left
    finds [] lacking all = record { same = refl; tells = le-none lacking; costs = costs-none level }
    finds (o ∷ os) lacking all =
        elim (lacking == 0) as (λ t. (lacking == 0) ≡ t → FindsBy lacking (o ∷ os) (cond t (done true) (looks_up lacking o.name (map (λ p. p.name) os)))) [
          | true ↦ λ none. subst (λ n. Finds n (o ∷ os) s true []) (sym (eqb-true lacking 0 none)) (finds-none (o ∷ os))
          | false ↦ λ _. finds-one lacking o os all.0 (λ less. finds os less all.1)
        ] refl
