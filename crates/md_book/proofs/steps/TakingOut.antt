-- The order at the front has less left, or leaves its queue.
use Rattle.std.proofs.Common.{◌≡◌, ◌≢◌, ℕ, ◌+◌, ◌-◌, ◌<◌, ◌≤◌, ◌==◌, Bool, true, false, cond, List, [], ◌∷◌, refl, sym, ap, subst, ◌∙◌, Some, None, arith}
use Rattle.std.specs.Prelude.{if◌then◌else◌, slice_get}
use Rattle.std.specs.Option.{option_map}
use Rattle.std.specs.FinMap as fin
use Rattle.std.proofs.lemmas.Bool.{eqb-true, eqb-false, lt-ltb, le-ltb}
use Rattle.std.proofs.lemmas.List.Elements.{recursion_from_All}
use Rattle.md_history.specs.declared.acts.Act.{Act}
use Rattle.md_history.specs.declared.acts.Op.TheVariants.{Get, Remove, Put, Dequeue}
use Rattle.md_history.specs.declared.acts.Reply.TheVariants.{Value}
use Rattle.md_history.specs.Act.{act_of}
use Rattle.md_history.specs.State.{State, map_at, queue_at, after}
use Rattle.md_history.specs.Script.{Script, done, call}
use Rattle.md_history.proofs.Plays.{played, made}
use Rattle.md_book.specs.declared.commands.Side.{Side}
use Rattle.md_book.specs.declared.maps.TheConstants.{LEVELS, OPEN_ORDERS}
use Rattle.md_book.specs.Book.{Order, Book, front_order, pass}
use Rattle.md_book.specs.Stands.{packed, open_order, IsInRange}
use Rattle.md_book.proofs.books.Changes.{Sets, remove-sets, put-sets, dequeue-lines}
use Rattle.md_book.proofs.steps.Costs.{Costs, costs-append, costs-dequeue, costs-put, costs-taken}
use Rattle.md_book.proofs.books.Lessened.{Has, All-has}
use Rattle.md_book.proofs.sums.LookSums.{front-has}
use Rattle.md_book.proofs.books.ChangedBooks.{with_less, open_order-with_less, open_order-own, front-with_less, sound-pass}
use Rattle.md_book.proofs.books.Unpacking.{packed-less}
use Rattle.md_book.proofs.books.Reflects.{Reflects, reflects-front, reflects-less, reflects-pass}

-- one key more where the order isn't emptied
abbrev pub unless : Bool → ℕ
unless emptied = if emptied then 0 else 1

-- an order's packed number
abbrev pub packed_order : Order → ℕ
packed_order o = packed o.account o.side o.price o.left

-- the look-up of an order that is open
abbrev pub look_up : Order → Act
look_up o = act_of (Get OPEN_ORDERS o.name) (Value (Some (packed_order o)))

-- a state and acts, which follow the look-up of an order, are those of the book with it lessened, and its place passed
-- where it is emptied
pub record IsOut (less : Book) (level : ℕ) (o : Order) (side : Side) (depths takers : ℕ → ℕ) (emptied : Bool) (t : State) (acts : List Act) : Type 0 where
  pub reflects : Reflects t (if emptied then pass less level else less) side depths takers
  pub costs : Costs level (look_up o ∷ acts) 1 (2 + unless emptied) (unless emptied)

-- what is done with the order at a level's front
abbrev pub out_by : ℕ → Order → ℕ → Bool → Script (Unit {0})
out_by level o taken emptied =
    if emptied
    then call (Remove OPEN_ORDERS o.name) (λ _. call (Dequeue level) (λ _. done tt))
    else call (Put OPEN_ORDERS o.name (packed_order o - taken)) (λ _. done tt)

module _ {s : State} {b : Book} {side : Side} {depths takers : ℕ → ℕ} (r : Reflects s b side depths takers) (level : ℕ) (below : level < LEVELS) (o : Order) (front : front_order b level ≡ Some o) (live : 0 < o.left) where
  has : Has b.orders o
  has = (front-has b level o front).0

  pub front-in_range : IsInRange o
  front-in_range = All-has IsInRange b.orders o (recursion_from_All IsInRange b.orders r.sound.in_range) has

  -- it stands in the map of open orders
  pub front-stood : fin.get (map_at s OPEN_ORDERS) o.name ≡ Some (packed_order o)
  front-stood = r.orders o.name ∙ open_order-own b o r.sound has ∙ ap (λ t. cond t (Some (packed_order o)) None) (lt-ltb 0 o.left live)

  abbrev removed : State
  removed = after s (Remove OPEN_ORDERS o.name)

  gone : Sets s removed OPEN_ORDERS o.name None
  gone = remove-sets s OPEN_ORDERS o.name (omega (arith, r.maps))

  module _ (taken : ℕ) (within : taken ≤ o.left) where
    abbrev less : Book
    less = with_less b o.name taken

    emptied_out : o.left ≡ taken → IsOut less level o side depths takers true (played (out_by level o taken true) s) (made (out_by level o taken true) s)
    emptied_out same =
        let none : open_order less o.name ≡ None = open_order-with_less b o taken r.sound has within ∙ ap (λ t. cond t (Some (packed o.account o.side o.price (o.left - taken))) None) (le-ltb 0 (o.left - taken) (omega arith)) in
        let without = reflects-less r removed o.name taken (subst (Sets s removed OPEN_ORDERS o.name) (sym none) gone) in
        let still = front-with_less b o taken r.sound has within level front in
        let sound = sound-pass less level (record o { left = o.left - taken }) still (omega arith) without.sound in
        let first : slice_get (queue_at removed level) 0 ≡ Some o.name = reflects-front without level below ∙ ap (option_map (λ p. p.name)) still in
        record {
          reflects = reflects-pass without (after removed (Dequeue level)) level sound (dequeue-lines removed level (omega (arith, below, without.queues)));
          costs = subst (λ v. Costs level (look_up o ∷ act_of (Remove OPEN_ORDERS o.name) (Value v) ∷ act_of (Dequeue level) (Value (slice_get (queue_at removed level) 0)) ∷ []) 1 2 0) (sym front-stood)
              (subst (λ v. Costs level (look_up o ∷ act_of (Remove OPEN_ORDERS o.name) (Value (Some (packed_order o))) ∷ act_of (Dequeue level) (Value v) ∷ []) 1 2 0) (sym first)
              (costs-append (costs-taken level OPEN_ORDERS o.name (packed_order o) (packed_order o)) (costs-dequeue level o.name)));
        }

    lessened_out : o.left ≢ taken → IsOut less level o side depths takers false (played (out_by level o taken false) s) (made (out_by level o taken false) s)
    lessened_out other =
        let more : taken < o.left = omega (arith, other) in
        let changed = put-sets s OPEN_ORDERS o.name (packed_order o - taken) (omega (arith, r.maps)) in
        let now : Some (packed_order o - taken) ≡ open_order less o.name =
        ap Some (packed-less o.account o.price o.left front-in_range.price front-in_range.left o.side taken within)
        ∙ sym (open_order-with_less b o taken r.sound has within ∙ ap (λ t. cond t (Some (packed o.account o.side o.price (o.left - taken))) None) (lt-ltb 0 (o.left - taken) (omega arith))) in
        record {
          reflects = reflects-less r (after s (Put OPEN_ORDERS o.name (packed_order o - taken))) o.name taken (subst (Sets s (after s (Put OPEN_ORDERS o.name (packed_order o - taken))) OPEN_ORDERS o.name) now changed);
          costs = costs-put level OPEN_ORDERS o.name (Some (packed_order o)) (fin.get (map_at s OPEN_ORDERS) o.name) (packed_order o - taken);
        }

    pub taken_out : IsOut less level o side depths takers (o.left == taken) (played (out_by level o taken (o.left == taken)) s) (made (out_by level o taken (o.left == taken)) s)
    taken_out = elim (o.left == taken) as (λ t. (o.left == taken) ≡ t → IsOut less level o side depths takers t (played (out_by level o taken t) s) (made (out_by level o taken t) s)) [
      | true ↦ λ e. emptied_out (eqb-true o.left taken e)
      | false ↦ λ e. lessened_out (eqb-false o.left taken e)
    ] refl
