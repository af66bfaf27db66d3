-- Cancelling an order is one step of the book.
use Rattle.std.proofs.Common.{◌≡◌, ◌≢◌, ℕ, ◌+◌, ◌-◌, ◌==◌, nat_lt, cond, ◌∷◌, refl, sym, ap, subst, ◌∙◌, Option, Some, None, arith}
use Rattle.std.specs.Option.{option_map}
use Rattle.std.proofs.lemmas.Bool.{and_parts, eqb-true, eq-eqb, ne_eqb, le-ltb}
use Rattle.std.proofs.lemmas.List.Elements.{recursion_from_All}
use Rattle.md_history.specs.declared.acts.Op.TheVariants.{Remove}
use Rattle.md_history.specs.declared.acts.Reply.TheVariants.{Value}
use Rattle.md_history.specs.Act.{act_of}
use Rattle.md_history.specs.State.{State, after}
use Rattle.md_history.specs.Script.{Script, done, bind}
use Rattle.md_history.specs.Branches.{by_value}
use Rattle.md_history.proofs.Plays.{played, outcome, made, ends-bind}
use Rattle.md_book.specs.declared.commands.Side.TheVariants.{Buy}
use Rattle.md_book.specs.declared.commands.Command.TheVariants.{Cancel}
use Rattle.md_book.specs.declared.commands.BookReply.{BookReply}
use Rattle.md_book.specs.declared.commands.BookReply.TheVariants as reply
use Rattle.md_book.specs.declared.maps.TheConstants.{DEPTHS, OPEN_ORDERS}
use Rattle.md_book.specs.Book.{Order, Book, level_of, depth, sold, find_open, cancel_step}
use Rattle.md_book.specs.Stands.{packed, left_in, level_in, open_order, unless_0, IsInRange, Shows}
use Rattle.md_book.specs.Scripts.{lower}
use Rattle.md_book.proofs.books.Sizes.{HasMapsAndQueues}
use Rattle.md_book.proofs.books.Changes.{Sets, remove-sets}
use Rattle.md_book.proofs.books.Raises.{lower-sets}
use Rattle.md_book.proofs.steps.Costs.{costs-append, costs-none, costs-absent, costs-removed, few-cost}
use Rattle.md_book.proofs.books.Replacing.{lower-costs}
use Rattle.md_book.proofs.books.Lessened.{Has, find-has, All-has}
use Rattle.md_book.proofs.books.OpenOrders.{is_open}
use Rattle.md_book.proofs.books.ChangedBooks.{with_less, depth-with_less, open_order-with_less}
use Rattle.md_book.proofs.books.Unpacking.{left_in-packed, level_in-packed}
use Rattle.md_book.proofs.books.Reflects.{Reflects, shows-reflects, reflects-shows, reflects-same, reflects-less, reflects-depth}
use Rattle.md_book.proofs.steps.TakingOut.{packed_order}
use Rattle.md_book.proofs.steps.Stepping.{IsStep, MakesStep}

-- what follows once an order was found
abbrev book_cancelled : ℕ → ℕ → Script BookReply
book_cancelled level left = bind (lower DEPTHS level left) (λ _. done (reply.Cancelled left))

abbrev found : ℕ → Script BookReply
found order = book_cancelled (level_in order) (left_in order)

module _ (s : State) (b : Book) (name : ℕ) (room : HasMapsAndQueues s) (shows : Shows s b) where
  abbrev pub removed : State
  removed = after s (Remove OPEN_ORDERS name)

  -- the order is removed from the open ones
  pub gone : Sets s removed OPEN_ORDERS name None
  gone = remove-sets s OPEN_ORDERS name (omega (arith, room.maps))

  -- the step where the order of the name was such, or none
  abbrev CancelsAs : Option Order → Type 0
  CancelsAs f =
      let p = by_value (Value (option_map packed_order f)) (done reply.Gone) found in
      IsStep (cancel_step b f) (played p removed) (outcome p removed) (act_of (Remove OPEN_ORDERS name) (Value (option_map packed_order f)) ∷ made p removed)

  cancels-none : find_open b name ≡ None → CancelsAs None
  cancels-none none = record {
    replied = refl;
    shows = reflects-shows removed b (depth b) (sold b) Buy (reflects-same (shows-reflects s b room shows Buy) removed name (subst (Sets s removed OPEN_ORDERS name) (sym (ap (option_map packed_order) none)) gone)) (λ _. refl) (λ _. refl);
    few = few-cost (costs-absent 0 OPEN_ORDERS name) (omega arith) (omega arith) (omega arith);
  }

  module _ (o : Order) (is : find_open b name ≡ Some o) where
    abbrev level : ℕ
    level = level_of o.side o.price

    abbrev pub less : Book
    less = with_less b o.name o.left

    has : Has b.orders o
    has = (find-has (is_open name) b.orders o is).0

    named : o.name ≡ name
    named = eqb-true o.name name (and_parts (o.name == name) (nat_lt 0 o.left) (find-has (is_open name) b.orders o is).1).0

    -- the order that is found is in range
    pub in_range : IsInRange o
    in_range = All-has IsInRange b.orders o (recursion_from_All IsInRange b.orders shows.sound.in_range) has

    -- the maps and queues are those of the book without it, but for the depth
    pub lessened_reflects : Reflects removed less Buy (depth b) (sold b)
    lessened_reflects =
        let none : None ≡ open_order less o.name = sym (open_order-with_less b o o.left shows.sound has (omega arith) ∙ ap (λ t. cond t (Some (packed o.account o.side o.price (o.left - o.left))) None) (le-ltb 0 (o.left - o.left) (omega arith))) in
        reflects-less (shows-reflects s b room shows Buy) removed o.name o.left (subst (Sets s removed OPEN_ORDERS o.name) none (subst (λ n. Sets s removed OPEN_ORDERS n None) (sym named) gone))

    abbrev lowered : State
    lowered = played (lower DEPTHS level o.left) removed

    -- its level has so much less
    pub depth_here : depth less level + o.left ≡ depth b level
    depth_here = ap (λ t. depth less level + cond t o.left 0) (sym (eq-eqb level level refl)) ∙ depth-with_less b o o.left shows.sound has (omega arith) level

    -- and other levels have what they had
    pub depth_other : (at : ℕ) → at ≢ level → depth b at ≡ depth less at
    depth_other at h = omega (arith, depth-with_less b o o.left shows.sound has (omega arith) at, ap (λ t. cond t o.left 0) (ne_eqb level at (λ e. h (sym e))))

    depth_lowered : Sets removed lowered DEPTHS level (unless_0 (depth less level))
    depth_lowered = subst (λ n. Sets removed lowered DEPTHS level (unless_0 n)) (omega (arith, depth_here))
        (lower-sets removed DEPTHS level (depth b level) o.left (omega (arith, gone.maps, room.maps)) (lessened_reflects.has_depths level))

    cancels : IsStep (cancel_step b (Some o)) (played (book_cancelled level o.left) removed) (outcome (book_cancelled level o.left) removed) (act_of (Remove OPEN_ORDERS name) (Value (Some (packed_order o))) ∷ made (book_cancelled level o.left) removed)
    cancels = ends-bind (lower DEPTHS level o.left) (λ _. done (reply.Cancelled o.left)) removed (λ t r acts. IsStep (cancel_step b (Some o)) t r (act_of (Remove OPEN_ORDERS name) (Value (Some (packed_order o))) ∷ acts))
        (record {
          replied = refl;
          shows = reflects-shows lowered less (depth less) (sold b) Buy (reflects-depth lessened_reflects lowered level depth_lowered depth_other) (λ _. refl) (λ _. refl);
          few = few-cost (costs-append (costs-removed 0 OPEN_ORDERS name (packed_order o)) (costs-append (lower-costs 0 removed DEPTHS level o.left) (costs-none 0))) (omega arith) (omega arith) (omega arith);
        })

    cancels-some : CancelsAs (Some o)
    cancels-some =
        let P : ℕ → ℕ → Type 0 = λ at left. IsStep (cancel_step b (Some o)) (played (book_cancelled at left) removed) (outcome (book_cancelled at left) removed) (act_of (Remove OPEN_ORDERS name) (Value (Some (packed_order o))) ∷ made (book_cancelled at left) removed) in
        subst (λ at. P at (left_in (packed_order o))) (sym (level_in-packed o.account o.price o.left in_range.price in_range.left o.side))
        (subst (P level) (sym (left_in-packed o.account o.price o.left in_range.price in_range.left o.side)) cancels)

  cancels-as : (f : Option Order) → find_open b name ≡ f → CancelsAs f
  cancels-as None is = cancels-none is
  cancels-as (Some o) is = cancels-some o is

  pub cancel-steps : MakesStep s b (Cancel name)
  cancel-steps =
      subst (λ o. IsStep (cancel_step b (find_open b name)) (played (by_value (Value o) (done reply.Gone) found) removed) (outcome (by_value (Value o) (done reply.Gone) found) removed) (act_of (Remove OPEN_ORDERS name) (Value o) ∷ made (by_value (Value o) (done reply.Gone) found) removed))
      (sym (shows.orders name)) (cancels-as (find_open b name) refl)
