-- A kill is one step of the book.
use Rattle.std.proofs.Common.{◌≡◌, ℕ, ◌+◌, ◌-◌, ◌≤◌, ◌==◌, nat_lt, Bool, true, false, cond, List, [], ◌∷◌, ◌++◌, map, length, take, drop, replicate, refl, sym, ap, subst, ◌∙◌, inl, inr, arith}
use Rattle.std.specs.List.{AllByRecursion, take-map, drop-map}
use Rattle.std.proofs.lemmas.Bool.{ltb-true}
use Rattle.std.proofs.lemmas.List.{length-take, length-map}
use Rattle.std.proofs.Math.Seq.{take-append_seam}
use Rattle.std.proofs.lemmas.List.Elements.{All-filter, All-take, All-drop, All-from_recursion, recursion_from_All}
use Rattle.md_history.specs.declared.acts.Act.{Act}
use Rattle.md_history.specs.declared.acts.Op.TheVariants.{Line}
use Rattle.md_history.specs.declared.acts.Reply.TheVariants.{Line as TheLine}
use Rattle.md_history.specs.declared.acts.TheConstants.{MAX_LINE}
use Rattle.md_history.specs.Act.{act_of}
use Rattle.md_history.specs.Script.{Script}
use Rattle.md_history.specs.State.{State, queue_at, line_of, answer}
use Rattle.md_history.proofs.Plays.{played, outcome, made, ends-bind}
use Rattle.md_book.specs.declared.commands.Side.{Side}
use Rattle.md_book.specs.declared.commands.Command.TheVariants.{Kill}
use Rattle.md_book.specs.declared.commands.BookReply.{BookReply}
use Rattle.md_book.specs.declared.commands.BookReply.TheVariants as reply
use Rattle.md_book.specs.declared.limits.TheConstants.{MAX_PARTS}
use Rattle.md_book.specs.Book.{Order, Book, BookStep, level_of, orders_at, first_orders, fill_step, kill_step}
use Rattle.md_book.specs.Stands.{Shows}
use Rattle.md_book.specs.Scripts.{line_values}
use Rattle.md_book.specs.Killing.{have_left, fill_or_kill}
use Rattle.md_book.specs.Commands.{IsOffer}
use Rattle.md_book.proofs.books.Sizes.{HasMapsAndQueues}
use Rattle.md_book.proofs.steps.Costs.{Costs, costs-append, costs-none, costs-line, few-cost}
use Rattle.md_book.proofs.books.Lessened.{Has}
use Rattle.md_book.proofs.steps.Placing.{level_of-below}
use Rattle.md_book.proofs.steps.Stepping.{IsStep, MakesStep}
use Rattle.md_book.proofs.steps.Filling.{fills}
use Rattle.md_book.proofs.looks.Found.{Finds, finds}

-- a list has what a shorter one has, and all of its own elements
has-more : {X : Type 0} (y : X) (xs zs : List X) → AllByRecursion (Has xs) zs → AllByRecursion (Has (y ∷ xs)) zs
has-more y xs [] all = tt
has-more y xs (z ∷ zs) all = (inr all.0, has-more y xs zs all.1)

has-all : {X : Type 0} (xs : List X) → AllByRecursion (Has xs) xs
has-all [] = tt
has-all (x ∷ xs) = (inl refl, has-more x xs xs (has-all xs))

-- the orders at a level's first places stand in the book
first-orders-stand : (b : Book) (level places : ℕ) → AllByRecursion (Has b.orders) (first_orders b level places)
first-orders-stand b level places = recursion_from_All (Has b.orders) (first_orders b level places)
    (All-take (Has b.orders) places (drop (b.passed level) (orders_at b level)) (All-drop (Has b.orders) (b.passed level) (orders_at b level)
    (All-filter (λ o. level_of o.side o.price == level) (Has b.orders) b.orders (All-from_recursion (Has b.orders) b.orders (has-all b.orders)))))

-- the values of a line are those that it was made of
values-of-line : (xs : List ℕ) → line_values (TheLine (line_of xs)) ≡ xs
values-of-line xs = take-append_seam xs (replicate (MAX_LINE - length xs) 0)

-- one more than fewer is no more
one-more : (n most : ℕ) → n ≤ most → cond (nat_lt n most) 1 0 + n ≤ most
one-more n most few = elim (nat_lt n most) as (λ t. nat_lt n most ≡ t → cond t 1 0 + n ≤ most) [
  | true ↦ λ e. let less = ltb-true n most e in omega arith
  | false ↦ λ _. omega arith
] refl

module _ (s : State) (b : Book) (room : HasMapsAndQueues s) (shows : Shows s b) (account : ℕ) (side : Side) (price quantity places : ℕ) (is : IsOffer account price quantity) (low : places ≤ MAX_PARTS) where
  abbrev level : ℕ
  level = level_of side price

  abbrev firsts : List Order
  firsts = first_orders b level places

  -- the line has the names of the orders at the level's first places
  line-is : take places (queue_at s level) ≡ map (λ o. o.name) firsts
  line-is =
      ap (take places) (shows.names level (level_of-below side price is.priced) ∙ drop-map (λ (o : Order). o.name) (b.passed level) (orders_at b level))
      ∙ take-map (λ (o : Order). o.name) places (drop (b.passed level) (orders_at b level))

  line-names : line_values (answer s (Line level places)) ≡ map (λ o. o.name) firsts
  line-names = values-of-line (take places (queue_at s level)) ∙ line-is

  -- there are no more of them than places
  firsts-few : length firsts ≤ places
  firsts-few = omega (arith, length-take places (drop (b.passed level) (orders_at b level)))

  -- a line that came to the queue's end has fewer names, so that it and their lookups read no more than a word for each
  -- place
  line-few : cond (nat_lt (length (take places (queue_at s level))) places) 1 0 + length firsts ≤ places
  line-few =
      let count : length (take places (queue_at s level)) ≡ length firsts = ap length line-is ∙ length-map firsts (λ (o : Order). o.name) in
      subst (λ n. cond (nat_lt n places) 1 0 + length firsts ≤ places) (sym count) (one-more (length firsts) places firsts-few)

  abbrev then : Bool → Script BookReply
  then = fill_or_kill account side price quantity places

  abbrev line : Act
  line = act_of (Line level places) (answer s (Line level places))

  abbrev step_if : Bool → BookStep
  step_if enough = cond enough (fill_step b account level quantity places) (record { book = b; reply = reply.Killed })

  -- it goes on from the state that the lookups left as it was
  goes : (enough : Bool) (acts : List Act) → Costs level acts (length firsts) (length firsts) 0 → IsStep (step_if enough) (played (then enough) s) (outcome (then enough) s) (line ∷ acts ++ made (then enough) s)
  goes true acts costs =
      let filled = fills s b room shows account side price quantity places is low in
      record {
        replied = filled.replied;
        shows = filled.shows;
        few = few-cost (costs-append (costs-line level places _) (costs-append costs filled.costs)) (omega (arith, low, line-few)) (omega (arith, low, firsts-few)) (omega (arith, low));
      }
  goes false acts costs = record {
    replied = refl;
    shows = shows;
    few = few-cost (costs-append (costs-line level places _) (costs-append costs (costs-none level))) (omega (arith, low, line-few)) (omega (arith, low, firsts-few)) (omega (arith, low));
  }

  -- and from what the lookups found
  goes-as : (t : State) (enough : Bool) (acts : List Act) → Finds shows level quantity firsts t enough acts
      → IsStep (kill_step b account level quantity places) (played (then enough) t) (outcome (then enough) t) (line ∷ acts ++ made (then enough) t)
  goes-as t enough acts found =
      subst (λ u. IsStep (kill_step b account level quantity places) (played (then enough) u) (outcome (then enough) u) (line ∷ acts ++ made (then enough) u)) (sym found.same)
      (subst (λ e. IsStep (step_if e) (played (then enough) s) (outcome (then enough) s) (line ∷ acts ++ made (then enough) s)) found.tells
      (goes enough acts found.costs))

  pub kill-steps : MakesStep s b (Kill account side price quantity places)
  kill-steps =
      ends-bind (have_left quantity (line_values (answer s (Line level places)))) then s (λ t r acts. IsStep (kill_step b account level quantity places) t r (line ∷ acts))
      (subst (λ names. let p = have_left quantity names in
      IsStep (kill_step b account level quantity places) (played (then (outcome p s)) (played p s)) (outcome (then (outcome p s)) (played p s)) (line ∷ made p s ++ made (then (outcome p s)) (played p s)))
      (sym line-names) (goes-as _ _ _ (finds shows level firsts quantity (first-orders-stand b level places))))
