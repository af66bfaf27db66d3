-- Filling is one step of the book.
use Rattle.std.proofs.Common.{◌≡◌, ◌≢◌, ℕ, ◌+◌, ◌-◌, ◌*◌, ◌<◌, ◌≤◌, ◌==◌, true, false, cond, List, [], ◌++◌, length, refl, sym, ap, subst, ◌∙◌, inl, inr, Some, None, arith}
use Rattle.std.specs.FinMap as fin
use Rattle.std.proofs.lemmas.Bool.{eq-eqb, ne_eqb, eqb-true, eqb-false}
use Rattle.md_history.specs.declared.acts.Act.{Act}
use Rattle.md_history.specs.Counts.{AreFew}
use Rattle.md_history.specs.State.{State, map_at}
use Rattle.md_history.specs.Script.{Script, done, bind}
use Rattle.md_history.proofs.Plays.{played, outcome, made, ends-bind, did-made}
use Rattle.md_book.specs.declared.commands.Side.{Side}
use Rattle.md_book.specs.declared.commands.Command.TheVariants.{Fill}
use Rattle.md_book.specs.declared.commands.BookReply.{BookReply}
use Rattle.md_book.specs.declared.commands.BookReply.TheVariants as reply
use Rattle.md_book.specs.declared.fill.Filling.{Filling}
use Rattle.md_book.specs.declared.limits.TheConstants.{MAX_PARTS}
use Rattle.md_book.specs.declared.maps.TheConstants.{DEPTHS}
use Rattle.md_book.specs.Book.{Book, level_of, depth, Looked, look, looked_step}
use Rattle.md_book.specs.Stands.{unless_0, Shows}
use Rattle.md_book.specs.Scripts.{raise, lower}
use Rattle.md_book.specs.Filling.{taker_sums, unfilled, take_parts, book_taken, filled_reply, finish, fill}
use Rattle.md_book.specs.Commands.{IsOffer, IsPlaces}
use Rattle.md_book.specs.Places.{places_looked, bounds_for, FillsAreFew}
use Rattle.md_book.proofs.books.Sizes.{HasMapsAndQueues, sized-room}
use Rattle.md_book.proofs.books.Changes.{Sets}
use Rattle.md_book.proofs.books.Raises.{raise-sets, lower-sets}
use Rattle.md_book.proofs.steps.Costs.{Costs, costs-append, costs-more, costs-none, few-cost, reads-cost, writes-cost}
use Rattle.md_book.proofs.books.Places.{PlaceCosts, place-costs, place-costs-append}
use Rattle.md_book.proofs.books.Replacing.{raise-costs, lower-costs_some}
use Rattle.md_book.proofs.sums.SideSums.{taker_sum, at_account, taker_sum-le, sums-low, traded-room}
use Rattle.md_book.proofs.books.Reflects.{Reflects, shows-reflects, reflects-shows, reflects-depth, reflects-taker}
use Rattle.md_book.proofs.looks.Lags.{Lags, lags-start}
use Rattle.md_book.proofs.steps.Taking.{taken_in, Amid, Took, takes-all}
use Rattle.md_book.proofs.steps.Placing.{level_of-below}
use Rattle.md_book.proofs.steps.Stepping.{MakesStep}

-- depths and takers' sums have caught up
pub record Booked (level : ℕ) (b : Book) (t : State) (acts : List Act) : Type 0 where
  pub shows : Shows t b
  pub costs : Costs level acts 2 6 2

module _ (side : Side) (level taker : ℕ) {depths takers : ℕ → ℕ} {s : State} {b : Book} (r : Reflects s b side depths takers) (taken : ℕ) (lags : Lags side level taker depths takers b taken) where
  at-own : (own : ℕ) → at_account own own taken ≡ taken
  at-own own = ap (λ t. cond t taken 0) (eq-eqb own own refl)

  at-other : (own at : ℕ) → at ≢ own → at_account own at taken ≡ 0
  at-other own at apart = ap (λ t. cond t taken 0) (ne_eqb own at (λ e. apart (sym e)))

  booked-none : taken ≡ 0 → Booked level b s []
  booked-none none =
      let nothing : (own at : ℕ) → at_account own at taken ≡ 0 = λ own at. elim (own == at) as (λ t. cond t taken 0 ≡ 0) [ true ↦ none | false ↦ refl ] in
      record {
        shows = reflects-shows s b depths takers side r (λ at. omega (arith, lags.depths_lag at, nothing level at)) (λ account. omega (arith, lags.takers_lag account, nothing taker account));
        costs = costs-more (costs-none level) 2 6 2 (omega arith) (omega arith) (omega arith);
      }

  module _ (some : taken ≢ 0) where
    abbrev raised : State
    raised = played (raise (taker_sums side) taker taken) s

    abbrev lowered : State
    lowered = played (lower DEPTHS level taken) raised

    new_sum : takers taker + taken ≡ taker_sum side b taker
    new_sum = omega (arith, lags.takers_lag taker, at-own taker)

    below_maps : taker_sums side < length s.maps
    below_maps = omega (arith, r.maps, (sums-low side).1)

    sum_set : Sets s raised (taker_sums side) taker (unless_0 (taker_sum side b taker))
    sum_set = subst (λ n. Sets s raised (taker_sums side) taker (unless_0 n)) new_sum
        (raise-sets s (taker_sums side) taker (takers taker) taken below_maps (r.has_takers taker) some (omega (arith, new_sum, taker_sum-le b taker side, traded-room b r.sound)))

    with_taker : Reflects raised b side depths (taker_sum side b)
    with_taker = reflects-taker r raised taker sum_set (λ account apart. omega (arith, lags.takers_lag account, at-other taker account apart))

    old_depth : depths level ≡ depth b level + taken
    old_depth = lags.depths_lag level ∙ ap (λ n. depth b level + n) (at-own level)

    depth_set : Sets raised lowered DEPTHS level (unless_0 (depth b level))
    depth_set = subst (λ n. Sets raised lowered DEPTHS level (unless_0 n)) (omega (arith, old_depth))
        (lower-sets raised DEPTHS level (depths level) taken (omega (arith, with_taker.maps)) (with_taker.has_depths level))

    with_depth : Reflects lowered b side (depth b) (taker_sum side b)
    with_depth = reflects-depth with_taker lowered level depth_set (λ at apart. omega (arith, lags.depths_lag at, at-other level at apart))

    stood : fin.get (map_at raised DEPTHS) level ≡ Some (depths level)
    stood = with_taker.has_depths level ∙ ap (λ t. cond t None (Some (depths level))) (ne_eqb (depths level) 0 (λ e. some (omega (arith, old_depth))))

    booked-some : Booked level b (played (bind (raise (taker_sums side) taker taken) (λ _. lower DEPTHS level taken)) s) (made (bind (raise (taker_sums side) taker taken) (λ _. lower DEPTHS level taken)) s)
    booked-some = ends-bind (raise (taker_sums side) taker taken) (λ _. lower DEPTHS level taken) s (λ t _ acts. Booked level b t acts)
        (record {
          shows = reflects-shows lowered b (depth b) (taker_sum side b) side with_depth (λ _. refl) (λ _. refl);
          costs = costs-append (raise-costs level s (taker_sums side) taker taken) (lower-costs_some level raised DEPTHS level taken (depths level) stood);
        })

  pub booked : Booked level b (played (book_taken side level taker taken) s) (made (book_taken side level taker taken) s)
  booked = elim (taken == 0) as (λ t. (taken == 0) ≡ t → Booked level b (played {R = Unit {0}} (cond t (done tt) (bind (raise (taker_sums side) taker taken) (λ _. lower DEPTHS level taken))) s) (made {R = Unit {0}} (cond t (done tt) (bind (raise (taker_sums side) taker taken) (λ _. lower DEPTHS level taken))) s)) [
    | true ↦ λ e. booked-none (eqb-true taken 0 e)
    | false ↦ λ e. booked-some (eqb-false taken 0 e)
  ] refl

-- what a fill leaves and answers, and what it costs by the places that it may look at and by those that it looks at
pub record IsFilled (level places : ℕ) (l : Looked) (t : State) (r : BookReply) (acts : List Act) : Type 0 where
  pub replied : r ≡ (looked_step l).reply
  pub shows : Shows t l.book
  pub costs : Costs level acts (2 * places + 2) (5 * places + 7) (places + 3)
  pub by_places : PlaceCosts level acts 3 7 3

module _ (s : State) (b : Book) (room : HasMapsAndQueues s) (shows : Shows s b) (account : ℕ) (side : Side) (price quantity places : ℕ) (is : IsOffer account price quantity) (low : places ≤ MAX_PARTS) where
  abbrev level : ℕ
  level = level_of side price

  abbrev pub looked : Looked
  looked = look level account places b quantity

  begun : Amid side level account quantity (depth b) (taker_sum side b) s b (unfilled quantity) []
  begun = record {
    reflects = shows-reflects s b room shows side;
    lags = lags-start side level account b;
    remains = omega arith;
    count = refl;
    parts = refl;
  }

  abbrev taking : Script Filling
  taking = take_parts side level places (unfilled quantity)

  took : Took side level account quantity (depth b) (taker_sum side b) [] places looked (played taking s) (outcome taking s) (made taking s)
  took = takes-all side price is.priced account is.in_range (level_of-below side price is.priced) quantity (depth b) (taker_sum side b) places s b (unfilled quantity) [] begun (omega (arith, low))

  module _ (t : State) (f : Filling) (acts : List Act) (took_it : Took side level account quantity (depth b) (taker_sum side b) [] places looked t f acts) where
    taken_is : quantity - f.rest ≡ taken_in looked.parts
    taken_is = omega (arith, took_it.amid.remains)

    replies : filled_reply quantity f ≡ (looked_step looked).reply
    replies =
        ap (λ n. reply.Filled n f.rest f.count f.parts) taken_is
        ∙ ap (λ n. reply.Filled (taken_in looked.parts) n f.count f.parts) took_it.rest
        ∙ ap (λ n. reply.Filled (taken_in looked.parts) looked.rest n f.parts) took_it.amid.count
        ∙ ap (reply.Filled (taken_in looked.parts) looked.rest (length looked.parts)) took_it.amid.parts

    finishes : IsFilled level places looked (played (finish account side level quantity f) t) (outcome (finish account side level quantity f) t) (acts ++ made (finish account side level quantity f) t)
    finishes =
        let books = booked side level account took_it.amid.reflects (quantity - f.rest) (subst (Lags side level account (depth b) (taker_sum side b) looked.book) (sym taken_is) took_it.amid.lags) in
        ends-bind (book_taken side level account (quantity - f.rest)) (λ _. done (filled_reply quantity f)) t (λ u r xs. IsFilled level places looked u r (acts ++ xs))
        (record {
          replied = replies;
          shows = books.shows;
          costs = costs-more (costs-append took_it.costs (costs-append books.costs (costs-none level))) (2 * places + 2) (5 * places + 7) (places + 3) (omega arith) (omega arith) (omega arith);
          by_places = place-costs-append 1 1 1 2 6 2 took_it.by_places (place-costs (costs-append books.costs (costs-none level)));
        })

  pub fills : IsFilled level places looked (played (fill account side price quantity places) s) (outcome (fill account side price quantity places) s) (made (fill account side price quantity places) s)
  fills = ends-bind taking (finish account side level quantity) s (IsFilled level places looked) (finishes _ _ _ took)

  pub fill-steps : MakesStep s b (Fill account side price quantity places)
  fill-steps = record { replied = fills.replied; shows = fills.shows; few = few-cost fills.costs (omega (arith, low)) (omega (arith, low)) (omega (arith, low)) }

-- the places of both versions are as many as a reply has parts, at most
pub places-low : (places : ℕ) → IsPlaces places → places ≤ MAX_PARTS
places-low places is = elim is [ inl first ↦ omega (arith, first) | inr second ↦ omega (arith, second) ]

-- a fill is few acts for the places that it looks at
pub fills-are-few : FillsAreFew
fills-are-few s b account side price quantity places acts r stands is did right =
    let filled = fills s b (sized-room s stands.sized) stands.shows account side price quantity places is.offer (places-low places is.looks) in
    let made_them = did-made (fill account side price quantity places) s acts r did right in (
      subst (λ xs. AreFew (bounds_for (places_looked xs)) xs) made_them
          (record { reads = omega (arith, reads-cost filled.by_places); writes = omega (arith, writes-cost filled.by_places); nodes = omega (arith, filled.by_places.take_few) }),
      subst (AreFew (bounds_for places)) made_them
          (record { reads = omega (arith, reads-cost filled.costs); writes = omega (arith, writes-cost filled.costs); nodes = omega (arith, filled.costs.take_few) }),
    )
