-- What acts cost for each place that they look at.
use Rattle.std.proofs.Common.{ℕ, ◌+◌, ◌*◌, ◌≤◌, cond, List, ◌∷◌, ◌++◌, Some, arith}
use Rattle.std.proofs.lemmas.List.Sums.{sum_by-cons}
use Rattle.md_history.specs.declared.acts.Act.{Act}
use Rattle.md_history.specs.declared.acts.Op.TheVariants.{Front}
use Rattle.md_history.specs.declared.acts.Reply.TheVariants.{Value}
use Rattle.md_history.specs.Act.{act_of}
use Rattle.md_history.specs.CountLaws.{count-append}
use Rattle.md_book.specs.Places.{finds_place, places_looked}
use Rattle.md_book.proofs.steps.Costs.{Costs, costs-append, costs-more}

-- where a queue has a first value, a place is looked at
pub look-seen : (q v : ℕ) (acts : List Act) → 1 ≤ places_looked (act_of (Front q) (Value (Some v)) ∷ acts)
look-seen q v acts = omega (arith, sum_by-cons (λ (a : Act). cond (finds_place a.op a.reply) 1 0) (act_of (Front q) (Value (Some v))) acts)

-- so much, and 2 reads, 5 writes and a node for each place
abbrev pub PlaceCosts : ℕ → List Act → ℕ → ℕ → ℕ → Type 0
PlaceCosts level acts read write take = Costs level acts (read + 2 * places_looked acts) (write + 5 * places_looked acts) (take + places_looked acts)

pub place-costs : {level : ℕ} {acts : List Act} {read write take : ℕ} → Costs level acts read write take → PlaceCosts level acts read write take
place-costs {acts = acts} {read} {write} {take} costs = costs-more costs (read + 2 * places_looked acts) (write + 5 * places_looked acts) (take + places_looked acts) (omega arith) (omega arith) (omega arith)

pub place-costs-append : {level : ℕ} {xs ys : List Act} (r w n r' w' n' : ℕ) → PlaceCosts level xs r w n → PlaceCosts level ys r' w' n' → PlaceCosts level (xs ++ ys) (r + r') (w + w') (n + n')
place-costs-append {xs = xs} {ys} r w n r' w' n' f g =
    let all = count-append (λ (a : Act). finds_place a.op a.reply) xs ys in
    costs-more (costs-append f g) (r + r' + 2 * places_looked (xs ++ ys)) (w + w' + 5 * places_looked (xs ++ ys)) (n + n' + places_looked (xs ++ ys)) (omega (arith, all)) (omega (arith, all)) (omega (arith, all))
