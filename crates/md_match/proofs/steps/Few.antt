-- What lists of acts count together.
use Rattle.std.proofs.Common.{◌≡◌, ℕ, ◌+◌, ◌≤◌, nat_eq, List, [], ◌∷◌, ◌++◌, refl, arith}
use Rattle.std.specs.List.{AllByRecursion}
use Rattle.md_history.specs.declared.acts.Act.{Act}
use Rattle.md_history.specs.Counts.{different, reads, writes, nodes}
use Rattle.md_history.specs.CountLaws.{nodes-append, reads-append, writes-append}
use Rattle.md_book.proofs.steps.Costs.{Costs, reads-cost, writes-cost}

-- acts read, write and take so much at most
pub record Within (acts : List Act) (read write take : ℕ) : Type 0 where
  pub reads_few : reads acts ≤ read
  pub writes_few : writes acts ≤ write
  pub nodes_few : nodes acts ≤ take

-- with the queue that they look at and change, so much
pub within-costs : {q : ℕ} {acts : List Act} {r w n : ℕ} → Costs q acts r w n → Within acts (r + 1) (w + 3) n
within-costs costs = record { reads_few = reads-cost costs; writes_few = writes-cost costs; nodes_few = costs.take_few }

-- what are two different queues are none
no-queue : (qs : List ℕ) → AllByRecursion (λ q. q ≡ 0) qs → AllByRecursion (λ q. q ≡ 1) qs → different nat_eq qs ≡ 0
no-queue [] zero one = refl
no-queue (q ∷ qs) zero one = absurd (omega (arith, zero.0, one.0))

-- what costs so much with whichever queue has none
pub within-quiet : {acts : List Act} {r w n : ℕ} → ((q : ℕ) → Costs q acts r w n) → Within acts r w n
within-quiet costs =
    let zero = costs 0 in
    let one = costs 1 in
    record {
      reads_few = omega (arith, zero.read_few, no-queue _ zero.looked one.looked);
      writes_few = omega (arith, zero.write_few, no-queue _ zero.changed one.changed);
      nodes_few = zero.take_few;
    }

-- as much or more
pub within-more : {acts : List Act} {r w n : ℕ} → Within acts r w n → (r' w' n' : ℕ) → r ≤ r' → w ≤ w' → n ≤ n' → Within acts r' w' n'
within-more within r' w' n' r w n = record { reads_few = omega (arith, within.reads_few); writes_few = omega (arith, within.writes_few); nodes_few = omega (arith, within.nodes_few) }

-- one list after another
pub within-append : {xs ys : List Act} {r w n r' w' n' : ℕ} → Within xs r w n → Within ys r' w' n' → Within (xs ++ ys) (r + r') (w + w') (n + n')
within-append {xs} {ys} f g = record {
  reads_few = omega (arith, f.reads_few, g.reads_few, reads-append xs ys);
  writes_few = omega (arith, f.writes_few, g.writes_few, writes-append xs ys);
  nodes_few = omega (arith, f.nodes_few, g.nodes_few, nodes-append xs ys);
}
