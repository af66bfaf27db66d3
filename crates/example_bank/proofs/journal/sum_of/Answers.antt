use Rattle.std.proofs.Common.{◌∙◌, ◌%◌, ◌^◌, ap, sym, sum, zero-add, rules, arith}
use Rattle.std.proofs.lemmas.Grind.{common_steps}
use Rattle.std.specs.FinMap as fin
use Rattle.example_bank.proofs.Sums.{sum-values}
use Rattle.example_bank.proofs.journal.sum_of.Goals as goal

pub loop-balance-init : goal.loop-balance-init
loop-balance-init c =
    ap (λ n. n % 2 ^ 64) (zero-add _
    ∙ ap sum (c.into_iter-balance-iterator.ensures.into_iter_gives ∙ c.values-balance-items.ensures.rest)
    ∙ sym (sum-values c.map.result.now c.values-balance-items.ensures.ordered)
    ∙ ap (λ t. sum (fin.values t)) c.map.ensures)

pub loop-balance-preserved : goal.loop-balance-preserved
loop-balance-preserved c = grind (arith, common_steps)

pub returns : goal.returns
returns c = search rules depth 1
