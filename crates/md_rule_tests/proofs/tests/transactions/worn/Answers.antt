use Rattle.std.proofs.Common.{◌∙◌, ℕ, [], length, replicate, set, sym, ap, subst, arith}
use Rattle.std.proofs.lemmas.List.{length-replicate}
use Rattle.md_machine.specs.Event.{CanOpen}
use Rattle.example_cell.specs.CellMeaning.{cell_meaning}
use Rattle.md_nbtc_law.specs.declared.seen.TheConstants.{WORN}
use Rattle.md_rule_tests.proofs.WornWords.{has_two, worn_opens}
use Rattle.md_rule_tests.proofs.tests.transactions.worn.Goals as goal

pub index_mut-requires : goal.index_mut-requires
index_mut-requires c =
    let long = ap length c.in_ok-words.ensures ∙ length-replicate {A = ℕ} c.words.result 0 ∙ c.words.ensures in
    let two = has_two c.args.shape in omega (arith, long, two, c.in_ok-words.words.ok.0)

pub open-requires : goal.open-requires
open-requires c = (
  [],
  subst (λ l. CanOpen cell_meaning (record { shape = c.args.shape; words = set l 1 WORN; placed = [] }))
      (sym (c.in_ok-words.ensures ∙ ap (λ n. replicate n 0) c.words.ensures)) (worn_opens c.args.shape),
)
