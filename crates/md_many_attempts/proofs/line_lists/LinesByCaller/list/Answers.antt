use Rattle.std.proofs.Common.{◌≡◌, ◌∙◌, [], length, ap, sym, arith}
use Rattle.std.specs.Prelude.{sum_by}
use Rattle.md_many_attempts.specs.ByCaller.{at_caller}
use Rattle.md_many_attempts.proofs.Lists.{list-few, list-there}
use Rattle.std.proofs.lemmas.Grind.{common_steps}
use Rattle.md_many_attempts.proofs.line_lists.LinesByCaller.list.Goals as goal

-- what is answered is the caller's list
found : (g : _) (c : goal.After-deref g) → c.deref.result.now ≡ at_caller [] c.args.self.now c.args.caller
found g c =
    c.deref.ensures.value
    ∙ sym (list-there c.self.inside.lists.items c.args.caller c.index.result.now (omega arith) (omega arith) c.index.ensures)
    ∙ ap (λ ls. at_caller [] ls c.args.caller) c.self.view_is

pub returns-clause-list : goal.returns-clause-list
returns-clause-list g c = found g c

pub returns-clause-few : goal.returns-clause-few
returns-clause-few g c = omega (
  arith,
  ap length (found g c),
  list-few c.args.self.now c.args.caller,
  ap (sum_by length) c.self.view_is,
  c.self.invariant.count,
  c.self.invariant.few,
)

pub returns-then-caller-eq0-clause-list : goal.returns-then-caller-eq0-clause-list
returns-then-caller-eq0-clause-list g c = grind (arith, common_steps)
