use Rattle.std.proofs.Common.{sym, ap, length, ◌∙◌}
use Rattle.std.specs.Prelude.{sum_by}
use Rattle.md_many_attempts.proofs.Lists.{count-lists}
use Rattle.md_many_attempts.proofs.line_lists.LinesByCaller.total.Goals as goal

pub returns-clause-lines : goal.returns-clause-lines
returns-clause-lines g c =
    c.self.invariant.count ∙ ap (sum_by length) c.self.view_is ∙ sym (count-lists c.args.self.now)
