use Rattle.std.proofs.Common.{arith, inl}
use Rattle.md_many_attempts.proofs.line_lists.LinesByCaller.new.Goals as goal

pub returns-then-len-clause-none : goal.returns-then-len-clause-none
returns-then-len-clause-none g c = inl (omega (arith, c.if-len.true, c.len.ensures, c.args.lists.ok.0))
