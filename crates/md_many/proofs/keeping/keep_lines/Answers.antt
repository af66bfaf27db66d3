use Rattle.std.proofs.Common.{rules}
use Rattle.md_many.proofs.keeping.keep_lines.Goals as goal

pub keep-requires-clause-suit : goal.keep-requires-clause-suit
keep-requires-clause-suit g c = search rules depth 1

pub returns-clause-kept : goal.returns-clause-kept
returns-clause-kept g c = search rules depth 1
