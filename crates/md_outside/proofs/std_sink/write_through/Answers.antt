use Rattle.std.proofs.Common.{rules}
use Rattle.md_outside.proofs.std_sink.write_through.Goals as goal

pub returns-clause-written : goal.returns-clause-written
returns-clause-written g c = search rules depth 1

pub returns-clause-bound : goal.returns-clause-bound
returns-clause-bound g c = search rules depth 1
