use Rattle.std.proofs.Common.{rules}
use Rattle.md_outside.proofs.mem_sink.MemSinkSink.write.Goals as goal

pub returns-clause-bytes : goal.returns-clause-bytes
returns-clause-bytes c = search rules depth 1

pub returns-clause-step : goal.returns-clause-step
returns-clause-step c = search rules depth 1

pub returns-clause-count : goal.returns-clause-count
returns-clause-count c = search rules depth 1

pub returns-clause-fails : goal.returns-clause-fails
returns-clause-fails c = search rules depth 1
