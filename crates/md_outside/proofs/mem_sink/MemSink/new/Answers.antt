use Rattle.std.proofs.Common.{rules}
use Rattle.md_outside.proofs.mem_sink.MemSink.new.Goals as goal

pub returns : goal.returns
returns c = search rules depth 1
