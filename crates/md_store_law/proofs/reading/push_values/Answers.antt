use Rattle.std.proofs.Common.{arith}
use Rattle.md_store_law.proofs.States.{values_pushed}
use Rattle.md_store_law.proofs.reading.push_values.Goals as goal

pub loop-value-preserved : goal.loop-value-preserved
loop-value-preserved c = values_pushed c.args.contents.now c.loop-value.contents c.push.new.self c.args.queue c.args.values.now c.loop-value.value-index
    c.requires.queue (omega arith) c.loop-value.invariant c.in_ok-push.ensures.ok
