use Rattle.std.proofs.Common.{length, arith}
use Rattle.md_store_law.proofs.Sums.{capped-all}
use Rattle.std.proofs.lemmas.Grind.{common_steps}
use Rattle.md_store_layout.proofs.sizes.values.Goals as goal

pub returns : goal.returns
returns c = capped-all length (λ q. q.items) c.args.queues.now c.loop-queue.queue-index c.loop-queue.all _ (omega arith) c.loop-queue.invariant.0 c.loop-queue.invariant.1

pub loop-queue-preserved : goal.loop-queue-preserved
loop-queue-preserved c = grind (arith, common_steps)
