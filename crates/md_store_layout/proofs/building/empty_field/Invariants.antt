use Rattle.md_store_layout.proofs.Dummies.{HasDummies}
use Rattle.md_store_layout.proofs.building.empty_field.Given as goal

abbrev pub invariant-loop-queue : goal.invariant-loop-queue
invariant-loop-queue l = HasDummies l.shape l.words.items l.queue
