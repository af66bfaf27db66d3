use Rattle.std.proofs.Common.{◌≡◌, [], map, replicate}
use Rattle.md_store_layout.proofs.laying.no_pairs.Given as goal

abbrev pub invariant-loop-made : goal.invariant-loop-made
invariant-loop-made l = map (λ b. b.items) l.buckets.items ≡ replicate l.made []
