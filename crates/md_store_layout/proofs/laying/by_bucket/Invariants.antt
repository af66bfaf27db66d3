use Rattle.std.proofs.Common.{ℕ, ◌≡◌, ◌++◌, List, map}
use Rattle.md_store_layout.proofs.Buckets.{pieces_of}
use Rattle.md_store_layout.proofs.laying.by_bucket.Given as goal

abbrev pub invariant-loop-key : goal.invariant-loop-key
invariant-loop-key l =
    (done : List (ℕ × ℕ)) × (done ++ l.key-iterator ≡ l.table.entries) × (map (λ b. b.items) l.buckets.items ≡ pieces_of l.shape done)
