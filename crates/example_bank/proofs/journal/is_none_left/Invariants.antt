use Rattle.std.proofs.Common.{◌≡◌, ◌+◌, ◌<◌, ℕ, []}
use Rattle.md_many_attempts.specs.ByCaller.{lists_in}
use Rattle.example_bank.specs.Journal.{left_of}
use Rattle.example_bank.proofs.journal.is_none_left.Given as goal

abbrev pub invariant-loop-place : goal.invariant-loop-place
invariant-loop-place l = (teller : ℕ) → teller < l.place + 1 → left_of (lists_in l.replies) l.past teller ≡ []
