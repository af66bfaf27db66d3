use Rattle.std.proofs.Common.{◌≡◌, ℕ, drop}
use Rattle.example_bank.specs.Journal.{moved_after}
use Rattle.example_bank.proofs.journal.next_moved.Given as goal

abbrev pub invariant-loop-next : goal.invariant-loop-next
invariant-loop-next l =
    (teller : ℕ) → moved_after teller l.past (drop l.past l.outcomes) ≡ moved_after teller l.next (drop l.next l.outcomes)
