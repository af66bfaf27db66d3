use Rattle.std.proofs.Common.{◌≡◌, ◌^◌, take}
use Rattle.std.specs.Prelude.{◌%◌}
use Rattle.md_many_attempts.specs.ByCaller.{lists_in}
use Rattle.example_bank.specs.Journal.{moved_among}
use Rattle.example_bank.proofs.journal.moved_in.Given as goal

abbrev pub invariant-loop-outcomes : goal.invariant-loop-outcomes
invariant-loop-outcomes g l = l.moved ≡ moved_among (take l.outcomes-index (lists_in l.many.replies.items)) % 2 ^ 64
