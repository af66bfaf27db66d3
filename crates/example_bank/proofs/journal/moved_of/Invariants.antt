use Rattle.std.proofs.Common.{◌≡◌, ◌≤◌, take}
use Rattle.std.specs.Prelude.{count_by}
use Rattle.example_bank.specs.Journal.{is_moved}
use Rattle.example_bank.proofs.journal.moved_of.Given as goal

abbrev pub invariant-loop-outcome : goal.invariant-loop-outcome
invariant-loop-outcome l = record {
  counted : l.moved ≡ count_by is_moved (take l.outcome-index l.outcomes);
  few : l.moved ≤ l.outcome-index;
}
