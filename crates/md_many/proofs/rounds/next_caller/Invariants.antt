use Rattle.std.proofs.Common.{◌≡◌, ◌≤◌, ℕ}
use Rattle.md_many_attempts.specs.ByCaller.{at_caller}
use Rattle.md_many.proofs.rounds.next_caller.Given as goal

abbrev pub invariant-callers : goal.invariant-callers
invariant-callers g l = record {
  caller : l.caller ≡ l.played-index;
  whole : (caller : ℕ) → 1 ≤ caller → caller ≤ l.caller
      → at_caller 0 l.done caller ≡ g.L.Lines.line_count l.lines caller;
}
