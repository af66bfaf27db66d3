use Rattle.std.proofs.Common.{◌≡◌, ◌<◌, ◌≤◌, ℕ}
use Rattle.md_many_attempts.specs.ByCaller.{at_caller}
use Rattle.md_many.proofs.rounds.is_lone.Given as goal

abbrev pub invariant-others : goal.invariant-others
invariant-others g l = (other : ℕ) → l.caller < other → other ≤ l.before → at_caller 0 l.done other ≡ g.L.Lines.line_count l.lines other
