use Rattle.std.proofs.Common.{◌≡◌, ◌+◌, ◌-◌}
use Rattle.md_feed_lines.proofs.making.Making.line.Given as goal

abbrev pub invariant-loop-passed : goal.invariant-loop-passed
invariant-loop-passed l =
    (l.self.number ≡ l.fn.wanted.number) × (l.self.callers ≡ l.fn.wanted.callers) × (l.self.made + (l.before - l.passed) ≡ l.fn.wanted.made)
