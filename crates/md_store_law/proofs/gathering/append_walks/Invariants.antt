use Rattle.std.proofs.Common.{◌≡◌, ◌+◌, ℕ, List}
use Rattle.md_store_law.specs.Lists.{AreFirst}
use Rattle.md_store_law.specs.SideWalks.{EachWalk}
use Rattle.md_store_law.proofs.gathering.append_walks.Given as goal

abbrev pub invariant-loop-walk : goal.invariant-loop-walk
invariant-loop-walk l = (lists : ℕ → List ℕ) (first : ℕ)
    → AreFirst l.fn.values.joined.items l.fn.values.bounds.items lists first
    → EachWalk (λ queue walk. walk.values.items ≡ lists queue) first l.walks
    → AreFirst l.values.joined.items l.values.bounds.items lists (first + l.walk-index)
