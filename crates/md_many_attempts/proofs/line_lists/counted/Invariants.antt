use Rattle.std.proofs.Common.{◌≡◌, ◌<◌, ◌^◌, length, take}
use Rattle.std.specs.Prelude.{sum_by}
use Rattle.md_many_attempts.proofs.line_lists.counted.Given as goal

abbrev pub invariant-lists : goal.invariant-lists
invariant-lists g l =
    (l.total ≡ sum_by (λ list. length list.items) (take l.list-index l.fn.lists)) × (l.total < 2 ^ 32)
