use Rattle.std.proofs.Common.{◌≡◌, [], replicate}
use Rattle.md_many_attempts.specs.ByCaller.{lists_in}
use Rattle.md_many.proofs.many.empty_lists.Given as goal

abbrev pub invariant-callers : goal.invariant-callers
invariant-callers g l = lists_in l.lists.items ≡ replicate l.made []
