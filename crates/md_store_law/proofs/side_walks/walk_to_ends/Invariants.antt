use Rattle.std.proofs.Common.{◌≡◌, ◌-◌}
use Rattle.md_words.specs.Layout.{node_count}
use Rattle.md_store_law.specs.SideWalks.{EachWalk}
use Rattle.md_store_law.proofs.SideWalks.{IsUnderWay}
use Rattle.md_store_law.proofs.side_walks.walk_to_ends.Given as goal

abbrev pub invariant-loop-step : goal.invariant-loop-step
invariant-loop-step g l =
    (l.step-end ≡ node_count l.shape)
    × EachWalk (IsUnderWay l.shape (g.W.FieldWords.words l.words) (node_count l.shape - l.step)) l.first l.walks
