use Rattle.std.proofs.Common.{◌≡◌, ◌-◌}
use Rattle.md_words.specs.Layout.{node_count}
use Rattle.md_store_law.proofs.Walking.{WalksPairs}
use Rattle.md_store_law.proofs.walks.append_pairs.Given as goal

abbrev pub invariant-loop-step : goal.invariant-loop-step
invariant-loop-step g l =
    (l.step-end ≡ node_count l.shape)
    × WalksPairs l.shape (g.W.FieldWords.words l.words) l.map l.bucket l.initial.pairs.items l.pairs.items (node_count l.shape - l.step) l.value
