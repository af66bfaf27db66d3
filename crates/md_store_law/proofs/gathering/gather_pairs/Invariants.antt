use Rattle.std.proofs.Common.{◌*◌}
use Rattle.md_store_law.specs.Compacted.{pairs_in}
use Rattle.md_store_law.specs.Lists.{AreFirst}
use Rattle.md_store_law.specs.Living.{by_number}
use Rattle.md_store_law.proofs.gathering.gather_pairs.Given as goal

abbrev pub invariant-loop-map : goal.invariant-loop-map
invariant-loop-map g l =
    AreFirst l.pairs.joined.items l.pairs.bounds.items (by_number l.shape (pairs_in l.shape (g.W.FieldWords.words l.words))) (l.map * l.shape.buckets)
