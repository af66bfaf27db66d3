use Rattle.std.proofs.Common.{◌≡◌, ◌<◌, ◌+◌, [], take}
use Rattle.md_words.specs.Layout.{words_of}
use Rattle.md_words.specs.LayoutLaws.{IsField}
use Rattle.md_machine.specs.declared.node.Structure.TheVariants.{Bucket}
use Rattle.md_store_law.specs.Laid.{pair_nodes}
use Rattle.md_store_layout.proofs.Growing.{LaidOn}
use Rattle.md_store_layout.proofs.building.append_pairs.Given as goal

abbrev pub invariant-loop-i : goal.invariant-loop-i
invariant-loop-i l =
    (l.node ≡ l.first + l.i)
    × IsField l.shape l.words
    × (l.end < words_of l.shape)
    × LaidOn l.shape l.initial.words l.words (Bucket l.map l.bucket) [] l.first (pair_nodes l.map l.bucket (take l.i l.pairs)) l.end
