use Rattle.std.proofs.Common.{◌≡◌, ◌<◌, ◌+◌, [], ◌∷◌, take}
use Rattle.md_words.specs.Layout.{words_of}
use Rattle.md_words.specs.LayoutLaws.{IsField}
use Rattle.md_machine.specs.declared.node.Structure.TheVariants.{Queue}
use Rattle.md_store_law.specs.Laid.{value_nodes}
use Rattle.md_store_layout.proofs.Growing.{LaidOn}
use Rattle.md_store_layout.proofs.building.append_values.Given as goal

abbrev pub invariant-loop-value : goal.invariant-loop-value
invariant-loop-value l =
    (l.node ≡ l.first + l.value-index)
    × (l.rank ≡ 1 + l.value-index)
    × IsField l.shape l.words
    × (l.end < words_of l.shape)
    × LaidOn l.shape l.initial.words l.words (Queue l.queue) ((l.queue + 1) ∷ []) l.first (value_nodes l.queue 1 (take l.value-index l.values)) l.end
