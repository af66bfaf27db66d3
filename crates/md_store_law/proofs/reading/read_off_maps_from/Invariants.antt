use Rattle.md_store_law.specs.Field.{logical_words}
use Rattle.md_store_law.proofs.Filling.{MapsFilled}
use Rattle.md_store_law.proofs.reading.read_off_maps_from.Given as goal

abbrev pub invariant-loop-map : goal.invariant-loop-map
invariant-loop-map g l = MapsFilled (logical_words l.shape (g.W.FieldWords.words l.words)) l.first l.contents l.map
