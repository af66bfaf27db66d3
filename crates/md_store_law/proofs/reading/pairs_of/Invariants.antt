use Rattle.std.proofs.Common.{◌≡◌}
use Rattle.std.specs.List.{flat_map, range_with_len}
use Rattle.md_list_law.specs.Walk.{pairs_from}
use Rattle.md_list_law.specs.ListShape.{head_word}
use Rattle.md_store_law.specs.Field.{logical_words}
use Rattle.md_store_law.proofs.reading.pairs_of.Given as goal

abbrev pub invariant-loop-bucket : goal.invariant-loop-bucket
invariant-loop-bucket g l =
    l.pairs.items ≡ flat_map (λ bucket. pairs_from (logical_words l.shape (g.W.FieldWords.words l.words)) (head_word l.shape l.map bucket)) (range_with_len 0 l.bucket)
