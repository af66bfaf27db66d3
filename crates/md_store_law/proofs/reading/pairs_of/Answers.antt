use Rattle.std.proofs.Common.{ℕ, ◌++◌, sym, ap, ◌∙◌}
use Rattle.md_list_law.specs.Walk.{pairs_from}
use Rattle.md_list_law.specs.ListShape.{head_word}
use Rattle.md_store_law.specs.Field.{logical_words}
use Rattle.md_store_law.proofs.Filling.{flat_map_range_more}
use Rattle.md_store_law.proofs.reading.pairs_of.Goals as goal

pub loop-bucket-preserved : goal.loop-bucket-preserved
loop-bucket-preserved g c =
    let read = λ (bucket : ℕ). pairs_from (logical_words c.args.shape.now (g.W.FieldWords.words c.args.words.now)) (head_word c.args.shape.now c.args.map bucket) in
    c.in_ok-append_pairs.ensures ∙ ap (λ ps. ps ++ read c.loop-bucket.bucket) c.loop-bucket.invariant
    ∙ sym (flat_map_range_more read c.loop-bucket.bucket)

pub loop-bucket-init : goal.loop-bucket-init
loop-bucket-init g c = c.new-pairs.ensures.items
