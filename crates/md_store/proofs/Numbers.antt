-- What a store starts with has as many maps and queues as its shape.
use Rattle.std.proofs.Common.{◌≡◌, length, ◌∙◌}
use Rattle.std.specs.List.{range_with_len}
use Rattle.std.proofs.lemmas.List.{length-map}
use Rattle.std.proofs.lemmas.List.FromFn.{length-range_with_len}
use Rattle.md_hash_law.specs.HashTable.{pairs_of_map}
use Rattle.md_list_law.specs.Walk.{map_of_pairs}
use Rattle.md_queue_law.specs.QueueValues.{queue_values}
use Rattle.md_rule.specs.Closing.{plain_words}
use Rattle.md_rule.specs.Views.{FieldView}
use Rattle.md_store_bodies.specs.Store.{start_of}

pub count_of_maps : (f : FieldView) → length (start_of f).maps ≡ f.origin.shape.maps
count_of_maps f =
    length-map (range_with_len 0 f.origin.shape.maps) (λ map. map_of_pairs (pairs_of_map (plain_words f.origin.shape f.origin.words) map))
    ∙ length-range_with_len 0 f.origin.shape.maps

pub count_of_queues : (f : FieldView) → length (start_of f).queues ≡ f.origin.shape.queues
count_of_queues f =
    length-map (range_with_len 0 f.origin.shape.queues) (queue_values (plain_words f.origin.shape f.origin.words))
    ∙ length-range_with_len 0 f.origin.shape.queues
