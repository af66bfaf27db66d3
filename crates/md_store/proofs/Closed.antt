-- What a field of a store holds when it has ended.
use Rattle.std.proofs.Common.{◌≡◌, ℕ, List, [], length, sym, ap, ◌∙◌, subst}
use Rattle.std.specs.List.{range_with_len}
use Rattle.std.proofs.lemmas.List.{length-map}
use Rattle.md_words.specs.declared.shape.Shape.{Shape}
use Rattle.md_history.specs.Engine.{SettlesFrom}
use Rattle.md_history.specs.State.{HaveSameNumbers}
use Rattle.md_machine.specs.Event.{opened}
use Rattle.md_machine.specs.LogicalHeap.{LogicalWords}
use Rattle.md_rule.specs.Closing.{LeavesReplay}
use Rattle.md_rule.specs.Views.{FieldView, PassState}
use Rattle.md_hash_law.specs.HashTable.{pairs_of_map}
use Rattle.md_list_law.specs.Walk.{map_of_pairs}
use Rattle.md_queue_law.specs.QueueValues.{queue_values}
use Rattle.md_store_law.specs.Store.{state_of_store, store}
use Rattle.md_store_law.proofs.EvenFields.{even_fields_are_stores}
use Rattle.md_store.specs.Ending.{EndsField}
use Rattle.md_store_bodies.specs.Store.{front_in, start_of}

-- a field that ended after a settling
pub leaves_contents : (f : FieldView) (before settled last : PassState) (words : List ℕ) → SettlesFrom (start_of f) (front_in before) (front_in settled)
    → LeavesReplay store f.origin settled.view words → last ≡ settled → EndsField f before words last
leaves_contents f before settled last words settles left same =
    let m = opened (record { shape = f.origin.shape; words = words; placed = [] }) in
    let even = even_fields_are_stores m [] left.placed (record { field = left.field; even = left.even }) left.valid in
    subst (EndsField f before words) (sym same) (record {
      settles = settles;
      store = even.0;
      contents = even.1 ∙ left.state;
    })

-- two states of fields of one shape have as many maps and queues
pub same_numbers : (w u : LogicalWords) → w.shape ≡ u.shape → HaveSameNumbers (state_of_store w) (state_of_store u)
same_numbers w u same = record {
  maps = length-map (range_with_len 0 w.shape.maps) (λ map. map_of_pairs (pairs_of_map w map)) ∙ ap (λ (s : Shape). length (range_with_len 0 s.maps)) same
      ∙ sym (length-map (range_with_len 0 u.shape.maps) (λ map. map_of_pairs (pairs_of_map u map)));
  queues = length-map (range_with_len 0 w.shape.queues) (queue_values w) ∙ ap (λ (s : Shape). length (range_with_len 0 s.queues)) same
      ∙ sym (length-map (range_with_len 0 u.shape.queues) (queue_values u));
}
