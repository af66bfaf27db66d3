-- Where every count is even, a word's value in a logical heap is the value that stands in it.
use Rattle.std.proofs.Common.{◌≡◌, ℕ, Bool, List, refl, sym, ap, ◌∙◌}
use Rattle.std.proofs.lemmas.Bool.{cond-true}
use Rattle.md_words.specs.Content.{value_of, count_of, is_even}
use Rattle.md_words.specs.Place.{is_counted}
use Rattle.md_words.specs.PlaceAt.{place_at, IsCounted}
use Rattle.md_machine.specs.LogicalHeap.{LogicalHeap, AgreeWherePlaced}
use Rattle.md_machine.specs.Machine.{Machine, content, shape_of}
use Rattle.md_machine.specs.Resolution.{logical_value, value_by_spot}
use Rattle.md_store_law.specs.Field.{logical_words}
use Rattle.md_store_law.specs.EvenFields.{IsEvenMachine, EvenFieldsAreStores, heap_with}
use Rattle.md_store_law.specs.Laws.StoreLaws.{store_lawful}

pub even_value : (m : Machine) (choice : List Bool) (word : ℕ) → IsEvenMachine m → IsCounted (shape_of m) word
    → value_of (content m word) ≡ logical_value m choice word
even_value m choice word e counted =
    let held = content m word in
    sym (cond-true (is_counted (place_at (shape_of m) word)) _ _ counted.1
    ∙ ap (value_by_spot m choice held) (cond-true (is_even (count_of held)) _ _ (e.even word counted)))

pub even_fields_are_stores : EvenFieldsAreStores
even_fields_are_stores m choice placed e valid =
    let h = heap_with m choice placed in
    let k : LogicalHeap = record { words = logical_words (shape_of m) m.words; placed = placed } in
    let agree : AgreeWherePlaced h k = record {
      shape = refl;
      placed = λ node. refl;
      value = λ word counted next. even_value m choice word e counted;
      key_of = λ node placed. refl;
      value_of_node = λ node placed. refl;
    } in
    let f = store_lawful.frame h k valid agree in
    (record { field = e.field; even = e.even; placed = placed; store = f.0 }, f.1)
