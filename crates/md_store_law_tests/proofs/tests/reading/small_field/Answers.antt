use Rattle.std.proofs.Common.{◌≡◌, sym, ap, ◌∙◌, arith, subst}
use Rattle.md_words.specs.Layout.{words_of}
use Rattle.md_store_law.specs.Field.{IsStoreField}
use Rattle.md_store_law_tests.specs.Row.{row_words}
use Rattle.md_store_law_tests.proofs.RowHolds.{row_is, row_written, row_length}
use Rattle.md_store_law_tests.proofs.RowPlaces.{words_are}
use Rattle.md_store_law_tests.proofs.tests.reading.small_field.Goals as goal

pub row_words-requires : goal.row_words-requires
row_words-requires c = omega (arith, words_are c.args.shape.now c.requires, c.words.ensures)

pub returns : goal.returns
returns c =
    let shape = c.args.shape.now in
    let size = words_of shape in
    let is : c.in_ok-words.words.items ≡ row_words size = c.in_ok-words.ensures ∙ ap row_words c.words.ensures in
    subst (IsStoreField shape) (sym is)
    (row_is shape c.requires (row_words size) (row_written size (omega (arith, words_are shape c.requires))) (row_length size))
