use Rattle.std.proofs.Common.{◌≡◌, ℕ, sym, ap, ◌∙◌, arith, subst, refl}
use Rattle.std.specs.Prelude.{IsTrue}
use Rattle.md_words.specs.Layout.{words_of}
use Rattle.md_store_law.specs.Field.{IsStoreField}
use Rattle.md_store_law_tests.specs.UsedRow.{used_words, used_row, are_below}
use Rattle.md_store_law_tests.proofs.RowPlaces.{words_are}
use Rattle.md_store_law_tests.proofs.UsedRowHolds.{used_is, used_written, used_length}
use Rattle.md_store_law_tests.proofs.tests.reading.used_field.Goals as goal

pub written-requires : goal.written-requires
written-requires c =
    subst (λ (size : ℕ). IsTrue (are_below size used_row)) (sym (c.words.ensures ∙ words_are c.args.shape.now c.requires)) refl

pub returns : goal.returns
returns c =
    let shape = c.args.shape.now in
    let size = words_of shape in
    let is : c.in_ok-words.words.items ≡ used_words size = c.in_ok-words.ensures ∙ ap used_words c.words.ensures in
    subst (IsStoreField shape) (sym is)
    (used_is shape c.requires (used_words size) (used_written size (omega (arith, words_are shape c.requires))) (used_length size))
