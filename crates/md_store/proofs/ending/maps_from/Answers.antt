use Rattle.std.proofs.Common.{ap, ◌∙◌, subst}
use Rattle.md_words.specs.declared.shape.Shape.{Shape}
use Rattle.md_store_law.specs.Compacted.{contents_of}
use Rattle.md_store_law.specs.MapsFrom.{MapsFrom}
use Rattle.md_store.proofs.ending.maps_from.Goals as goal

pub returns-clause-maps : goal.returns-clause-maps
returns-clause-maps c =
    let words = c.ended-words.result.0.field.words in
    let left = c.ended-words.ensures in
    subst (MapsFrom c.args.first c.in_ok-contents.contents) (ap (λ (s : Shape). contents_of s words) c.shape.ensures ∙ left.contents) c.in_ok-contents.ensures
