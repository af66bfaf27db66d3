-- A change of the cell to the value that it has is tidy.
use Rattle.std.proofs.Common.{◌≡◌, ◌≤◌, true, [], refl, sym, ap, subst, ◌∙◌, arith}
use Rattle.std.proofs.lemmas.List.Elements.{All-nil}
use Rattle.md_words.specs.declared.content.Content.{Content}
use Rattle.md_words.specs.declared.shape.Shape.{Shape}
use Rattle.md_words.specs.Content.{count_of, is_even, value_of, word_of}
use Rattle.md_words.specs.Place.{Place, bucket_head, is_counted}
use Rattle.md_words.specs.PlaceAt.{place_at, IsCounted}
use Rattle.md_words.proofs.Places.{address_below, place_at-address}
use Rattle.md_words.proofs.Words.{count_of-counted_word, value_of-counted_word}
use Rattle.md_machine.specs.declared.certificate.TidyChange.{TidyChange}
use Rattle.md_machine.specs.declared.pass.PassView.{PassView}
use Rattle.md_machine.specs.declared.step.TheConstants.{LAST_COUNT}
use Rattle.md_machine.specs.Machine.{Machine, shape_of}
use Rattle.md_machine.specs.Own.{MayExchangeAt}
use Rattle.md_machine.specs.events.Exchange.{MayExchange}
use Rattle.example_cell.specs.CellMeaning.{cell_meaning, cell_word}

-- the cell's word is a bucket's head, and so a counted word
pub at_head : (shape : Shape) → place_at shape (cell_word shape) ≡ bucket_head 0 0
at_head shape = place_at-address shape (bucket_head 0 0) (shape.in_range.maps_fit.0, shape.in_range.buckets_fit.0)

pub cell_counted : (shape : Shape) → IsCounted shape (cell_word shape)
cell_counted shape = (
  address_below shape (bucket_head 0 0) (shape.in_range.maps_fit.0, shape.in_range.buckets_fit.0),
  subst (λ (p : Place). is_counted p ≡ true) (sym (at_head shape)) refl,
)

-- from an even content with room, the exchange for the same value may be made
pub may_renew : (m : Machine) (view : PassView) (from : Content) → is_even from.count ≡ true → from.count ≤ LAST_COUNT
    → MayExchange cell_meaning m view (cell_word (shape_of m)) (word_of from) from.value
may_renew m view from even few =
    let shape = shape_of m in
    let count : count_of (word_of from) ≡ from.count = count_of-counted_word from.value from.count (omega (arith, few)) in
    let value : value_of (word_of from) ≡ from.value = value_of-counted_word from.value from.count (omega (arith, few)) in
    let tidy : TidyChange = record { change = record { word = cell_word shape; old = value_of (word_of from); new = from.value }; nodes = []; facts = [] } in record {
      counted = cell_counted shape;
      place = subst (MayExchangeAt m) (sym (at_head shape)) tt;
      from_even = record { even = ap is_even count ∙ even; room = subst (λ n. n ≤ LAST_COUNT) (sym count) few };
      tidy = record {
        tidy = tidy;
        bare = refl;
        change = refl;
        tidies = record { held = from.value; change = ap (λ old. record { word = cell_word shape; old = old; new = from.value }) value; nodes = refl };
        found = All-nil _;
        facts = λ won choice resolves. All-nil _;
      };
    }
