use Rattle.md_words.proofs.Places.{address_below, address_differs, place_at-address, address-place_at, slice_index-slice_set_same, slice_index-slice_set_other, slice_index-slice_set_word, address-base_word, bucket_of_below, counted_by_place, words_fit, nodes_fit_values, descs_fit_values}
use Rattle.md_words.proofs.laws.layout_laws.Goals as goal

pub returns : goal.returns
returns c = record {
  is_word = address_below;
  differ = address_differs;
  place_found = place_at-address;
  word_is_place = address-place_at;
  base_is_zero = address-base_word;
  bucket_exists = bucket_of_below;
  write_lands = slice_index-slice_set_same;
  write_leaves = slice_index-slice_set_other;
  word_leaves = slice_index-slice_set_word;
  counted = counted_by_place;
  words_fit = words_fit;
  nodes_fit = nodes_fit_values;
  descs_fit = descs_fit_values;
}
