use Rattle.md_words.proofs.Words.{zero_is_empty, is_even-zero, spot_stands, standing_spot, value_of-counted_word, count_of-counted_word, counted_word-parts, count_of_below, value_of_below, counted_word_below, is_even-next, spot_of-spot_value, spot_value-spot_of, linked_node-link_value, is_marked-link_value, link_value-parts, status_of-status_word, reads_of-status_word, serial_of-status_word, status_word-parts, reads_of_below, status_word_below, status_word-adds, status_word-begins}
use Rattle.md_words.proofs.laws.word_laws.Goals as goal

pub returns : goal.returns
returns c = record {
  value_found = value_of-counted_word;
  count_found = count_of-counted_word;
  parts_make_word = counted_word-parts;
  count_fits = count_of_below;
  value_fits = value_of_below;
  word_fits = counted_word_below;
  zero_is_empty = zero_is_empty;
  zero_is_even = is_even-zero;
  even_turns = is_even-next;
  spot_found = spot_of-spot_value;
  spot_makes_value = spot_value-spot_of;
  spot_stands = spot_stands;
  standing_spot = standing_spot;
  node_found = linked_node-link_value;
  mark_found = is_marked-link_value;
  link_makes_value = link_value-parts;
  status_found = status_of-status_word;
  reads_found = reads_of-status_word;
  serial_found = serial_of-status_word;
  parts_make_status = status_word-parts;
  reads_fit = reads_of_below;
  status_fits = status_word_below;
  status_adds = status_word-adds;
  begins_at = status_word-begins;
}
