-- Each word has its format, after every step that changes one word as `Changes` says.
use Rattle.std.proofs.Common.{◌≡◌, ℕ, ◌+◌, ◌<◌, ◌≤◌, false, set, ◌∙◌, inr, length-set}
use Rattle.md_words.specs.Content.{count_of, is_even}
use Rattle.md_words.specs.Place.{base_word, desc_status, read_word, slot_word, slot_new}
use Rattle.md_words.specs.LayoutLaws.{IsField}
use Rattle.md_words.proofs.Places.{address-base_word}
use Rattle.md_machine.specs.declared.step.TheConstants.{LAST_COUNT, VALUES}
use Rattle.md_machine.specs.Machine.{Machine, shape_of}
use Rattle.md_machine.specs.clauses.words.Formats.{AreFormats, NamesWord, StatusFits}
use Rattle.md_machine.proofs.events.WordChanges.{MayLeave, at_counted, at_left, at_place}

pub formats-kept : (D : Type 0) (m : Machine) (field : IsField (shape_of m) m.words) (word new : ℕ) → MayLeave D m word new
    → AreFormats (shape_of m) m.words → AreFormats (shape_of m) (set m.words word new)
formats-kept D m field word new left f = record {
  field = length-set m.words word new ∙ field;
  base = at_left D m field word new 0 (λ x. x ≡ 0) left
      (λ c e. absurd (at_place D m field word new base_word tt c (address-base_word (shape_of m) ∙ e))) f.base;
  room = λ w counted. at_left D m field word new w (λ x. is_even (count_of x) ≡ false → count_of x ≤ LAST_COUNT + 1) left
      (λ c e. (at_counted D m field word new w counted c e).room) (f.room w counted);
  status = λ desc exists. at_left D m field word new _ (StatusFits (shape_of m)) left
      (λ c e. (at_place D m field word new (desc_status desc) exists c e).fits) (f.status desc exists);
  reads = λ desc i exists. at_left D m field word new _ (NamesWord (shape_of m)) left
      (λ c e. inr (at_place D m field word new (read_word desc i) exists c e).0) (f.reads desc i exists);
  values = λ desc j exists. at_left D m field word new _ (λ x. x < VALUES) left
      (λ c e. (at_place D m field word new (slot_new desc j) exists c e).0) (f.values desc j exists);
  slots = λ desc j exists. at_left D m field word new _ (NamesWord (shape_of m)) left
      (λ c e. inr (at_place D m field word new (slot_word desc j) exists c e).0) (f.slots desc j exists);
}
