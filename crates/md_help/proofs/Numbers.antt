-- The numbers that a helper loads are in range.
use Rattle.std.proofs.Common.{◌≡◌, ◌≢◌, ◌<◌, ◌^◌, ℕ, true, slice_index, sym, ap, ◌∙◌, subst, ⊎_elim, arith}
use Rattle.md_words.specs.declared.shape.Shape.{Shape}
use Rattle.md_words.specs.Layout.{Exists, IsInSet, address, words_of}
use Rattle.md_words.specs.Place.{Place, base_word, desc_status, is_counted, read_content, read_word}
use Rattle.md_words.proofs.Places.{address_below, address_differs, address-base_word, place_at-address, words_fit}
use Rattle.md_words.specs.PlaceAt.{IsCounted, place_at}
use Rattle.std.proofs.lemmas.Bool.{false≢true}
use Rattle.md_machine.specs.declared.pass.PassView.{PassView}
use Rattle.md_machine.specs.Event.{load}
use Rattle.md_machine.specs.Machine.{Machine}
use Rattle.md_machine.specs.Meaning.{Meaning}
use Rattle.md_machine.specs.clauses.words.Formats.{AreFormats, NamesWord}
use Rattle.md_rule.specs.Admitted.{Admitted}
use Rattle.md_rule.specs.Steps.{SteppedFrom}
use Rattle.md_rule.specs.Views.{Origin}
use Rattle.md_rule.proofs.Moves.{is_kept}
use Rattle.md_help.specs.Reads.{IsNoStatus}

-- a word of a read or a slot is a word of the field
named_below : (shape : Shape) (x : ℕ) → NamesWord shape x → x < words_of shape
named_below shape x n = ⊎_elim (λ e. subst (λ y. y < words_of shape) (address-base_word shape ∙ sym e) (address_below shape base_word tt)) (λ c. c.0) n

-- the reads of a descriptor, and the words that they name, aren't its status
place_apart : (shape : Shape) (p q : Place) → Exists shape p → Exists shape q → p ≢ q → address shape p ≢ address shape q
place_apart shape p q a b n = address_differs shape p q a b n

pub apart_read_word : (shape : Shape) (desc i : ℕ) → IsInSet shape desc i → IsNoStatus shape (address shape (read_word desc i))
apart_read_word shape desc i inside other exists = place_apart shape (read_word desc i) (desc_status other) inside exists (λ e. grind arith)

pub apart_read_content : (shape : Shape) (desc i : ℕ) → IsInSet shape desc i → IsNoStatus shape (address shape (read_content desc i))
apart_read_content shape desc i inside other exists = place_apart shape (read_content desc i) (desc_status other) inside exists (λ e. grind arith)

pub apart_counted : (shape : Shape) (x : ℕ) → IsCounted shape x → IsNoStatus shape x
apart_counted shape x c desc h e = absurd (false≢true (subst (λ (p : Place). is_counted p ≡ true) (ap (place_at shape) e ∙ place_at-address shape (desc_status desc) h) c.1))

apart_named : (shape : Shape) (x : ℕ) → NamesWord shape x → IsNoStatus shape x
apart_named shape x n desc h = ⊎_elim (λ e k. place_apart shape base_word (desc_status desc) tt h (λ f. grind arith) (address-base_word shape ∙ sym e ∙ k)) (λ c. apart_counted shape x c desc h) n

pub fits_word : (shape : Shape) (x : ℕ) → x < words_of shape → x < 2 ^ 32
fits_word shape x h = let few = words_fit shape in omega (arith, few, h)

module _ (M : Meaning) (o : Origin) where
  pub formats_of : (m : Machine) → Admitted M o m → AreFormats o.shape m.words
  formats_of m a = subst (λ shape. AreFormats shape m.words) a.shape (is_kept M o m a).formats

  read_word_named : (before after : PassView) (word held desc i : ℕ) → IsInSet o.shape desc i → word ≡ address o.shape (read_word desc i)
      → SteppedFrom M o (λ pass. load pass word) word held before after → NamesWord o.shape held
  read_word_named before after word held desc i inside at (s, is) =
      subst (NamesWord o.shape) (ap (slice_index s.machine.words) (sym at) ∙ is) ((formats_of s.machine s.admitted).reads desc i inside)

  pub read_word_below : (before after : PassView) (word held desc i : ℕ) → IsInSet o.shape desc i → word ≡ address o.shape (read_word desc i)
      → SteppedFrom M o (λ pass. load pass word) word held before after → held < words_of o.shape
  read_word_below before after word held desc i inside at (s, is) =
      named_below o.shape held (read_word_named before after word held desc i inside at (s, is))

  pub read_word_apart : (before after : PassView) (word held desc i : ℕ) → IsInSet o.shape desc i → word ≡ address o.shape (read_word desc i)
      → SteppedFrom M o (λ pass. load pass word) word held before after → IsNoStatus o.shape held
  read_word_apart before after word held desc i inside at s = apart_named o.shape held (read_word_named before after word held desc i inside at s)
