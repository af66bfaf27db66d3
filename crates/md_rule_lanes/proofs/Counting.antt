-- Counts of words.
use Rattle.std.proofs.Common.{◌≡◌, ◌+◌, ◌≤◌, ℕ, sym, ap, ◌∙◌, arith}
use Rattle.md_words.specs.declared.content.Content.{Content}
use Rattle.md_words.specs.Content.{count_of, counted_word, word_of}
use Rattle.md_words.proofs.Words.{count_of-counted_word}
use Rattle.md_machine.specs.declared.step.TheConstants.{LAST_COUNT}

-- the count of a content's word
pub count_of_word : (from : Content) → from.count ≤ LAST_COUNT + 1 → count_of (word_of from) ≡ from.count
count_of_word from fits = count_of-counted_word from.value from.count (omega (arith, fits))

-- the word with more in its count
pub counts_more : (from : Content) (value more made : ℕ) → from.count ≤ LAST_COUNT + 1 → made ≡ counted_word value (from.count + more) → made ≡ counted_word value (count_of (word_of from) + more)
counts_more from value more made fits is = is ∙ ap (λ n. counted_word value (n + more)) (sym (count_of_word from fits))
