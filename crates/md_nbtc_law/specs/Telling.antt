-- What a committed transaction tells.
use Rattle.std.specs.Prelude.{◌≡◌, ◌≤◌, ◌+◌, ℕ, true, List, All, length, if◌then◌else◌}
use Rattle.md_words.specs.declared.limits.TheConstants.{SET}
use Rattle.md_words.specs.Content.{count_of}
use Rattle.md_machine.specs.declared.attempt.Read.{Read}
use Rattle.md_machine.specs.declared.attempt.Write.{Write}
use Rattle.md_machine.specs.declared.step.TheConstants.{LAST_COUNT}
use Rattle.md_machine.specs.Certified.{is_written}

-- a receipt: the tag, and for each read and each write the word and the count at which it stood when the transaction
-- became ready
pub record Told : Type 0 where
  pub tag : ℕ
  pub reads : List (ℕ × ℕ)
  pub writes : List (ℕ × ℕ)

abbrev pub read_count : List Write → Read → ℕ × ℕ
read_count writes r = (r.word, if is_written writes r.word then count_of r.content + 1 else count_of r.content)

abbrev pub write_count : Write → ℕ × ℕ
write_count w = (w.word, count_of w.old + 1)

-- there are as many words as a transaction may have at most, and they have room for one more count where the transaction changed them
pub record MayTell (reads : List Read) (writes : List Write) : Type 0 where
  pub few_reads : length reads ≤ SET
  pub few_writes : length writes ≤ SET
  pub of_reads : All (λ r. is_written writes r.word ≡ true → count_of r.content ≤ LAST_COUNT) reads
  pub of_writes : All (λ w. count_of w.old ≤ LAST_COUNT) writes
