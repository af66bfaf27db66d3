-- A status word has a status, a number of reads and a serial.
use Rattle.std.specs.Prelude.{ℕ, zero, suc, ◌+◌, ◌*◌, ◌/◌, ◌%◌}
use Rattle.md_words.specs.declared.status.Status.{Status}
use Rattle.md_words.specs.declared.status.Status.TheVariants.{InPrep, InProg, Committed, Aborted}
use Rattle.md_words.specs.declared.status.StatusWord.{StatusWord}

-- the number that stands for a status
abbrev pub code_of : Status → ℕ
code_of InPrep = 0
code_of InProg = 1
code_of Committed = 2
code_of Aborted = 3

-- the status that a number from 0 to 3 stands for
abbrev pub status_from : ℕ → Status
status_from zero = InPrep
status_from (suc zero) = InProg
status_from (suc (suc zero)) = Committed
status_from (suc (suc (suc _))) = Aborted

-- the word that is made of a status, a number of reads below 256, and a serial
unfoldable pub status_word : Status → ℕ → ℕ → ℕ
status_word status reads serial = code_of status + 4 * reads + 1024 * serial

-- the parts of a word
unfoldable pub status_of : ℕ → Status
status_of word = status_from (word % 4)

unfoldable pub reads_of : ℕ → ℕ
reads_of word = word / 4 % 256

unfoldable pub serial_of : ℕ → ℕ
serial_of word = word / 1024

-- the same, as one value
abbrev pub word_of_status : StatusWord → ℕ
word_of_status held = status_word held.status held.reads held.serial

abbrev pub status_parts : ℕ → StatusWord
status_parts word = record { status = status_of word; reads = reads_of word; serial = serial_of word }
