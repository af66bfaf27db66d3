use Rattle.std.proofs.Common.{rules}
use Rattle.md_words.specs.Status.{status_word, status_of, reads_of, serial_of}
use Rattle.md_words.proofs.status.StatusWord.word.Goals as goal

pub returns-clause-whole : goal.returns-clause-whole
unfolding status_word
returns-clause-whole c = search rules depth 1

pub returns-clause-inverse : goal.returns-clause-inverse
unfolding status_of reads_of serial_of
returns-clause-inverse c = search rules depth 1
