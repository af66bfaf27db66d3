-- How many more words an operation of a list may write.
use Rattle.std.specs.Prelude.{◌≤◌, ◌+◌, ℕ, List, filter, length, not}
use Rattle.md_machine.specs.declared.attempt.Read.{Read}
use Rattle.md_machine.specs.Certified.{is_written}
use Rattle.md_nbtc_law.specs.State.{TxnState, writes_in}

-- the words that a transaction recorded or writes, each counted once
abbrev pub unwritten_reads : TxnState → List Read
unwritten_reads t = filter (λ r. not (is_written (writes_in t) r.word)) t.reads

abbrev pub touched : TxnState → ℕ
touched t = length t.slots + length (unwritten_reads t)

-- so many more words are written at most: some, one for each word that it had recorded or written, and one for each of its nodes
abbrev pub WritesFew : (t u : TxnState) → (some : ℕ) → Type 0
WritesFew t u some = length u.slots ≤ length t.slots + (some + touched t + length t.nodes)
