use Rattle.std.proofs.Common.{◌≡◌, ◌↔◌, length}
use Rattle.std.specs.VecDeque.Iter.{deque_iter_rest}
use Rattle.md_many_attempts.specs.ByCaller.{lists_in}
use Rattle.example_bank.specs.Bank.{bank_in}
use Rattle.example_bank.specs.Journal.{IsJournalOf}
use Rattle.example_bank.proofs.Journals.{Matches}
use Rattle.example_bank.proofs.journal.is_journal_right.Given as goal

abbrev pub invariant-loop-number : goal.invariant-loop-number
invariant-loop-number g l = record {
  tellers : length l.past.items ≡ length l.many.replies.items;
  same : IsJournalOf (lists_in l.many.replies.items) (bank_in l.many.contents).journal
      ↔ Matches (lists_in l.many.replies.items) l.past.items (deque_iter_rest l.number-iterator);
}
