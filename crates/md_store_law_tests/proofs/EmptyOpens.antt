-- The field of the worked schedules, which is empty, may be opened as a store.
use Rattle.std.proofs.Common.{ℕ, [], List, lit≤, replicate}
use Rattle.std.specs.List.Sorted.{IsStrictlySortedBy}
use Rattle.md_words.specs.Content.{counted_word}
use Rattle.md_words.specs.Layout.{words_of}
use Rattle.md_words.specs.Link.{link_value}
use Rattle.md_machine.specs.Event.{CanOpen}
use Rattle.md_machine_schedules.specs.Field.{small_opening, small_shape, small_words}
use Rattle.md_store_law.specs.Laid.{IsLaid, dummies}
use Rattle.md_store_law.specs.Store.{store}
use Rattle.md_store_layout.proofs.Dummies.{dummies_begin, dummies_end, dummies_on}
use Rattle.md_store_layout.proofs.Entries.{nodes_stand}
use Rattle.md_store_layout.proofs.Opening.{can_open}
use Rattle.md_store_layout.proofs.Stores.{AreSorted}

-- no pairs, and no values
abbrev no_pairs : (map bucket : ℕ) → List (ℕ × ℕ)
no_pairs map bucket = []

abbrev no_values : ℕ → List ℕ
no_values queue = []

-- the queue's dummy is laid
laid : IsLaid small_shape small_words (dummies 1)
unfolding counted_word link_value
laid = dummies_end small_shape small_words (lit≤ tt)
    (dummies_on small_shape (replicate (words_of small_shape) 0) 0 (lit≤ tt) (dummies_begin small_shape))

sorted : AreSorted small_shape no_pairs
unfolding IsStrictlySortedBy
sorted = record { rise = λ map bucket m b. tt; home = λ map bucket m b. tt }

pub small_opens : CanOpen store small_opening
small_opens = can_open small_shape small_words (dummies 1) no_pairs no_values laid (nodes_stand small_shape no_pairs no_values (lit≤ tt)) sorted
