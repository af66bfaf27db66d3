-- Which moves of the tail an operation of a queue makes as parts of the transaction, so that layers above can count the
-- words that it writes.
use Rattle.std.specs.Prelude.{◌≡◌, ◌==◌, ◌++◌, true, List, [], ◌∷◌, Contains}
use Rattle.std.specs.List.{list_any}
use Rattle.md_words.specs.Link.{linked_node}
use Rattle.md_machine.specs.declared.attempt.Read.{Read}
use Rattle.md_machine.specs.declared.certificate.Change.{Change}
use Rattle.md_machine.specs.declared.certificate.TidyChange.{TidyChange}
use Rattle.md_nbtc_law.specs.State.{TxnState}
use Rattle.md_queue.specs.Words.{next_at}

-- why a move of the tail is a part of the transaction: earlier changes of it changed the tail, or the next word of the
-- node from which the tail is moved, or the tail was recorded
pub data IsCharged (t : TxnState) (earlier : List Change) (c : TidyChange) : Type 0 where
  changed : list_any (λ x. x.word == c.change.word) earlier ≡ true → IsCharged t earlier c
  passes : list_any (λ x. x.word == next_at t (linked_node c.change.old)) earlier ≡ true → IsCharged t earlier c
  recorded : (r : Read) → Contains t.reads r → r.word ≡ c.change.word → IsCharged t earlier c

-- each of some moves, made one after another after the earlier changes
abbrev pub AreCharged : TxnState → (earlier : List Change) → List TidyChange → Type 0
AreCharged t earlier [] = Unit {0}
AreCharged t earlier (c ∷ cs) = IsCharged t earlier c × AreCharged t (earlier ++ c.change ∷ []) cs
