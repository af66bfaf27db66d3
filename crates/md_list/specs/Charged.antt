-- Which unlinks an operation of a list makes as parts of the transaction, so that layers above can count the words that it
-- writes.
use Rattle.std.specs.Prelude.{◌≡◌, ◌==◌, ◌++◌, true, List, [], ◌∷◌, Contains}
use Rattle.std.specs.List.{list_any}
use Rattle.md_words.specs.Link.{linked_node}
use Rattle.md_machine.specs.declared.attempt.Read.{Read}
use Rattle.md_machine.specs.declared.certificate.Change.{Change}
use Rattle.md_machine.specs.declared.certificate.TidyChange.{TidyChange}
use Rattle.md_nbtc_law.specs.State.{OwnNode, TxnState, shape_in}
use Rattle.md_list_law.specs.ListShape.{next_word}

-- why an unlink is a part of the transaction: earlier changes of it changed the word, or the word was recorded, or is the
-- next word of an own node, or earlier changes changed the next word of the unlinked node: the transaction removes it itself
pub data IsCharged (t : TxnState) (earlier : List Change) (c : TidyChange) : Type 0 where
  changed : list_any (λ x. x.word == c.change.word) earlier ≡ true → IsCharged t earlier c
  recorded : (r : Read) → Contains t.reads r → r.word ≡ c.change.word → IsCharged t earlier c
  own_next : (n : OwnNode) → Contains t.nodes n → c.change.word ≡ next_word (shape_in t) n.node → IsCharged t earlier c
  passes : list_any (λ x. x.word == next_word (shape_in t) (linked_node c.change.old)) earlier ≡ true → IsCharged t earlier c

-- each of some unlinks, made one after another after the earlier changes
abbrev pub AreCharged : TxnState → (earlier : List Change) → List TidyChange → Type 0
AreCharged t earlier [] = Unit {0}
AreCharged t earlier (c ∷ cs) = IsCharged t earlier c × AreCharged t (earlier ++ c.change ∷ []) cs
