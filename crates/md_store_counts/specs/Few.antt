-- How many different words the certificates of a transaction record and change, and how many nodes they place, by the
-- counts of their acts.
use Rattle.std.specs.Prelude.{◌≡◌, ◌≢◌, ◌≤◌, ℕ, Bool, true, List, [], ◌∷◌, ◌++◌, map, length, All, Contains, if◌then◌else◌, is_some}
use Rattle.std.specs.List.{flat_map, AllPairs}
use Rattle.md_words.specs.declared.shape.Shape.{Shape}
use Rattle.md_words.specs.Link.{linked_node}
use Rattle.md_history.specs.declared.acts.Act.{Act}
use Rattle.md_history.specs.declared.acts.Op.{Op}
use Rattle.md_history.specs.Act.{act_of}
use Rattle.md_history.specs.Counts.{named_key, changed_nothing, reads, writes, nodes}
use Rattle.md_machine.specs.declared.certificate.Certificate.{Certificate}
use Rattle.md_machine.specs.declared.certificate.Change.{Change}
use Rattle.md_machine.specs.declared.certificate.TidyChange.{TidyChange}
use Rattle.md_machine.specs.Certified.{AllStandBy, TidiesStandBy, after_wholes, all_changes, all_nodes, changes_of_tidy}
use Rattle.md_machine.specs.LogicalHeap.{LogicalHeap}
use Rattle.md_list_law.specs.ListShape.{next_word}
use Rattle.md_store_law.specs.Store.{store}

-- certificates of the store, one after another from a valid heap
pub record StandFrom (h : LogicalHeap) (cs : List Certificate) : Type 0 where
  pub valid : store.valid h
  pub certifies : All (store.certifies h.words.shape) cs
  pub tidies : All (λ c. All (store.tidies h.words.shape) c.tidy) cs
  pub stand : AllStandBy h h cs

-- the acts of certificates
abbrev pub certificate_acts : List Certificate → List Act
certificate_acts cs = map (λ c. act_of c.op c.reply) cs

-- the words that they record, those that changes name, and the next words of the nodes that they place
abbrev pub recorded_by : Certificate → List ℕ
recorded_by c = map (λ r. r.word) c.recorded

abbrev pub recorded_words : List Certificate → List ℕ
recorded_words cs = flat_map recorded_by cs

abbrev pub words_of_changes : List Change → List ℕ
words_of_changes changes = map (λ c. c.word) changes

abbrev pub changed_words : List Certificate → List ℕ
changed_words cs = words_of_changes (all_changes cs)

abbrev pub placed_nexts : Shape → List Certificate → List ℕ
placed_nexts shape cs = map (λ n. next_word shape n.node) (all_nodes cs)

-- an operation on a map
abbrev pub is_of_map : Op → Bool
is_of_map op = is_some (named_key op)

-- of operations on maps, those that changed nothing record one word at most, and others none
abbrev pub RecordsOne : Certificate → Type 0
RecordsOne c = is_of_map c.op ≡ true → length c.recorded ≤ (if changed_nothing c.op c.reply then 1 else 0)

-- A tidy change after other changes is charged: its word is a recorded one, or the next word of a new node, or was changed
-- before; or the next word of the node that it passes over was changed before.
pub data IsCharged (shape : Shape) (read nexts : List ℕ) (before : List Change) (t : TidyChange) : Type 0 where
  recorded : Contains read t.change.word → IsCharged shape read nexts before t
  placed : Contains nexts t.change.word → IsCharged shape read nexts before t
  again : Contains (words_of_changes before) t.change.word → IsCharged shape read nexts before t
  passes : Contains (words_of_changes before) (next_word shape (linked_node t.change.old)) → IsCharged shape read nexts before t

-- so is each of some tidy changes, one after another
abbrev pub TidyCharged : Shape → (read nexts : List ℕ) → (before : List Change) → List TidyChange → Type 0
TidyCharged shape read nexts before [] = Unit {0}
TidyCharged shape read nexts before (t ∷ ts) =
    IsCharged shape read nexts before t × TidyCharged shape read nexts (before ++ t.change ∷ []) ts

-- The recorded words to which a certificate's tidy changes are charged: those that certificates before it recorded. One of
-- a queue may name its own, too: no tidy change changes a word that queues record.
abbrev pub read_before : List Certificate → Certificate → List ℕ
read_before before c = recorded_words before ++ (if is_of_map c.op then [] else recorded_by c)

-- so is each of a certificate after others, by what was recorded before it, and by what these and itself place
abbrev pub NextCharged : Shape → (before : List Certificate) → Certificate → Type 0
NextCharged shape before c =
    TidyCharged shape (read_before before c) (placed_nexts shape (before ++ c ∷ [])) (all_changes before) c.tidy

-- and each of each of some certificates, one after another, after those before
abbrev pub AllCharged : Shape → (before cs : List Certificate) → Type 0
AllCharged shape before [] = Unit {0}
AllCharged shape before (c ∷ cs) = NextCharged shape before c × AllCharged shape (before ++ c ∷ []) cs

-- different words of a kind are at most so many
abbrev pub AtMost : (most : ℕ) → (ℕ → Type 0) → Type 0
AtMost most Is = (words : List ℕ) → AllPairs ◌≢◌ words → All Is words → length words ≤ most

-- they place as many nodes as their acts count
abbrev pub PlacedAreCounted : Type 0
PlacedAreCounted = (h : LogicalHeap) (cs : List Certificate) → StandFrom h cs → length (all_nodes cs) ≡ nodes (certificate_acts cs)

-- they record no more different words
abbrev pub RecordedAreFew : Type 0
RecordedAreFew = (h : LogicalHeap) (cs : List Certificate) → StandFrom h cs → All RecordsOne cs
    → AtMost (reads (certificate_acts cs)) (Contains (recorded_words cs))

-- and change no more, if each of their tidy changes is charged
abbrev pub WrittenAreFew : Type 0
WrittenAreFew = (h : LogicalHeap) (cs : List Certificate) → StandFrom h cs → All RecordsOne cs → AllCharged h.words.shape [] cs
    → AtMost (writes (certificate_acts cs)) (Contains (changed_words cs))

-- so it is after tidy changes of an operation that goes on
pub record TidyFrom (h : LogicalHeap) (cs : List Certificate) (ts : List TidyChange) : Type 0 where
  pub tidies : All (store.tidies h.words.shape) ts
  pub stand : TidiesStandBy (after_wholes h cs) (after_wholes h cs) ts
  pub charged : TidyCharged h.words.shape (recorded_words cs) (placed_nexts h.words.shape cs) (all_changes cs) ts

abbrev pub TidiedAreFew : Type 0
TidiedAreFew = (h : LogicalHeap) (cs : List Certificate) (ts : List TidyChange) → StandFrom h cs → All RecordsOne cs
    → AllCharged h.words.shape [] cs → TidyFrom h cs ts
    → AtMost (writes (certificate_acts cs)) (Contains (words_of_changes (all_changes cs ++ changes_of_tidy ts)))
