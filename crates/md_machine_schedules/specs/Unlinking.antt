-- A transaction finds a key; the key is removed meanwhile; the transaction goes on, unlinks the removed node, and
-- becomes ready. It can't commit, and yet each of its steps is lawful.
use Rattle.std.specs.Prelude.{◌≡◌, true, false, List, [], ◌∷◌, ◌++◌, map, replicate, slice_set, ℕ, Some, None}
use Rattle.md_words.specs.Content.{counted_word}
use Rattle.md_words.specs.Layout.{words_of}
use Rattle.md_words.specs.Place.{node_key, node_next, node_value, slot_new, slot_old, slot_word}
use Rattle.md_history.specs.declared.acts.Op.TheVariants.{Get, Remove}
use Rattle.md_history.specs.declared.acts.Reply.TheVariants.{Value}
use Rattle.md_history.specs.declared.entries.Fate.TheVariants.{Committed, Aborted}
use Rattle.md_machine.specs.declared.certificate.Certificate.{Certificate}
use Rattle.md_machine.specs.declared.certificate.Fact.{Fact}
use Rattle.md_machine.specs.declared.certificate.TidyChange.{TidyChange}
use Rattle.md_machine.specs.declared.node.Structure.TheVariants.{Bucket}
use Rattle.md_machine.specs.declared.opening.Opening.{Opening}
use Rattle.md_machine.specs.Certified.{AllStandBy}
use Rattle.md_machine.specs.Event.{Event, Runs, abort, commit, install, load, mark_act, mark_end, mark_start, opened, ready, split, store, uninstall}
use Rattle.md_machine.specs.LogicalHeap.{LogicalHeap}
use Rattle.md_machine.specs.Machine.{Machine, content}
use Rattle.md_machine.specs.Meaning.{Meaning}
use Rattle.md_machine_schedules.specs.Field.{bucket, first_slot, link_to, place_word, small_shape, standing}
use Rattle.md_machine_schedules.specs.Transactions.{looks_up, recording, starting}
use Rattle.md_machine_schedules.specs.Walk.{Certificates, after_all, first_and_second}

-- the opening has key 1 with 10, in the base node
abbrev pub first_next : ℕ
first_next = place_word (node_next 1)

abbrev pub first_link : ℕ
first_link = counted_word (link_to 1) 0

abbrev pub keyed_words : List ℕ
keyed_words =
    let linked = slice_set (replicate (words_of small_shape) 0) bucket first_link in
    slice_set (slice_set linked (place_word (node_key 1)) 1) (place_word (node_value 1)) 10

abbrev pub keyed_opening : Opening
keyed_opening = record {
  shape = small_shape;
  words = keyed_words;
  placed = record { node = 1; structure = Bucket 0 1 } ∷ [];
}

-- the node's pair, and its next word once it is marked
abbrev pub first_pair : Fact
first_pair = record { node = 1; structure = Bucket 0 1; key = Some 1; value = Some 10; next = None }

abbrev pub first_marked : Fact
first_marked = record { node = 1; structure = Bucket 0 1; key = None; value = None; next = Some 1 }

-- key 1 is found, by the node's unmarked next word
abbrev pub finds_first : Certificate
finds_first = looks_up (Value (Some 10)) first_next (first_pair ∷ [])

-- it is removed, by a mark
abbrev pub removes_first : Certificate
removes_first = record {
  op = Remove 0 1;
  reply = Value (Some 10);
  tidy = [];
  recorded = [];
  changes = record { word = first_next; old = 0; new = 1 } ∷ [];
  nodes = [];
  facts = first_pair ∷ [];
}

-- key 65, of the same bucket, is absent: the bucket is empty after the removed node is unlinked
abbrev pub unlinks_first : TidyChange
unlinks_first = record {
  change = record { word = bucket; old = link_to 1; new = 0 };
  nodes = [];
  facts = first_marked ∷ [];
}

abbrev pub misses_second : Certificate
misses_second = record {
  op = Get 0 65;
  reply = Value None;
  tidy = unlinks_first ∷ [];
  recorded = record { word = bucket; value = 0 } ∷ [];
  changes = [];
  nodes = [];
  facts = [];
}

-- pass 0 finds key 1, and records the node's next word
abbrev pub finding_first : List Event
finding_first =
    split 0 ∷ starting 0 0 1 ++
    (load 0 first_next ∷ load 0 (place_word (node_key 1)) ∷ load 0 (place_word (node_value 1)) ∷ []) ++
    recording 0 0 first_next 0 ++ (mark_act 0 finds_first ∷ [])

-- pass 1 removes it, and commits
abbrev pub removing_first : List Event
removing_first =
    starting 1 1 2 ++
    (load 1 first_next ∷ load 1 (place_word (node_key 1)) ∷ load 1 (place_word (node_value 1)) ∷
    store 1 (place_word (slot_word 1 0)) first_next ∷ store 1 (place_word (slot_old 1 0)) 0 ∷
    store 1 (place_word (slot_new 1 0)) 1 ∷ install 1 first_next 0 (first_slot 1) ∷ mark_act 1 removes_first ∷
    ready 1 0 ∷ commit 1 1 1 ∷ uninstall 1 first_next (standing 1) 1 ∷ mark_end 1 ∷ [])

-- pass 0 looks key 65 up: it meets the mark, takes the node out of the bucket by its first slot, and finds no other
abbrev pub unlinking_first : List Event
unlinking_first =
    mark_start 0 ∷ load 0 bucket ∷ load 0 first_next ∷
    store 0 (place_word (slot_word 0 0)) bucket ∷ store 0 (place_word (slot_old 0 0)) first_link ∷
    store 0 (place_word (slot_new 0 0)) 0 ∷ install 0 bucket first_link (first_slot 0) ∷ mark_act 0 misses_second ∷ []

-- it becomes ready, finds that its read doesn't stand, aborts, and takes its descriptor out again
abbrev pub giving_up : List Event
giving_up =
    ready 0 1 ∷ load 0 first_next ∷ abort 0 0 5 ∷ uninstall 0 bucket (standing 0) (link_to 1) ∷ mark_end 0 ∷ []

abbrev pub unlinking : List Event
unlinking = finding_first ++ removing_first ++ unlinking_first ++ giving_up

abbrev pub unlinking_certificates : Certificates
unlinking_certificates = first_and_second (finds_first ∷ misses_second ∷ []) (removes_first ∷ [])

abbrev pub unlinking_end : Machine
unlinking_end = after_all unlinking_certificates (opened keyed_opening) unlinking

pub record UnlinkedRow (M : Meaning) : Type 0 where
  pub runs : Runs M (opened keyed_opening) unlinking unlinking_end
  pub fates : unlinking_end.fates ≡ Committed ∷ Aborted ∷ []
  pub sound : map (λ e. e.entry.sound) unlinking_end.history ≡ true ∷ false ∷ []
  pub word : content unlinking_end bucket ≡ counted_word (link_to 1) 2
  pub marked : content unlinking_end first_next ≡ counted_word 1 2
  -- in one heap its certificates don't stand one after another: the first recorded the next word unmarked, and the
  -- second rests on its mark. So recorded words are of what a transaction sees, and facts of the heap as it is
  pub one_heap : (h : LogicalHeap) → h.words.shape ≡ small_shape → ¬ AllStandBy h h (finds_first ∷ misses_second ∷ [])

-- it is a run of every theory that has these certificates and this unlink
abbrev pub UnlinkingRow : Meaning → Type 0
UnlinkingRow M =
    M.certifies small_shape finds_first → M.certifies small_shape removes_first → M.certifies small_shape misses_second
    → M.tidies small_shape unlinks_first → UnlinkedRow M
