-- A look at the first value of a queue: its steps, what it knows for good, and its certificates.
use Rattle.std.proofs.Common.{◌≡◌, ◌≢◌, ◌<◌, ◌^◌, ℕ, List, [], ◌∷◌, Some, None, refl, sym, ap, subst, inl, inr}
use Rattle.std.proofs.lemmas.List.Elements.{All-cons, All-nil}
use Rattle.std.specs.List.{All}
use Rattle.md_words.specs.declared.shape.Shape.{Shape}
use Rattle.md_words.specs.Layout.{address}
use Rattle.md_words.specs.Link.{linked_node}
use Rattle.md_words.specs.Place.{node_next, queue_head}
use Rattle.md_history.specs.declared.acts.Op.{Op}
use Rattle.md_history.specs.declared.acts.Op.TheVariants.{Dequeue, Front}
use Rattle.md_history.specs.declared.acts.Reply.TheVariants.{Value}
use Rattle.md_machine.specs.declared.certificate.Certificate.{Certificate}
use Rattle.md_machine.specs.declared.certificate.TidyChange.{TidyChange}
use Rattle.md_machine.specs.declared.certificate.WordValue.{WordValue}
use Rattle.md_machine.specs.declared.node.Structure.TheVariants.{Queue}
use Rattle.md_machine.specs.Certified.{after_wholes}
use Rattle.md_machine.specs.LogicalHeap.{Holds}
use Rattle.md_machine.specs.Meaning.{Lawful, Meaning}
use Rattle.md_nbtc_law.specs.declared.seen.Seen.{Seen}
use Rattle.md_nbtc_law.specs.Calls.{GoesOn}
use Rattle.md_nbtc_law.specs.Going.{IsGoing}
use Rattle.md_nbtc_law.specs.Known.{IsLater, Known}
use Rattle.md_nbtc_law.specs.Seeing.{KeepsGiven, Looks}
use Rattle.md_nbtc_law.specs.State.{TxnState, shape_in}
use Rattle.md_nbtc_law.specs.Tidied.{tidied}
use Rattle.md_nbtc_law.proofs.preparing.Later.{known_later, later_over}
use Rattle.md_nbtc_law.proofs.structures.Growing.{tidied_none}
use Rattle.md_nbtc_law.proofs.structures.NodesKnown.{data_known, shape_later}
use Rattle.md_nbtc_law.proofs.structures.Noting.{HasNoted}
use Rattle.md_nbtc_law.proofs.structures.Reading.{reading}
use Rattle.md_nbtc_law.proofs.structures.Tidying.{bare_holds}
use Rattle.md_queue_law.specs.Laws.Words.{head_not_next}
use Rattle.md_queue_law.specs.QueueCertificates.{FindsNone, has_next, has_value, head_is, next_is}
use Rattle.md_queue_law.specs.QueueMeaning.{HasQueuesOf}
use Rattle.md_queue_law.specs.QueueShape.{link}
use Rattle.md_queue.specs.Operations.{GoesBy, IsBegun, RecordsAmong}
use Rattle.md_queue.specs.Words.{head_at, next_at}
use Rattle.md_queue.specs.Working.{IsKnownAs, IsWorking, NamesNode, NotedNone, SeesAt, SeesFirst, SeesNext, none_words}
use Rattle.md_queue.proofs.Among.{AnswersBy, among_from}
use Rattle.md_queue.proofs.Looking.{head_looked, head_named, next_looked, next_named}
use Rattle.md_queue.proofs.Moving.{next_fact_holds}
use Rattle.md_queue.proofs.Passing.{names_on, next_on, sees_on, working_on}
use Rattle.md_queue.proofs.Recording.{may_answer_reading, noted_recorded, recorded_on}

-- the operation has done nothing yet
pub begun_working : (M : Meaning) (t : TxnState) (queue : ℕ) → IsBegun M t queue → (cs : List Certificate) → IsGoing M t cs → IsWorking M t queue cs []
begun_working M t queue begun cs going = record {
  operates = begun.operates;
  within = begun.within;
  going = going;
  tidied = tidied_none M t cs begun.changes begun.stored;
  charged = tt;
}

-- it looked at the head
pub record SeesHead (M : Meaning) (t : TxnState) (queue : ℕ) (cs : List Certificate) (head : Seen) : Type 0 where
  pub changes : List TidyChange
  pub working : IsWorking M t queue cs changes
  pub head_sees : SeesAt M t (head_at t queue) head

module _ (M : Meaning) (lawful : Lawful M) (queues : HasQueuesOf M) (t u : TxnState) (queue : ℕ) (cs : List Certificate) (on : GoesOn M t u) (same : u ≡ record t { pass = u.pass }) where
  shape_is : shape_in u ≡ shape_in t
  shape_is = shape_later t u on.later

  pub sees_head : IsBegun M t queue → IsGoing M t cs → (word : ℕ) → word ≡ head_at t queue → (head : Seen) → Looks M t u word head → SeesHead M u queue cs head
  sees_head begun going word is head looks =
      let w = begun_working M t queue begun cs going in
      record {
        changes = [];
        working = working_on M t u on.later queue cs [] on (ap (λ x. x.hand) same) w;
        head_sees = subst (λ s. SeesAt M u (address s (queue_head queue)) head) (sym shape_is)
            (head_looked M lawful queues t queue cs [] w u on head (subst (λ x. Looks M t u x head) is looks));
      }

  -- and at the next word of its node
  pub sees_first : (head next : Seen) → SeesHead M t queue cs head → KeepsGiven t u (next_at t (linked_node head.value)) → Looks M t u (next_at t (linked_node head.value)) next
      → SeesFirst M u queue cs head next
  sees_first head next s given looks =
      let named = head_named M lawful queues t queue cs s.changes s.working head s.head_sees in
      record {
        changes = s.changes;
        working = working_on M t u on.later queue cs s.changes on (ap (λ x. x.hand) same) s.working;
        head_sees = subst (λ x. SeesAt M u (address x (queue_head queue)) head) (sym shape_is)
            (sees_on M t u on.later (head_at t queue) head s.head_sees
            (given (head_at t queue) head (head_not_next (shape_in t) queue (linked_node head.value) s.working.within named.exists) s.head_sees.gave));
        next_sees = next_looked M lawful queues t queue cs s.changes s.working u on next (linked_node head.value) named.placed looks same;
      }

-- what is known for good of a node of the queue whose next word isn't 0: it names the next node, which has its value
pub next_holds : (M : Meaning) (lawful : Lawful M) (queues : HasQueuesOf M) (t u : TxnState) (later : IsLater t u) (queue : ℕ) (cs : List Certificate) (ts : List TidyChange)
    → IsWorking M t queue cs ts → IsWorking M u queue cs ts → (node : ℕ) (next : Seen) → SeesNext M t cs queue node next → next.value ≢ 0 → (value : ℕ)
    → Known M u (λ v h. h.words.value_of_node (linked_node next.value) ≡ value)
    → Known M u (λ v h. All (Holds (tidied h cs ts)) (has_next queue node (link (linked_node next.value)) ∷ has_value queue (linked_node next.value) value ∷ []))
next_holds M lawful queues t u later queue cs ts at_t at_u node next sees some value is v over prepared h of =
    let first = linked_node next.value in
    let now = names_on M t u later cs queue next.value (next_named M lawful queues t queue cs ts at_t node next sees some) in
    let goes = has_next queue node (link first) in
    let has = has_value queue first value in
    All-cons (Holds (tidied h cs ts)) goes (has ∷ [])
    (subst (λ x. Holds (tidied h cs ts) (has_next queue node x)) now.is
    (next_fact_holds M lawful queues t queue cs ts at_t node next sees some v (later_over t u v later over) prepared h of))
    (All-cons (Holds (tidied h cs ts)) has []
    (bare_holds (after_wholes h cs) ts at_u.tidied.bare has refl
    (data_known M lawful u cs at_u.going first (Queue queue) None (Some value) now.exists now.placed (λ x after prep k of_k. tt) is v over prepared h of))
    (All-nil (Holds (tidied h cs ts))))

module _ (M : Meaning) (lawful : Lawful M) (queues : HasQueuesOf M) (t : TxnState) (queue : ℕ) (cs : List Certificate) (head next : Seen) where
  -- after a note of the head, and one of the next word
  module _ (s : SeesFirst M t queue cs head next) (u : TxnState) (on : GoesOn M t u) (fits : head.count < 2 ^ 32) where
    pub record NotedHead : Type 0 where
      pub working : IsWorking M u queue cs s.changes
      pub head_named : NamesNode M u cs queue head.value
      pub head_noted : IsKnownAs M u cs s.changes (head_is (shape_in u) queue head.value)
      pub next_sees : SeesNext M u cs queue (linked_node head.value) next

    pub noted_head : (word : ℕ) → word ≡ head_at t queue → HasNoted t u word head → KeepsGiven t u word → NotedHead
    noted_head word is noted given =
        let shape = shape_later t u on.later in
        let there = head_at t queue in
        record {
          working = working_on M t u on.later queue cs s.changes on noted.hand s.working;
          head_named = names_on M t u on.later cs queue head.value
              (head_named M lawful queues t queue cs s.changes s.working head s.head_sees);
          head_noted = subst (λ x. IsKnownAs M u cs s.changes (head_is x queue head.value)) (sym shape)
              (noted_recorded M lawful t queue cs s.changes s.working u on.later there head s.head_sees fits (subst (λ x. HasNoted t u x head) is noted));
          next_sees = next_on M t u on.later cs queue (linked_node head.value) next s.next_sees
              (subst (λ x. KeepsGiven t u x) is given (next_at t (linked_node head.value)) next
              (λ e. head_not_next (shape_in t) queue (linked_node head.value) s.working.within s.next_sees.exists (sym e)) s.next_sees.at.gave);
        }

    pub noted_none : NotedHead → next.value ≡ 0 → (v : TxnState) → GoesOn M u v → next.count < 2 ^ 32 → HasNoted u v (next_at u (linked_node head.value)) next → NotedNone M v queue cs head
    noted_none n zero v over small noted =
        let shape = shape_later u v over.later in
        let working = working_on M u v over.later queue cs s.changes over noted.hand n.working in
        record {
          changes = s.changes;
          working = working;
          head_named = names_on M u v over.later cs queue head.value n.head_named;
          head_noted = recorded_on M u v over.later working.going.prepared cs s.changes (head_is (shape_in v) queue head.value)
              (subst (λ x. IsKnownAs M u cs s.changes (head_is x queue head.value)) (sym shape) n.head_noted);
          next_noted = subst (λ x. IsKnownAs M v cs s.changes (next_is x (linked_node head.value) 0)) (sym shape)
              (subst (λ x. IsKnownAs M v cs s.changes (next_is (shape_in u) (linked_node head.value) x)) zero
              (noted_recorded M lawful u queue cs s.changes n.working v over.later (next_at u (linked_node head.value)) next n.next_sees.at small noted));
        }

    -- a value was found, and is read: the head alone is recorded
    pub front_some : NotedHead → next.value ≢ 0 → (value : ℕ) → Known M t (λ v h. h.words.value_of_node (linked_node next.value) ≡ value)
        → AnswersBy M u cs (Front queue) (Value (Some value)) (head_at u queue ∷ [])
    front_some n some value is =
        let ts = s.changes in
        let dummy = linked_node head.value in
        let first = linked_node next.value in
        let facts = has_next queue dummy (link first) ∷ has_value queue first value ∷ [] in
        let read = head_is (shape_in u) queue (link dummy) in
        may_answer_reading M queues u queue cs ts n.working (Front queue) (Value (Some value)) (read ∷ []) facts
        (n.working.within, inl (record { dummy = dummy; first = first; value = value; reply = refl; recorded = refl; changes = refl; nodes = refl; facts = refl }))
        (All-cons (IsKnownAs M u cs ts) read [] (subst (λ v. IsKnownAs M u cs ts (head_is (shape_in u) queue v)) n.head_named.is n.head_noted) (All-nil (IsKnownAs M u cs ts)))
        (next_holds M lawful queues t u on.later queue cs ts s.working n.working dummy next s.next_sees some value
        (known_later M (λ v h. h.words.value_of_node first ≡ value) t u on.later is))

module _ (M : Meaning) (queues : HasQueuesOf M) (t : TxnState) (queue : ℕ) (cs : List Certificate) (head : Seen) (n : NotedNone M t queue cs head) where
  abbrev words : List WordValue
  words = head_is (shape_in t) queue (link (linked_node head.value)) ∷ next_is (shape_in t) (linked_node head.value) 0 ∷ []

  words_recorded : All (IsKnownAs M t cs n.changes) words
  words_recorded = All-cons (IsKnownAs M t cs n.changes) (head_is (shape_in t) queue (link (linked_node head.value))) (next_is (shape_in t) (linked_node head.value) 0 ∷ [])
      (subst (λ v. IsKnownAs M t cs n.changes (head_is (shape_in t) queue v)) n.head_named.is n.head_noted)
      (All-cons (IsKnownAs M t cs n.changes) (next_is (shape_in t) (linked_node head.value) 0) [] n.next_noted (All-nil (IsKnownAs M t cs n.changes)))

  no_facts : Known M t (λ u h. All (Holds (tidied h cs n.changes)) [])
  no_facts u later prepared h of = All-nil (Holds (tidied h cs n.changes))

  finds_none : (op : Op) → FindsNone (shape_in t) queue (reading op (Value None) n.changes words [])
  finds_none op = record { dummy = linked_node head.value; reply = refl; recorded = refl; changes = refl; nodes = refl; facts = refl }

  -- the queue was found empty
  pub front_none : AnswersBy M t cs (Front queue) (Value None) (none_words t queue head)
  front_none = may_answer_reading M queues t queue cs n.changes n.working (Front queue) (Value None) words []
      (n.working.within, inr (finds_none (Front queue))) words_recorded no_facts

  pub dequeue_none : AnswersBy M t cs (Dequeue queue) (Value None) (none_words t queue head)
  dequeue_none = may_answer_reading M queues t queue cs n.changes n.working (Dequeue queue) (Value None) words []
      (n.working.within, inr (finds_none (Dequeue queue))) words_recorded no_facts

-- after a look at both words, and then a note of both, these alone are recorded more
pub none_among : (M : Meaning) (s t u : TxnState) (queue : ℕ) (head : Seen) → GoesBy M s t 0 0 0 → IsLater t u → RecordsAmong t u (none_words t queue head) → RecordsAmong s u (none_words u queue head)
none_among M s t u queue head goes later among = subst (λ (x : Shape). RecordsAmong s u (address x (queue_head queue) ∷ address x (node_next (linked_node head.value)) ∷ [])) (sym (shape_later t u later))
    (among_from M s t u 0 0 (none_words t queue head) goes among)
