-- How few different words certificates record.
use Rattle.std.proofs.Common.{◌≡◌, ◌⊎◌, ◌<◌, ◌≤◌, ◌+◌, ◌++◌, ◌∙◌, ℕ, true, List, [], ◌∷◌, Some, length, map, refl, sym, ap, subst, inl, inr, ⊎_elim, arith, eqb-true, lt-ltb, nat_eq}
use Rattle.std.specs.List.{All, Contains, count_by, filter_map}
use Rattle.std.proofs.lemmas.List.{length-append, length-map}
use Rattle.std.proofs.lemmas.List.Elements.{All-contains, All-head, All-tail, Contains-append_cases, Contains-append_left, Contains-append_right}
use Rattle.std.proofs.lemmas.List.Sums.{sum_by-cons}
use Rattle.md_words.specs.declared.shape.Shape.{Shape}
use Rattle.md_words.specs.Place.{queue_head}
use Rattle.md_words.specs.Layout.{address}
use Rattle.md_history.specs.declared.acts.Act.{Act}
use Rattle.md_history.specs.declared.acts.Op.{Op}
use Rattle.md_history.specs.declared.acts.Op.TheVariants.{Get, Insert, Remove, Put, Enqueue, Dequeue, Front, Line}
use Rattle.md_history.specs.declared.acts.Reply.{Reply}
use Rattle.md_history.specs.Act.{act_of}
use Rattle.md_history.specs.Counts.{changed_nothing, looked_queue, met_end, reads}
use Rattle.md_machine.specs.declared.certificate.Certificate.{Certificate}
use Rattle.md_machine.specs.declared.certificate.WordValue.{WordValue}
use Rattle.md_machine.specs.LogicalHeap.{Holds, LogicalHeap}
use Rattle.md_machine.specs.Meaning.{Stands}
use Rattle.md_machine.proofs.lists.Rising.{here, in_cons, in_none, map_in, there}
use Rattle.md_list_law.specs.ListShape.{next_word}
use Rattle.md_queue_law.specs.QueueShape.{IsOf, head_of, link}
use Rattle.md_queue_law.specs.QueueCertificates.{CertifiesOp, FindsFirst, FindsNone, LooksAlong, LooksEnough, LooksToEnd, Seen, facts_along, has_next, has_value, head_is, last_seen, next_is}
use Rattle.md_queue_law.specs.Laws.Named.{named_is_of}
use Rattle.md_store_law.specs.Store.{IsStore, store}
use Rattle.md_store_counts.specs.Few.{AtMost, RecordedAreFew, RecordsOne, certificate_acts, recorded_by, recorded_words}
use Rattle.md_store_counts.proofs.Different.{once}
use Rattle.md_store_counts.proofs.Doing.{IsQueueWord}
use Rattle.md_store_counts.proofs.Lists.{filter_map_in}
use Rattle.md_store_counts.proofs.Pigeons.{pigeons}
use Rattle.md_store_counts.proofs.Placing.{one_if, row_map}

-- the word of a queue's head
abbrev pub head_at : Shape → (queue : ℕ) → ℕ
head_at shape queue = address shape (queue_head queue)

-- the head of the queue that an operation looked at
abbrev IsLookedHead : Shape → Op → Reply → ℕ → Type 0
IsLookedHead shape op reply word = (queue : ℕ) × (looked_queue op reply ≡ Some queue) × (word ≡ head_at shape queue)

-- the words that an operation records beside it: so many at most
abbrev more_words : Op → Reply → ℕ
more_words op reply = one_if (changed_nothing op reply) + one_if (met_end op reply)

record Records (shape : Shape) (op : Op) (c : Certificate) : Type 0 where
  more : List ℕ
  few : length more ≤ more_words op c.reply
  each : (word : ℕ) → Contains (recorded_by c) word → Contains more word ⊎ IsLookedHead shape op c.reply word

one_recorded : (c : Certificate) (r : WordValue) → c.recorded ≡ r ∷ [] → (word : ℕ) → Contains (recorded_by c) word → word ≡ r.word
one_recorded c r e word i = ⊎_elim sym (λ none. absurd (in_none word none))
    (in_cons r.word [] word (subst (λ (l : List WordValue). Contains (map (λ x. x.word) l) word) e i))

two_recorded : (c : Certificate) (r s : WordValue) → c.recorded ≡ r ∷ s ∷ [] → (word : ℕ) → Contains (recorded_by c) word
    → (word ≡ r.word) ⊎ (word ≡ s.word)
two_recorded c r s e word i = ⊎_elim (λ x. inl (sym x))
    (λ later. ⊎_elim (λ x. inr (sym x)) (λ none. absurd (in_none word none)) (in_cons s.word [] word later))
    (in_cons r.word (s.word ∷ []) word (subst (λ (l : List WordValue). Contains (map (λ x. x.word) l) word) e i))

none_recorded : (c : Certificate) → c.recorded ≡ [] → (word : ℕ) → Contains (recorded_by c) word → ⊥
none_recorded c e word i = in_none word (subst (λ (l : List WordValue). Contains (map (λ x. x.word) l) word) e i)

module _ (shape : Shape) (c : Certificate) where
  records_none : (op : Op) → c.recorded ≡ [] → Records shape op c
  records_none op none = record { more = []; few = omega arith; each = λ word i. absurd (none_recorded c none word i) }

  -- a look that found none recorded the head and the next word of its node
  records_both : (op : Op) (queue : ℕ) (n : FindsNone shape queue c) → looked_queue op c.reply ≡ Some queue → met_end op c.reply ≡ true → Records shape op c
  records_both op queue n looked end = record {
    more = next_word shape n.dummy ∷ [];
    few = let one = ap one_if end in omega (arith, one);
    each = λ word i. ⊎_elim
        (λ e. inr (queue, looked, e))
        (λ e. inl (subst (Contains (next_word shape n.dummy ∷ [])) (sym e) (here (next_word shape n.dummy) [])))
        (two_recorded c (head_is shape queue (link n.dummy)) (next_is shape n.dummy 0) n.recorded word i);
  }

  -- a front that gives a value records the head
  records_head : (queue : ℕ) → FindsFirst shape queue c → Records shape (Front queue) c
  records_head queue f = record {
    more = [];
    few = omega arith;
    each = λ word i. inr (queue, refl, one_recorded c (head_is shape queue (link f.dummy)) f.recorded word i);
  }

  module _ (queue n : ℕ) (l : LooksAlong shape queue n c) where
    -- a line records the head, and the last next word if it came to the end
    head_or_end : (word : ℕ) → Contains (recorded_by c) word → (word ≡ head_at shape queue) ⊎ Contains (map (λ (x : WordValue). x.word) l.ending) word
    head_or_end word i = ⊎_elim (λ e. inl (sym e)) inr
        (in_cons (head_at shape queue) (map (λ (x : WordValue). x.word) l.ending) word (subst (λ (x : List WordValue). Contains (map (λ y. y.word) x) word) l.recorded i))

    fewer_met : length l.seen < n → met_end (Line queue n) c.reply ≡ true
    fewer_met less =
        let is = length-map l.seen (λ (s : Seen). s.value) in
        ap (met_end (Line queue n)) l.reply ∙ lt-ltb (length (map (λ (s : Seen). s.value) l.seen)) n (omega (arith, less, is))

    few_at_end : length (map (λ (x : WordValue). x.word) l.ending) ≤ more_words (Line queue n) c.reply
    few_at_end = ⊎_elim
        (λ (e : LooksEnough n l.seen l.ending). subst (λ (x : List WordValue). length (map (λ (y : WordValue). y.word) x) ≤ more_words (Line queue n) c.reply) (sym e.is) (omega arith))
        (λ (e : LooksToEnd shape l.dummy n l.seen l.ending). subst (λ (x : List WordValue). length (map (λ (y : WordValue). y.word) x) ≤ more_words (Line queue n) c.reply) (sym e.is)
        (let one = ap one_if (fewer_met e.fewer) in omega (arith, one)))
        l.ends

    records_line : Records shape (Line queue n) c
    records_line = record {
      more = map (λ (x : WordValue). x.word) l.ending;
      few = few_at_end;
      each = λ word i. ⊎_elim (λ e. inr (queue, refl, e)) inl (head_or_end word i);
    }

  queue_records : (op : Op) → CertifiesOp shape op c → Records shape op c
  queue_records (Enqueue q v) (within, is) = records_none (Enqueue q v) is.recorded
  queue_records (Dequeue q) (within, is) = ⊎_elim
      (λ d. records_none (Dequeue q) d.recorded)
      (λ n. records_both (Dequeue q) q n (ap (looked_queue (Dequeue q)) n.reply) (ap (met_end (Dequeue q)) n.reply))
      is
  queue_records (Front q) (within, is) = ⊎_elim
      (records_head q)
      (λ n. records_both (Front q) q n refl (ap (met_end (Front q)) n.reply))
      is
  queue_records (Line q n) (within, is) = records_line q n is
  queue_records (Get m key) is = absurd is
  queue_records (Insert m key v) is = absurd is
  queue_records (Remove m key) is = absurd is
  queue_records (Put m key v) is = absurd is

  records_of : store.certifies shape c → RecordsOne c → Records shape c.op c
  records_of certifies one = ⊎_elim
      (λ table.
      let few = one (row_map shape _ _ table.0 table.1 c table.3.row) in
      let long = length-map c.recorded (λ x. x.word) in
      record { more = recorded_by c; few = omega (arith, few, long); each = λ word i. inl i })
      (queue_records c.op)
      certifies

-- the head of a queue that acts looked at
abbrev IsHeadOfLook : Shape → List Act → ℕ → Type 0
IsHeadOfLook shape acts word = (queue : ℕ) × ((a : Act) × Contains acts a × (looked_queue a.op a.reply ≡ Some queue)) × (word ≡ head_at shape queue)

-- the words that acts may record beside these
record Looked (shape : Shape) (cs : List Certificate) : Type 0 where
  words : List ℕ
  few : length words ≤ count_by (λ (a : Act). changed_nothing a.op a.reply) (certificate_acts cs) + count_by (λ (a : Act). met_end a.op a.reply) (certificate_acts cs)
  each : (word : ℕ) → Contains (recorded_words cs) word → Contains words word ⊎ IsHeadOfLook shape (certificate_acts cs) word

looked : (shape : Shape) (cs : List Certificate) → All (store.certifies shape) cs → All RecordsOne cs → Looked shape cs
looked shape [] certifies records = record { words = []; few = omega arith; each = λ word i. absurd (in_none word i) }
looked shape (c ∷ cs) certifies records =
    let now = records_of shape c (All-head (store.certifies shape) c cs certifies) (All-head RecordsOne c cs records) in
    let rest = looked shape cs (All-tail (store.certifies shape) c cs certifies) (All-tail RecordsOne c cs records) in
    let act = act_of c.op c.reply in
    record {
      words = now.more ++ rest.words;
      few =
          let a = length-append now.more rest.words in
          let b = now.few in let d = rest.few in
          let x = sum_by-cons (λ (a : Act). one_if (changed_nothing a.op a.reply)) act (certificate_acts cs) in
          let y = sum_by-cons (λ (a : Act). one_if (met_end a.op a.reply)) act (certificate_acts cs) in
          omega (arith, a, b, d, x, y);
      each = λ word i. ⊎_elim
          (λ this. ⊎_elim
          (λ m. inl (Contains-append_left now.more rest.words word m))
          (λ t. inr (t.0, (act, here act (certificate_acts cs), t.1), t.2))
          (now.each word this))
          (λ later. ⊎_elim
          (λ m. inl (Contains-append_right now.more rest.words word m))
          (λ t. inr (t.0, (t.1.0, there act (certificate_acts cs) t.1.0 t.1.1, t.1.2), t.2))
          (rest.each word later))
          (Contains-append_cases (recorded_by c) (recorded_words cs) word i);
    }

-- so many different words at most, whether the certificates stand or not
pub recorded_few : (shape : Shape) (cs : List Certificate) → All (store.certifies shape) cs → All RecordsOne cs
    → AtMost (reads (certificate_acts cs)) (Contains (recorded_words cs))
recorded_few shape cs certifies records words differ all =
    let l = looked shape cs certifies records in
    let asked = filter_map (λ (a : Act). looked_queue a.op a.reply) (certificate_acts cs) in
    let o = once nat_eq eqb-true asked in
    let heads = map (head_at shape) o.each in
    let less = pigeons (λ (x y : ℕ). x ≡ y) (λ x y a p q. p ∙ sym q) words (l.words ++ heads) differ (λ word i. (
      word,
      ⊎_elim
          (λ m. Contains-append_left l.words heads word m)
          (λ t. Contains-append_right l.words heads word (subst (Contains heads) (sym t.2) (map_in (head_at shape) o.each t.0
          (o.all t.0 (filter_map_in (λ (a : Act). looked_queue a.op a.reply) (certificate_acts cs) t.1.0 t.0 t.1.1 t.1.2)))))
          (l.each word (All-contains (Contains (recorded_words cs)) words word all i)),
      refl,
    )) in
    let long = length-append l.words heads in
    let each = length-map o.each (head_at shape) in
    let count = o.count in
    let few = l.few in
    omega (arith, less, long, each, count, few)

pub recorded_are_few : RecordedAreFew
recorded_are_few h cs s records = recorded_few h.words.shape cs s.certifies records

module _ (k : LogicalHeap) (valid : IsStore k) (c : Certificate) (stands : Stands k c) where
  abbrev of_k : Shape
  of_k = k.words.shape

  -- a recorded word has its value
  has : (r : WordValue) → Contains c.recorded r → k.words.value r.word ≡ r.value
  has r i = All-contains (λ (x : WordValue). k.words.value x.word ≡ x.value) c.recorded r stands.recorded i

  dummy_of : (queue dummy : ℕ) → queue < of_k.queues → k.words.value (head_at of_k queue) ≡ link dummy → IsOf k queue dummy
  dummy_of queue dummy within e = named_is_of k queue (head_of k.words queue) dummy (valid.queues queue within).head e

  -- the words that an operation on a queue records are its head and next words of its nodes
  both_words : (queue : ℕ) → queue < of_k.queues → FindsNone of_k queue c → (word : ℕ) → Contains (recorded_by c) word → IsQueueWord of_k k word
  both_words queue within n word i =
      let head = head_is of_k queue (link n.dummy) in
      let next = next_is of_k n.dummy 0 in
      let named = has head (subst (λ l. Contains l head) (sym n.recorded) (here head (next ∷ []))) in
      (queue, within, ⊎_elim inl (λ e. inr (n.dummy, dummy_of queue n.dummy within named, e)) (two_recorded c head next n.recorded word i))

  head_words : (queue : ℕ) → queue < of_k.queues → FindsFirst of_k queue c → (word : ℕ) → Contains (recorded_by c) word → IsQueueWord of_k k word
  head_words queue within f word i = (queue, within, inl (one_recorded c (head_is of_k queue (link f.dummy)) f.recorded word i))

  module _ (queue n : ℕ) (within : queue < of_k.queues) (l : LooksAlong of_k queue n c) where
    looked_head : k.words.value (head_at of_k queue) ≡ link l.dummy
    looked_head = has (head_is of_k queue (link l.dummy)) (subst (λ x. Contains x (head_is of_k queue (link l.dummy))) (sym l.recorded)
        (here (head_is of_k queue (link l.dummy)) l.ending))

    -- the last node seen is of the queue
    last_of : (node : ℕ) (seen : List Seen) → IsOf k queue node → All (Holds k) (facts_along queue node seen) → IsOf k queue (last_seen node seen)
    last_of node [] at hold = at
    last_of node (s ∷ seen) at hold =
        let along = has_value queue s.node s.value ∷ facts_along queue s.node seen in
        let rest = All-tail (Holds k) (has_next queue node (link s.node)) along hold in
        last_of s.node seen (All-head (Holds k) (has_value queue s.node s.value) (facts_along queue s.node seen) rest).placed
        (All-tail (Holds k) (has_value queue s.node s.value) (facts_along queue s.node seen) rest)

    end_of : IsOf k queue (last_seen l.dummy l.seen)
    end_of = last_of l.dummy l.seen (dummy_of queue l.dummy within looked_head) (subst (All (Holds k)) l.facts stands.facts)

    line_words : (word : ℕ) → Contains (recorded_by c) word → IsQueueWord of_k k word
    line_words word i = (
      queue,
      within,
      ⊎_elim inl
          (λ later. inr (⊎_elim
          (λ (e : LooksEnough n l.seen l.ending). absurd (in_none word (subst (λ (x : List WordValue). Contains (map (λ (y : WordValue). y.word) x) word) e.is later)))
          (λ (e : LooksToEnd of_k l.dummy n l.seen l.ending). ⊎_elim
          (λ same. (last_seen l.dummy l.seen, end_of, sym same))
          (λ none. absurd (in_none word none))
          (in_cons (next_word of_k (last_seen l.dummy l.seen)) [] word (subst (λ (x : List WordValue). Contains (map (λ (y : WordValue). y.word) x) word) e.is later)))
          l.ends))
          (head_or_end of_k c queue n l word i),
    )

  -- a word that an operation on a queue records is a queue's
  pub queue_words : (op : Op) → CertifiesOp of_k op c → (word : ℕ) → Contains (recorded_by c) word → IsQueueWord of_k k word
  queue_words (Enqueue q v) (within, is) = λ word i. absurd (none_recorded c is.recorded word i)
  queue_words (Dequeue q) (within, is) = ⊎_elim (λ d word i. absurd (none_recorded c d.recorded word i)) (λ n. both_words q within n) is
  queue_words (Front q) (within, is) = ⊎_elim (head_words q within) (λ n. both_words q within n) is
  queue_words (Line q n) (within, is) = line_words q n within is
  queue_words (Get m key) is = absurd is
  queue_words (Insert m key v) is = absurd is
  queue_words (Remove m key) is = absurd is
  queue_words (Put m key v) is = absurd is
