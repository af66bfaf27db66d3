-- Where one more word can't be recorded: some certificate of a look at the queue would record it.
use Rattle.std.proofs.Common.{◌≡◌, ◌≢◌, ◌≤◌, ◌+◌, ℕ, false, List, [], ◌∷◌, length, sym, ap, ◌∙◌, subst, inl, inr, ⊎_elim, arith}
use Rattle.std.proofs.lemmas.List.Elements.{Contains-append_left}
use Rattle.std.specs.List.{All, Contains}
use Rattle.md_history.specs.declared.acts.Op.{Op}
use Rattle.md_history.specs.declared.acts.Op.TheVariants.{Front, Line}
use Rattle.md_machine.specs.declared.attempt.Read.{Read}
use Rattle.md_machine.specs.declared.certificate.Certificate.{Certificate}
use Rattle.md_machine.specs.declared.certificate.TidyChange.{TidyChange}
use Rattle.md_machine.specs.Certified.{after_wholes, is_written}
use Rattle.md_machine.specs.LogicalHeap.{Holds, LogicalHeap}
use Rattle.md_machine.specs.Meaning.{Lawful, Meaning}
use Rattle.md_machine.specs.clauses.passes.Alone.{HoldsAll}
use Rattle.md_machine.proofs.chain.Agree.{same_tidies, same_wholes}
use Rattle.md_machine.proofs.lists.Rising.{here, there}
use Rattle.md_nbtc_law.specs.Known.{IsHeapOf, found_by}
use Rattle.md_nbtc_law.specs.State.{TxnState, shape_in, writes_in}
use Rattle.md_nbtc_law.specs.Tidied.{tidied}
use Rattle.md_nbtc_law.proofs.preparing.Heaps.{later_self}
use Rattle.md_queue_law.specs.QueueCertificates.{Seen, has_next, has_value, last_seen}
use Rattle.md_queue_law.specs.QueueMeaning.{HasQueuesOf}
use Rattle.md_queue_law.specs.QueueShape.{link}
use Rattle.md_queue.specs.Along.{HasLooked}
use Rattle.md_queue.specs.Operations.{RecordsAmong}
use Rattle.md_queue.specs.Refusals.{AsksFirst, AsksFor, AsksLine, IsFullOfReads}
use Rattle.md_queue.specs.Words.{head_at, next_at}
use Rattle.md_queue.specs.Working.{IsWorking}
use Rattle.md_queue.proofs.Alone.{alone_same}
use Rattle.md_queue.proofs.Standing.{LookStands, line_first, line_to_end, none_stands, some_stands}

module _ (M : Meaning) (lawful : Lawful M) (queues : HasQueuesOf M) (v : TxnState) (queue : ℕ) (cs : List Certificate) (ts : List TidyChange) (w : IsWorking M v queue cs ts) (t : TxnState)
    (word : ℕ) (unread : (r : Read) → Contains v.reads r → r.word ≢ word) (unwritten : is_written (writes_in v) word ≡ false) where
  abbrev own : LogicalHeap → LogicalHeap
  own h = tidied (found_by v h) cs ts

  -- a look that stands in each heap, and records the word
  pub record LooksAt (Asks : Op → Type 0) (h : LogicalHeap) (of : IsHeapOf M v h) : Type 1 where
    pub certified : Op → Type 0
    pub words : List ℕ
    pub look : LookStands M lawful queues v queue cs ts w h of certified words
    pub asks : (op : Op) → certified op → Asks op
    pub records : Contains words word
    pub among : RecordsAmong t v words

  pub full_by : (Asks : Op → Type 0) → ((h : LogicalHeap) (of : IsHeapOf M v h) → LooksAt Asks h of) → IsFullOfReads M v cs t Asks
  full_by Asks shows = record {
    word = word;
    unread = unread;
    unwritten = unwritten;
    would = λ h of.
        let s = shows h of in
        record {
          certificate = s.look.certificate;
          asks = s.asks s.look.certificate.op s.look.asks;
          stands = s.look.stands;
          records = subst (λ l. Contains l word) (sym s.look.records) s.records;
          among = subst (RecordsAmong t v) (sym s.look.records) s.among;
        };
  }

  -- the word is one of the two that show that there is no first value
  pub none_full : (op : Op) → AsksFirst queue op → (dummy : ℕ) → Contains (head_at v queue ∷ next_at v dummy ∷ []) word → RecordsAmong t v (head_at v queue ∷ next_at v dummy ∷ [])
      → ((h : LogicalHeap) → IsHeapOf M v h → (own h).words.value (head_at v queue) ≡ link dummy) → ((h : LogicalHeap) → IsHeapOf M v h → (own h).words.value (next_at v dummy) ≡ 0)
      → IsFullOfReads M v cs t (AsksFor op)
  none_full op asks dummy records among head end = full_by (AsksFor op) (λ h of. record {
    certified = AsksFor op;
    words = head_at v queue ∷ next_at v dummy ∷ [];
    look = none_stands M lawful queues v queue cs ts w h of dummy (head h of) (end h of) op asks;
    asks = λ o is. is;
    records = records;
    among = among;
  })

  -- or the head, and there is a first value
  pub some_full : word ≡ head_at v queue → v.reads ≡ t.reads → (dummy first value : ℕ) → ((h : LogicalHeap) → IsHeapOf M v h → (own h).words.value (head_at v queue) ≡ link dummy)
      → ((h : LogicalHeap) → IsHeapOf M v h → All (Holds (tidied h cs ts)) (has_next queue dummy (link first) ∷ has_value queue first value ∷ [])) → IsFullOfReads M v cs t (AsksFor (Front queue))
  some_full is same dummy first value head hold = full_by (AsksFor (Front queue)) (λ h of. record {
    certified = AsksFor (Front queue);
    words = head_at v queue ∷ [];
    look = some_stands M lawful queues v queue cs ts w h of dummy first value (head h of) (hold h of);
    asks = λ o at. at;
    records = subst (Contains (head_at v queue ∷ [])) (sym is) (here (head_at v queue) []);
    among = λ r in_v. inl (subst (λ l. Contains l r) same in_v);
  })

  -- or it is the head, and a line asks for it
  pub line_head_full : word ≡ head_at v queue → v.reads ≡ t.reads → HoldsAll (shape_in v) v.pass.view → IsFullOfReads M v cs t (AsksLine queue 1)
  line_head_full is same all = full_by (AsksLine queue 1) (λ h of.
      let prepared = w.going.prepared in
      let l = line_first M lawful queues v queue cs ts w h of
      (same_tidies (after_wholes (found_by v h) cs) (after_wholes h cs) (same_wholes (found_by v h) h (alone_same M v prepared all h of) cs) ts) in
      let one : 1 ≤ 1 = omega arith in
      record {
        certified = λ op. op ≡ Line queue 1;
        words = head_at v queue ∷ l.words;
        look = l.looks;
        asks = λ op at. (1, one, one, at);
        records = subst (Contains (head_at v queue ∷ l.words)) (sym is) (here (head_at v queue) l.words);
        among = λ r in_v. inl (subst (λ l. Contains l r) same in_v);
      })

-- or it is the last next word of a line
pub line_next_full : (M : Meaning) (lawful : Lawful M) (queues : HasQueuesOf M) (v : TxnState) (queue : ℕ) (cs : List Certificate) (dummy node : ℕ) (seen : List Seen)
    (l : HasLooked M v queue cs dummy node seen) (t : TxnState) (word : ℕ) → word ≡ next_at v node → ((r : Read) → Contains v.reads r → r.word ≢ word)
    → is_written (writes_in v) word ≡ false → ((h : LogicalHeap) → IsHeapOf M v h → (tidied (found_by v h) cs l.changes).words.value (next_at v node) ≡ 0)
    → RecordsAmong t v (head_at v queue ∷ []) → IsFullOfReads M v cs t (AsksLine queue (length seen + 1))
line_next_full M lawful queues v queue cs dummy node seen l t word is unread unwritten zero among =
    let self = later_self v in
    let prepared = l.working.going.prepared in
    let some : 1 ≤ length seen + 1 = omega arith in
    let few : length seen + 1 ≤ length seen + 1 = omega arith in
    let at = ap (next_at v) l.last in
    full_by M lawful queues v queue cs l.changes l.working t word unread unwritten (AsksLine queue (length seen + 1)) (λ h of. record {
      certified = λ op. op ≡ Line queue (length seen + 1);
      words = head_at v queue ∷ next_at v (last_seen dummy seen) ∷ [];
      look = line_to_end M lawful queues v queue cs l.changes l.working h of dummy seen (l.head_noted.value v self prepared h of) (l.along v self prepared h of)
          (ap (tidied (found_by v h) cs l.changes).words.value (sym at) ∙ zero h of);
      asks = λ op at. (length seen + 1, some, few, at);
      records = subst (Contains (head_at v queue ∷ next_at v (last_seen dummy seen) ∷ [])) (sym (is ∙ at))
          (there (head_at v queue) (next_at v (last_seen dummy seen) ∷ []) (next_at v (last_seen dummy seen)) (here (next_at v (last_seen dummy seen)) []));
      among = λ r in_v. ⊎_elim inl (λ x. inr (Contains-append_left (head_at v queue ∷ []) (next_at v (last_seen dummy seen) ∷ []) r.word x)) (among r in_v);
    })
