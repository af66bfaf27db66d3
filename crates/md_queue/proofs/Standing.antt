-- Certificates that would stand next in a heap that the field may have now.
use Rattle.std.proofs.Common.{◌≡◌, ◌<◌, ◌+◌, ℕ, List, [], ◌∷◌, map, length, not, Some, None, refl, sym, ap, ◌∙◌, subst, inl, inr, ⊎_elim, arith, ne_eqb}
use Rattle.std.proofs.lemmas.List.Elements.{All-cons, All-nil}
use Rattle.std.specs.List.{All}
use Rattle.md_words.specs.declared.shape.Shape.{Shape}
use Rattle.md_words.specs.Layout.{address}
use Rattle.md_words.specs.Place.{node_next, queue_head}
use Rattle.md_history.specs.declared.acts.Op.{Op}
use Rattle.md_history.specs.declared.acts.Op.TheVariants.{Dequeue, Front, Line}
use Rattle.md_history.specs.declared.acts.Reply.{Reply}
use Rattle.md_history.specs.declared.acts.Reply.TheVariants.{Line as TheLine, Value}
use Rattle.md_history.specs.State.{line_of}
use Rattle.md_machine.specs.declared.certificate.Certificate.{Certificate}
use Rattle.md_machine.specs.declared.certificate.Change.{Change}
use Rattle.md_machine.specs.declared.certificate.Fact.{Fact}
use Rattle.md_machine.specs.declared.certificate.NewNode.{NewNode}
use Rattle.md_machine.specs.declared.certificate.TidyChange.{TidyChange}
use Rattle.md_machine.specs.declared.certificate.WordValue.{WordValue}
use Rattle.md_machine.specs.declared.node.Structure.TheVariants.{Queue}
use Rattle.md_machine.specs.Certified.{after_wholes, all_changes}
use Rattle.md_machine.specs.LogicalHeap.{Holds, LogicalHeap, next_of}
use Rattle.md_machine.specs.Meaning.{Lawful, Meaning}
use Rattle.md_machine.proofs.chain.Agree.{SameValues, tidies_shape, wholes_shape}
use Rattle.md_nbtc_law.specs.Known.{IsHeapOf, IsLater, found_by}
use Rattle.md_nbtc_law.specs.Prepared.{IsPrepared}
use Rattle.md_nbtc_law.specs.State.{TxnState, shape_in}
use Rattle.md_nbtc_law.specs.Tidied.{tidied}
use Rattle.md_nbtc_law.proofs.preparing.Heaps.{later_self}
use Rattle.md_nbtc_law.proofs.structures.NodesKnown.{shape_known, shape_later}
use Rattle.md_queue_law.specs.Laws.Words.{link_not_zero}
use Rattle.md_queue_law.specs.QueueCertificates.{CertifiesQueue, FindsNone, Seen, facts_along, has_next, has_value, head_is, last_seen, next_is}
use Rattle.md_queue_law.specs.QueueMeaning.{HasQueuesOf}
use Rattle.md_queue_law.specs.QueueShape.{IsOf, link}
use Rattle.md_queue_law.specs.Rising.{QueueRises}
use Rattle.md_queue.specs.Operations.{words_recorded}
use Rattle.md_queue.specs.Refusals.{AsksFirst, AsksFor, WouldStand}
use Rattle.md_queue.specs.Words.{head_at, next_at}
use Rattle.md_queue.specs.Working.{IsWorking}
use Rattle.md_queue.proofs.Charging.{charged_on}
use Rattle.md_queue.proofs.Ranks.{queue_rises}

-- a certificate behind the moves of the tail so far
abbrev pub behind : List TidyChange → Op → Reply → List WordValue → List Change → List NewNode → List Fact → Certificate
behind ts op reply words changes ns facts = record { op = op; reply = reply; tidy = ts; recorded = words; changes = changes; nodes = ns; facts = facts }

module _ (M : Meaning) (queues : HasQueuesOf M) (t : TxnState) (queue : ℕ) (cs : List Certificate) (ts : List TidyChange) (w : IsWorking M t queue cs ts)
    (v : TxnState) (later : IsLater t v) (prepared : IsPrepared v) (h : LogicalHeap) (of : IsHeapOf M v h) where
  -- it stands where its words have their values, as the transaction sees them, its facts hold, and its nodes aren't placed
  pub would_stand : (op : Op) (reply : Reply) (words : List WordValue) (changes : List Change) (ns : List NewNode) (facts : List Fact)
      → CertifiesQueue (shape_in v) (behind ts op reply words changes ns facts)
      → All (λ (r : WordValue). (tidied (found_by v h) cs ts).words.value r.word ≡ r.value) words
      → All (λ (c : Change). (tidied (found_by v h) cs ts).words.value c.word ≡ c.old) changes
      → All (Holds (tidied h cs ts)) facts
      → All (λ (n : NewNode). (tidied h cs ts).placed n.node ≡ None) ns
      → WouldStand M v cs h (behind ts op reply words changes ns facts)
  would_stand op reply words changes ns facts row recorded old hold fresh = record {
    certifies = queues.certifies (shape_in v) (behind ts op reply words changes ns facts) row;
    tidies = subst (λ s. All (M.tidies s) ts) (sym (shape_later t v later)) w.tidied.tidies;
    row = row;
    stands = record {
      tidies = w.tidied.stand v later prepared h of;
      stands = record { recorded = recorded; old = old; facts = hold; fresh = fresh };
    };
    charged = charged_on t v later (all_changes cs) ts w.charged;
  }

module _ (M : Meaning) (lawful : Lawful M) (queues : HasQueuesOf M) (t : TxnState) (queue : ℕ) (cs : List Certificate) (ts : List TidyChange) (w : IsWorking M t queue cs ts)
    (h : LogicalHeap) (of : IsHeapOf M t h) where
  abbrev own : LogicalHeap
  own = tidied (found_by t h) cs ts

  abbrev now : LogicalHeap
  now = tidied h cs ts

  rises : QueueRises own now queue
  rises = queue_rises M lawful queues t queue w.within cs w.going ts w.tidied t (later_self t) w.going.prepared h of

  shape_now : now.words.shape ≡ shape_in t
  shape_now = tidies_shape (after_wholes h cs) ts ∙ wholes_shape h cs ∙ shape_known M lawful t t (later_self t) w.going.prepared h of

  abbrev HasValue : WordValue → Type 0
  HasValue r = own.words.value r.word ≡ r.value

  -- a look that changes nothing stands, and records these words
  pub record LookStands (Asks : Op → Type 0) (words : List ℕ) : Type 0 where
    pub certificate : Certificate
    pub asks : Asks certificate.op
    pub stands : WouldStand M t cs h certificate
    pub records : words_recorded certificate ≡ words

  looks : (op : Op) (reply : Reply) (words : List WordValue) (facts : List Fact) → CertifiesQueue (shape_in t) (behind ts op reply words [] [] facts)
      → All HasValue words → All (Holds now) facts → WouldStand M t cs h (behind ts op reply words [] [] facts)
  looks op reply words facts row recorded hold = would_stand M queues t queue cs ts w t (later_self t) w.going.prepared h of op reply words [] [] facts row recorded
      (All-nil (λ (c : Change). own.words.value c.word ≡ c.old)) hold (All-nil (λ (n : NewNode). now.placed n.node ≡ None))

  abbrev one_word : (r : WordValue) → HasValue r → All HasValue (r ∷ [])
  one_word r is = All-cons HasValue r [] is (All-nil HasValue)

  -- where the head's node has the next word 0, it shows that there is no first value
  module _ (dummy : ℕ) (head : own.words.value (head_at t queue) ≡ link dummy) (end : own.words.value (next_at t dummy) ≡ 0) where
    shows : List WordValue
    shows = head_is (shape_in t) queue (link dummy) ∷ next_is (shape_in t) dummy 0 ∷ []

    finds : (op : Op) → FindsNone (shape_in t) queue (behind ts op (Value None) (head_is (shape_in t) queue (link dummy) ∷ next_is (shape_in t) dummy 0 ∷ []) [] [] [])
    finds op = record { dummy = dummy; reply = refl; recorded = refl; changes = refl; nodes = refl; facts = refl }

    pub none_stands : (op : Op) → AsksFirst queue op → LookStands (AsksFor op) (head_at t queue ∷ next_at t dummy ∷ [])
    none_stands op asks =
        let read = head_is (shape_in t) queue (link dummy) in
        let last = next_is (shape_in t) dummy 0 in
        record {
          certificate = behind ts op (Value None) (read ∷ last ∷ []) [] [] [];
          asks = refl;
          stands = looks op (Value None) (read ∷ last ∷ []) []
              (⊎_elim
              (λ front. subst (λ o. CertifiesQueue (shape_in t) (behind ts o (Value None) (read ∷ last ∷ []) [] [] [])) (sym front) (w.within, inr (finds (Front queue))))
              (λ taken. subst (λ o. CertifiesQueue (shape_in t) (behind ts o (Value None) (read ∷ last ∷ []) [] [] [])) (sym taken) (w.within, inr (finds (Dequeue queue))))
              asks)
              (All-cons HasValue read (last ∷ []) head (one_word last end))
              (All-nil (Holds now));
          records = refl;
        }

  -- and where it names another one for good, a front reads that one's value
  pub some_stands : (dummy first value : ℕ) → own.words.value (head_at t queue) ≡ link dummy → All (Holds now) (has_next queue dummy (link first) ∷ has_value queue first value ∷ [])
      → LookStands (AsksFor (Front queue)) (head_at t queue ∷ [])
  some_stands dummy first value head hold =
      let read = head_is (shape_in t) queue (link dummy) in
      record {
        certificate = behind ts (Front queue) (Value (Some value)) (read ∷ []) [] [] (has_next queue dummy (link first) ∷ has_value queue first value ∷ []);
        asks = refl;
        stands = looks (Front queue) (Value (Some value)) (read ∷ []) (has_next queue dummy (link first) ∷ has_value queue first value ∷ [])
            (w.within, inl (record { dummy = dummy; first = first; value = value; reply = refl; recorded = refl; changes = refl; nodes = refl; facts = refl }))
            (one_word read head) hold;
        records = refl;
      }

  abbrev AsksLineOf : ℕ → Op → Type 0
  AsksLineOf n op = op ≡ Line queue n

  -- so with a look along the queue: it comes to the end, if the last node's next word is 0
  pub line_to_end : (dummy : ℕ) (seen : List Seen) → own.words.value (head_at t queue) ≡ link dummy → All (Holds now) (facts_along queue dummy seen)
      → own.words.value (next_at t (last_seen dummy seen)) ≡ 0 → LookStands (AsksLineOf (length seen + 1)) (head_at t queue ∷ next_at t (last_seen dummy seen) ∷ [])
  line_to_end dummy seen head along zero =
      let read = head_is (shape_in t) queue (link dummy) in
      let end = next_is (shape_in t) (last_seen dummy seen) 0 in
      let reply = TheLine (line_of (map (λ (s : Seen). s.value) seen)) in
      let few : length seen < length seen + 1 = omega arith in
      record {
        certificate = behind ts (Line queue (length seen + 1)) reply (read ∷ end ∷ []) [] [] (facts_along queue dummy seen);
        asks = refl;
        stands = looks (Line queue (length seen + 1)) reply (read ∷ end ∷ []) (facts_along queue dummy seen) (
          w.within,
          record {
            dummy = dummy;
            seen = seen;
            ending = end ∷ [];
            ends = inr (record { fewer = few; is = refl });
            reply = refl;
            recorded = refl;
            changes = refl;
            nodes = refl;
            facts = refl;
          },
        )
            (All-cons HasValue read (end ∷ []) head (one_word end zero)) along;
        records = refl;
      }

  -- and with a look at one value, whatever is there, if no other pass is live
  pub record LineStands (word : ℕ) : Type 0 where
    pub words : List ℕ
    pub looks : LookStands (AsksLineOf 1) (word ∷ words)

  module _ (same : SameValues own now) where
    one_more : (dummy first : ℕ) → own.words.value (head_at t queue) ≡ link dummy → IsOf now queue dummy → next_of now.words dummy ≡ link first → IsOf now queue first
        → LineStands (head_at t queue)
    one_more dummy first head of_dummy named of_first =
        let read = head_is (shape_in t) queue (link dummy) in
        let p : Seen = record { node = first; value = now.words.value_of_node first } in
        let goes = has_next queue dummy (link first) in
        let has = has_value queue first (now.words.value_of_node first) in
        let exists = rises.nodes.exist first (Queue queue, of_first) in
        record {
          words = [];
          looks = record {
            certificate = behind ts (Line queue 1) (TheLine (line_of (p.value ∷ []))) (read ∷ []) [] [] (goes ∷ has ∷ []);
            asks = refl;
            stands = looks (Line queue 1) (TheLine (line_of (p.value ∷ []))) (read ∷ []) (goes ∷ has ∷ []) (
              w.within,
              record {
                dummy = dummy;
                seen = p ∷ [];
                ending = [];
                ends = inl (record { all = refl; is = refl });
                reply = refl;
                recorded = refl;
                changes = refl;
                nodes = refl;
                facts = refl;
              },
            )
                (one_word read head)
                (All-cons (Holds now) goes (has ∷ [])
                (record { placed = of_dummy; key = tt; value = tt; next = (named, ap not (ne_eqb (link first) 0 (link_not_zero now.words.shape first exists))) })
                (All-cons (Holds now) has [] (record { placed = of_first; key = tt; value = refl; next = tt }) (All-nil (Holds now))));
            records = refl;
          };
        }

    pub line_first : LineStands (head_at t queue)
    line_first =
        let named = rises.there.head in
        let dummy = named.0 in
        let head : own.words.value (head_at t queue) ≡ link dummy
        = same.value (head_at t queue) ∙ ap (λ (s : Shape). now.words.value (address s (queue_head queue))) (sym shape_now) ∙ named.2 in
        ⊎_elim
        (λ zero. record {
          words = next_at t dummy ∷ [];
          looks = line_to_end dummy [] head (All-nil (Holds now))
              (same.value (next_at t dummy) ∙ ap (λ (s : Shape). now.words.value (address s (node_next dummy))) (sym shape_now) ∙ zero);
        })
        (λ next. one_more dummy next.0 head named.1 next.2 next.1)
        (rises.there.next dummy named.1)
