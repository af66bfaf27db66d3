-- The first value is taken: the tail doesn't stay behind, and the certificate.
use Rattle.std.proofs.Common.{◌≡◌, ◌≢◌, ◌<◌, ◌^◌, ◌++◌, ℕ, true, false, List, [], ◌∷◌, Some, None, is_some, refl, sym, ap, ◌∙◌, subst, inl}
use Rattle.std.proofs.lemmas.List.Elements.{All-cons, All-nil}
use Rattle.std.specs.List.{Contains}
use Rattle.md_words.specs.declared.shape.Shape.{Shape}
use Rattle.md_words.specs.Layout.{address}
use Rattle.md_words.specs.Link.{linked_node}
use Rattle.md_words.specs.Place.{node_next, queue_head, queue_tail}
use Rattle.md_history.specs.declared.acts.Op.TheVariants.{Dequeue}
use Rattle.md_history.specs.declared.acts.Reply.TheVariants.{Value}
use Rattle.md_machine.specs.declared.certificate.Certificate.{Certificate}
use Rattle.md_machine.specs.declared.certificate.Change.{Change}
use Rattle.md_machine.specs.declared.certificate.Fact.{Fact}
use Rattle.md_machine.specs.declared.certificate.NewNode.{NewNode}
use Rattle.md_machine.specs.declared.certificate.TidyChange.{TidyChange}
use Rattle.md_machine.specs.declared.certificate.WordValue.{WordValue}
use Rattle.md_machine.specs.Certified.{all_changes, first_content, is_written}
use Rattle.md_machine.specs.Meaning.{Lawful, Meaning}
use Rattle.md_machine.specs.clauses.passes.Alone.{HoldsAll}
use Rattle.md_nbtc_law.specs.declared.seen.Kind.TheVariants.{Critical}
use Rattle.md_nbtc_law.specs.declared.seen.Seen.{Seen}
use Rattle.md_nbtc_law.specs.Calls.{GoesOn, MayExchange}
use Rattle.md_nbtc_law.specs.Course.{IsStoredNode}
use Rattle.md_nbtc_law.specs.Known.{IsLater, Known, found_by}
use Rattle.md_nbtc_law.specs.Seeing.{Gave, KeepsGiven}
use Rattle.md_nbtc_law.specs.State.{TxnState, shape_in, writes_in}
use Rattle.md_nbtc_law.specs.Tidied.{tidied}
use Rattle.md_nbtc_law.proofs.preparing.Heaps.{later_self}
use Rattle.md_nbtc_law.proofs.preparing.Later.{later_over}
use Rattle.md_nbtc_law.proofs.structures.Exchanging.{HasExchanged, may_exchange_so}
use Rattle.md_nbtc_law.proofs.structures.NodesKnown.{shape_later}
use Rattle.md_nbtc_law.proofs.structures.SeenValues.{seen_value}
use Rattle.std.proofs.lemmas.Bool.{true≢false}
use Rattle.md_queue_law.specs.Laws.Words.{head_not_tail, tail_not_next}
use Rattle.md_queue_law.specs.QueueCertificates.{CertifiesQueue, has_next, has_value, head_change}
use Rattle.md_queue_law.specs.QueueMeaning.{HasQueuesOf}
use Rattle.md_queue_law.specs.QueueShape.{link}
use Rattle.md_queue.specs.Operations.{LeavesDummy, TailDiffers}
use Rattle.md_queue.specs.Refusals.{WasToChange}
use Rattle.md_queue.specs.Words.{head_at, next_at, tail_at}
use Rattle.md_queue.specs.Working.{IsWorking, NamesNode, SeesAt, SeesFirst}
use Rattle.md_queue.proofs.Alone.{alone_sees, seen_stands}
use Rattle.md_queue.proofs.Among.{AnswersBy}
use Rattle.md_queue.proofs.Changing.{changing, exchanged_first, exchanged_hand, may_end_changing}
use Rattle.md_queue.proofs.Charging.{charged_on}
use Rattle.md_queue.proofs.Firsts.{next_holds}
use Rattle.md_queue.proofs.Looking.{head_counted, head_named, head_no_next, next_named}
use Rattle.md_queue.proofs.Moving.{root_change, root_cleanups}
use Rattle.md_queue.proofs.Passing.{next_on, sees_on, working_on}
use Rattle.md_queue.proofs.Standing.{behind, would_stand}

-- what was seen first stays over calls that keep what was given of other words than one
pub first_on : (M : Meaning) (t u : TxnState) (queue : ℕ) (cs : List Certificate) (head next : Seen) (s : SeesFirst M t queue cs head next) (later : IsLater t u) (word : ℕ) → KeepsGiven t u word
    → head_at t queue ≢ word → next_at t (linked_node head.value) ≢ word → (changes : List TidyChange) → IsWorking M u queue cs changes → SeesFirst M u queue cs head next
first_on M t u queue cs head next s later word given apart next_apart changes working = record {
  changes = changes;
  working = working;
  head_sees = subst (λ (x : Shape). SeesAt M u (address x (queue_head queue)) head) (sym (shape_later t u later))
      (sees_on M t u later (head_at t queue) head s.head_sees (given (head_at t queue) head apart s.head_sees.gave));
  next_sees = next_on M t u later cs queue (linked_node head.value) next s.next_sees
      (given (next_at t (linked_node head.value)) next next_apart s.next_sees.at.gave);
}

-- and so does that the tail is elsewhere, over calls that keep what was given of it
pub differs_on : (M : Meaning) (t u : TxnState) (queue value : ℕ) (later : IsLater t u) (word : ℕ) → KeepsGiven t u word → tail_at t queue ≢ word → TailDiffers t queue value → TailDiffers u queue value
differs_on M t u queue value later word given apart d = (
  d.0,
  subst (λ (x : Shape). Gave u (address x (queue_tail queue)) d.0) (sym (shape_later t u later)) (given (tail_at t queue) d.0 apart d.1),
  d.2,
)

-- and so does all that over a look at a value
module _ (M : Meaning) (t u : TxnState) (queue : ℕ) (on : GoesOn M t u) (same : u ≡ record t { pass = u.pass }) (given : (other : ℕ) → KeepsGiven t u other) where
  pub first_read : (cs : List Certificate) (head next : Seen) → SeesFirst M t queue cs head next → SeesFirst M u queue cs head next
  first_read cs head next s = first_on M t u queue cs head next s on.later (tail_at t queue) (given (tail_at t queue))
      (head_not_tail (shape_in t) queue queue s.working.within s.working.within)
      (λ e. tail_not_next (shape_in t) queue (linked_node head.value) s.working.within s.next_sees.exists (sym e))
      s.changes (working_on M t u on.later queue cs s.changes on (ap (λ x. x.hand) same) s.working)

  pub differs_read : (value : ℕ) → queue < (shape_in t).queues → TailDiffers t queue value → TailDiffers u queue value
  differs_read value within = differs_on M t u queue value on.later (head_at t queue) (given (head_at t queue))
      (λ e. head_not_tail (shape_in t) queue queue within within (sym e))

module _ (M : Meaning) (lawful : Lawful M) (queues : HasQueuesOf M) (queue : ℕ) (cs : List Certificate) (head next : Seen) (some : next.value ≢ 0)
    (t : TxnState) (s : SeesFirst M t queue cs head next) where
  abbrev ts : List TidyChange
  ts = s.changes

  abbrev dummy : ℕ
  dummy = linked_node head.value

  abbrev first : ℕ
  first = linked_node next.value

  abbrev facts_of : (value : ℕ) → List Fact
  facts_of value = has_next queue dummy (link first) ∷ has_value queue first value ∷ []

  head_names : NamesNode M t cs queue head.value
  head_names = head_named M lawful queues t queue cs ts s.working head s.head_sees

  next_names : NamesNode M t cs queue next.value
  next_names = next_named M lawful queues t queue cs ts s.working dummy next s.next_sees some

  -- the head may be changed
  pub may_take : (to : ℕ) → MayExchange M t (head_at t queue) head to Critical
  may_take to =
      let no_next = head_no_next M lawful queues t queue cs ts s.working in
      record {
        operates = s.working.operates;
        counted = head_counted M lawful queues t queue cs ts s.working;
        gave = s.head_sees.gave;
        of = may_exchange_so M t (head_at t queue) head to Critical
            (λ written. root_cleanups M t cs (head_at t queue) no_next s.working.going.cleanups to)
            (root_change M t cs (head_at t queue) no_next)
            (λ unwritten. s.head_sees.there (s.head_sees.gave.own ∙ unwritten))
            (λ unwritten plain. absurd (true≢false plain));
      }

  -- if that is refused by the limit of writes, the value would be taken next
  pub was_to_take : (before : TxnState) → t.reads ≡ before.reads → HoldsAll (shape_in t) t.pass.view → head.count < 2 ^ 32 → is_written (writes_in t) (head_at t queue) ≡ false
      → (value : ℕ) → Known M t (λ v h. h.words.value_of_node (linked_node next.value) ≡ value) → WasToChange M t cs before (Dequeue queue)
  was_to_take before same all fits unwritten value is =
      let w = s.working in
      let self = later_self t in
      let prepared = w.going.prepared in
      let change = head_change (shape_in t) queue (link dummy) (link first) in
      record {
        certificate = behind ts (Dequeue queue) (Value (Some value)) [] (change ∷ []) [] (facts_of value);
        last = change;
        op_is = refl;
        changes = ap (λ l. l ++ change ∷ []) w.tidied.changes;
        among = λ r in_t. inl (subst (λ l. Contains l r) same in_t);
        unwritten = unwritten;
        would = λ h of. would_stand M queues t queue cs ts w t self prepared h of (Dequeue queue) (Value (Some value)) [] (change ∷ []) [] (facts_of value)
            (w.within, inl (record { dummy = dummy; first = first; value = value; reply = refl; recorded = refl; changes = refl; nodes = refl; facts = refl }))
            (All-nil (λ (r : WordValue). (tidied (found_by t h) cs ts).words.value r.word ≡ r.value))
            (All-cons (λ (c : Change). (tidied (found_by t h) cs ts).words.value c.word ≡ c.old) change []
            (seen_stands M lawful t cs w.going ts w.tidied t self prepared h of (head_at t queue) head s.head_sees
            (alone_sees M t prepared all h of (head_at t queue) head s.head_sees.gave fits) ∙ head_names.is)
            (All-nil (λ (c : Change). (tidied (found_by t h) cs ts).words.value c.word ≡ c.old)))
            (next_holds M lawful queues t t self queue cs ts w w dummy next s.next_sees some value is t self prepared h of)
            (All-nil (λ (n : NewNode). (tidied h cs ts).placed n.node ≡ None));
      }

  -- the tail isn't left behind it
  pub leaves_dummy : TailDiffers t queue head.value → (u : TxnState) → GoesOn M t u → KeepsGiven t u (head_at t queue) → (seen : Seen)
      → HasExchanged M t (head_at t queue) head next.value Critical u seen → LeavesDummy u queue
  leaves_dummy d u on given seen ex = record {
    earlier = t.hand.changes;
    from = head.value;
    to = next.value;
    changes = ap (λ x. x.changes) (exchanged_hand M t u (head_at t queue) head next.value seen ex)
        ∙ ap (λ (x : Shape). t.hand.changes ++ head_change x queue head.value next.value ∷ []) (sym (shape_later t u on.later));
    tail = differs_on M t u queue head.value on.later (head_at t queue) given (λ e. head_not_tail (shape_in t) queue queue s.working.within s.working.within (sym e)) d;
  }

  -- and the operation is ended with the value
  pub may_answer_taken : (value : ℕ) → Known M t (λ v h. h.words.value_of_node (linked_node next.value) ≡ value) → (u : TxnState) → GoesOn M t u → head.count < 2 ^ 32 → (seen : Seen)
      → HasExchanged M t (head_at t queue) head next.value Critical u seen → AnswersBy M u cs (Dequeue queue) (Value (Some value)) []
  may_answer_taken value is u on fits seen ex =
      let w = s.working in
      let shape = shape_later t u on.later in
      let going = on.going cs w.going in
      let change = head_change (shape_in u) queue (link dummy) (link first) in
      let at_u = ap (λ (x : Shape). address x (queue_head queue)) (sym shape) in
      let hand = exchanged_hand M t u (head_at t queue) head next.value seen ex in
      let c = changing (Dequeue queue) (Value (Some value)) ts [] change [] (facts_of value) in
      let certifies : CertifiesQueue (shape_in u) c = (
        subst (λ (x : Shape). queue < x.queues) (sym shape) w.within,
        inl (record { dummy = dummy; first = first; value = value; reply = refl; recorded = refl; changes = refl; nodes = refl; facts = refl }),
      ) in
      record {
        certificate = c;
        of = (refl, refl);
        may = may_end_changing M t cs ts w.tidied u on.later (Dequeue queue) (Value (Some value)) [] change [] (facts_of value)
            (queues.certifies (shape_in u) c certifies)
            (ap (λ x. x.changes) hand ∙ ap (λ (d : Change). t.hand.changes ++ d ∷ [])
            (ap (λ a. record { word = a; old = head.value; new = next.value }) at_u
            ∙ ap (λ v. record { word = head_at u queue; old = v; new = next.value }) head_names.is
            ∙ ap (λ v. record { word = head_at u queue; old = link dummy; new = v }) next_names.is))
            (sym (ap (λ x. x.stored) hand ∙ w.tidied.stored))
            (All-nil (IsStoredNode u))
            (All-nil (λ (n : NewNode). is_written (writes_in u) (address (shape_in u) (node_next n.node)) ≡ false))
            (All-nil (λ (r : WordValue). is_some (first_content u.reads (writes_in u) r.word) ≡ true))
            (λ v over prepared h of. All-nil (λ (r : WordValue). (tidied (found_by v h) cs ts).words.value r.word ≡ r.value))
            (λ v over prepared h of. subst (λ a. (tidied (found_by v h) cs ts).words.value a ≡ link dummy) at_u
            (seen_value M lawful t cs w.going ts w.tidied (head_at t queue) head s.head_sees.gave s.head_sees.there fits u on.later
            (exchanged_first M t u (head_at t queue) head next.value seen ex going.prepared s.head_sees.gave) v over prepared h of ∙ head_names.is))
            (λ v over prepared h of. next_holds M lawful queues t t (later_self t) queue cs ts w w dummy next s.next_sees some value is v (later_over t u v on.later over) prepared h of)
            (λ v over prepared h of. All-nil (λ (n : NewNode). (tidied h cs ts).placed n.node ≡ None));
        row = certifies;
        are = refl;
        charged = charged_on t u on.later (all_changes cs) ts w.charged;
      }
