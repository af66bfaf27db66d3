-- A transaction of the store runs on over an operation, whether that is answered or refused.
use Rattle.std.specs.Prelude.{Result, ◌≡◌, ◌≤◌, ◌<◌, ◌⊎◌, ◌++◌, ◌∷◌, ℕ, false, List, [], Some, None, Option, map, option_map}
use Rattle.std.proofs.Common.{refl, sym, ap, subst, ◌∙◌}
use Rattle.std.proofs.lemmas.Bool.{false≢true}
use Rattle.std.specs.List.{Contains}
use Rattle.std.proofs.lemmas.List.Elements.{Contains-append_left}
use Rattle.md_words.specs.declared.shape.Shape.{Shape}
use Rattle.md_words.specs.Layout.{address, bucket_of}
use Rattle.md_words.specs.Place.{bucket_head}
use Rattle.md_words.proofs.Places.{bucket_of_below}
use Rattle.md_history.specs.declared.acts.Op.{Op}
use Rattle.md_history.specs.declared.acts.Reply.{Reply}
use Rattle.md_history.specs.declared.stops.Stop.{Stop}
use Rattle.md_history.specs.Act.{act_of}
use Rattle.md_history.specs.Calls.{Answered, Refusal, Refused}
use Rattle.md_machine.specs.declared.attempt.Read.{Read}
use Rattle.md_machine.specs.declared.certificate.Certificate.{Certificate}
use Rattle.md_machine.specs.Certified.{all_changes}
use Rattle.md_nbtc_law.specs.Calls.{AfterStop, EndsOperation, GoesOn, MayAnswer, with_act, with_operation}
use Rattle.md_nbtc_law.specs.Course.{MayEnd}
use Rattle.md_nbtc_law.specs.Ending.{BeginsTransaction}
use Rattle.md_nbtc_law.specs.Going.{IsGoing, IsUnderWay}
use Rattle.md_nbtc_law.specs.Known.{IsLater}
use Rattle.md_nbtc_law.specs.State.{TxnState, own_node, shape_in, taken_since}
use Rattle.md_nbtc_law.proofs.preparing.Later.{later_over}
use Rattle.md_list_law.specs.ListShape.{next_word}
use Rattle.md_list.specs.Operations.{Answers, OperationGoesOn}
use Rattle.md_list.specs.Walking.{IsHeadOf}
use Rattle.md_queue.specs.Operations.{OperationAnswered, IsBegun as IsBegunQueue, OperationRefused}
use Rattle.md_rule.specs.Steps.{IsOf as IsOfAct}
use Rattle.md_rule.specs.Views.{FieldView, PassState}
use Rattle.md_store_law.specs.Store.{store}
use Rattle.md_store_counts.specs.Few.{NextCharged, RecordsOne, certificate_acts, is_of_map, placed_nexts, read_before, recorded_by}
use Rattle.md_store_bodies.specs.declared.broken.Broken.{Broken}
use Rattle.md_store_bodies.specs.Counted.{Exceeds, HasCountedCertificates, Reaches}
use Rattle.md_store_bodies.specs.Running.{IsRunning, RunsOn, refusal_of}
use Rattle.md_store_bodies.specs.Store.{HasAllLanes, IsPassOf}
use Rattle.md_store_bodies.proofs.Charging.{counted_later, counted_more, list_charged, nodes_more, queue_charged, queue_reads, reads_before}
use Rattle.md_store_bodies.proofs.ListRefusals.{ListLimits, list_exceeds, list_reaches}
use Rattle.md_store_bodies.proofs.QueueRefusals.{QueueLimits, queue_exceeds, queue_reaches}

-- the head of a key's own bucket, in a shape that has the map
pub is_head_of : (before now asked : Shape) (map key head : ℕ) → now ≡ before → asked ≡ now → map < before.maps
    → head ≡ address asked (bucket_head map (bucket_of asked key)) → IsHeadOf now map key head
is_head_of before now asked map key head same is_asked below is = record {
  is_map = subst (λ (s : Shape). map < s.maps) (sym same) below;
  is_bucket = bucket_of_below now key;
  is = subst (λ (s : Shape). head ≡ address s (bucket_head map (bucket_of s key))) is_asked is;
}

some_refusal : (r q : Refusal) → Some r ≡ Some q → r ≡ q
some_refusal r q is = cc is

-- no stop stands where none stood
pub stands_not : {o : Option Stop} {why : Stop} → o ≡ None → o ≡ Some why → ⊥
stands_not none is = cc (none, is)

some_none : (r : Refusal) → (let o : Option Refusal = Some r in o ≡ None) → ⊥
some_none r is = cc is

-- an operation was answered, and may be ended by a certificate that is counted
pub record EndsBy (s u : TxnState) (cs : List Certificate) (op : Op) (reply : Reply) : Type 0 where
  pub going : IsGoing store u cs
  pub later : IsLater s u
  pub stop : u.stop ≡ None
  pub certificate : Certificate
  pub of : IsOfAct op reply certificate
  pub may : MayEnd store u cs certificate
  pub few : RecordsOne certificate
  pub recorded : (r : Read) → Contains u.reads r → Contains s.reads r ⊎ Contains (recorded_by certificate) r.word
  pub charged : NextCharged (shape_in s) cs certificate

-- it was refused
pub record IsRefusedSo (s u : TxnState) (cs : List Certificate) (why : Stop) : Type 0 where
  pub going : IsGoing store u cs
  pub later : IsLater s u
  pub stop : u.stop ≡ Some why

-- what becomes of a refusal's stop where a limit is reached, or exceeded
abbrev pub ReachesBy : (before : PassState) (t : TxnState) → Option Refusal → Type 0
ReachesBy before t r = (refusal : Refusal) → r ≡ Some refusal → IsPassOf t.field before → Reaches before t.hand.acts refusal.op refusal.stop

abbrev pub ExceedsBy : (before : PassState) (t : TxnState) → Option Refusal → Type 0
ExceedsBy before t r = (refusal : Refusal) → r ≡ Some refusal → IsPassOf t.field before → HasAllLanes t.field before
    → Exceeds t.field before t.hand.acts refusal.op refusal.stop

-- a later state that is under way runs on
runs_later : (before : PassState) (t u : TxnState) (r r' : Option Refusal) → IsRunning before t r → IsLater t u → IsUnderWay store u
    → u.stop ≡ option_map (λ x. x.stop) r' → (r' ≡ None → (u.hand.operating ≡ false) × ((cs : List Certificate) × HasCountedCertificates u cs))
    → ReachesBy before u r' → ExceedsBy before u r' → RunsOn before t u r'
runs_later before t u r r' run later going stop between reaches exceeds = record {
  running = record {
    start = run.start;
    begins = subst (λ (tag : ℕ). BeginsTransaction before tag run.start) (sym later.tag) run.begins;
    later = later_over run.start t u run.later later;
    going = going;
    stop = stop;
    between = λ none. (between none).0;
    counted = λ none. (between none).1;
    reaches = reaches;
    exceeds = exceeds;
  };
  field = later.field;
  tag = later.tag;
}

-- the operation that is begun in a transaction without a refusal
pub record IsStarted (t s : TxnState) : Type 0 where
  pub on : GoesOn store t s
  pub is : s ≡ record t { pass = s.pass; hand = with_operation t.hand }

-- the operation was answered and ended
pub record IsEnded (u v : TxnState) (op : Op) (reply : Reply) : Type 0 where
  pub on : EndsOperation store u v op reply
  pub is : v ≡ record u { pass = v.pass; hand = with_act u.hand op reply }

-- what the answer of an operation tells whose transaction had no stop
pub unstopped : {A : Type 0} (t u : TxnState) (result : Result A Stop) (P : Type 0) → t.stop ≡ None → AfterStop t.stop t u result P → P
unstopped t u result P none is = subst (λ (o : Option Stop). AfterStop o t u result P) none is

module _ (before : PassState) (t s : TxnState) (b : Option Broken) (whole : b ≡ None) (run : IsRunning before t (refusal_of b)) (start : IsStarted t s) where
  pub running : IsRunning before t None
  running = subst (λ (x : Option Broken). IsRunning before t (refusal_of x)) whole run

  -- so the operation that was begun is under way, its certificates are counted, and no stop stood
  abbrev pub cs : List Certificate
  cs = (running.counted refl).0

  pub counted : HasCountedCertificates s cs
  counted = counted_later t s cs (running.counted refl).1 start.on (ap (λ (x : TxnState). x.reads) start.is)

  pub started : IsUnderWay store s
  started = (cs, counted.going)

  pub none_stood : s.stop ≡ None
  none_stood = ap (λ (x : TxnState). x.stop) start.is ∙ running.stop

  pub may_end : (u : TxnState) (op : Op) (reply : Reply) → EndsBy s u cs op reply → MayAnswer store u op reply
  may_end u op reply by = record { earlier = cs; going = by.going; certificate = by.certificate; of = by.of; may = by.may }

  pub answered_runs : (u v : TxnState) (op : Op) (reply : Reply) → EndsBy s u cs op reply → IsEnded u v op reply → RunsOn before t v (refusal_of b)
  answered_runs u v op reply by ends =
      let c = by.certificate in
      let shape : shape_in u ≡ shape_in s = ap (λ (f : FieldView). f.origin.shape) by.later.field in
      let going = ends.on.going cs c by.going by.of by.may in
      subst (λ (x : Option Broken). RunsOn before t v (refusal_of x)) (sym whole)
      (runs_later before t v None None running (later_over t s v start.on.later (later_over s u v by.later ends.on.later))
      (cs ++ c ∷ [], going)
      (ap (λ (x : TxnState). x.stop) ends.is ∙ by.stop)
      (λ none. (
        ap (λ (x : TxnState). x.hand.operating) ends.is,
        (
          cs ++ c ∷ [],
          counted_more s u cs counted c by.recorded v going
              (ap (λ (x : TxnState). x.reads) ends.is) (ap shape_in ends.is ∙ shape) by.few by.charged,
        ),
      ))
      (λ refusal some. absurd (some_none refusal (sym some)))
      (λ refusal some. absurd (some_none refusal (sym some))))

  -- its act is added, and no refusal stands
  pub answered_adds : (u v : TxnState) (op : Op) (reply : Reply) → u.hand.acts ≡ s.hand.acts → IsEnded u v op reply
      → Answered op reply t.hand.acts v.hand.acts (refusal_of b) (refusal_of b)
  answered_adds u v op reply acts ends =
      let none = ap refusal_of whole in
      let same : u.hand.acts ≡ t.hand.acts = acts ∙ ap (λ (x : TxnState). x.hand.acts) start.is in
      record { going = none; goes_on = none; added = ap (λ (x : TxnState). x.hand.acts) ends.is ∙ ap (λ l. l ++ act_of op reply ∷ []) same }

  -- a refused one adds none, and its refusal stands
  pub refused_adds : (u : TxnState) (op : Op) (why : Stop) → u.hand.acts ≡ s.hand.acts
      → Refused op why t.hand.acts u.hand.acts (refusal_of b) (Some (record { stop = why; op = op }))
  refused_adds u op why acts =
      let r : Refusal = record { stop = why; op = op } in
      let same : u.hand.acts ≡ t.hand.acts = acts ∙ ap (λ (x : TxnState). x.hand.acts) start.is in
      subst (λ (x : Option Broken). Refused op why t.hand.acts u.hand.acts (refusal_of x) (Some r)) (sym whole)
      (record { same = same; stands = refl; again = refl })

  -- of an operation that was refused: the acts with it reach the limit, or exceed it
  abbrev pub Reaching : Op → Stop → Type 0
  Reaching op why = IsPassOf s.field before → Reaches before (certificate_acts cs) op why

  abbrev pub Exceeding : Op → Stop → Type 0
  Exceeding op why = IsPassOf s.field before → HasAllLanes s.field before → Exceeds s.field before (certificate_acts cs) op why

  pub refused_runs : (u : TxnState) (op : Op) (why : Stop) → IsRefusedSo s u cs why → u.hand.acts ≡ s.hand.acts → Reaching op why → Exceeding op why
      → RunsOn before t u (Some (record { stop = why; op = op }))
  refused_runs u op why was acts reaches exceeds =
      let r : Refusal = record { stop = why; op = op } in
      let same_acts : certificate_acts cs ≡ u.hand.acts = sym (acts ∙ counted.going.course.acts) in
      runs_later before t u None (Some r) running (later_over t s u start.on.later was.later) (cs, was.going) was.stop
      (λ none. absurd (some_none r none))
      (λ refusal some of.
      subst (λ (x : Refusal). Reaches before u.hand.acts x.op x.stop) (some_refusal r refusal some)
      (subst (λ acts. Reaches before acts op why) same_acts
      (reaches (subst (λ (f : FieldView). IsPassOf f before) was.later.field of))))
      (λ refusal some of all.
      subst (λ (x : Refusal). Exceeds u.field before u.hand.acts x.op x.stop) (some_refusal r refusal some)
      (subst (λ (f : FieldView). Exceeds f before u.hand.acts op why) (sym was.later.field)
      (subst (λ acts. Exceeds s.field before acts op why) same_acts
      (exceeds (subst (λ (f : FieldView). IsPassOf f before) was.later.field of)
      (subst (λ (f : FieldView). HasAllLanes f before) was.later.field all)))))

  -- operations of lists
  module _ (u : TxnState) (reads writes nodes : ℕ) (leaves : OperationGoesOn store s u reads writes nodes) where
    pub list_ends : (head key : ℕ) (op : ℕ → Op) (reply : Reply) → Answers store s u head key op reply → (map : ℕ) → IsHeadOf (shape_in s) map key head
        → u.stop ≡ None → EndsBy s u cs (op map) reply
    list_ends head key op reply answers map is_head stop =
        let a = answers map is_head cs counted.going in
        let c = a.certificate in
        let later = leaves.on.later in
        let going = leaves.on.going cs counted.going in
        let placed = nodes_more s u cs counted c a.recorded going a.may.order in record {
          going = going;
          later = later;
          stop = stop;
          certificate = c;
          of = a.of;
          may = a.may;
          few = λ _. a.few;
          recorded = a.recorded;
          charged = list_charged s (read_before cs c) (placed_nexts (shape_in s) (cs ++ c ∷ [])) (reads_before s cs counted c)
              (λ n i. subst (λ k. Contains (placed_nexts k (cs ++ c ∷ [])) (next_word k n.node)) (ap (λ (f : FieldView). f.origin.shape) later.field)
              (placed n (subst (λ l. Contains l n) (sym later.nodes.is) (Contains-append_left s.nodes later.nodes.rest n i))))
              (all_changes cs) c.tidy a.charged;
        }

    pub list_refused : (why : Stop) → u.stop ≡ Some why → IsRefusedSo s u cs why
    list_refused why is = record { going = leaves.on.going cs counted.going; later = leaves.on.later; stop = is }

    -- the nodes of u are those that were taken
    pub list_runs : u.nodes ≡ map (own_node (shape_in u) u.pass) (taken_since u.began u.pass) → reads ≤ 2 → (head key : ℕ) (op : ℕ → Op) (map_of : ℕ)
        → IsHeadOf (shape_in s) map_of key head → (why : Stop) → u.stop ≡ Some why → ListLimits s u head key op why
        → RunsOn before t u (Some (record { stop = why; op = op map_of }))
    list_runs nodes_are two head key op map_of is_head why stop limits =
        let cause = (leaves.on.going cs counted.going).stop why stop in
        let stored = ap (λ (x : TxnState). x.hand.stored) start.is in
        let over = later_over running.start t s running.later start.on.later in
        refused_runs u (op map_of) why (list_refused why stop) leaves.acts
        (λ of. list_reaches before s u of t.hand.tag running.start running.begins over cs counted stored why cause nodes_are leaves.on
        head key op map_of reads limits two leaves.reads_few)
        (λ of all. list_exceeds before s u of t.hand.tag running.start running.begins over cs counted stored why cause nodes_are leaves.on all
        head key op map_of is_head limits)

  -- operations of queues
  module _ (u : TxnState) (reads writes nodes : ℕ) where
    pub queue_ends : (op : Op) (reply : Reply) → is_of_map op ≡ false → OperationAnswered store s u op reply reads writes nodes → EndsBy s u cs op reply
    queue_ends op reply other a =
        let by = a.by cs counted.going in
        let c = by.certificate in
        let going = a.goes.leaves.on.going cs counted.going in record {
          going = going;
          later = a.goes.leaves.on.later;
          stop = a.goes.same_stop ∙ none_stood;
          certificate = c;
          of = by.of;
          may = by.may;
          few = λ of_map. absurd (false≢true (sym other ∙ ap is_of_map (sym by.of.0) ∙ of_map));
          recorded = by.recorded;
          charged = subst (λ k. NextCharged k cs c) (ap (λ (f : FieldView). f.origin.shape) a.goes.leaves.on.later.field)
              (queue_charged u (read_before cs c) (placed_nexts (shape_in u) (cs ++ c ∷ []))
              (queue_reads s u cs counted c by.recorded (ap is_of_map by.of.0 ∙ other)) (all_changes cs) c.tidy by.charged);
        }

    -- the nodes of u are those that were taken
    pub queue_runs : u.nodes ≡ map (own_node (shape_in u) u.pass) (taken_since u.began u.pass) → reads ≤ 2 → (queue : ℕ) (op : Op) (Asks : Op → Type 0) (why : Stop)
        → OperationRefused store s u reads writes nodes why → QueueLimits s u cs queue op Asks why → RunsOn before t u (Some (record { stop = why; op = op }))
    queue_runs nodes_are two queue op Asks why r limits =
        let cause = (r.leaves.on.going cs counted.going).stop why r.kept in
        let stored = ap (λ (x : TxnState). x.hand.stored) start.is in
        let over = later_over running.start t s running.later start.on.later in
        refused_runs u op why (record { going = r.leaves.on.going cs counted.going; later = r.leaves.on.later; stop = r.kept }) r.leaves.acts
        (λ of. queue_reaches before s u of t.hand.tag running.start running.begins over cs counted stored why cause nodes_are r.leaves.on
        queue reads op Asks limits two r.leaves.reads_few)
        (λ of all. queue_exceeds before s u of all t.hand.tag running.start running.begins over cs counted stored none_stood why cause nodes_are r.leaves.on
        queue op Asks limits)

-- an operation of a queue is begun
pub queue_begun : (t s : TxnState) (queue : ℕ) → IsUnderWay store t → IsStarted t s → queue < (shape_in t).queues → IsBegunQueue store s queue
queue_begun t s queue under start below = record {
  going = (under.0, start.on.going under.0 under.1);
  within = subst (λ (x : Shape). queue < x.queues) (sym (ap shape_in start.is)) below;
  operates = ap (λ (x : TxnState). x.hand.operating) start.is;
  changes = ap (λ (x : TxnState). x.hand.changes) start.is;
  stored = ap (λ (x : TxnState). x.hand.stored) start.is;
}
