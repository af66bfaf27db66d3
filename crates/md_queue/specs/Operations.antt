-- What the operations of a queue ask, and what they leave.
use Rattle.std.specs.Prelude.{◌≡◌, ◌≢◌, ◌≤◌, ◌<◌, ◌+◌, ℕ, true, List, [], ◌∷◌, ◌++◌, ◌⊎◌, map, Contains, Option, Some, None, Result, Err, length, nat_lt, if◌then◌else◌}
use Rattle.md_history.specs.declared.acts.Line.{Line}
use Rattle.md_history.specs.declared.acts.Op.{Op}
use Rattle.md_history.specs.declared.acts.Reply.{Reply}
use Rattle.md_history.specs.declared.stops.Limit.{Limit}
use Rattle.md_history.specs.declared.stops.Limit.TheVariants.{Nodes}
use Rattle.md_history.specs.declared.stops.Stop.{Stop}
use Rattle.md_history.specs.declared.stops.Stop.TheVariants.{Limit as Limited}
use Rattle.md_machine.specs.declared.attempt.Read.{Read}
use Rattle.md_machine.specs.declared.certificate.Certificate.{Certificate}
use Rattle.md_machine.specs.declared.certificate.Change.{Change}
use Rattle.md_machine.specs.Certified.{all_changes}
use Rattle.md_machine.specs.Meaning.{Meaning}
use Rattle.md_rule.specs.Steps.{IsOf as IsOfAct}
use Rattle.md_nbtc_law.specs.declared.seen.Cleanup.{Cleanup}
use Rattle.md_nbtc_law.specs.declared.seen.Cleanup.TheVariants.{MoveTail}
use Rattle.md_nbtc_law.specs.declared.seen.Seen.{Seen}
use Rattle.md_nbtc_law.specs.declared.slots.Slot.{Slot}
use Rattle.md_nbtc_law.specs.Calls.{GoesOn}
use Rattle.md_nbtc_law.specs.Course.{MayEnd}
use Rattle.md_nbtc_law.specs.Going.{IsGoing, IsUnderWay}
use Rattle.md_nbtc_law.specs.Seeing.{Gave}
use Rattle.md_nbtc_law.specs.State.{OwnNode, TxnState, shape_in}
use Rattle.md_queue_law.specs.QueueCertificates.{CertifiesOp, head_change}
use Rattle.md_queue_law.specs.QueueShape.{link}
use Rattle.md_queue.specs.Charged.{AreCharged}
use Rattle.md_queue.specs.Words.{next_at, tail_at}

-- an operation was begun, and nothing was done since; the queue is one of the field
pub record IsBegun (M : Meaning) (t : TxnState) (queue : ℕ) : Type 0 where
  pub going : IsUnderWay M t
  pub within : queue < (shape_in t).queues
  pub operates : t.hand.operating ≡ true
  pub changes : t.hand.changes ≡ []
  pub stored : t.hand.stored ≡ []

-- a slot stays in the transaction with its word, its old content and the cleanup that it keeps, if any
pub record StaysIn (u : TxnState) (s : Slot) : Type 0 where
  pub now : Slot
  pub among : Contains u.slots now
  pub place : now.write.slot ≡ s.write.slot
  pub word : now.write.word ≡ s.write.word
  pub old : now.write.old ≡ s.write.old
  pub cleanup : (c : Cleanup) → s.cleanup ≡ Some c → now.cleanup ≡ Some c

-- an operation goes on after a call: the transaction has the same certificates and acts, and its slots stay. At
-- most so many words are recorded more, and written more, and so many nodes taken
pub record OperationGoesOn (M : Meaning) (t u : TxnState) (reads writes nodes : ℕ) : Type 0 where
  pub on : GoesOn M t u
  pub stay : (s : Slot) → Contains t.slots s → StaysIn u s
  pub acts : u.hand.acts ≡ t.hand.acts
  pub operates : u.hand.operating ≡ true
  pub reads_few : length u.reads ≤ length t.reads + reads
  pub writes_few : length u.slots ≤ length t.slots + writes
  pub nodes_few : length u.nodes ≤ length t.nodes + nodes

-- the transaction went on so, with the stop that it had, if any
pub record GoesBy (M : Meaning) (t u : TxnState) (reads writes nodes : ℕ) : Type 0 where
  pub leaves : OperationGoesOn M t u reads writes nodes
  pub same_stop : u.stop ≡ t.stop

-- after a stop the answer is the same stop, and nothing is done
abbrev pub StaysStopped : {A : Type 0} → (t u : TxnState) → Result A Stop → Type 0
StaysStopped t u result = (s : Stop) → t.stop ≡ Some s → (result ≡ Err s) × (u ≡ t)

-- an operation went on so, and was refused: the transaction keeps the stop
pub record OperationRefused (M : Meaning) (t u : TxnState) (reads writes nodes : ℕ) (s : Stop) : Type 0 where
  pub leaves : OperationGoesOn M t u reads writes nodes
  pub kept : u.stop ≡ Some s

-- not by a limit, unless it was stopped so before
abbrev pub IsNotBy : TxnState → Limit → Stop → Type 0
IsNotBy t limit s = s ≡ Limited limit → t.stop ≡ Some s

-- it was refused, but not for want of nodes
pub record RefusedOtherwise (M : Meaning) (t u : TxnState) (reads writes : ℕ) (s : Stop) : Type 0 where
  pub refused : OperationRefused M t u reads writes 0 s
  pub no_nodes : IsNotBy t Nodes s

-- each word that is recorded more is one of these
abbrev pub RecordsAmong : (t u : TxnState) → (words : List ℕ) → Type 0
RecordsAmong t u words = (r : Read) → Contains u.reads r → Contains t.reads r ⊎ Contains words r.word

-- the words that a certificate records
abbrev pub words_recorded : Certificate → List ℕ
words_recorded c = map (λ r. r.word) c.recorded

-- an operation may be ended with the reply, after ended operations with these certificates: by a certificate of its row in
-- the table of queues, whose moves of the tail are charged. Each word that is recorded more is one that it records
pub record IsAnswered (M : Meaning) (t u : TxnState) (cs : List Certificate) (op : Op) (reply : Reply) : Type 0 where
  pub certificate : Certificate
  pub of : IsOfAct op reply certificate
  pub may : MayEnd M u cs certificate
  pub row : CertifiesOp (shape_in u) op certificate
  pub recorded : RecordsAmong t u (words_recorded certificate)
  pub charged : AreCharged u (all_changes cs) certificate.tidy

-- an operation went on so, and may be ended so, whatever the certificates of the ended operations are
pub record OperationAnswered (M : Meaning) (t u : TxnState) (op : Op) (reply : Reply) (reads writes nodes : ℕ) : Type 0 where
  pub goes : GoesBy M t u reads writes nodes
  pub by : (cs : List Certificate) → IsGoing M t cs → IsAnswered M t u cs op reply

-- how many words a front and a dequeue record more, and how many a dequeue writes more, by what they answer
abbrev pub front_reads : Option ℕ → ℕ
front_reads (Some value) = 1
front_reads None = 2

abbrev pub dequeue_reads : Option ℕ → ℕ
dequeue_reads (Some value) = 0
dequeue_reads None = 2

abbrev pub dequeue_writes : Option ℕ → ℕ
dequeue_writes (Some value) = 2
dequeue_writes None = 0

-- and how many a line of n values does, by how many it has
abbrev pub line_reads : (n : ℕ) → Line → ℕ
line_reads n line = if nat_lt line.count n then 2 else 1

-- the tail, as the transaction saw it last, has another value
abbrev pub TailDiffers : TxnState → (queue value : ℕ) → Type 0
TailDiffers t queue value = (tail : Seen) × Gave t (tail_at t queue) tail × (tail.value ≢ value)

-- the head was changed last, and the tail isn't left at the node that it named before
pub record LeavesDummy (t : TxnState) (queue : ℕ) : Type 0 where
  pub earlier : List Change
  pub from : ℕ
  pub to : ℕ
  pub changes : t.hand.changes ≡ earlier ++ head_change (shape_in t) queue from to ∷ []
  pub tail : TailDiffers t queue from

-- a node was taken for the value, and was put behind the last one; the tail is moved to it after the commit
pub record PutsLast (t u : TxnState) (queue value : ℕ) : Type 0 where
  pub last : ℕ
  pub new : OwnNode
  pub nodes : u.nodes ≡ t.nodes ++ new ∷ []
  pub value_is : new.value ≡ value
  pub slot : Slot
  pub among : Contains u.slots slot
  pub word : slot.write.word ≡ next_at u last
  pub names : slot.write.new ≡ link new.node
  pub cleanup : slot.cleanup ≡ Some (MoveTail (tail_at u queue) last new.node)
