-- What an operation of a queue that a limit refused would have come to, if no other pass is live: so that layers above can
-- tell by the counts of acts that they are too many.
use Rattle.std.specs.Prelude.{◌≡◌, ◌≢◌, ◌≤◌, ◌+◌, ◌++◌, ◌⊎◌, ℕ, false, List, [], ◌∷◌, All, Contains, None, Some, length}
use Rattle.md_history.specs.declared.acts.Op.{Op}
use Rattle.md_history.specs.declared.acts.Op.TheVariants.{Dequeue, Front, Line}
use Rattle.md_history.specs.declared.stops.Limit.{Limit}
use Rattle.md_history.specs.declared.stops.Limit.TheVariants.{Nodes, Reads, Writes}
use Rattle.md_history.specs.declared.stops.Stop.{Stop}
use Rattle.md_history.specs.declared.stops.Stop.TheVariants.{Limit as Limited}
use Rattle.md_machine.specs.declared.attempt.Read.{Read}
use Rattle.md_machine.specs.declared.certificate.Certificate.{Certificate}
use Rattle.md_machine.specs.declared.certificate.Change.{Change}
use Rattle.md_machine.specs.declared.certificate.TidyChange.{TidyChange}
use Rattle.md_machine.specs.Certified.{TidiesStandBy, after_wholes, all_changes, is_written, whole_changes}
use Rattle.md_machine.specs.LogicalHeap.{LogicalHeap}
use Rattle.md_machine.specs.Meaning.{Meaning}
use Rattle.md_machine.specs.clauses.passes.Alone.{HoldsAll}
use Rattle.md_nbtc_law.specs.Course.{StandsNext}
use Rattle.md_nbtc_law.specs.Going.{IsGoing}
use Rattle.md_nbtc_law.specs.Known.{IsHeapOf, IsLater, found_by}
use Rattle.md_nbtc_law.specs.State.{TxnState, shape_in, writes_in}
use Rattle.md_nbtc_law.specs.Tidied.{HasTidied}
use Rattle.md_queue_law.specs.QueueCertificates.{CertifiesQueue, MovesTail, Seen}
use Rattle.md_queue.specs.Along.{HasLooked}
use Rattle.md_queue.specs.Charged.{AreCharged}
use Rattle.md_queue.specs.Operations.{RecordsAmong, words_recorded}
use Rattle.md_queue.specs.Words.{head_at, tail_at}

module _ (M : Meaning) (v : TxnState) (cs : List Certificate) where
  -- a certificate of a queue would stand next in a heap, after those of the ended operations, and its moves of the tail
  -- are charged
  pub record WouldStand (h : LogicalHeap) (c : Certificate) : Type 0 where
    pub certifies : M.certifies (shape_in v) c
    pub tidies : All (M.tidies (shape_in v)) c.tidy
    pub row : CertifiesQueue (shape_in v) c
    pub stands : StandsNext M cs c v h
    pub charged : AreCharged v (all_changes cs) c.tidy

  -- some certificate of such an operation would stand next, which records a word, and each that was recorded more since t
  pub record WouldRecord (t : TxnState) (Asks : Op → Type 0) (word : ℕ) (h : LogicalHeap) : Type 0 where
    pub certificate : Certificate
    pub asks : Asks certificate.op
    pub stands : WouldStand h certificate
    pub records : Contains (words_recorded certificate) word
    pub among : RecordsAmong t v (words_recorded certificate)

  -- a word was to be recorded that isn't recorded or written. In each heap that the field may have now, some certificate
  -- of such an operation would record it
  pub record IsFullOfReads (t : TxnState) (Asks : Op → Type 0) : Type 0 where
    pub word : ℕ
    pub unread : (r : Read) → Contains v.reads r → r.word ≢ word
    pub unwritten : is_written (writes_in v) word ≡ false
    pub would : (h : LogicalHeap) → IsHeapOf M v h → WouldRecord t Asks word h

  -- the tail, which isn't written, was to be moved as a part of the transaction, after other moves of it. In each heap
  -- that the field may have now, the move would stand next, and it is charged
  pub record WasToMove (t : TxnState) (queue : ℕ) : Type 0 where
    pub earlier : List TidyChange
    pub move : TidyChange
    pub reads : v.reads ≡ t.reads
    pub tidied : HasTidied M v cs earlier
    pub moves : MovesTail (shape_in v) move
    pub tidies : M.tidies (shape_in v) move
    pub of_queue : move.change.word ≡ tail_at v queue
    pub unwritten : is_written (writes_in v) move.change.word ≡ false
    pub charged : AreCharged v (all_changes cs) (earlier ++ move ∷ [])
    pub would : (h : LogicalHeap) → IsHeapOf M v h → TidiesStandBy (after_wholes (found_by v h) cs) (after_wholes h cs) (earlier ++ move ∷ [])

  -- the last change of the operation, of a word that isn't written, was to be made. In each heap that the field may have
  -- now, a certificate with the changes made and this one would stand next, which records each word that was recorded more
  pub record WasToChange (t : TxnState) (op : Op) : Type 0 where
    pub certificate : Certificate
    pub last : Change
    pub op_is : certificate.op ≡ op
    pub changes : whole_changes certificate ≡ v.hand.changes ++ last ∷ []
    pub among : RecordsAmong t v (words_recorded certificate)
    pub unwritten : is_written (writes_in v) last.word ≡ false
    pub would : (h : LogicalHeap) → IsHeapOf M v h → WouldStand h certificate

-- the transaction as it stood when a call of the operation was refused: it kept the stop then, and did nothing more
pub record StoodAtRefusal (M : Meaning) (t u : TxnState) (cs : List Certificate) (s : Stop) (v : TxnState) : Type 0 where
  pub going : IsGoing M v cs
  pub later : IsLater t v
  pub same : u ≡ record v { pass = u.pass; stop = Some s }

module _ (M : Meaning) (t u : TxnState) (cs : List Certificate) where
  -- it was refused so, for want of room for one more word
  abbrev pub ReadRefused : (Asks : Op → Type 0) → Type 0
  ReadRefused Asks = (v : TxnState) × StoodAtRefusal M t u cs (Limited Reads) v × IsFullOfReads M v cs t Asks

  abbrev pub MoveRefused : (queue : ℕ) → Type 0
  MoveRefused queue = (v : TxnState) × StoodAtRefusal M t u cs (Limited Writes) v × WasToMove M v cs t queue

  abbrev pub ChangeRefused : Op → Type 0
  ChangeRefused op = (v : TxnState) × StoodAtRefusal M t u cs (Limited Writes) v × WasToChange M v cs t op

-- an operation that asks for a queue's first value, this operation alone, and one that asks for at most so many of a
-- queue's first values
abbrev pub AsksFirst : (queue : ℕ) → Op → Type 0
AsksFirst queue op = (op ≡ Front queue) ⊎ (op ≡ Dequeue queue)

abbrev pub AsksFor : Op → Op → Type 0
AsksFor this op = op ≡ this

abbrev pub AsksLine : (queue n : ℕ) → Op → Type 0
AsksLine queue n op = (m : ℕ) × (1 ≤ m) × (m ≤ n) × (op ≡ Line queue m)

-- the call began without a stop, and no other pass is live
pub record BeganAlone (t : TxnState) : Type 0 where
  pub unstopped : t.stop ≡ None
  pub alone : HoldsAll (shape_in t) t.pass.view

-- if the limit refused a call that began so
abbrev pub IfBy : Limit → TxnState → Stop → Type 0 → Type 0
IfBy limit t s P = s ≡ Limited limit → BeganAlone t → P

-- an operation that looks at the first values was refused by the limit of reads
abbrev pub RefusesReads : Meaning → (t u : TxnState) → (Asks : Op → Type 0) → Stop → Type 0
RefusesReads M t u Asks s = IfBy Reads t s ((cs : List Certificate) → IsGoing M t cs → ReadRefused M t u cs Asks)

-- a look at one more node of a queue was refused so, if the nodes before it were passed
abbrev pub RefusesNext : Meaning → (t u : TxnState) → (node : ℕ) → Stop → Type 0
RefusesNext M t u node s = IfBy Reads t s ((before : TxnState) (queue : ℕ) (cs : List Certificate) (dummy : ℕ) (seen : List Seen) → IsLater before t
    → HasLooked M t queue cs dummy node seen → RecordsAmong before t (head_at t queue ∷ []) → ReadRefused M before u cs (AsksLine queue (length seen + 1)))

-- an operation that changes a queue was refused by the limit of writes
abbrev pub RefusesWrites : Meaning → (t u : TxnState) → (queue : ℕ) → Op → Stop → Type 0
RefusesWrites M t u queue op s = IfBy Writes t s ((cs : List Certificate) → IsGoing M t cs → MoveRefused M t u cs queue ⊎ ChangeRefused M t u cs op)

-- an operation that was refused for want of nodes took none
abbrev pub TakesNone : (t u : TxnState) → Stop → Type 0
TakesNone t u s = s ≡ Limited Nodes → t.stop ≡ None → u.nodes ≡ t.nodes
