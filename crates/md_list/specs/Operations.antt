-- What the operations of a list ask, and what they leave.
use Rattle.std.specs.Prelude.{◌≡◌, ◌≢◌, ◌≤◌, ◌+◌, ◌++◌, ◌⊎◌, ℕ, true, List, [], ◌∷◌, map, Contains, Some, None, Result, MatchResult, length, if◌then◌else◌}
use Rattle.md_words.specs.Layout.{IsNode}
use Rattle.md_words.specs.Link.{is_marked, linked_node}
use Rattle.md_history.specs.declared.acts.Op.{Op}
use Rattle.md_history.specs.declared.acts.Reply.{Reply}
use Rattle.md_history.specs.declared.stops.Limit.TheVariants.{Nodes}
use Rattle.md_history.specs.declared.stops.Stop.{Stop}
use Rattle.md_history.specs.declared.stops.Stop.TheVariants.{Limit as Limited}
use Rattle.md_history.specs.Counts.{changed_nothing}
use Rattle.md_machine.specs.declared.attempt.Read.{Read}
use Rattle.md_machine.specs.declared.certificate.Certificate.{Certificate}
use Rattle.md_machine.specs.declared.certificate.Change.{Change}
use Rattle.md_machine.specs.Certified.{all_changes}
use Rattle.md_machine.specs.Meaning.{Meaning}
use Rattle.md_nbtc_law.specs.declared.seen.Cleanup.{Cleanup}
use Rattle.md_nbtc_law.specs.declared.seen.Cleanup.TheVariants.{Unlink}
use Rattle.md_nbtc_law.specs.declared.seen.Seen.{Seen}
use Rattle.md_nbtc_law.specs.declared.slots.Slot.{Slot}
use Rattle.md_rule.specs.Steps.{IsOf as IsOfAct}
use Rattle.md_nbtc_law.specs.Calls.{GoesOn}
use Rattle.md_nbtc_law.specs.Course.{MayEnd}
use Rattle.md_nbtc_law.specs.Going.{IsGoing, IsUnderWay}
use Rattle.md_nbtc_law.specs.Seeing.{Gave}
use Rattle.md_nbtc_law.specs.State.{TxnState, shape_in}
use Rattle.md_list_law.specs.HasLists.{IsMapCertificate}
use Rattle.md_list_law.specs.ListShape.{next_word}
use Rattle.md_list.specs.Charged.{AreCharged}
use Rattle.md_list.specs.Walking.{IsHeadOf}
use Rattle.md_list.specs.Written.{WritesFew}

-- an operation was begun, and nothing was done since
pub record IsBegun (M : Meaning) (t : TxnState) : Type 0 where
  pub going : IsUnderWay M t
  pub operates : t.hand.operating ≡ true
  pub changes : t.hand.changes ≡ []
  pub stored : t.hand.stored ≡ []

-- a slot stays: with its number, its word, its old content and the cleanup that is kept with it. It may have another new
-- value
pub record StaysAs (s r : Slot) : Type 0 where
  pub number : r.write.slot ≡ s.write.slot
  pub word : r.write.word ≡ s.write.word
  pub old : r.write.old ≡ s.write.old
  pub cleanup : (c : Cleanup) → s.cleanup ≡ Some c → r.cleanup ≡ Some c

-- so does each
abbrev pub SlotsStay : (t u : TxnState) → Type 0
SlotsStay t u = (s : Slot) → Contains t.slots s → (r : Slot) × Contains u.slots r × StaysAs s r

-- an operation goes on after a call, answered or refused: the transaction has the same certificates and acts, and the
-- operation is begun still. Its slots stay. So many words more are recorded at most, so many more written than
-- those that WritesFew allows anyway, and so many nodes taken
pub record OperationGoesOn (M : Meaning) (t u : TxnState) (reads writes nodes : ℕ) : Type 0 where
  pub on : GoesOn M t u
  pub acts : u.hand.acts ≡ t.hand.acts
  pub operates : u.hand.operating ≡ true
  pub slots : SlotsStay t u
  pub reads_few : length u.reads ≤ length t.reads + reads
  pub writes_few : WritesFew t u writes
  pub nodes_few : length u.nodes ≤ length t.nodes + nodes

-- if no stop stood before: none stands after an Ok, and after an Err the one that was answered
abbrev pub HasStop : {A : Type 0} → TxnState → Result A Stop → Type 0
HasStop u result = MatchResult result (λ _. u.stop ≡ None) (λ s. u.stop ≡ Some s)

-- and it didn't come for want of nodes
abbrev pub HasStopButNodes : {A : Type 0} → TxnState → Result A Stop → Type 0
HasStopButNodes u result = MatchResult result (λ _. u.stop ≡ None) (λ s. (u.stop ≡ Some s) × (s ≢ Limited Nodes))

-- a certificate of an operation on a map records one word at most, and none if the operation changed something
abbrev pub RecordsFew : Certificate → Type 0
RecordsFew c = length c.recorded ≤ (if changed_nothing c.op c.reply then 1 else 0)

-- each word that is recorded more is one that the certificate records
abbrev pub RecordsAmong : (t u : TxnState) → Certificate → Type 0
RecordsAmong t u c = (r : Read) → Contains u.reads r → Contains t.reads r ⊎ Contains (map (λ x. x.word) c.recorded) r.word

-- an operation on a key of a map may be ended with the reply, after ended operations with these certificates: by a
-- certificate of its row in the table of lists, whose unlinks are charged as the operation began. It records few words,
-- and each that was recorded since then
pub record IsAnswered (M : Meaning) (t u : TxnState) (cs : List Certificate) (map key : ℕ) (op : Op) (reply : Reply) : Type 0 where
  pub certificate : Certificate
  pub of : IsOfAct op reply certificate
  pub may : MayEnd M u cs certificate
  pub row : IsMapCertificate (shape_in u) map key certificate
  pub charged : AreCharged t (all_changes cs) certificate.tidy
  pub few : RecordsFew certificate
  pub recorded : RecordsAmong t u certificate

-- so for each map of which the head is that of the key's bucket, and whatever the certificates are
abbrev pub Answers : Meaning → (t u : TxnState) → (head key : ℕ) → (op : ℕ → Op) → Reply → Type 0
Answers M t u head key op reply = (map : ℕ) → IsHeadOf (shape_in t) map key head → (cs : List Certificate) → IsGoing M t cs
    → IsAnswered M t u cs map key (op map) reply

-- the last change of the operation marked the next word of a node, and the unlink of this node is kept with that word. It
-- goes by the word that named the node when the transaction looked there last
pub record KeepsUnlink (t : TxnState) : Type 0 where
  pub node : ℕ
  pub exists : IsNode (shape_in t) node
  pub prev : ℕ
  pub at : Seen
  pub gave : Gave t prev at
  pub names : linked_node at.value ≡ node
  pub slot : Slot
  pub among : Contains t.slots slot
  pub word : slot.write.word ≡ next_word (shape_in t) node
  pub marked : is_marked slot.write.new ≡ true
  pub cleanup : slot.cleanup ≡ Some (Unlink prev node)
  pub earlier : List Change
  pub old : ℕ
  pub last : t.hand.changes ≡ earlier ++ record { word = slot.write.word; old = old; new = slot.write.new } ∷ []
