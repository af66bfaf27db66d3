-- What an operation of a list needed where a limit refused it: one more word to record or to write, or one more node. The
-- certificate that would have ended it says so.
use Rattle.std.specs.Prelude.{◌≡◌, ◌≢◌, ◌⊎◌, ◌++◌, ℕ, true, false, List, [], ◌∷◌, map, All, Some, None, Result, Err}
use Rattle.md_words.specs.Content.{value_of}
use Rattle.md_words.specs.Layout.{bucket_of}
use Rattle.md_history.specs.declared.acts.Op.{Op}
use Rattle.md_history.specs.declared.acts.Op.TheVariants.{Get}
use Rattle.md_history.specs.declared.acts.Reply.{Reply}
use Rattle.md_history.specs.declared.acts.Reply.TheVariants.{Value}
use Rattle.md_history.specs.declared.stops.Limit.{Limit}
use Rattle.md_history.specs.declared.stops.Stop.{Stop}
use Rattle.md_history.specs.declared.stops.Stop.TheVariants.{Limit as Limited}
use Rattle.md_history.specs.Counts.{changed_nothing}
use Rattle.md_machine.specs.declared.certificate.Certificate.{Certificate}
use Rattle.md_machine.specs.declared.certificate.Change.{Change}
use Rattle.md_machine.specs.declared.certificate.TidyChange.{TidyChange}
use Rattle.md_machine.specs.declared.node.Structure.TheVariants.{Bucket}
use Rattle.md_machine.specs.Certified.{TidiesStandBy, after_wholes, all_changes, content_read, is_written, whole_changes, whole_nodes}
use Rattle.md_machine.specs.LogicalHeap.{LogicalHeap}
use Rattle.md_machine.specs.Meaning.{Meaning}
use Rattle.md_nbtc_law.specs.declared.seen.Seen.{Seen}
use Rattle.md_rule.specs.Steps.{IsOf as IsOfAct}
use Rattle.md_nbtc_law.specs.Calls.{GoesOn}
use Rattle.md_nbtc_law.specs.Course.{StandsNext}
use Rattle.md_nbtc_law.specs.Going.{IsGoing}
use Rattle.md_nbtc_law.specs.Known.{Known, found_by}
use Rattle.md_nbtc_law.specs.Seeing.{Gave}
use Rattle.md_nbtc_law.specs.State.{TxnState, seen_content, shape_in, writes_in}
use Rattle.md_nbtc_law.specs.Tidied.{HasTidied}
use Rattle.md_list_law.specs.Certificates.{IsUnlink}
use Rattle.md_list_law.specs.HasLists.{IsMapCertificate}
use Rattle.md_list.specs.Charged.{AreCharged}
use Rattle.md_list.specs.Operations.{RecordsFew}
use Rattle.md_list.specs.Walking.{IsHeadOf, IsWalking}

-- in a heap, as the transaction sees it, a word that isn't an own one has what was seen there
abbrev pub HasSeen : TxnState → LogicalHeap → (word : ℕ) → Seen → Type 0
HasSeen t h word seen = seen.own ≡ false → (found_by t h).words.value word ≡ value_of (seen_content seen)

module _ (M : Meaning) (t : TxnState) (cs : List Certificate) where
  -- after ended operations with these certificates, a certificate of an operation on a key of a map stands next, wherever
  -- a word has what the latest look at it gave. It is one as an answer has (IsAnswered), but for what was recorded, written
  -- or taken
  pub record WouldStand (map key : ℕ) (op : Op) (reply : Reply) (word : ℕ) (seen : Seen) (c : Certificate) : Type 0 where
    pub of : IsOfAct op reply c
    pub certifies : M.certifies (shape_in t) c
    pub tidies : All (M.tidies (shape_in t)) c.tidy
    pub row : IsMapCertificate (shape_in t) map key c
    pub charged : AreCharged t (all_changes cs) c.tidy
    pub few : RecordsFew c
    pub gave : Gave t word seen
    pub stand : Known M t (λ u h. HasSeen u h word seen → StandsNext M cs c u h)

  -- a certificate would stand next that changes nothing, and records one more word
  pub record OneMoreRead (map key : ℕ) (op : Op) : Type 0 where
    pub word : ℕ
    pub seen : Seen
    pub unwritten : is_written (writes_in t) word ≡ false
    pub unread : content_read t.reads word ≡ None
    pub reply : Reply
    pub nothing : changed_nothing op reply ≡ true
    pub certificate : Certificate
    pub recorded : certificate.recorded ≡ record { word = word; value = seen.value } ∷ []
    pub would : WouldStand map key op reply word seen certificate

  -- one would that makes the changes made so far, and then changes one more word. It places the nodes that were stored
  pub record OneMoreChange (map_of key : ℕ) (op : Op) : Type 0 where
    pub change : Change
    pub seen : Seen
    pub unwritten : is_written (writes_in t) change.word ≡ false
    pub reply : Reply
    pub certificate : Certificate
    pub changes : whole_changes certificate ≡ t.hand.changes ++ change ∷ []
    pub nodes : map (λ n. n.node) (whole_nodes certificate) ≡ t.hand.stored
    pub would : WouldStand map_of key op reply change.word seen certificate

  -- the operation has only unlinked nodes of a bucket so far, and after those unlinks one more, of one more word, would
  -- stand
  pub record OneMoreUnlink (map bucket head : ℕ) : Type 0 where
    pub made : List TidyChange
    pub tidied : HasTidied M t cs made
    pub unlink : TidyChange
    pub seen : Seen
    pub unwritten : is_written (writes_in t) unlink.change.word ≡ false
    pub gave : Gave t unlink.change.word seen
    pub unlinks : All (IsUnlink (shape_in t) (Bucket map bucket) head) (made ++ unlink ∷ [])
    pub tidies : All (M.tidies (shape_in t)) (made ++ unlink ∷ [])
    pub charged : AreCharged t (all_changes cs) (made ++ unlink ∷ [])
    pub stand : Known M t (λ u h. HasSeen u h unlink.change.word seen
        → TidiesStandBy (after_wholes (found_by u h) cs) (after_wholes h cs) (made ++ unlink ∷ []))

  -- the key is absent: a look-up that answers so would stand next
  pub record IsAbsent (map key : ℕ) : Type 0 where
    pub word : ℕ
    pub seen : Seen
    pub certificate : Certificate
    pub would : WouldStand map key (Get map key) (Value None) word seen certificate

-- a call was refused. Before it no word had been recorded since the operation began, and it left the transaction as it was
-- then, but for its pass and the stop
pub record IsRefused (M : Meaning) (t u : TxnState) (s : Stop) (Needs : TxnState → Type 0) : Type 0 where
  pub before : TxnState
  pub on : GoesOn M t before
  pub reads : before.reads ≡ t.reads
  pub same : u ≡ record before { pass = u.pass; stop = Some s }
  pub needs : Needs before

-- if no stop stood and the answer is this limit, a call was refused so
abbrev pub RefusedBy : {A : Type 0} → Limit → Meaning → (t u : TxnState) → Result A Stop → (TxnState → Type 0) → Type 0
RefusedBy limit M t u result Needs = t.stop ≡ None → result ≡ Err (Limited limit) → IsRefused M t u (Limited limit) Needs

-- if no stop stood, the answer isn't this limit
abbrev pub NotRefusedBy : {A : Type 0} → Limit → TxnState → Result A Stop → Type 0
NotRefusedBy limit t result = t.stop ≡ None → result ≢ Err (Limited limit)

-- what was needed, whatever the certificates of the ended operations are, for each map of which the head is that of the
-- key's bucket
abbrev pub NeedsFor : Meaning → TxnState → (head key : ℕ) → ((map : ℕ) → List Certificate → Type 0) → Type 0
NeedsFor M t head key Needs = (map : ℕ) → IsHeadOf (shape_in t) map key head → (cs : List Certificate) → IsGoing M t cs → Needs map cs

module _ (M : Meaning) (t : TxnState) (head : ℕ) where
  -- of a walk
  abbrev pub WalkNeedsSlot : TxnState → Type 0
  WalkNeedsSlot u = (w : IsWalking M t head) → OneMoreUnlink M u w.certificates w.map w.bucket head

  -- a slot for an unlink
  abbrev pub NeedsUnlink : (key : ℕ) → TxnState → Type 0
  NeedsUnlink key u = NeedsFor M t head key (λ map cs. OneMoreUnlink M u cs map (bucket_of (shape_in t) key) head)

  -- a slot, for an unlink or for the operation's own change
  abbrev pub NeedsSlot : (key : ℕ) → (op : ℕ → Op) → TxnState → Type 0
  NeedsSlot key op u = NeedsFor M t head key (λ map cs.
      OneMoreUnlink M u cs map (bucket_of (shape_in t) key) head ⊎ OneMoreChange M u cs map key (op map))

  abbrev pub NeedsRead : (key : ℕ) → (op : ℕ → Op) → TxnState → Type 0
  NeedsRead key op u = NeedsFor M t head key (λ map cs. OneMoreRead M u cs map key (op map))

  -- a node: none was taken, and the key is absent
  abbrev pub NeedsNode : (key : ℕ) → TxnState → Type 0
  NeedsNode key u = (u.nodes ≡ t.nodes) × NeedsFor M t head key (λ map cs. IsAbsent M u cs map key)

-- a node for an operation that takes one in any case: none was taken
abbrev pub NeedsNewNode : (t u : TxnState) → Type 0
NeedsNewNode t u = u.nodes ≡ t.nodes
