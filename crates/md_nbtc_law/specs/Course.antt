-- The certificates of a transaction, one for each ended operation, and the next one.
use Rattle.std.specs.Prelude.{◌≡◌, ◌==◌, ℕ, false, List, [], ◌∷◌, ◌++◌, map, All, Contains, Option, Some, None, if◌then◌else◌}
use Rattle.std.specs.List.{list_any}
use Rattle.md_words.specs.Layout.{address}
use Rattle.md_words.specs.Place.{node_next}
use Rattle.md_history.specs.Act.{act_of}
use Rattle.md_machine.specs.declared.attempt.Write.{Write}
use Rattle.md_machine.specs.declared.certificate.Certificate.{Certificate}
use Rattle.md_machine.specs.declared.certificate.Change.{Change}
use Rattle.md_machine.specs.declared.certificate.NewNode.{NewNode}
use Rattle.md_machine.specs.Certified.{AllStandBy, RecordsFound, TidiesStandBy, after_tidies, after_wholes, all_changes, all_nodes, is_written, whole_changes, whole_nodes}
use Rattle.md_machine.specs.LogicalHeap.{LogicalHeap, is_settled}
use Rattle.md_machine.specs.Meaning.{Meaning, StandsBy}
use Rattle.md_machine.specs.Resolution.{or_else}
use Rattle.md_nbtc_law.specs.Known.{Known, found_by}
use Rattle.md_nbtc_law.specs.State.{OwnNode, TxnState, shape_in, writes_in}

-- what the last change of a word among some made of it
abbrev pub last_new : List Change → (word : ℕ) → Option ℕ
last_new [] word = None
last_new (c ∷ cs) word = or_else (last_new cs word) (if c.word == word then Some c.new else None)

-- a new node is an own one with the words that were stored in it, and its next word isn't settled yet
abbrev pub stored_words : NewNode → OwnNode
stored_words n = record { node = n.node; key = n.key; value = n.value; next = n.next }

pub record IsStoredNode (t : TxnState) (n : NewNode) : Type 0 where
  pub own : Contains t.nodes (stored_words n)
  pub unsettled : is_settled n.structure n.next ≡ false

-- each slot has the new value that the last of some changes made, and its word is one of those that they change; they
-- change no other word
pub record ChangesAreWrites (t : TxnState) (changes : List Change) : Type 0 where
  pub exactly : (word : ℕ) → is_written (writes_in t) word ≡ list_any (λ c. c.word == word) changes
  pub last : All (λ (w : Write). last_new changes w.word ≡ Some w.new) (writes_in t)

-- after certificates a word that they change has the value that the last of their changes made, in whatever heap
abbrev pub ChangesLast : TxnState → List Certificate → Type 0
ChangesLast t cs = (h : LogicalHeap) → h.words.shape ≡ shape_in t → (word new : ℕ) → last_new (all_changes cs) word ≡ Some new
    → (after_wholes h cs).words.value word ≡ new

module _ (M : Meaning) where
  -- the ended operations have these certificates, which stand one after another whatever becomes of the rest
  pub record IsCourse (t : TxnState) (cs : List Certificate) : Type 0 where
    pub acts : t.hand.acts ≡ map (λ c. act_of c.op c.reply) cs
    pub certifies : All (M.certifies (shape_in t)) cs
    pub tidies : All (λ c. All (M.tidies (shape_in t)) c.tidy) cs
    pub recorded : All (RecordsFound t.reads (writes_in t)) cs
    pub changes : ChangesAreWrites t (all_changes cs ++ t.hand.changes)
    pub last : ChangesLast t cs
    -- their nodes are those that were taken before this operation, in order, with the words that were stored
    pub order : map (λ n. n.node) t.nodes ≡ map (λ n. n.node) (all_nodes cs) ++ t.hand.stored
    pub nodes : All (IsStoredNode t) (all_nodes cs)
    pub stand : Known M t (λ u h. AllStandBy (found_by u h) h cs)

  -- a certificate stands after those of the ended operations, by what the transaction sees
  pub record StandsNext (cs : List Certificate) (c : Certificate) (u : TxnState) (h : LogicalHeap) : Type 0 where
    pub tidies : TidiesStandBy (after_wholes (found_by u h) cs) (after_wholes h cs) c.tidy
    pub stands : StandsBy (after_tidies (after_wholes (found_by u h) cs) c.tidy) (after_tidies (after_wholes h cs) c.tidy) c

  -- an operation may be ended by a certificate: its changes and new nodes are those that were made and stored since the
  -- operation began, what it records was recorded or written, and it stands next
  pub record MayEnd (t : TxnState) (cs : List Certificate) (c : Certificate) : Type 0 where
    pub certifies : M.certifies (shape_in t) c
    pub tidies : All (M.tidies (shape_in t)) c.tidy
    pub changes : whole_changes c ≡ t.hand.changes
    pub order : map (λ n. n.node) (whole_nodes c) ≡ t.hand.stored
    pub nodes : All (IsStoredNode t) (whole_nodes c)
    -- the next word of a new node isn't changed before the node is placed
    pub unchanged : All (λ n. is_written (writes_in t) (address (shape_in t) (node_next n.node)) ≡ false) (whole_nodes c)
    pub recorded : RecordsFound t.reads (writes_in t) c
    pub stand : Known M t (StandsNext cs c)
