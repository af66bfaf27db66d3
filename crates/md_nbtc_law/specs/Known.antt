-- What a transaction knows of the field: whatever others do, and however the undecided end.
use Rattle.std.specs.Prelude.{◌≡◌, ℕ, Bool, List, Some}
use Rattle.md_history.specs.Front.{IsPrefix}
use Rattle.md_machine.specs.declared.certificate.Fact.{Fact}
use Rattle.md_machine.specs.declared.node.Structure.{Structure}
use Rattle.md_machine.specs.Certified.{as_found}
use Rattle.md_machine.specs.Event.{Acts}
use Rattle.md_machine.specs.LogicalHeap.{Holds, IsNoUnplacedNext, LogicalHeap}
use Rattle.md_machine.specs.Machine.{Machine}
use Rattle.md_machine.specs.Meaning.{KeepsFacts, Meaning}
use Rattle.md_machine.specs.Resolution.{Resolves, logical_heap}
use Rattle.md_rule.specs.Admitted.{Admitted}
use Rattle.md_nbtc_law.specs.Prepared.{IsPrepared}
use Rattle.md_nbtc_law.specs.State.{SameFront, TxnState, attempt_in, installs_in, writes_in}

-- a later state of the same transaction: what it did and has stays, and so does the front of its pass
pub record IsLater (t u : TxnState) : Type 0 where
  pub field : u.field ≡ t.field
  pub began : u.began ≡ t.began
  pub attempt : attempt_in u ≡ attempt_in t
  pub tag : u.hand.tag ≡ t.hand.tag
  pub lanes : u.pass.view.lanes ≡ t.pass.view.lanes
  pub past : u.pass.view.past ≡ t.pass.view.past
  pub steps : IsPrefix t.pass.view.trail u.pass.view.trail
  pub noted : IsPrefix t.pass.view.placed u.pass.view.placed
  pub reads : IsPrefix t.reads u.reads
  pub installs : IsPrefix (installs_in t) (installs_in u)
  pub nodes : IsPrefix t.nodes u.nodes
  pub front : SameFront t.pass u.pass

module _ (M : Meaning) where
  -- a logical heap of the field, as far as the transaction can know: of some machine of it in which the pass stands so,
  -- under some resolution
  pub record IsHeapOf (t : TxnState) (h : LogicalHeap) : Type 0 where
    pub machine : Machine
    pub admitted : Admitted M t.field.origin machine
    pub pass : ℕ
    pub acts : Acts machine pass t.pass.view
    pub choice : List Bool
    pub resolves : Resolves machine choice
    pub is : h ≡ logical_heap machine choice

  -- something is true of each such heap, now and at any later time of the preparation. So it stays known
  abbrev pub Known : TxnState → (TxnState → LogicalHeap → Type 0) → Type 0
  Known t P = (u : TxnState) → IsLater t u → IsPrepared u → (h : LogicalHeap) → IsHeapOf u h → P u h

  -- a fact is known, and a node is known to be placed
  abbrev pub KnowsFact : TxnState → Fact → Type 0
  KnowsFact t f = Known t (λ u h. Holds h f)

  abbrev pub KnowsPlaced : TxnState → (node : ℕ) → Structure → Type 0
  KnowsPlaced t node structure = Known t (λ u h. h.placed node ≡ Some structure)

  -- a value was in a word of a valid heap whose facts are facts of this one. (Nothing says that the word has the value
  -- now.)
  pub record WasThere (h : LogicalHeap) (word value : ℕ) : Type 0 where
    pub heap : LogicalHeap
    pub valid : M.valid heap
    pub shape : heap.words.shape ≡ h.words.shape
    pub is : heap.words.value word ≡ value
    pub rooted : IsNoUnplacedNext heap word
    pub facts : KeepsFacts heap h

  -- the transaction met the value in the word
  abbrev pub Met : TxnState → (word value : ℕ) → Type 0
  Met t word value = Known t (λ u h. WasThere h word value)

-- a heap as the transaction sees it: in words that it recorded or changes stands what it found there first
abbrev pub found_by : TxnState → LogicalHeap → LogicalHeap
found_by t h = as_found t.reads (writes_in t) h
