-- What a transaction tidies after it has committed.
use Rattle.std.specs.Prelude.{◌≡◌, ◌≢◌, ◌==◌, ◌-◌, ◌⊎◌, ℕ, true, false, List, [], map, All, Contains, Some, None, IfSome, if◌then◌else◌}
use Rattle.md_words.specs.Layout.{IsNode, address}
use Rattle.md_words.specs.Link.{is_marked, link_value}
use Rattle.md_words.specs.Place.{node_next}
use Rattle.md_words.specs.PlaceAt.{IsCounted}
use Rattle.md_machine.specs.declared.attempt.Write.{Write}
use Rattle.md_machine.specs.declared.certificate.Certificate.{Certificate}
use Rattle.md_machine.specs.declared.certificate.Fact.{Fact}
use Rattle.md_machine.specs.declared.certificate.TidyChange.{TidyChange}
use Rattle.md_machine.specs.declared.node.Structure.{Structure}
use Rattle.md_machine.specs.declared.node.Structure.TheVariants.{Bucket, Queue}
use Rattle.md_machine.specs.Certified.{placed_by}
use Rattle.md_machine.specs.Meaning.{Meaning}
use Rattle.md_nbtc_law.specs.declared.seen.Cleanup.{Cleanup}
use Rattle.md_nbtc_law.specs.declared.seen.Cleanup.TheVariants.{MoveTail, Unlink}
use Rattle.md_nbtc_law.specs.declared.slots.Slot.{Slot}
use Rattle.md_nbtc_law.specs.Known.{KnowsPlaced}
use Rattle.md_nbtc_law.specs.Seeing.{MayChange}
use Rattle.md_nbtc_law.specs.State.{TxnState, shape_in, writes_in}

-- the word that it will change, and the node whose next word it goes by
abbrev pub cleanup_word : Cleanup → ℕ
cleanup_word (Unlink prev node) = prev
cleanup_word (MoveTail tail from to) = tail

abbrev pub cleanup_node : Cleanup → ℕ
cleanup_node (Unlink prev node) = node
cleanup_node (MoveTail tail from to) = from

-- what the node's next word must have then: the mark, or it names the node to which the tail is moved, which isn't none
abbrev pub FitsCleanup : Cleanup → (value : ℕ) → Type 0
FitsCleanup (Unlink prev node) value = is_marked value ≡ true
FitsCleanup (MoveTail tail from to) value = (value ≡ link_value to false) × (value ≢ 0)

-- the value that the word gets by a value of the next word
abbrev pub cleanup_value : Cleanup → (next : ℕ) → ℕ
cleanup_value (Unlink prev node) next = next - 1
cleanup_value (MoveTail tail from to) next = next

-- the node is placed in the structure: it is known, or an ended operation placed it
abbrev pub IsPlacedIn : Meaning → TxnState → List Certificate → (node : ℕ) → Structure → Type 0
IsPlacedIn M t cs node structure = KnowsPlaced M t node structure
    ⊎ Contains (placed_by cs) (record { node = node; structure = structure })

-- the node of an unlink is one of a bucket, that of a move of the tail one of a queue
abbrev pub IsPlacedFor : Meaning → TxnState → List Certificate → Cleanup → Type 0
IsPlacedFor M t cs (Unlink prev node) = (map : ℕ) × (bucket : ℕ) × IsPlacedIn M t cs node (Bucket map bucket)
IsPlacedFor M t cs (MoveTail tail from to) = (queue : ℕ) × IsPlacedIn M t cs from (Queue queue)

-- a fact that will do: of a placed node, and of that node's next word alone
pub record IsFactLater (M : Meaning) (t : TxnState) (cs : List Certificate) (node next : ℕ) (f : Fact) : Type 0 where
  pub placed : IsPlacedIn M t cs f.node f.structure
  pub key : f.key ≡ None
  pub value : f.value ≡ None
  pub of_next : (f.next ≡ None) ⊎ ((f.node ≡ node) × (f.next ≡ Some next))

-- a change of the word will be tidy in the theory, once the next word of the node has this value
pub record TidiesLater (M : Meaning) (t : TxnState) (cs : List Certificate) (c : Cleanup) (next : ℕ) : Type 0 where
  pub tidy : TidyChange
  pub bare : tidy.nodes ≡ []
  pub change : tidy.change ≡ record { word = cleanup_word c; old = link_value (cleanup_node c) false; new = cleanup_value c next }
  pub tidies : M.tidies (shape_in t) tidy
  pub facts : All (IsFactLater M t cs (cleanup_node c) next) tidy.facts

-- a cleanup that may be kept: the word may be changed, by a tidy change for each value that fits
pub record MayTidyLater (M : Meaning) (t : TxnState) (cs : List Certificate) (c : Cleanup) : Type 0 where
  pub counted : IsCounted (shape_in t) (cleanup_word c)
  pub place : MayChange M t (cleanup_word c)
  pub of : IsPlacedFor M t cs c
  pub tidies : (next : ℕ) → FitsCleanup c next → TidiesLater M t cs c next

-- the node's next word is a written one whose new value fits
pub record IsWrittenFor (t : TxnState) (c : Cleanup) : Type 0 where
  pub exists : IsNode (shape_in t) (cleanup_node c)
  pub write : Write
  pub among : Contains (writes_in t) write
  pub there : write.word ≡ address (shape_in t) (node_next (cleanup_node c))
  pub fits : FitsCleanup c write.new

-- it is kept with the slot of the node's next word, whose new value fits
pub record IsKeptCleanup (M : Meaning) (t : TxnState) (cs : List Certificate) (w : Write) (c : Cleanup) : Type 0 where
  pub exists : IsNode (shape_in t) (cleanup_node c)
  pub word : w.word ≡ address (shape_in t) (node_next (cleanup_node c))
  pub fits : FitsCleanup c w.new
  pub may : MayTidyLater M t cs c

-- a new value of a word still fits the cleanup that is kept with its slot
abbrev pub CleanupsStay : TxnState → (word to : ℕ) → Type 0
CleanupsStay t word to = All (λ (s : Slot). s.write.word ≡ word → IfSome s.cleanup (λ c. FitsCleanup c to)) t.slots

-- the slot of the word keeps the cleanup, in place of one that was kept there
abbrev pub with_cleanup : (word : ℕ) → Cleanup → Slot → Slot
with_cleanup word c s = if s.write.word == word then record s { cleanup = Some c } else s

-- the slot of the node's next word keeps it
abbrev pub with_cleanup_kept : TxnState → Cleanup → List Slot
with_cleanup_kept t c = map (with_cleanup (address (shape_in t) (node_next (cleanup_node c))) c) t.slots
