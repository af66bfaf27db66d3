-- The event store: a transaction writes an own node, or a read or slot of its descriptor.
use Rattle.std.specs.Prelude.{◌≡◌, ◌==◌, ◌+◌, ◌<◌, ℕ, true, false, List, [], ◌∷◌, ◌++◌, Some, if◌then◌else◌}
use Rattle.std.specs.List.{list_any}
use Rattle.md_words.specs.Content.{count_of, is_even}
use Rattle.md_words.specs.Place.{Place, node_key, node_value, node_next, read_word, read_content, slot_word, slot_old, slot_new}
use Rattle.md_words.specs.Layout.{words_of}
use Rattle.md_words.specs.PlaceAt.{place_at, IsCounted}
use Rattle.md_machine.specs.declared.attempt.AttemptId.{AttemptId}
use Rattle.md_machine.specs.declared.attempt.Hand.{Hand}
use Rattle.md_machine.specs.declared.certificate.Change.{Change}
use Rattle.md_machine.specs.declared.step.TheConstants.{VALUES}
use Rattle.md_machine.specs.declared.step.Kind.TheVariants.{Store}
use Rattle.md_machine.specs.declared.pass.PassView.{PassView}
use Rattle.md_machine.specs.Machine.{Machine, content, is_installed, is_ready, shape_of, word_at}
use Rattle.md_machine.specs.Own.{IsOwnNode}
use Rattle.md_machine.specs.Stepping.{replaced, stepped}

-- a store to a next word: it isn't under a descriptor, and the new count is even and 2 more
pub record MayStoreNext (old value : ℕ) : Type 0 where
  pub even : is_even (count_of old) ≡ true
  pub more : count_of value ≡ count_of old + 2

-- which word may be stored, and what: an own node's, or one of a read or a slot of the attempt. What is stored as a
-- word names a counted word. A slot's word and old content are stored only before the slot was installed
abbrev pub MayStoreAt : Machine → PassView → AttemptId → (old value : ℕ) → Place → Type 0
MayStoreAt m p a old value (node_key node) = IsOwnNode m p node
MayStoreAt m p a old value (node_value node) = IsOwnNode m p node
MayStoreAt m p a old value (node_next node) = IsOwnNode m p node × MayStoreNext old value
MayStoreAt m p a old value (read_word desc i) = (desc ≡ a.desc) × IsCounted (shape_of m) value
MayStoreAt m p a old value (read_content desc i) = desc ≡ a.desc
MayStoreAt m p a old value (slot_word desc j) = (desc ≡ a.desc) × IsCounted (shape_of m) value × (is_installed m.installs a j ≡ false)
MayStoreAt m p a old value (slot_old desc j) = (desc ≡ a.desc) × (is_installed m.installs a j ≡ false)
MayStoreAt m p a old value (slot_new desc j) = (desc ≡ a.desc) × (value < VALUES)
MayStoreAt m p a old value _ = ⊥

pub record MayStore (m : Machine) (p : PassView) (h : Hand) (word value : ℕ) : Type 0 where
  pub held : p.hand ≡ Some h
  pub unready : is_ready m.history h.attempt ≡ false
  pub exists : word < words_of (shape_of m)
  pub place : MayStoreAt m p h.attempt (content m word) value (place_at (shape_of m) word)

-- what the store changes of the transaction's slots: an installed one gets a new value
abbrev pub changes_by_store : Machine → AttemptId → (old value : ℕ) → Place → List Change → List Change
changes_by_store m a old value (slot_new desc j) changes =
    if is_installed m.installs a j
    then changes ++ (record { word = word_at (shape_of m) m.words (slot_word desc j); old = old; new = value }) ∷ []
    else changes
changes_by_store m a old value _ changes = changes

-- the nodes that were stored, each once
abbrev pub and_node : List ℕ → ℕ → List ℕ
and_node nodes node = if list_any (λ n. n == node) nodes then nodes else nodes ++ node ∷ []

abbrev pub stored_by_store : Place → List ℕ → List ℕ
stored_by_store (node_key node) nodes = and_node nodes node
stored_by_store (node_value node) nodes = and_node nodes node
stored_by_store (node_next node) nodes = and_node nodes node
stored_by_store _ nodes = nodes

abbrev pub hand_after_store : Machine → Hand → (word value : ℕ) → Hand
hand_after_store m h word value = record h {
  changes = changes_by_store m h.attempt (content m word) value (place_at (shape_of m) word) h.changes;
  stored = stored_by_store (place_at (shape_of m) word) h.stored;
}

abbrev pub view_after_store : Machine → PassView → Hand → (word value : ℕ) → PassView
view_after_store m p h word value = record (stepped m p Store word value) { hand = Some (hand_after_store m h word value) }

abbrev pub after_store : Machine → (pass : ℕ) → PassView → Hand → (word value : ℕ) → Machine
after_store m pass p h word value = replaced m pass (view_after_store m p h word value) word value
