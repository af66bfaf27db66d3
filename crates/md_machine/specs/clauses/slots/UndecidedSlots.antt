-- Which nodes the slots of attempts name that may still commit.
use Rattle.std.specs.Prelude.{◌≡◌, ◌&&◌, ◌||◌, not, ℕ, Bool, true, false, List, ◌∷◌, Contains}
use Rattle.md_words.specs.Link.{linked_node}
use Rattle.md_words.specs.Place.{slot_new}
use Rattle.md_history.specs.declared.entries.Fate.{Fate}
use Rattle.md_machine.specs.declared.attempt.AttemptId.{AttemptId}
use Rattle.md_machine.specs.declared.attempt.HistoryEntry.{HistoryEntry}
use Rattle.md_machine.specs.Machine.{Install, Machine, same_attempt, shape_of, word_at}
use Rattle.md_machine.specs.Meaning.{Meaning, NamesPlaced}
use Rattle.md_machine.specs.Resolution.{greatest, logical_heap}
use Rattle.md_machine.specs.events.Start.{is_decided}

-- the attempt has an entry that is undecided and sound
abbrev pub may_still_commit : List HistoryEntry → List Fate → AttemptId → Bool
may_still_commit (e ∷ es) (f ∷ fs) a =
    (same_attempt e.attempt a && (not (is_decided f) && e.entry.sound)) || may_still_commit es fs a
may_still_commit _ _ a = false

-- what stands as the new value in the slot of an install
abbrev pub new_value_of : Machine → Install → ℕ
new_value_of m i = word_at (shape_of m) m.words (slot_new i.attempt.desc i.slot)

module _ (M : Meaning) where
  -- the slot of an install in a link
  pub record IsLinkSlot (m : Machine) (i : Install) : Type 0 where
    pub made : Contains m.installs i
    pub link : M.links (shape_of m) i.word

  -- such a slot names a node
  abbrev pub NamesNode : Machine → Install → (node : ℕ) → Type 0
  NamesNode m i node = IsLinkSlot m i × (linked_node (new_value_of m i) ≡ node)

  -- where the attempt may still commit, it names none or one that the greatest resolution places
  abbrev pub UndecidedNamePlaced : Machine → Type 0
  UndecidedNamePlaced m = (i : Install) → IsLinkSlot m i → may_still_commit m.history m.fates i.attempt ≡ true
      → NamesPlaced (logical_heap m (greatest m.history m.fates)) (new_value_of m i)
