-- Which nodes a pass knows to be free.
use Rattle.std.specs.Prelude.{◌≡◌, ℕ, true, List, None}
use Rattle.md_history.specs.declared.entries.Fate.{Fate}
use Rattle.md_machine.specs.declared.attempt.HistoryEntry.{HistoryEntry}
use Rattle.md_machine.specs.declared.pass.PassView.{PassView}
use Rattle.md_machine.specs.Machine.{IsAt, Machine, shape_of}
use Rattle.md_machine.specs.Own.{HasNode}
use Rattle.md_machine.specs.Resolution.{greatest, kept_structure, never_placed}

-- none of some entries places the node, of those that may commit by these fates
abbrev pub IsFreeBy : List HistoryEntry → List Fate → (node : ℕ) → Type 0
IsFreeBy es fs node = kept_structure es (greatest es fs) node ≡ None

-- a node of a pass's lanes is placed in no resolution, if it is free by the entries that the pass has seen and the
-- fates that it knows
abbrev pub FreeAreUnplaced : Machine → Type 0
FreeAreUnplaced m = (pass : ℕ) (p : PassView) → IsAt m pass p → (node : ℕ) → HasNode (shape_of m) p node
    → IsFreeBy p.seen p.known node → never_placed m node ≡ true
