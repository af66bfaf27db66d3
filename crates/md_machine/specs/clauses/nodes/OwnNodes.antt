-- Which entries a pass has seen that place nodes of its lanes.
use Rattle.std.specs.Prelude.{◌≡◌, ℕ, List, Contains}
use mathlib.Core.Option.{some}
use lib.ListN.{get_elem?}
use Rattle.md_words.specs.declared.shape.Shape.{Shape}
use Rattle.md_machine.specs.declared.attempt.HistoryEntry.{HistoryEntry}
use Rattle.md_machine.specs.declared.node.PlacedNode.{PlacedNode}
use Rattle.md_machine.specs.declared.pass.PassView.{PassView}
use Rattle.md_machine.specs.Own.{HasNode}

-- each entry that places a node of a pass's lanes stands in what that pass has seen
abbrev pub OwnNodesSeen : Shape → List HistoryEntry → List PassView → Type 0
OwnNodesSeen shape history passes = (pass : ℕ) (p : PassView) → get_elem? passes pass ≡ some p
    → (e : HistoryEntry) → Contains history e → (x : PlacedNode) → Contains e.placed x → HasNode shape p x.node → Contains p.seen e
