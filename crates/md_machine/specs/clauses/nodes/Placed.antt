-- What passes know of placed nodes.
use Rattle.std.specs.Prelude.{◌≡◌, ℕ, Bool, List, Contains, Some}
use Rattle.md_machine.specs.declared.node.PlacedNode.{PlacedNode}
use Rattle.md_machine.specs.declared.pass.PassView.{PassView}
use Rattle.md_machine.specs.Machine.{IsAt, Machine}
use Rattle.md_machine.specs.Resolution.{Resolves, placed_under}

-- what a pass noted is placed in every resolution, with its structure
abbrev pub PlacedStay : Machine → Type 0
PlacedStay m = (pass : ℕ) (p : PassView) → IsAt m pass p → (x : PlacedNode) → Contains p.placed x → (choice : List Bool) → Resolves m choice → placed_under m choice x.node ≡ Some x.structure
