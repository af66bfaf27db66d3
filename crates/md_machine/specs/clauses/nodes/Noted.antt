-- What passes noted is placed in the smallest resolution, which is what flags tell.
use Rattle.std.specs.Prelude.{◌≡◌, ℕ, true, Contains}
use Rattle.md_machine.specs.declared.node.PlacedNode.{PlacedNode}
use Rattle.md_machine.specs.declared.pass.PassView.{PassView}
use Rattle.md_machine.specs.Machine.{IsAt, Machine}
use Rattle.md_machine.specs.Resolution.{always_placed}

-- what a pass noted is always placed
abbrev pub NotedArePlaced : Machine → Type 0
NotedArePlaced m = (pass : ℕ) (p : PassView) → IsAt m pass p → (x : PlacedNode) → Contains p.placed x → always_placed m x.node ≡ true
