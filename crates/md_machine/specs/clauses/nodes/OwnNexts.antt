-- Which installs in next words the trail of a pass shows.
use Rattle.std.specs.Prelude.{◌≡◌, ℕ, false, Contains}
use Rattle.md_words.specs.declared.shape.Shape.{Shape}
use Rattle.md_words.specs.Layout.{address}
use Rattle.md_words.specs.Place.{node_next}
use Rattle.md_machine.specs.declared.pass.PassView.{PassView}
use Rattle.md_machine.specs.Machine.{Install, IsAt, Machine, shape_of}
use Rattle.md_machine.specs.Own.{HasNode}
use Rattle.md_machine.specs.Resolution.{always_placed}
use Rattle.md_machine.specs.Trail.{SomeStepOf}
use Rattle.md_machine.specs.clauses.slots.OwnInstalls.{WonIt}

-- a pass won the install, if it was made in the next word of a node of its lanes that some resolution doesn't place
abbrev pub ShowsOwnNext : Shape → Machine → PassView → Install → Type 0
ShowsOwnNext shape m p i = (node : ℕ) → HasNode shape p node → always_placed m node ≡ false
    → i.word ≡ address shape (node_next node) → SomeStepOf p (WonIt i)

-- so it is of each install that was ever made, by whatever attempt, and whoever holds the descriptor's lane
abbrev pub OwnNextsShown : Machine → Type 0
OwnNextsShown m = (i : Install) → Contains m.installs i → (pass : ℕ) (p : PassView) → IsAt m pass p
    → ShowsOwnNext (shape_of m) m p i
