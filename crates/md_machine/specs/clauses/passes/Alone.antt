-- What a pass that holds all lanes knows.
use Rattle.std.specs.Prelude.{◌≡◌, ◌≢◌, ◌<◌, ℕ, false, List, [], ◌∷◌, Contains}
use Rattle.md_words.specs.declared.shape.Shape.{Shape}
use Rattle.md_machine.specs.declared.attempt.HistoryEntry.{HistoryEntry}
use Rattle.md_machine.specs.declared.step.Step.{Step}
use Rattle.md_machine.specs.declared.pass.PassView.{PassView}
use Rattle.md_machine.specs.Machine.{IsAt, IsLive, Machine, content, shape_of, IsPresentIn}
use Rattle.md_machine.specs.events.Start.{knows_decided}

-- the pass holds every lane of the field
abbrev pub HoldsAll : Shape → PassView → Type 0
HoldsAll shape p = (lane : ℕ) → lane < shape.lanes → Contains p.lanes lane

-- the last of some steps on each word left what stands there
abbrev pub LastStand : Machine → List Step → Type 0
LastStand m [] = Unit {0}
LastStand m (s ∷ steps) = (((t : Step) → Contains steps t → t.word ≢ s.word) → content m s.word ≡ s.after) × LastStand m steps

-- no other pass is live, what the pass's last segment left in words stands there, it has seen the whole history, and an
-- entry that it doesn't know to be decided is of a present attempt
pub record IsAlone (m : Machine) (pass : ℕ) (p : PassView) : Type 0 where
  pub no_other : (other : ℕ) (q : PassView) → IsAt m other q → IsLive q → other ≡ pass
  pub words : LastStand m p.trail
  pub seen : p.seen ≡ m.history
  pub undecided : (e : HistoryEntry) → Contains m.history e → knows_decided p.seen p.known e.attempt ≡ false → IsPresentIn (shape_of m) m.words e.attempt

-- so it is of each pass that holds all lanes
abbrev pub HoldersAreAlone : Machine → Type 0
HoldersAreAlone m = (pass : ℕ) (p : PassView) → IsAt m pass p → HoldsAll (shape_of m) p → IsAlone m pass p
