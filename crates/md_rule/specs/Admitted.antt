-- The machines that a field may be.
use Rattle.std.specs.Prelude.{◌≡◌, List}
use Rattle.md_machine.specs.Event.{CanOpen, Event, Runs, opened}
use Rattle.md_machine.specs.Machine.{Machine, shape_of}
use Rattle.md_machine.specs.Meaning.{Meaning}
use Rattle.md_rule.specs.Views.{Origin}

-- events lead to the machine from an opening with this shape and these words. The theorem over all schedules is of
-- every such machine
pub record Admitted (M : Meaning) (o : Origin) (m : Machine) : Type 0 where
  pub shape : shape_of m ≡ o.shape
  pub words : m.opening.words ≡ o.words
  pub opens : CanOpen M m.opening
  pub events : List Event
  pub runs : Runs M (opened m.opening) events m
