-- How a store is closed whose contents are to be known in part.
use Rattle.std.specs.Prelude.{List}
use Rattle.md_history.specs.Front.{Front}
use Rattle.md_history.specs.State.{HaveSameNumbers, State}
use Rattle.md_many.specs.Closed.{IsClosed}
use Rattle.md_report.specs.Sums.{HaveSameSums}

-- A store was closed (`IsClosed`), and contents are told in place of the whole ones that it leaves: they have the same
-- numbers of maps and queues, and the sums that a report has.
pub record IsClosedForReport (start : State) (before : List Front) (f : Front) (fronts : List Front) (told : State) : Type 0 where
  pub whole : State
  pub closed : IsClosed start before f fronts whole
  pub numbers : HaveSameNumbers told whole
  pub sums : HaveSameSums told whole
