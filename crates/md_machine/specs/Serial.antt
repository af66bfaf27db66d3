-- What the theorem says to a reader: the words stand for what one thread would have.
use Rattle.std.specs.Prelude.{◌≡◌, Bool, List}
use Rattle.md_history.specs.State.{IsRight, run}
use Rattle.md_history.specs.History.{kept_acts}
use Rattle.md_machine.specs.declared.opening.Opening.{Opening}
use Rattle.md_machine.specs.Event.{CanOpen, Event, Runs, opened}
use Rattle.md_machine.specs.Legal.{opening_state}
use Rattle.md_machine.specs.Machine.{Machine}
use Rattle.md_machine.specs.Meaning.{Meaning}
use Rattle.md_machine.specs.Resolution.{Resolves, entries_of, logical_heap}

module _ (M : Meaning) where
  -- however the undecided end: the words stand for the state that one thread leaves which runs the kept transactions one
  -- after another, in the order in which they became ready, and each reply is the one that it gets
  pub record IsSerial (o : Opening) (m : Machine) (choice : List Bool) : Type 0 where
    pub state : M.state (logical_heap m choice).words ≡ run (opening_state M o) (kept_acts (entries_of m.history) choice)
    pub replies : IsRight (opening_state M o) (kept_acts (entries_of m.history) choice)

  -- so it is after every list of events
  abbrev pub SchedulesAreSerial : Type 0
  SchedulesAreSerial = (o : Opening) (events : List Event) (m : Machine) (choice : List Bool) → CanOpen M o → Runs M (opened o) events m → Resolves m choice → IsSerial o m choice
