-- What every event keeps of the meaning: each logical heap is a replay, and the history is legal, as each pass has seen it
-- too.
use Rattle.std.specs.Prelude.{◌≡◌, ℕ, Bool, List}
use Rattle.md_history.specs.State.{run}
use Rattle.md_history.specs.History.{IsLegal, kept_acts}
use Rattle.md_machine.specs.declared.pass.PassView.{PassView}
use Rattle.md_machine.specs.Legal.{opening_state}
use Rattle.md_machine.specs.Machine.{IsAt, Machine}
use Rattle.md_machine.specs.Meaning.{Meaning}
use Rattle.md_machine.specs.Resolution.{Resolves, entries_of, logical_heap}

module _ (M : Meaning) where
  -- the history is legal, whatever becomes of the undecided
  abbrev pub HistoryIsLegal : Machine → Type 0
  HistoryIsLegal m = IsLegal (opening_state M m.opening) (entries_of m.history) m.fates

  -- a resolution's logical heap is valid, and its state is the replay of the entries that it keeps
  pub record IsReplay (m : Machine) (choice : List Bool) : Type 0 where
    pub valid : M.valid (logical_heap m choice)
    pub state : M.state (logical_heap m choice).words ≡ run (opening_state M m.opening) (kept_acts (entries_of m.history) choice)

  abbrev pub EveryHeapIsReplay : Machine → Type 0
  EveryHeapIsReplay m = (choice : List Bool) → Resolves m choice → IsReplay m choice

  -- what each pass has seen is legal, whatever becomes of the entries that it doesn't know to be decided
  abbrev pub FrontsLegal : Machine → Type 0
  FrontsLegal m = (pass : ℕ) (p : PassView) → IsAt m pass p → IsLegal (opening_state M m.opening) (entries_of p.seen) p.known
