-- Committed entries are sound.
use Rattle.std.specs.Prelude.{◌≡◌, Contains, List}
use Rattle.std.specs.List.{list_all}
use Rattle.md_history.specs.History.{AllCommittedSound}
use Rattle.md_machine.specs.declared.attempt.HistoryEntry.{HistoryEntry}
use Rattle.md_machine.specs.Machine.{Machine}
use Rattle.md_machine.specs.Resolution.{entries_of}

-- an entry is sound where all its reads stood
abbrev pub FlagsTell : List HistoryEntry → Type 0
FlagsTell history = (e : HistoryEntry) → Contains history e → e.entry.sound ≡ list_all (λ r. r.stood) e.reads

pub record CommittedAreSound (m : Machine) : Type 0 where
  pub flags : FlagsTell m.history
  pub sound : AllCommittedSound (entries_of m.history) m.fates
