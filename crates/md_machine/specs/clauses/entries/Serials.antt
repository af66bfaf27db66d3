-- In which order the entries of a descriptor stand, and that they were begun.
use Rattle.std.specs.Prelude.{◌≡◌, ◌<◌, true, List, [], ◌∷◌, Contains}
use Rattle.md_machine.specs.declared.attempt.HistoryEntry.{HistoryEntry}
use Rattle.md_machine.specs.Machine.{Machine, was_begun}

-- of each descriptor, later entries are of later attempts
abbrev pub SerialsRise : List HistoryEntry → Type 0
SerialsRise [] = Unit {0}
SerialsRise (e ∷ es) = ((x : HistoryEntry) → Contains es x → x.attempt.desc ≡ e.attempt.desc → e.attempt.serial < x.attempt.serial) × SerialsRise es

-- so it is, and each entry's attempt was in hand
pub record EntriesInTurn (m : Machine) : Type 0 where
  pub rise : SerialsRise m.history
  pub begun : (e : HistoryEntry) → Contains m.history e → was_begun m.begun e.attempt ≡ true
