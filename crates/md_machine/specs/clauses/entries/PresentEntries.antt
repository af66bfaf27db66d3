-- Which present attempts have entries.
use Rattle.std.specs.Prelude.{◌≡◌, ◌<◌, ℕ, Contains, ◌⊎◌}
use Rattle.md_words.specs.declared.status.Status.TheVariants.{InPrep, Aborted}
use Rattle.md_words.specs.Status.{status_of, reads_of}
use Rattle.md_words.specs.Layout.{desc_count}
use Rattle.md_machine.specs.declared.attempt.HistoryEntry.{HistoryEntry}
use Rattle.md_machine.specs.Machine.{Machine, present, shape_of, status_at}

-- the present attempt of a descriptor has an entry, or it is InPrep or Aborted and counts no reads
abbrev pub EntriesByStatus : Machine → Type 0
EntriesByStatus m = (desc : ℕ) → desc < desc_count (shape_of m)
    → ((e : HistoryEntry) × Contains m.history e × (e.attempt ≡ present m desc))
    ⊎ ((reads_of (status_at m desc) ≡ 0) × ((status_of (status_at m desc) ≡ InPrep) ⊎ (status_of (status_at m desc) ≡ Aborted)))
