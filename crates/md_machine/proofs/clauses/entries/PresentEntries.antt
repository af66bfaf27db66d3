-- Which present attempts have entries, by their statuses.
use Rattle.std.proofs.Common.{◌≡◌, ◌⊎◌, refl, inl, inr, ⊎_elim}
use Rattle.md_words.specs.declared.status.Status.{Status}
use Rattle.md_words.specs.declared.status.Status.TheVariants.{InPrep, InProg, Committed, Aborted}
use Rattle.md_words.specs.Status.{status_of}
use Rattle.md_machine.proofs.clauses.entries.EntriesFit.{ReadsCounted}
use Rattle.md_machine.proofs.clauses.entries.ReadyEntries.{IsReadyStatus, ReadyHaveEntries}
use Rattle.md_machine.proofs.events.Attempts.{attempt_same}
use Rattle.md_machine.specs.Machine.{Machine, present, shape_of, status_at}
use Rattle.md_machine.specs.clauses.entries.PresentEntries.{EntriesByStatus}

-- a status is that of a ready attempt, or one of the two others
ready_or_not : (s : Status) → IsReadyStatus s ⊎ ((s ≡ InPrep) ⊎ (s ≡ Aborted))
ready_or_not InPrep = inr (inl refl)
ready_or_not InProg = inl (inl refl)
ready_or_not Committed = inl (inr refl)
ready_or_not Aborted = inr (inr refl)

pub present_entries-kept : (m : Machine) → ReadsCounted (shape_of m) m.words m.history → ReadyHaveEntries (shape_of m) m.words m.history → EntriesByStatus m
present_entries-kept m reads ready desc exists = ⊎_elim
    (λ none. ⊎_elim
    (λ is. let x = ready desc exists is in inl (x.0, x.1, attempt_same x.0.attempt (present m desc) x.2 x.3))
    (λ not. inr (none, not))
    (ready_or_not (status_of (status_at m desc))))
    inl
    (reads.counted desc exists)
