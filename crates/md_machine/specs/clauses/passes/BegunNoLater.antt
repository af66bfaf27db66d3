-- How far the attempts have come that were begun.
use Rattle.std.specs.Prelude.{◌≡◌, ◌<◌, ◌≤◌, ℕ, true, List}
use Rattle.md_words.specs.declared.shape.Shape.{Shape}
use Rattle.md_words.specs.Status.{serial_of}
use Rattle.md_words.specs.Place.{desc_status}
use Rattle.md_words.specs.Layout.{desc_count}
use Rattle.md_machine.specs.declared.attempt.AttemptId.{AttemptId}
use Rattle.md_machine.specs.Machine.{was_begun, word_at}

-- an attempt of a descriptor of the field is no later than the present one
abbrev pub IsNoLater : Shape → List ℕ → AttemptId → Type 0
IsNoLater shape words a =
    (a.desc < desc_count shape) × (a.serial ≤ serial_of (word_at shape words (desc_status a.desc)))

-- so it is of each attempt that was begun
abbrev pub BegunAreNoLater : Shape → List ℕ → List AttemptId → Type 0
BegunAreNoLater shape words begun = (a : AttemptId) → was_begun begun a ≡ true → IsNoLater shape words a
