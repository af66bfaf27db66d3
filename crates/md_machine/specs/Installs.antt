-- The slots of installs, and which statuses are undecided.
use Rattle.std.specs.Prelude.{◌≡◌, ℕ, ◌⊎◌}
use Rattle.md_words.specs.declared.content.Spot.{Spot}
use Rattle.md_words.specs.declared.status.Status.TheVariants.{InPrep, InProg}
use Rattle.md_words.specs.Status.{status_of}
use Rattle.md_machine.specs.Machine.{Install}

-- the slot that an install put into its word
abbrev pub spot_of_install : Install → Spot
spot_of_install i = record { desc = i.attempt.desc; slot = i.slot }

-- the status of a word is undecided
abbrev pub IsUndecided : ℕ → Type 0
IsUndecided held = (status_of held ≡ InPrep) ⊎ (status_of held ≡ InProg)
