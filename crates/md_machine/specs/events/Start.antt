-- The event start: a descriptor whose attempt is decided begins another one.
use Rattle.std.specs.Prelude.{◌≡◌, ◌≢◌, ◌+◌, ◌<◌, ◌&&◌, ◌||◌, ℕ, Bool, true, false, List, ◌∷◌, Some, None}
use Rattle.md_words.specs.Content.{count_of}
use Rattle.md_words.specs.declared.status.Status.TheVariants.{InPrep}
use Rattle.md_words.specs.Status.{status_word, status_of, serial_of}
use Rattle.md_words.specs.Place.{desc_status}
use Rattle.md_words.specs.Layout.{address}
use Rattle.md_history.specs.declared.entries.Fate.{Fate}
use Rattle.md_history.specs.declared.entries.Fate.TheVariants.{Committed, Aborted, Undecided}
use Rattle.md_machine.specs.declared.attempt.AttemptId.{AttemptId}
use Rattle.md_machine.specs.declared.attempt.HistoryEntry.{HistoryEntry}
use Rattle.md_machine.specs.declared.step.Step.{Step}
use Rattle.md_machine.specs.declared.step.Kind.TheVariants.{Install as Installs, Start}
use Rattle.md_machine.specs.declared.pass.PassView.{PassView}
use Rattle.md_machine.specs.Machine.{Machine, attempt_of, is_ready, present, same_attempt, shape_of}
use Rattle.md_machine.specs.Own.{HasDesc}
use Rattle.md_machine.specs.Stepping.{replaced, stepped}
use Rattle.md_machine.specs.Trail.{EveryStepOf, Meets, MetHigher, SomeStepOf}
use Rattle.md_machine.specs.events.Uninstall.{IsDecided}

-- the fate of an attempt's entry is known to be decided
abbrev pub is_decided : Fate → Bool
is_decided Committed = true
is_decided Aborted = true
is_decided Undecided = false

abbrev pub knows_decided : List HistoryEntry → List Fate → AttemptId → Bool
knows_decided (e ∷ es) (f ∷ fs) a = (same_attempt e.attempt a && is_decided f) || knows_decided es fs a
knows_decided _ _ a = false

-- a won install of an attempt
pub record WonInstall (a : AttemptId) (s : Step) : Type 0 where
  pub kind : s.kind ≡ Installs
  pub attempt : s.attempt ≡ Some a
  pub won : s.before ≢ s.after

-- for each word that the attempt won, the pass met a higher count there: so the descriptor was taken out of it
abbrev pub IsClean : PassView → AttemptId → Type 0
IsClean p a = EveryStepOf p (λ s. WonInstall a s → MetHigher p s.word (count_of s.after))

pub record MayStart (m : Machine) (p : PassView) (desc from : ℕ) : Type 0 where
  pub idle : p.hand ≡ None
  pub own : HasDesc (shape_of m) p desc
  pub decided : IsDecided (status_of from)
  pub met : SomeStepOf p (Meets (address (shape_of m) (desc_status desc)) from)
  pub present_serial : serial_of from ≡ (present m desc).serial
  pub tries : serial_of from + 1 < (shape_of m).tries
  pub fate : is_ready m.history (attempt_of desc (serial_of from)) ≡ true → knows_decided p.seen p.known (attempt_of desc (serial_of from)) ≡ true
  pub clean : IsClean p (attempt_of desc (serial_of from))

-- the status of an attempt that begins
abbrev pub started_word : (from : ℕ) → ℕ
started_word from = status_word InPrep 0 (serial_of from + 1)

abbrev pub after_start : Machine → (pass : ℕ) → PassView → (desc from : ℕ) → Machine
after_start m pass p desc from =
    let word = address (shape_of m) (desc_status desc) in
    replaced m pass (stepped m p Start word (started_word from)) word (started_word from)
