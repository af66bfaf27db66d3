-- How an attempt of a descriptor is settled.
use Rattle.std.specs.Prelude.{◌≡◌, ◌≢◌, ◌+◌, ◌*◌, ◌<◌, ◌≤◌, ℕ, false, List, [], ◌∷◌, ◌++◌, All, length, ◌⊎◌}
use Rattle.md_words.specs.declared.shape.Shape.{Shape}
use Rattle.md_words.specs.declared.status.Status.{Status}
use Rattle.md_words.specs.declared.status.Status.TheVariants.{InPrep, InProg}
use Rattle.md_words.specs.declared.status.Status.TheVariants.{Committed as IsCommitted, Aborted as IsAborted}
use Rattle.md_words.specs.Layout.{address, desc_count}
use Rattle.md_words.specs.Place.{desc_status}
use Rattle.md_words.specs.Status.{reads_of, serial_of, status_of}
use Rattle.md_machine.specs.declared.pass.PassView.{PassView}
use Rattle.md_machine.specs.declared.step.Step.{Step}
use Rattle.md_machine.specs.declared.step.Kind.TheVariants.{Abort, Commit}
use Rattle.md_machine.specs.Trail.{Finds, Meets, SomeStep}
use Rattle.md_rule.specs.Kept.{IsReached}
use Rattle.md_rule.specs.Views.{PassState}
use Rattle.md_help.specs.declared.settling.End.{End}
use Rattle.md_help.specs.declared.settling.End.TheVariants.{Committed, Aborted, Gone}
use Rattle.md_help.specs.After.{IsAfter}
use Rattle.md_help.specs.Reads.{FindsRead, LoadsNoStatus}

-- a step of the last segment found or left this status
pub record MetStatus (shape : Shape) (view : PassView) (desc status : ℕ) : Type 0 where
  pub earlier : List Step
  pub step : Step
  pub later : List Step
  pub trail : view.trail ≡ earlier ++ step ∷ later
  pub meets : Meets (address shape (desc_status desc)) status step

-- a pass has met an attempt by this status: the descriptor exists and is reached, and a step of the last segment found or
-- left the status
pub record HasMetAttempt (shape : Shape) (pass : PassState) (desc status : ℕ) : Type 0 where
  pub exists : desc < desc_count shape
  pub reached : IsReached pass desc
  pub met : MetStatus shape pass.view desc status

-- the status is the first one, or some step met it, or found it
abbrev pub IsMet : Shape → (desc first held : ℕ) → List Step → Type 0
IsMet shape desc first held steps = (held ≡ first) ⊎ SomeStep (Meets (address shape (desc_status desc)) held) steps

abbrev pub IsFound : Shape → (desc first held : ℕ) → List Step → Type 0
IsFound shape desc first held steps = (held ≡ first) ⊎ SomeStep (Finds (address shape (desc_status desc)) held) steps

-- the attempt of the first status was met with this fate, and no step found a later attempt's status
pub record IsDecidedAs (shape : Shape) (desc first : ℕ) (fate : Status) (steps : List Step) : Type 0 where
  pub held : ℕ
  pub serial : serial_of held ≡ serial_of first
  pub decided : status_of held ≡ fate
  pub met : IsMet shape desc first held steps
  pub same : All (λ s. s.word ≡ address shape (desc_status desc) → serial_of s.before ≡ serial_of first) steps

-- after a status in progress was met, the steps found that one of its reads doesn't stand
pub record FindsMoved (shape : Shape) (desc first held : ℕ) (steps : List Step) : Type 0 where
  pub in_progress : status_of held ≡ InProg
  pub before : List Step
  pub since : List Step
  pub order : steps ≡ before ++ since
  pub met : IsFound shape desc first held before
  pub read : ℕ
  pub counts : read < reads_of held
  pub moved : FindsRead shape desc read false since

-- why it is aborted: it was found before it was ready, or aborted, or a read of it was found that doesn't stand
abbrev pub IsLost : Shape → (desc first : ℕ) → List Step → Type 0
IsLost shape desc first steps = (held : ℕ) × (serial_of held ≡ serial_of first)
    × ((IsFound shape desc first held steps × ((status_of held ≡ InPrep) ⊎ (status_of held ≡ IsAborted)))
    ⊎ FindsMoved shape desc first held steps)

-- a step found a later attempt's status
abbrev pub FindsOther : Shape → (desc first : ℕ) → List Step → Type 0
FindsOther shape desc first steps = (held : ℕ) × (serial_of held ≢ serial_of first)
    × SomeStep (Finds (address shape (desc_status desc)) held) steps

-- what the answer says of the attempt of the first status
abbrev pub Ends : Shape → (desc first : ℕ) → List Step → End → Type 0
Ends shape desc first steps Committed = IsDecidedAs shape desc first IsCommitted steps
Ends shape desc first steps Aborted = IsDecidedAs shape desc first IsAborted steps × IsLost shape desc first steps
Ends shape desc first steps Gone = FindsOther shape desc first steps

-- so many steps at most: three for each read that some status of the attempt counts, and so many more
abbrev pub AreFewSteps : Shape → (desc first more : ℕ) → List Step → Type 0
AreFewSteps shape desc first more steps = (held : ℕ) × (serial_of held ≡ serial_of first)
    × IsFound shape desc first held steps × (length steps ≤ 3 * reads_of held + more)

-- the step is a load of no status and changes nothing, or it is a commit or an abort of the descriptor's status
abbrev pub Decides : Shape → (desc : ℕ) → Step → Type 0
Decides shape desc s = LoadsNoStatus shape s
    ⊎ ((s.word ≡ address shape (desc_status desc)) × ((s.kind ≡ Commit) ⊎ (s.kind ≡ Abort)))

-- how many steps a settling takes, by the status that it begins with. None if that is decided. If it's in progress one,
-- and at most three for each read. If it's unready an abort, and no more if that won
abbrev pub StepsByStatus : (first : ℕ) → Status → List Step → Type 0
StepsByStatus first InPrep steps = (s : Step) × (rest : List Step) × (steps ≡ s ∷ rest) × (s.kind ≡ Abort) × (s.before ≡ first → rest ≡ [])
StepsByStatus first InProg steps = (1 ≤ length steps) × (length steps ≤ 3 * reads_of first + 1)
StepsByStatus first _ steps = steps ≡ []

-- a pass settled the attempt of a status that it had met
pub record Settled (shape : Shape) (desc first more : ℕ) (end : End) (before after : PassView) : Type 0 where
  pub steps : List Step
  pub goes : IsAfter shape steps before after
  pub few : AreFewSteps shape desc first more steps
  pub by_status : StepsByStatus first (status_of first) steps
  pub changes : All (Decides shape desc) steps
  pub ends : Ends shape desc first steps end

-- which end a later status of a descriptor tells
abbrev pub EndIs : (old new : ℕ) → End → Type 0
EndIs old new Committed = (serial_of new ≡ serial_of old) × (status_of new ≡ IsCommitted)
EndIs old new Aborted = (serial_of new ≡ serial_of old) × (status_of new ≡ IsAborted)
EndIs old new Gone = serial_of new ≢ serial_of old

-- the same from a later status, which may be another attempt's
abbrev pub SettledNewer : Shape → (desc old new : ℕ) → End → (before after : PassView) → Type 0
SettledNewer shape desc old new Gone before after =
    ((serial_of new ≢ serial_of old) × (after ≡ before))
    ⊎ ((serial_of new ≡ serial_of old) × Settled shape desc new 1 Gone before after)
SettledNewer shape desc old new end before after =
    (serial_of new ≡ serial_of old) × Settled shape desc new 1 end before after
