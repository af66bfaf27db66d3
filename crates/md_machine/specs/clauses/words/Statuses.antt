-- How the statuses that steps met go on to those that stand now.
use Rattle.std.specs.Prelude.{◌≡◌, ◌<◌, ℕ, Bool, true, false, List, ◌⊎◌}
use mathlib.Core.Option.{some}
use lib.ListN.{get_elem?}
use Rattle.md_words.specs.declared.shape.Shape.{Shape}
use Rattle.md_words.specs.declared.status.Status.{Status}
use Rattle.md_words.specs.declared.status.Status.TheVariants.{InPrep, InProg, Committed, Aborted}
use Rattle.md_words.specs.Status.{status_of, reads_of, serial_of}
use Rattle.md_words.specs.Place.{desc_status}
use Rattle.md_words.specs.Layout.{address, desc_count}
use Rattle.md_machine.specs.declared.pass.PassView.{PassView}
use Rattle.md_machine.specs.declared.step.Step.{Step}
use Rattle.md_machine.specs.Machine.{word_at}
use Rattle.md_machine.specs.Trail.{EveryStepOf}

-- by any number of moves InPrep leads to each status, InProg to each but InPrep, and a decided one to itself alone
abbrev pub leads_to : Status → Status → Bool
leads_to InPrep _ = true
leads_to InProg InPrep = false
leads_to InProg _ = true
leads_to Committed Committed = true
leads_to Committed _ = false
leads_to Aborted Aborted = true
leads_to Aborted _ = false

-- an attempt came from one status word to another: its status leads there or the whole word stays, and once it is in
-- progress its reads stay
pub record AttemptCame (old new : ℕ) : Type 0 where
  pub serial : serial_of old ≡ serial_of new
  pub leads : leads_to (status_of old) (status_of new) ≡ true
  pub same : status_of old ≡ status_of new → old ≡ new
  pub reads : status_of old ≡ InProg → reads_of old ≡ reads_of new

-- a status word came to another: a later attempt's, or one of the same attempt
abbrev pub StatusCame : (old new : ℕ) → Type 0
StatusCame old new = (serial_of old < serial_of new) ⊎ AttemptCame old new

-- what a step found and what it left came to this
pub record MetCame (now : ℕ) (s : Step) : Type 0 where
  pub before : StatusCame s.before now
  pub after : StatusCame s.after now

-- what steps met of the status of a descriptor came to what stands there
abbrev pub StatusesCame : Shape → List ℕ → List PassView → Type 0
StatusesCame shape words passes = (pass : ℕ) (p : PassView) → get_elem? passes pass ≡ some p
    → EveryStepOf p (λ s. (desc : ℕ) → desc < desc_count shape → s.word ≡ address shape (desc_status desc) → MetCame (word_at shape words (desc_status desc)) s)
