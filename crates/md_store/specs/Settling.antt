-- What a settling tells of the lanes of a pass.
use Rattle.std.specs.Prelude.{◌≡◌, ◌<◌, ℕ, true, List, Contains, slice_index}
use Rattle.md_words.specs.declared.shape.Shape.{Shape}
use Rattle.md_machine.specs.declared.attempt.HistoryEntry.{HistoryEntry}
use Rattle.md_machine.specs.declared.pass.PassView.{PassView}
use Rattle.md_machine.specs.declared.step.Step.{Step}
use Rattle.md_machine.specs.Machine.{attempt_of}
use Rattle.md_machine.specs.events.Start.{IsClean, knows_decided}
use Rattle.md_help.specs.After.{IsAfter}
use Rattle.md_rule.specs.Kept.{MetNoLater}

-- whichever attempt of the descriptor is the present one, the pass took it out of the words that it won; and it knows the
-- fates of all entries of the descriptor
pub record IsSettled (shape : Shape) (view : PassView) (desc : ℕ) : Type 0 where
  pub clean : (serial : ℕ) → MetNoLater shape view desc serial → IsClean view (attempt_of desc serial)
  pub known : (e : HistoryEntry) → Contains view.seen e → e.attempt.desc ≡ desc → knows_decided view.seen view.known e.attempt ≡ true

-- by its steps a pass settled a descriptor
pub record SettlesDescriptor (shape : Shape) (desc : ℕ) (before after : PassView) : Type 0 where
  pub steps : List Step
  pub goes : IsAfter shape steps before after
  pub settled : IsSettled shape after desc

-- and the first so many of its lanes, each of which has the descriptor of its number
pub record SettlesFirst (shape : Shape) (count : ℕ) (before after : PassView) : Type 0 where
  pub steps : List Step
  pub goes : IsAfter shape steps before after
  pub settled : (place : ℕ) → place < count → IsSettled shape after (slice_index before.lanes place)
