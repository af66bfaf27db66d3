-- What a pass knows of a descriptor of its own lanes, whose attempts nobody else begins.
use Rattle.std.specs.Prelude.{◌≡◌, ◌≤◌, ℕ}
use Rattle.md_words.specs.declared.shape.Shape.{Shape}
use Rattle.md_words.specs.Layout.{address}
use Rattle.md_words.specs.Place.{desc_status}
use Rattle.md_words.specs.Status.{serial_of, status_of}
use Rattle.md_machine.specs.declared.pass.PassView.{PassView}
use Rattle.md_machine.specs.Own.{HasDesc}
use Rattle.md_machine.specs.Trail.{Meets, SomeStep}
use Rattle.md_rule.specs.Kept.{MetNoLater}
use Rattle.md_help.specs.declared.settling.End.{End}
use Rattle.md_help.specs.Clears.{fate_of}

-- the descriptor is the pass's, and no status of a later attempt than that of this one was met
abbrev pub IsOwnLast : Shape → PassView → (desc status : ℕ) → Type 0
IsOwnLast shape view desc status = HasDesc shape view desc × MetNoLater shape view desc (serial_of status)

-- a step of the last segment met the attempt of this serial of an own descriptor decided by the fate of this end; it is
-- the last one that was met
pub record KnowsEnd (shape : Shape) (view : PassView) (desc serial : ℕ) (end : End) : Type 0 where
  pub held : ℕ
  pub is : serial_of held ≡ serial
  pub fate : status_of held ≡ fate_of end
  pub met : SomeStep (Meets (address shape (desc_status desc)) held) view.trail
  pub last : IsOwnLast shape view desc held

-- so it is of the present attempt, which is no later than what was met before
pub record EndsOwn (shape : Shape) (desc : ℕ) (end : End) (before after : PassView) : Type 0 where
  pub serial : ℕ
  pub knows : KnowsEnd shape after desc serial end
  pub no_later : (other : ℕ) → MetNoLater shape before desc other → serial ≤ other
