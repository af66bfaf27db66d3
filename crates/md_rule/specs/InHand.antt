-- The attempt that a pass has in hand.
use Rattle.std.specs.Prelude.{◌≡◌, ℕ, Some}
use Rattle.md_machine.specs.declared.attempt.Hand.{Hand}
use Rattle.md_machine.specs.declared.pass.PassView.{PassView}
use Rattle.md_machine.specs.events.Ready.{unready_word}

-- the attempt in hand is of this descriptor, and this is its status before it is ready
pub record HoldsUnready (view : PassView) (desc from : ℕ) : Type 0 where
  pub hand : Hand
  pub held : view.hand ≡ Some hand
  pub of : hand.attempt.desc ≡ desc
  pub status : unready_word hand.attempt ≡ from

-- the attempt in hand is of this descriptor
abbrev pub HoldsDesc : PassView → (desc : ℕ) → Type 0
HoldsDesc view desc = (hand : Hand) × (view.hand ≡ Some hand) × (hand.attempt.desc ≡ desc)
