-- What passes have in hand.
use Rattle.std.specs.Prelude.{◌≡◌, ℕ, List, Some}
use lib.ListN.{get_elem?}
use mathlib.Core.Option.{some}
use Rattle.md_words.specs.declared.shape.Shape.{Shape}
use Rattle.md_machine.specs.declared.attempt.Hand.{Hand}
use Rattle.md_machine.specs.declared.pass.PassView.{PassView}
use Rattle.md_machine.specs.Machine.{IsPresentIn}
use Rattle.md_machine.specs.Own.{HasDesc}

-- it is the present attempt of a descriptor of the pass's lanes
pub record HandFits (shape : Shape) (words : List ℕ) (p : PassView) (h : Hand) : Type 0 where
  pub own : HasDesc shape p h.attempt.desc
  pub present : IsPresentIn shape words h.attempt

pub record HandsFit (shape : Shape) (words : List ℕ) (passes : List PassView) : Type 0 where
  pub fits : (pass : ℕ) (p : PassView) (h : Hand) → get_elem? passes pass ≡ some p → p.hand ≡ Some h → HandFits shape words p h
