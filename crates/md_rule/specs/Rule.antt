-- The rule of the table, and what the moves of lanes tell.
use Rattle.std.specs.Prelude.{◌≡◌, ℕ, Some, length, map}
use mathlib.Core.Option.{some}
use lib.ListN.{get_elem?}
use Rattle.atomic_table.specs.Table.{State}
use Rattle.md_machine.specs.declared.pass.PassView.{PassView}
use Rattle.md_machine.specs.Event.{Acts, join, split}
use Rattle.md_machine.specs.Machine.{IsAt, Machine}
use Rattle.md_machine.specs.Meaning.{Meaning}
use Rattle.md_machine.specs.events.SplitJoin.{joined_part}
use Rattle.md_rule.specs.Admitted.{Admitted}
use Rattle.md_rule.specs.Private.{AreWords}
use Rattle.md_rule.specs.Steps.{Stepped}
use Rattle.md_rule.specs.Views.{Origin}
use Rattle.md_rule.specs.declared.known.Known.{Known}
use Rattle.md_rule.specs.declared.known.Parts.{Parts}

module _ (M : Meaning) (o : Origin) where
  -- a split led from a machine of the field, in which a pass acted, to one in which that pass knows what it kept, and a
  -- new pass, the last one, what it was given
  pub record SplitInto (before kept given : PassView) : Type 0 where
    pub step : Stepped M o (λ pass. split pass) before kept
    pub beside : IsAt step.next (length step.machine.passes) given

  -- a join led from a machine of the field, in which both passes acted, to one in which the first knows what both knew
  pub record JoinedInto (one other both : PassView) : Type 0 where
    pub seat : ℕ
    pub step : Stepped M o (λ pass. join pass seat) one both
    pub beside : Acts step.machine seat other

-- the words and the views of the table's seats show a machine of the field. Of two passes that were joined, one machine
-- of the field had both
pub record Shows {S : Type 0} (M : Meaning) (o : Origin) (s : State S Known) : Type 0 where
  pub machine : Machine
  pub admitted : Admitted M o machine
  pub words : AreWords o.shape machine.words s
  pub views : machine.passes ≡ map (λ k. k.view) s.views
  pub joined : (seat : ℕ) (k : Known) (parts : Parts) → get_elem? s.views seat ≡ some k → k.joined ≡ Some parts
      → JoinedInto M o parts.one parts.other (joined_part o.shape parts.one parts.other)
