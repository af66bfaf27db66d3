use Rattle.std.proofs.Common.{◌≡◌, List, map, take}
use Rattle.std.specs.List.{AllZip}
use Rattle.md_machine.specs.declared.step.Step.{Step}
use Rattle.md_help.specs.After.{StandsInField}
use Rattle.md_rule.specs.Views.{IsOf}
use Rattle.md_nbtc_law.specs.Deciding.{CleansSlots, TookSlot}
use Rattle.md_nbtc_sets.proofs.tidying.clean_slots.Given as goal

abbrev pub invariant-loop-i : goal.invariant-loop-i
invariant-loop-i g l = record {
  of : IsOf l.pass l.field;
  stands : StandsInField g.T.Theory.meaning l.field.origin l.pass.view;
  same : l.pass ≡ record l.fn.pass { view = l.pass.view };
  so_far : (outs : List Step) → AllZip (TookSlot l.field.origin.shape l.fn.pass.view) l.slots outs → l.lefts ≡ map (λ s. s.after) outs
      → CleansSlots l.field.origin.shape (take l.i l.slots) (take l.i outs) l.fn.pass.view l.pass.view;
}
