use Rattle.std.proofs.Common.{◌≡◌}
use Rattle.md_rule.specs.Views.{IsOf}
use Rattle.md_nbtc_law.specs.Beginning.{TakesOwnOut}
use Rattle.md_nbtc_sets.proofs.begin.take_left_slots_out.Given as goal

abbrev pub invariant-loop-slot : goal.invariant-loop-slot
invariant-loop-slot g l =
    record { of : IsOf l.pass l.field; same : l.pass ≡ record l.fn.pass { view = l.pass.view }; so_far : TakesOwnOut l.field.origin.shape l.desc l.end l.slot l.fn.pass.view l.pass.view }
