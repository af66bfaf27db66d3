use Rattle.std.proofs.Common.{◌≡◌, true}
use Rattle.md_rule.specs.Views.{IsOf}
use Rattle.md_help.specs.After.{StandsInField}
use Rattle.md_help.specs.Reads.{Validated}
use Rattle.md_help.proofs.reads.validate.Given as goal

abbrev pub invariant-loop-i : goal.invariant-loop-i
invariant-loop-i g l =
    record { field : IsOf l.pass l.field; same : l.pass ≡ record l.fn.pass { view = l.pass.view }; stands : StandsInField g.T.Theory.meaning l.field.origin l.pass.view; so_far : Validated l.field.origin.shape l.desc l.i true l.fn.pass.view l.pass.view }
