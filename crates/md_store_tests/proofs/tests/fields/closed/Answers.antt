use Rattle.std.proofs.Common.{sym, subst}
use Rattle.md_rule.specs.Closing.{MayClose}
use Rattle.md_store_tests.proofs.Unstepped.{may_close}
use Rattle.md_store_tests.proofs.tests.fields.closed.Goals as goal

pub close-requires-clause-may : goal.close-requires-clause-may
close-requires-clause-may g c =
    let M = g.T.Theory.meaning in
    let o = c.args.field.origin in
    subst (MayClose M o) (sym c.requires.first) (may_close M o)
