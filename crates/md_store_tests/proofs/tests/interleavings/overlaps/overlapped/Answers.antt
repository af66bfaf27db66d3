use Rattle.std.proofs.Common.{sym, subst, ◌∙◌}
use Rattle.md_store.specs.Store.{IsPassOf}
use Rattle.md_store_tests.proofs.tests.interleavings.overlaps.overlapped.Goals as goal

pub returns-clause-of : goal.returns-clause-of
returns-clause-of g c =
    subst (IsPassOf c.args.store.now) (sym (c.pass-1.given.1 (sym (c.all_in-2.ensures.pass ∙ c.all_in.ensures.pass ∙ c.begun-txn.ensures.pass)))) c.end_by.ensures
