use Rattle.std.proofs.Common.{sym, subst, ◌∙◌}
use Rattle.md_store.specs.Store.{IsPassOf}
use Rattle.md_store_tests.proofs.tests.interleavings.all.Goals as goal

pub returns : goal.returns
returns g c = subst (IsPassOf c.args.store.now) (sym (c.pass-1.given.1 (sym (c.all_in.ensures.pass ∙ c.begun-txn.ensures.pass)))) c.end_by.ensures
