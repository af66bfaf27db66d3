use Rattle.std.proofs.Common.{sym, subst, ◌∙◌}
use Rattle.md_store.specs.Store.{IsPassOf}
use Rattle.md_store_tests.proofs.tests.interleavings.at_random.pairs.around.Goals as goal

pub returns-clause-a : goal.returns-clause-a
returns-clause-a g c =
    subst (IsPassOf c.args.store.now) (sym (c.a-1.given.1 (sym (c.within.ensures.pass ∙ c.begun-txn.ensures.pass)))) c.end.ensures
