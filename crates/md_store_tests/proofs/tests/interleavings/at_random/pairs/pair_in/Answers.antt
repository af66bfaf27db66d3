use Rattle.std.proofs.Common.{sym, subst, ◌∙◌}
use Rattle.md_store.specs.Store.{IsPassOf}
use Rattle.md_store_tests.proofs.tests.interleavings.at_random.pairs.pair_in.Goals as goal

pub returns-clause-a : goal.returns-clause-a
returns-clause-a g c =
    subst (IsPassOf c.args.store.now) (sym (c.a-1.given.1 (sym (c.turns.ensures.first ∙ c.begun-first.ensures.pass)))) c.end.ensures

pub returns-clause-b : goal.returns-clause-b
returns-clause-b g c =
    subst (IsPassOf c.args.store.now) (sym (c.b-1.given.1 (sym (c.steps.ensures.pass ∙ c.turns.ensures.second ∙ c.begun-second.ensures.pass)))) c.end-2.ensures
