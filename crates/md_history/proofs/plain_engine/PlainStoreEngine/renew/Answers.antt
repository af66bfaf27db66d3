use Rattle.std.proofs.Common.{sym, subst, ◌∙◌}
use Rattle.md_history.specs.State.{HaveSameNumbers}
use Rattle.md_history.proofs.plain_engine.PlainStoreEngine.renew.Goals as goal

pub returns-clause-ended : goal.returns-clause-ended
returns-clause-ended c =
    let ended = c.in_ok-contents.ensures.ended in record {
      settled = ended.settled;
      contents = c.open-store.ensures.store ∙ ended.contents;
      numbers = subst (λ s. HaveSameNumbers s c.args.self) (sym c.open-store.ensures.store) ended.numbers;
    }
