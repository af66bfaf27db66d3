use Rattle.std.proofs.Common.{sym, ◌∙◌}
use Rattle.md_history.proofs.PlainAttempts.{kept-none, of-none, pass-same}
use Rattle.md_history.proofs.plain.PlainStore.open.Goals as goal

pub invariant_of-pass : goal.invariant_of-pass
invariant_of-pass c = kept-none _ _ _ c.of-2.ensures c.new.ensures.items

pub returns-clause-store : goal.returns-clause-store
returns-clause-store c = c.of.ensures

pub returns-clause-pass : goal.returns-clause-pass
returns-clause-pass c = pass-same _ _ _ c.of-2.ensures c.new.ensures.items

pub returns-clause-of : goal.returns-clause-of
returns-clause-of c = of-none _ _ _ (c.of-2.ensures ∙ sym c.of.ensures) c.new.ensures.items
