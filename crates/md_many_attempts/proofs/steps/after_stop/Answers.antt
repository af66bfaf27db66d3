use Rattle.std.proofs.Common.{refl, arith}
use Rattle.md_many_attempts.proofs.steps.after_stop.Goals as goal

pub returns-then-conflicts-eq-MOST_CONFLICTS-clause-again : goal.returns-then-conflicts-eq-MOST_CONFLICTS-clause-again
returns-then-conflicts-eq-MOST_CONFLICTS-clause-again g = assumption

pub returns-then-conflicts-eq-MOST_CONFLICTS-clause-end : goal.returns-then-conflicts-eq-MOST_CONFLICTS-clause-end
returns-then-conflicts-eq-MOST_CONFLICTS-clause-end g = ((g.in-Conflict.shown, g.in-Conflict.is), g.if-conflicts-eq-MOST_CONFLICTS.true)

pub returns-then-conflicts-eq-MOST_CONFLICTS-clause-no_memory : goal.returns-then-conflicts-eq-MOST_CONFLICTS-clause-no_memory
returns-then-conflicts-eq-MOST_CONFLICTS-clause-no_memory g = assumption

pub returns-else-conflicts-eq-MOST_CONFLICTS-clause-again : goal.returns-else-conflicts-eq-MOST_CONFLICTS-clause-again
returns-else-conflicts-eq-MOST_CONFLICTS-clause-again g = record {
  shown = g.in-Conflict.shown;
  met = g.in-Conflict.is;
  more = refl;
  few = omega arith;
}

pub returns-else-conflicts-eq-MOST_CONFLICTS-clause-end : goal.returns-else-conflicts-eq-MOST_CONFLICTS-clause-end
returns-else-conflicts-eq-MOST_CONFLICTS-clause-end g = assumption

pub returns-else-conflicts-eq-MOST_CONFLICTS-clause-no_memory : goal.returns-else-conflicts-eq-MOST_CONFLICTS-clause-no_memory
returns-else-conflicts-eq-MOST_CONFLICTS-clause-no_memory g = assumption

pub returns-in-Limit-clause-again : goal.returns-in-Limit-clause-again
returns-in-Limit-clause-again g = assumption

pub returns-in-Limit-clause-end : goal.returns-in-Limit-clause-end
returns-in-Limit-clause-end g = assumption

pub returns-in-Limit-clause-no_memory : goal.returns-in-Limit-clause-no_memory
returns-in-Limit-clause-no_memory g = assumption

pub returns-in-NoMemory-clause-again : goal.returns-in-NoMemory-clause-again
returns-in-NoMemory-clause-again g = assumption

pub returns-in-NoMemory-clause-end : goal.returns-in-NoMemory-clause-end
returns-in-NoMemory-clause-end g = assumption

pub returns-in-NoMemory-clause-no_memory : goal.returns-in-NoMemory-clause-no_memory
returns-in-NoMemory-clause-no_memory g = assumption
