use Rattle.std.proofs.Common.{◌≡◌, ◌≤◌, ◌+◌}
use Rattle.md_history.specs.declared.stops.Shown.{Shown}
use Rattle.md_history.specs.declared.stops.Stop.TheVariants.{Conflict}
use Rattle.md_history.specs.Counts.{IsSmall}
use Rattle.md_history.specs.Engine.{bounds_in}
use Rattle.md_many_attempts.specs.Until.{AllStop}
use Rattle.md_many_attempts.proofs.until.attempt_until_committed.Given as goal

abbrev pub invariant-attempts : goal.invariant-attempts
invariant-attempts g l = record {
  of : g.E.Engine.of l.engine l.pass;
  stopped : AllStop l.tag l.tried (g.E.Engine.front l.fn.pass) (g.E.Engine.front l.pass);
  counted : g.E.Engine.begun l.pass ≡ g.E.Engine.begun l.fn.pass + l.tried;
  again : 1 ≤ l.tried → (shown : Shown) × g.E.Engine.may_stop l.engine (Conflict shown);
  alone : (g.E.Engine.front l.fn.pass).lanes ≡ g.E.Engine.lanes l.engine → l.tried ≡ 0;
  begun : l.tried ≡ 0 → l.pass ≡ l.fn.pass;
  small : g.E.Engine.fresh l.engine l.fn.pass → 1 ≤ (g.E.Engine.limits l.engine).tries
      → IsSmall (bounds_in (g.E.Engine.limits l.engine)) (g.B.Body.makes l.body) (g.E.Engine.start l.engine)
      → l.tried ≡ 0;
}
