use Rattle.std.proofs.Common.{subst, sym, ap, ◌∙◌}
use Rattle.md_history.specs.Engine.{SettlesFrom}
use Rattle.md_history.specs.Front.{replay_of}
use Rattle.md_history.specs.Plain.{Plain, front_of, AreNumbered}
use Rattle.md_history.specs.State.{HaveSameNumbers}
use Rattle.md_history.proofs.Runs.{replay-numbers}
use Rattle.md_history.proofs.PlainFronts.{settled, replayed}
use Rattle.md_history.proofs.plain_engine.PlainStoreEngine.contents.Goals as goal

pub returns-clause-ended : goal.returns-clause-ended
returns-clause-ended c =
    let left =
    replayed _ _ _ _ c.pass.invariant c.if-pass.false
    ∙ ap (λ (p : Plain). replay_of p.start (front_of p)) c.pass.view_is
    ∙ ap (λ s. replay_of s (front_of c.args.pass)) c.requires.of.starts
    ∙ ap (λ p. replay_of c.args.self (front_of p)) (sym c.of-front.ensures) in record {
      settled = subst (λ p. SettlesFrom c.args.self (front_of c.args.pass) (front_of p)) (sym c.of-front.ensures)
          (settled c.args.self c.args.pass.entries (subst (λ (p : Plain). AreNumbered 0 p.entries) c.pass.view_is c.pass.invariant.numbered) c.requires.of.front.legal);
      contents = left;
      numbers = subst (λ s. HaveSameNumbers s c.args.self) (sym left) (replay-numbers c.args.self (front_of c.of-front.result));
    }
