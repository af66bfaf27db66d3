use Rattle.std.proofs.Common.{ap, refl, ◌∙◌, None, true}
use Rattle.md_history.specs.Front.{replay_of}
use Rattle.md_history.specs.Plain.{Plain, Running, front_of}
use Rattle.md_history.proofs.PlainFronts.{replayed}
use Rattle.md_history.proofs.PlainAttempts.{kept-broken}
use Rattle.md_history.proofs.plain.begin.Goals as goal

pub returns-clause-tx : goal.returns-clause-tx
returns-clause-tx c =
    let start = c.of.ensures ∙ c.replace-contents.ensures.value ∙ replayed _ _ _ _ c.pass.invariant (ap (λ (p : Plain). p.broken) c.pass.view_is ∙ c.requires)
    ∙ ap (λ (p : Plain). replay_of p.start (front_of p)) c.pass.view_is in
    ap (λ s. let tx : Running = record { start = s; acts = c.new.result; refused = None } in tx) start
    ∙ ap (λ acts. let tx : Running = record { start = replay_of c.args.pass.now.start (front_of c.args.pass.now); acts = acts; refused = None } in tx) c.new.ensures

pub invariant_of-pass : goal.invariant_of-pass
invariant_of-pass c = kept-broken _ _ _ _ _ _ _ c.pass.invariant refl refl

pub returns-clause-pass : goal.returns-clause-pass
returns-clause-pass c = ap (λ (p : Plain). record p { broken = true }) c.pass.view_is
