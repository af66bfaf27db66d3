use Rattle.std.proofs.Common.{[], ◌∷◌, ap, refl, sym, subst, ◌≡◌, ◌∙◌, length, arith, Bool, cond, ◌+◌}
use Rattle.md_history.specs.State.{State, run, IsRight}
use Rattle.md_history.specs.History.{acts_of}
use Rattle.md_history.specs.Front.{LegalFrom, replay_of}
use Rattle.md_history.specs.Engine.{IsFrontFrom}
use Rattle.md_history.specs.Plain.{front_from, Plain, Running, refusal_of, front_of, begun_by}
use Rattle.md_history.proofs.PlainFronts.{stops, commits-same, front_is, kept-more, replay_of-all}
use Rattle.md_history.proofs.PlainAttempts.{kept-broken, of-same, begun-broken, counted-broken, begun-more, refused-for_memory}
use Rattle.md_history.proofs.Runs.{replay-numbers}
use Rattle.md_history.proofs.plain_engine.PlainStoreEngine.attempt.Goals as goal

pub go-outcome-requires-clause-fits : goal.go-outcome-requires-clause-fits
go-outcome-requires-clause-fits g c =
    let old = c.args.pass.now in
    let start = ap (λ (t : Running). t.start) c.begin-tx.ensures.tx in
    let maps = ap (λ (s : State). length s.maps) start ∙ (replay-numbers old.start (front_of old)).maps ∙ ap (λ (s : State). length s.maps) c.requires.of.starts in
    let queues = ap (λ (s : State). length s.queues) start ∙ (replay-numbers old.start (front_of old)).queues ∙ ap (λ (s : State). length s.queues) c.requires.of.starts in
    rw (maps, queues) c.requires.fits

-- the new entry's number is how many there were
numbered : (g : _) (c : goal.After-drop-tx-inside g) → c.len-number.result ≡ length c.pass-2.inside.entries.items
numbered g c = c.len-number.ensures ∙ c.pass-2.inside.entries.ok.0

pub invariant_of-pass : goal.invariant_of-pass
invariant_of-pass g c =
    let same = c.pass-2.view_is ∙ c.begin-tx.ensures.pass in
    let began : c.tx.inside.start.value ≡ run c.pass-2.inside.start.value (acts_of c.pass-2.inside.entries.items) =
    ap (λ (t : Running). t.start) c.tx.view_is ∙ c.go-outcome.ensures.kept ∙ ap (λ (t : Running). t.start) c.begin-tx.ensures.tx
    ∙ ap (λ (p : Plain). replay_of p.start (front_of p)) (sym same) ∙ replay_of-all c.pass-2.inside.start.value c.pass-2.inside.entries.items in
    kept-more _ _ _ _ _ _ _ _ _ c.pass-2.invariant c.tx.invariant began
    (ap (λ (t : Running). refusal_of t.refused) c.tx.view_is ∙ c.in-Ok.ensures.ok.0)
    c.in-Ok-push.ensures.items refl (numbered g c) refl

starts : (g : _) (c : goal.After-drop-tx-inside g) → c.pass-2.inside.start.value ≡ c.args.self.now
starts g c = ap (λ (p : Plain). p.start) (c.pass-2.view_is ∙ c.begin-tx.ensures.pass) ∙ c.requires.of.starts

-- the front after the new entry
front_after : (g : _) (c : goal.After-drop-tx-inside g) → IsFrontFrom c.args.self.now (0 ∷ []) (front_from c.push.new.self.items)
front_after g c = let kept = invariant_of-pass g c in front_is _ _ kept.numbered (subst (λ s. IsRight s (acts_of c.push.new.self.items)) (starts g c) kept.right)

pub returns-in-Ok-push-clause-atomic : goal.returns-in-Ok-push-clause-atomic
returns-in-Ok-push-clause-atomic g c = record {
  committed = commits-same _ _ _ _ _ _ _ (ap (λ (p : Plain). p.entries) (c.pass-2.view_is ∙ c.begin-tx.ensures.pass)) c.in-Ok-push.ensures.items (invariant_of-pass g c).numbered c.pass-2.invariant.numbered refl refl
      (subst (λ acts. g.B.Body.did c.args.body.now acts c.in-Ok.reply) (sym (ap (λ (t : Running). t.acts) c.tx.view_is)) c.in-Ok.ensures.ok.1);
  stopped = tt;
  legal = (front_after g c).legal;
}

pub returns-in-Ok-push-clause-of : goal.returns-in-Ok-push-clause-of
returns-in-Ok-push-clause-of g c = record { starts = starts g c; front = front_after g c }

pub returns-then-pass-clause-atomic : goal.returns-then-pass-clause-atomic
returns-then-pass-clause-atomic g c = record { committed = tt; stopped = stops _ _ _ refl; legal = c.requires.of.front.legal }

pub returns-then-pass-clause-of : goal.returns-then-pass-clause-of
returns-then-pass-clause-of g c = c.requires.of

pub returns-then-pass-clause-breaks : goal.returns-then-pass-clause-breaks
returns-then-pass-clause-breaks g c = sym (ap (λ (p : Plain). p.broken) c.pass.view_is) ∙ c.if-pass.true

pub returns-then-pass-clause-begun : goal.returns-then-pass-clause-begun
returns-then-pass-clause-begun g c = (omega arith, omega arith)

pub returns-then-pass-clause-exact : goal.returns-then-pass-clause-exact
returns-then-pass-clause-exact g c = rw (sym (ap (λ (p : Plain). p.broken) c.pass.view_is) ∙ c.if-pass.true) (omega arith)

pub begin-tx-requires : goal.begin-tx-requires
begin-tx-requires g c = sym (ap (λ (p : Plain). p.broken) c.pass.view_is) ∙ c.if-pass.false

pub go-outcome-requires-clause-none : goal.go-outcome-requires-clause-none
go-outcome-requires-clause-none g c = ap (λ (t : Running). t.acts) c.begin-tx.ensures.tx

pub go-outcome-requires-clause-going : goal.go-outcome-requires-clause-going
go-outcome-requires-clause-going g c = ap (λ (t : Running). refusal_of t.refused) c.begin-tx.ensures.tx

pub returns-in-Ok-push-clause-whole : goal.returns-in-Ok-push-clause-whole
returns-in-Ok-push-clause-whole g c = (sym (ap (λ (p : Plain). p.broken) c.pass.view_is) ∙ c.if-pass.false, refl)

pub returns-in-Ok-push-clause-exact : goal.returns-in-Ok-push-clause-exact
returns-in-Ok-push-clause-exact g c =
    let whole = sym (ap (λ (p : Plain). p.broken) c.pass.view_is) ∙ c.if-pass.false in
    let same = c.pass-2.view_is ∙ c.begin-tx.ensures.pass in
    begun-more c.args.pass.now _ _ _ whole (ap (λ (p : Plain). p.entries) same) c.in-Ok-push.ensures.items

pub returns-in-Ok-push-clause-begun : goal.returns-in-Ok-push-clause-begun
returns-in-Ok-push-clause-begun g c =
    let whole = sym (ap (λ (p : Plain). p.broken) c.pass.view_is) ∙ c.if-pass.false in
    returns-in-Ok-push-clause-exact g c ∙ ap (λ (b : Bool). begun_by c.args.pass.now + cond b 0 1) whole

pub invariant_of-pass-in-Err-push : goal.invariant_of-pass-in-Err-push
invariant_of-pass-in-Err-push g c =
    let same = c.pass-2.view_is ∙ c.begin-tx.ensures.pass in
    kept-broken _ _ _ _ _ _ _ c.pass-2.invariant (ap (λ (p : Plain). p.broken) same) c.in-Err-push.ensures.items

pub returns-in-Ok-clause-atomic : goal.returns-in-Ok-clause-atomic
returns-in-Ok-clause-atomic g c =
    let same = c.pass-2.view_is ∙ c.begin-tx.ensures.pass in
    let entries = c.in-Err-push.ensures.items ∙ ap (λ (p : Plain). p.entries) same in record {
      committed = tt;
      stopped = stops _ _ _ entries;
      legal = subst (λ es. LegalFrom c.args.self.now (front_from es)) (sym entries) c.requires.of.front.legal;
    }

pub returns-in-Ok-clause-of : goal.returns-in-Ok-clause-of
returns-in-Ok-clause-of g c =
    let same = c.pass-2.view_is ∙ c.begin-tx.ensures.pass in
    let entries = c.in-Err-push.ensures.items ∙ ap (λ (p : Plain). p.entries) same in
    of-same _ _ _ _ _ c.requires.of (ap (λ (p : Plain). p.start) same) entries

pub returns-in-Ok-clause-no_memory : goal.returns-in-Ok-clause-no_memory
returns-in-Ok-clause-no_memory g c = refl

pub returns-in-Ok-clause-breaks : goal.returns-in-Ok-clause-breaks
returns-in-Ok-clause-breaks g c = ap (λ (p : Plain). p.broken) (c.pass-2.view_is ∙ c.begin-tx.ensures.pass)

pub returns-in-Ok-clause-exact : goal.returns-in-Ok-clause-exact
returns-in-Ok-clause-exact g c =
    let whole = sym (ap (λ (p : Plain). p.broken) c.pass.view_is) ∙ c.if-pass.false in
    let same = c.pass-2.view_is ∙ c.begin-tx.ensures.pass in
    let entries = c.in-Err-push.ensures.items ∙ ap (λ (p : Plain). p.entries) same in
    begun-broken c.args.pass.now _ _ whole entries (ap (λ (p : Plain). p.broken) same)

pub returns-in-Ok-clause-begun : goal.returns-in-Ok-clause-begun
returns-in-Ok-clause-begun g c =
    let whole = sym (ap (λ (p : Plain). p.broken) c.pass.view_is) ∙ c.if-pass.false in
    let same = c.pass-2.view_is ∙ c.begin-tx.ensures.pass in
    let entries = c.in-Err-push.ensures.items ∙ ap (λ (p : Plain). p.entries) same in
    counted-broken _ c.args.pass.now _ _ refl whole entries (ap (λ (p : Plain). p.broken) same)

pub invariant_of-pass-in-Err : goal.invariant_of-pass-in-Err
invariant_of-pass-in-Err g c =
    let same = c.pass-2.view_is ∙ c.begin-tx.ensures.pass in
    kept-broken _ _ _ _ _ _ _ c.pass-2.invariant (ap (λ (p : Plain). p.broken) same) refl

pub returns-clause-atomic : goal.returns-clause-atomic
returns-clause-atomic g c =
    let entries = ap (λ (p : Plain). p.entries) (c.pass-2.view_is ∙ c.begin-tx.ensures.pass) in record {
      committed = tt;
      stopped = stops _ _ _ entries;
      legal = subst (λ es. LegalFrom c.args.self.now (front_from es)) (sym entries) c.requires.of.front.legal;
    }

pub returns-clause-of : goal.returns-clause-of
returns-clause-of g c =
    let same = c.pass-2.view_is ∙ c.begin-tx.ensures.pass in
    of-same _ _ _ _ _ c.requires.of (ap (λ (p : Plain). p.start) same) (ap (λ (p : Plain). p.entries) same)

pub returns-clause-no_memory : goal.returns-clause-no_memory
returns-clause-no_memory g c = sym c.in-Err.ensures.err.same ∙ refused-for_memory _ _ (ap (λ (t : Running). refusal_of t.refused) c.tx.view_is ∙ c.in-Err.ensures.err.stopped)

pub returns-clause-breaks : goal.returns-clause-breaks
returns-clause-breaks g c = ap (λ (p : Plain). p.broken) (c.pass-2.view_is ∙ c.begin-tx.ensures.pass)

pub returns-clause-exact : goal.returns-clause-exact
returns-clause-exact g c =
    let whole = sym (ap (λ (p : Plain). p.broken) c.pass.view_is) ∙ c.if-pass.false in
    let same = c.pass-2.view_is ∙ c.begin-tx.ensures.pass in
    begun-broken c.args.pass.now _ _ whole (ap (λ (p : Plain). p.entries) same) (ap (λ (p : Plain). p.broken) same)

pub returns-clause-begun : goal.returns-clause-begun
returns-clause-begun g c =
    let whole = sym (ap (λ (p : Plain). p.broken) c.pass.view_is) ∙ c.if-pass.false in
    let same = c.pass-2.view_is ∙ c.begin-tx.ensures.pass in
    counted-broken _ c.args.pass.now _ _ (returns-clause-no_memory g c) whole (ap (λ (p : Plain). p.entries) same) (ap (λ (p : Plain). p.broken) same)

pub returns-in-Ok-clause-whole : goal.returns-in-Ok-clause-whole
returns-in-Ok-clause-whole g c = tt
