use Rattle.std.proofs.Common.{◌+◌, ◌≤◌, [], ◌∷◌, ◌++◌, sym, ap, subst, ◌∙◌, inl, arith}
use Rattle.md_words.specs.declared.shape.Shape.{Shape}
use Rattle.md_words.specs.declared.status.StatusWord.{StatusWord}
use Rattle.md_words.specs.Status.{serial_of}
use Rattle.md_machine.specs.Machine.{attempt_of}
use Rattle.md_machine.specs.declared.pass.PassView.{PassView}
use Rattle.md_nbtc_law.specs.Beginning.{FindsNew}
use Rattle.md_nbtc_law.proofs.beginning.Starting.{may_start, own_still, starts_new}
use Rattle.md_nbtc_law.proofs.beginning.TakingOut.{clean_still, no_later_before}
use Rattle.md_nbtc_sets.proofs.begin.restart.Goals as goal

pub decided_status-found-requires-clause-reached : goal.decided_status-found-requires-clause-reached
decided_status-found-requires-clause-reached g c = let one = c.requires.may.taken in inl (c.requires.may.lane, omega (arith, one))

pub start-requires-clause-may : goal.start-requires-clause-may
start-requires-clause-may g c =
    let M = g.T.Theory.meaning in
    let o = c.args.field.now.origin in
    let p = c.args.pass.now.view in
    let q = c.decided_status-found.new.pass.view in
    let from = c.decided_status-found.result in
    let f = c.decided_status-found.ensures.finds in
    let steps = f.steps ++ f.step ∷ [] in
    let own = own_still M o c.args.desc c.requires.may.exists steps p q f.goes c.requires.may.own in
    let b = c.requires.may in
    let e = b.empty.behind in
    let tries = (c.kept.ensures.kept c.args.desc c.requires.may.lane).tries in
    let less = e.less in
    let most = f.no_later e.serial e.last in
    let fits = subst (λ (s : Shape). b.before + 1 ≤ s.tries) c.requires.of.shape (subst (λ n. n ≤ c.args.pass.now.shape.tries) b.taken tries) in
    may_start M o c.args.desc c.requires.may.exists p q from f own (ap (λ (x : PassView). x.hand) f.goes.1 ∙ c.requires.idle)
    (omega (arith, less, most, fits))
    (clean_still o.shape steps p q f.goes c.requires.idle (attempt_of c.args.desc (serial_of from))
    (b.empty.clean (serial_of from) most (no_later_before o.shape c.args.desc (serial_of from) steps p q f.goes f.last)))

pub returns-clause-new : goal.returns-clause-new
returns-clause-new g c =
    let M = g.T.Theory.meaning in
    let o = c.args.field.now.origin in
    let p = c.args.pass.now.view in
    let q = c.decided_status-found.new.pass.view in
    let r = c.start.new.self.view in
    let from = c.decided_status-found.result in
    let f = c.decided_status-found.ensures.finds in
    let own = own_still M o c.args.desc c.requires.may.exists (f.steps ++ f.step ∷ []) p q f.goes c.requires.may.own in
    subst (λ n. FindsNew M o c.args.desc (n + 1) p r) (sym (ap (λ (w : StatusWord). w.serial) c.of.ensures.parts))
    (starts_new M o c.args.desc c.requires.may.exists p q from f own r c.start.ensures.step)
