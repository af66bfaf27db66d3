use Rattle.std.proofs.Common.{◌≡◌, ◌<◌, arith, sym, ap, subst, ◌∙◌}
use Rattle.md_words.specs.declared.shape.Shape.{Shape}
use Rattle.md_words.specs.declared.status.StatusWord.{StatusWord}
use Rattle.md_words.specs.Layout.{address, desc_count}
use Rattle.md_words.specs.Place.{desc_status}
use Rattle.md_machine.specs.Event.{load}
use Rattle.md_machine.specs.Own.{HasDesc}
use Rattle.md_rule.specs.Kept.{KeepsLane}
use Rattle.md_rule_lanes.specs.Shares.{share_at}
use Rattle.md_rule.specs.Steps.{SteppedFrom}
use Rattle.md_nbtc_law.specs.Beginning.{FindsNew}
use Rattle.md_nbtc_law.proofs.beginning.PutInHand.{first_new}
use Rattle.md_nbtc_sets.proofs.begin.first_serial.Goals as goal

pub returns-clause-new : goal.returns-clause-new
returns-clause-new g c =
    let M = g.T.Theory.meaning in
    let o = c.args.field.now.origin in
    let p = c.args.pass.now.view in
    let q = c.load-found.new.self.view in
    let desc = c.args.desc in
    let taken = c.requires.taken in
    let shape = c.requires.of.shape in
    let one = taken.taken in
    let first = c.requires.first in
    let none : taken.before ≡ 0 = omega (arith, one, first) in
    let share = record (share_at c.args.pass.now.shares desc) { tries_taken = taken.before } in
    let at = c.status.ensures.place ∙ ap (λ s. address s (desc_status desc)) c.shape.ensures in
    let step = subst (λ w. SteppedFrom M o (λ pass. load pass w) w c.load-found.result p q) at c.load-found.ensures.step in
    subst (λ n. FindsNew M o desc n p q) (sym (ap (λ (w : StatusWord). w.serial) c.of.ensures.parts))
    (first_new M o desc (subst (λ (h : Shape). desc < desc_count h) shape taken.exists) p q c.load-found.result share c.requires.idle
    (subst (λ (h : Shape). HasDesc h p desc) shape taken.own) (subst (λ (h : Shape). KeepsLane h p share desc) shape taken.kept) none step)
