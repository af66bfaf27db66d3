use Rattle.std.proofs.Common.{◌<◌, ◌++◌, [], ◌∷◌, sym, ap, subst, ◌∙◌}
use Rattle.md_words.specs.declared.shape.Shape.{Shape}
use Rattle.md_words.specs.Layout.{desc_count}
use Rattle.md_machine.specs.declared.pass.PassView.{PassView}
use Rattle.md_machine.specs.Own.{HasDesc}
use Rattle.md_rule_lanes.specs.Shares.{share_at}
use Rattle.md_rule.specs.Views.{PassState}
use Rattle.md_rule.proofs.LaneLists.{desc_fits}
use Rattle.md_nbtc_law.proofs.beginning.PutInHand.{begin_counts, may_begin, put_in_hand}
use Rattle.md_nbtc_law.proofs.beginning.Starting.{own_still}
use Rattle.md_nbtc_sets.proofs.begin.put_in_hand.Goals as goal

pub mark_begin-requires-clause-may : goal.mark_begin-requires-clause-may
mark_begin-requires-clause-may g c =
    let M = g.T.Theory.meaning in
    let o = c.args.field.now.origin in
    let p = c.args.pass.now.view in
    let q = c.next_serial-serial.new.pass.view in
    let desc = c.args.desc in
    let shape = c.requires.of.shape in
    let exists = subst (λ (h : Shape). desc < desc_count h) shape c.requires.taken.exists in
    let f = c.next_serial-serial.ensures.new in
    let own = own_still M o desc exists (f.steps ++ f.step ∷ []) p q f.goes (subst (λ (h : Shape). HasDesc h p desc) shape c.requires.taken.own) in
    may_begin M o desc exists p q c.next_serial-serial.result c.args.tag f own (ap (λ (x : PassView). x.hand) f.goes.1 ∙ c.requires.idle)

pub returns-clause-counts : goal.returns-clause-counts
returns-clause-counts g c lane =
    let desc = c.args.desc in
    let was = c.next_serial-serial.ensures.counts lane in
    let same = ap (λ (x : PassState). x.shares) c.mark_begin.ensures.same in
    let now = begin_counts c.next_serial-serial.new.pass.shares desc
    (subst (λ n. desc < n) (sym c.kept.ensures.shares) (desc_fits c.args.pass.now.shape desc c.requires.taken.exists)) lane in
    (ap (λ l. (share_at l lane).nodes_taken) same ∙ now.0 ∙ was.0, ap (λ l. (share_at l lane).tries_taken) same ∙ now.1 ∙ was.1)

pub returns-clause-hand : goal.returns-clause-hand
returns-clause-hand g c =
    let M = g.T.Theory.meaning in
    let o = c.args.field.now.origin in
    let p = c.args.pass.now.view in
    let q = c.next_serial-serial.new.pass.view in
    let desc = c.args.desc in
    let shape = c.requires.of.shape in
    let exists = subst (λ (h : Shape). desc < desc_count h) shape c.requires.taken.exists in
    let f = c.next_serial-serial.ensures.new in
    let own = own_still M o desc exists (f.steps ++ f.step ∷ []) p q f.goes (subst (λ (h : Shape). HasDesc h p desc) shape c.requires.taken.own) in
    put_in_hand M o desc exists p q c.next_serial-serial.result c.args.tag f own c.mark_begin.new.self.view c.mark_begin.ensures.step
