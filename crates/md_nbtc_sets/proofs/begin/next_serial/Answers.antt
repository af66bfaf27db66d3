use Rattle.std.proofs.Common.{◌<◌, ◌≤◌, ℕ, List, arith, sym, ap, subst, ◌∙◌, ⊎_elim}
use Rattle.std.proofs.lemmas.Bool.{cases_lt}
use Rattle.md_words.specs.declared.shape.Shape.{Shape}
use Rattle.md_words.specs.Layout.{desc_count}
use Rattle.std.specs.List.{Contains}
use Rattle.md_machine.specs.declared.pass.PassView.{PassView}
use Rattle.md_machine.specs.Own.{HasDesc}
use Rattle.md_rule.specs.Kept.{KeepsLane}
use Rattle.md_rule_lanes.specs.Shares.{share_at}
use Rattle.md_rule.specs.Views.{PassState}
use Rattle.md_nbtc_law.proofs.beginning.PutInHand.{behind_of, new_after}
use Rattle.md_nbtc_law.proofs.beginning.Starting.{own_still}
use Rattle.md_nbtc_sets.proofs.begin.next_serial.Goals as goal

pub take_left_out-requires-clause-taken : goal.take_left_out-requires-clause-taken
take_left_out-requires-clause-taken g c =
    let taken = c.requires.taken in
    let is = taken.taken in record {
      exists = taken.exists;
      lane = taken.lane;
      own = taken.own;
      some = omega (arith, is);
      count = taken.before;
      kept = taken.kept;
    }

pub restart-requires-clause-may : goal.restart-requires-clause-may
restart-requires-clause-may g c =
    let M = g.T.Theory.meaning in
    let o = c.args.field.now.origin in
    let p = c.args.pass.now.view in
    let desc = c.args.desc in
    let taken = c.requires.taken in
    let shape = c.requires.of.shape in
    let share = record (share_at c.args.pass.now.shares desc) { tries_taken = taken.before } in
    let kept = subst (λ (h : Shape). KeepsLane h p share desc) shape taken.kept in
    let is = taken.taken in
    let some : 1 ≤ taken.before = ⊎_elim
    (λ less. less)
    (λ none. absurd (c.if-tries_taken-eq1.false (c.tries_taken.ensures ∙ is ∙ omega (arith, none))))
    (cases_lt 0 taken.before) in
    let behind = behind_of M o desc (subst (λ (h : Shape). desc < desc_count h) shape taken.exists) p taken.before c.requires.stands
    (subst (λ (h : Shape). HasDesc h p desc) shape taken.own) kept.serials some in record {
      exists = subst (λ (h : Shape). desc < desc_count h) shape taken.exists;
      lane = subst (λ (l : List ℕ). Contains l c.args.desc) (sym (ap (λ (x : PassView). x.lanes) c.take_left_out.ensures.empty.goes.1)) c.requires.taken.lane;
      own = own_still M o desc (subst (λ (h : Shape). desc < desc_count h) shape taken.exists) c.take_left_out.ensures.empty.steps p c.take_left_out.new.pass.view c.take_left_out.ensures.empty.goes
          (subst (λ (h : Shape). HasDesc h p desc) shape taken.own);
      before = taken.before;
      taken = ap (λ (x : PassState). (share_at x.shares desc).tries_taken) c.take_left_out.ensures.same ∙ is;
      empty = c.take_left_out.ensures.empty.empty taken.before behind;
    }

pub returns-clause-new : goal.returns-clause-new
returns-clause-new g c =
    let M = g.T.Theory.meaning in
    let o = c.args.field.now.origin in
    let e = c.take_left_out.ensures.empty in
    new_after M o c.args.desc (subst (λ (h : Shape). c.args.desc < desc_count h) c.requires.of.shape c.requires.taken.exists) e.steps c.args.pass.now.view c.take_left_out.new.pass.view c.restart.new.pass.view
    c.restart.result e.goes c.restart.ensures.new
