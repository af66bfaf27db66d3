use Rattle.std.proofs.Common.{◌≡◌, refl, sym, ap, subst}
use Rattle.md_words.specs.declared.shape.Shape.{Shape}
use Rattle.md_machine.specs.declared.pass.PassView.{PassView}
use Rattle.md_machine.specs.Event.{mark_begin}
use Rattle.example_cell.specs.CellMeaning.{cell_meaning}
use Rattle.md_rule.specs.Kept.{MetNoLater}
use Rattle.md_rule.specs.Steps.{May, Stepped}
use Rattle.md_rule.specs.Views.{PassState}
use Rattle.md_rule_lanes.specs.Shares.{after_begin}
use Rattle.example_stalls.specs.Stalled.{OnlyShare}
use Rattle.example_stalls.proofs.Shares.{only_kept, then_kept}
use Rattle.example_stalls.proofs.First.{begins, may_begin}
use Rattle.example_stalls.proofs.stalling.begin.Goals as goal

pub mark_begin-requires-clause-may : goal.mark_begin-requires-clause-may
mark_begin-requires-clause-may c =
    let o = c.args.field.now.origin in
    let p = c.args.pass.now in
    let t = c.in-Some.ensures.some in
    let at : c.first_attempt.new.pass.view ≡ p.view = ap (λ (x : PassState). x.view) c.first_attempt.ensures.same in
    subst (λ (v : PassView). May cell_meaning o (λ pass. mark_begin pass c.in-Some.desc 0) v) (sym at)
    (may_begin cell_meaning o c.in-Some.desc p.view t.own t.new (subst (λ (h : Shape). MetNoLater h p.view c.in-Some.desc 0) c.requires.field.shape t.serial) 0 c.requires.idle)

pub returns-clause-some : goal.returns-clause-some
returns-clause-some c =
    let o = c.args.field.now.origin in
    let p = c.args.pass.now in
    let t = c.in-Some.ensures.some in
    let at : c.first_attempt.new.pass.view ≡ p.view = ap (λ (x : PassState). x.view) c.first_attempt.ensures.same in
    begins cell_meaning o c.in-Some.desc p.view t.own t.new (subst (λ (h : Shape). MetNoLater h p.view c.in-Some.desc 0) c.requires.field.shape t.serial) c.mark_begin.new.self.view
    (subst (λ (v : PassView). Stepped cell_meaning o (λ pass. mark_begin pass c.in-Some.desc 0) v c.mark_begin.new.self.view) at c.mark_begin.ensures.step)

pub returns-clause-takes : goal.returns-clause-takes
returns-clause-takes c =
    let t = c.in-Some.ensures.takes in
    let desc = c.in-Some.desc in
    let taken = c.first_attempt.new.pass.shares in record {
      lowest = t.lowest;
      only = subst (OnlyShare desc 1 c.args.pass.now.shares) (sym (ap (λ (x : PassState). x.shares) c.mark_begin.ensures.same))
          (then_kept desc 1 c.args.pass.now.shares taken (after_begin taken desc) t.only (only_kept taken desc _ refl refl));
    }
