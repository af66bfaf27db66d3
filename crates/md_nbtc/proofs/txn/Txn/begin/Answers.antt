use mathlib.Core.Option.{some}
use Rattle.std.proofs.Common.{Err, None, [], ◌<◌, List, ℕ, refl, sym, ap, subst, ◌∙◌}
use Rattle.std.specs.List.{Contains}
use Rattle.md_machine.specs.declared.pass.PassView.{PassView}
use Rattle.md_machine.specs.Event.{mark_leave}
use Rattle.md_rule.specs.Views.{PassState}
use Rattle.md_arena.specs.Left.{HasTryLeft}
use Rattle.md_words.proofs.Owners.{own_desc_exists}
use Rattle.md_machine.specs.Own.{HasDesc}
use Rattle.md_rule.specs.Views.{IsOf}
use Rattle.md_rule.proofs.LaneLists.{desc_fits}
use Rattle.md_nbtc_law.specs.Ending.{BeginsTransaction, BeginsNot}
use Rattle.md_nbtc_law.specs.Going.{IsGoing}
use Rattle.md_nbtc_law.specs.State.{TxnState, state_of}
use Rattle.md_rule.proofs.Told.{told_leave}
use Rattle.md_help.specs.After.{StandsInField}
use Rattle.md_help.proofs.Steps.{stands_after}
use Rattle.md_nbtc_law.proofs.beginning.Begun.{is_going}
use Rattle.md_nbtc_law.proofs.beginning.Beginnings.{begins, lowest, ok_not_err}
use Rattle.md_nbtc_law.proofs.beginning.Leaving.{begins_not, lanes_left, taken_last}
use Rattle.md_nbtc_law.proofs.beginning.LeftOut.{free_left}
use Rattle.md_nbtc.proofs.txn.Txn.begin.Goals as goal

pub put_in_hand-serial-requires-clause-stands : goal.put_in_hand-serial-requires-clause-stands
put_in_hand-serial-requires-clause-stands g c =
    let M = g.T.Theory.meaning in
    let o = c.args.field.now.origin in
    let p = c.args.pass.now.view in
    let q = c.mark_leave.new.self.view in
    let step = c.mark_leave.ensures.step in
    let told = told_leave M o p q step in
    subst (λ (x : PassState). StandsInField M o x.view) (sym c.in-Ok.ensures.takes.1)
    (stands_after M o (λ pass. mark_leave pass) p q step (ap (λ (x : PassView). x.lanes) told))

pub put_in_hand-serial-requires-clause-idle : goal.put_in_hand-serial-requires-clause-idle
put_in_hand-serial-requires-clause-idle g c =
    let told = told_leave g.T.Theory.meaning c.args.field.now.origin c.args.pass.now.view c.mark_leave.new.self.view c.mark_leave.ensures.step in
    ap (λ (x : PassState). x.view.hand) c.in-Ok.ensures.takes.1 ∙ ap (λ (x : PassView). x.hand) told

pub put_in_hand-serial-requires-clause-taken : goal.put_in_hand-serial-requires-clause-taken
put_in_hand-serial-requires-clause-taken g c =
    taken_last c.mark_leave.new.self c.take_descriptor.new.pass c.in-Ok.desc c.in-Ok.ensures.own c.kept.ensures.kept c.kept.ensures.shares c.in-Ok.ensures.takes

pub returns-in-Err : goal.returns-in-Err
returns-in-Err g c =
    let M = g.T.Theory.meaning in
    let o = c.args.field.now.origin in
    let p = c.args.pass.now in
    let q = c.mark_leave.new.self in
    let same = c.mark_leave.ensures.same in
    let step = c.mark_leave.ensures.step in
    let limit = c.in-Err.ensures.limit in (
      (refl, (λ w. tt), subst (BeginsNot M p o) (sym limit.1) (begins_not M o p.view q.view step p q refl same)),
      record {
        refused = tt;
        pass = tt;
        field = tt;
        begun = tt;
        going = tt;
        none = (
          (λ e lane held has. c.in-Err.ensures.none.0 (ap Err limit.0) lane
              (subst (λ (l : List ℕ). Contains l lane) (sym (lanes_left M o p.view q.view step)) held)
              (subst (λ (x : PassState). HasTryLeft x lane) (sym same) has)),
          (λ none. ap Err limit.0),
        );
        limit = limit.0;
      },
    )

pub returns : goal.returns
returns g c =
    let M = g.T.Theory.meaning in
    let field = c.args.field.now in
    let p = c.args.pass.now in
    let q = c.mark_leave.new.self in
    let r = c.take_descriptor.new.pass in
    let s = c.put_in_hand-serial.new.pass in
    let desc = c.in-Ok.desc in
    let tag = c.args.tag in
    let serial = c.put_in_hand-serial.result in
    let leave = c.mark_leave.ensures.same in
    let step = c.mark_leave.ensures.step in
    let takes = c.in-Ok.ensures.takes in
    let own_q = c.in-Ok.ensures.own in
    let fits = subst (λ n. desc < n) (sym c.kept.ensures.shares) (desc_fits q.shape desc (own_desc_exists q.shape own_q.0 desc own_q.2)) in
    let rest = c.put_in_hand-serial.ensures.same in
    let counts = c.put_in_hand-serial.ensures.counts in
    let h = c.put_in_hand-serial.ensures.hand in
    let of : IsOf s field = record {
      table = ap (λ (x : PassState). x.table) rest ∙ ap (λ (x : PassState). x.table) takes.1 ∙ ap (λ (x : PassState). x.table) leave ∙ c.requires.of.table;
      shape = ap (λ (x : PassState). x.shape) rest ∙ ap (λ (x : PassState). x.shape) takes.1 ∙ ap (λ (x : PassState). x.shape) leave ∙ c.requires.of.shape;
    } in
    let own : HasDesc field.origin.shape r.view desc = subst (λ (x : PassState). HasDesc field.origin.shape x.view desc) (sym takes.1)
    (subst (λ shape. HasDesc shape q.view desc) (ap (λ (x : PassState). x.shape) leave ∙ c.requires.of.shape) own_q) in
    let idle = ap (λ (x : PassState). x.view.hand) takes.1 ∙ ap (λ (x : PassView). x.hand) (told_leave M field.origin p.view q.view step) in
    let free = free_left field.origin.shape q r desc (ap (λ (x : PassState). x.shape) leave ∙ c.requires.of.shape) c.kept.ensures.kept takes
    (subst (λ n. desc < n) (sym c.kept.ensures.shares) (desc_fits q.shape desc (own_desc_exists q.shape own_q.0 desc own_q.2))) in
    let is = c.over.ensures.state ∙ ap (λ b. state_of field s b [] [] None desc serial tag []) c.of-began.ensures in (
      (ap some (sym c.over.ensures.pass), (λ w. refl), tt),
      record {
        refused = tt;
        pass = c.over.ensures.pass;
        field = ap (λ (t : TxnState). t.field) is;
        begun = subst (BeginsTransaction p tag) (sym is) (begins M field p q r s desc tag serial leave step takes fits rest counts h of own idle free);
        going = subst (λ t. IsGoing M t []) (sym is) (is_going M field r s desc tag serial of own (λ lane. (counts lane).0) h idle free);
        none = (
          (λ e. absurd (ok_not_err _ _ e)),
          (λ none. let l = lowest M field p q r s desc tag serial leave step takes fits rest counts h of own idle free in absurd (none desc l.held l.has)),
        );
        limit = tt;
      },
    )
