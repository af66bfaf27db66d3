use Rattle.std.proofs.Common.{◌-◌, ◌+◌, ◌∙◌, ap, arith}
use Rattle.std.proofs.lemmas.Result.{err_from_is_err_and}
use Rattle.md_history.specs.ScriptLaws.{at-rest, at-part, at-broke_part, at-done}
use Rattle.md_book.specs.Filling.{go_on, take_parts}
use Rattle.md_book.proofs.steps.Fills.{take_parts-more, take_parts-none, take_parts-last}
use Rattle.md_book.proofs.fill.take_parts.Goals as goal
use Rattle.md_book.proofs.fill.take_parts.Goals.{in-Dead, in-Live}

pub returns-in_err-look_front-clause-plays : goal.returns-in_err-look_front-clause-plays
returns-in_err-look_front-clause-plays g c =
    let p = err_from_is_err_and c.from_residual.result c.from_residual.ensures.1 in
    let places = c.args.places - (c.loop.counter + 1) in
    let at0 = at-rest c.loop.invariant.at (take_parts-more c.args.side c.args.level c.loop.filling (c.args.places - c.loop.counter) places (omega arith) c.if-filling-eq0.false) in
    rw (p.1, p.2) (at-broke_part (λ look. go_on look c.loop.filling (take_parts c.args.side c.args.level places)) at0 c.in_err-look_front.ensures.plays)

pub loop-preserved : goal.loop-preserved
loop-preserved g c =
    let places = c.args.places - (c.loop.counter + 1) in
    let at0 = at-rest c.loop.invariant.at (take_parts-more c.args.side c.args.level c.loop.filling (c.args.places - c.loop.counter) places (omega arith) c.if-filling-eq0.false) in
    let at1 = at-part (λ look. go_on look c.loop.filling (take_parts c.args.side c.args.level places)) at0 c.in_ok-look_front.ensures.plays.1 in
    elim c.match-branch-2.branch [
      | in-Dead w ↦ rw w.filling-is (record {
        at = at-rest at1 (ap (λ look. go_on look c.loop.filling (take_parts c.args.side c.args.level places)) w.in-Dead.is);
        going = c.in_ok-look_front.ensures.plays.0;
        kept = c.in_ok-look_front.ensures.kept ∙ c.loop.invariant.kept;
        few = omega arith;
        rest = omega arith;
      })
      | in-Live w ↦ rw (w.filling-is, w.add.ensures) (record {
        at = at-rest at1 (ap (λ look. go_on look c.loop.filling (take_parts c.args.side c.args.level places)) w.in-Live.is);
        going = c.in_ok-look_front.ensures.plays.0;
        kept = c.in_ok-look_front.ensures.kept ∙ c.loop.invariant.kept;
        few = omega arith;
        rest = omega arith;
      })
    ]

pub returns-after-loop-clause-plays : goal.returns-after-loop-clause-plays
returns-after-loop-clause-plays g c =
    (c.loop.invariant.going, at-done (at-rest c.loop.invariant.at (take_parts-last c.args.side c.args.level c.loop.filling (c.args.places - c.loop.counter) (omega arith))))

pub returns-then-filling-eq0-clause-plays : goal.returns-then-filling-eq0-clause-plays
returns-then-filling-eq0-clause-plays g c =
    (c.loop.invariant.going, at-done (at-rest c.loop.invariant.at (take_parts-none c.args.side c.args.level c.loop.filling (c.args.places - c.loop.counter) c.if-filling-eq0.true)))

pub returns-in-Nobody-clause-plays : goal.returns-in-Nobody-clause-plays
returns-in-Nobody-clause-plays g c =
    let places = c.args.places - (c.loop.counter + 1) in
    let at0 = at-rest c.loop.invariant.at (take_parts-more c.args.side c.args.level c.loop.filling (c.args.places - c.loop.counter) places (omega arith) c.if-filling-eq0.false) in
    let at1 = at-part (λ look. go_on look c.loop.filling (take_parts c.args.side c.args.level places)) at0 c.in_ok-look_front.ensures.plays.1 in
    (c.in_ok-look_front.ensures.plays.0, at-done (at-rest at1 (ap (λ look. go_on look c.loop.filling (take_parts c.args.side c.args.level places)) c.in-Nobody.is)))
