use Rattle.std.proofs.Common.{◌≡◌, ◌-◌, ◌+◌, ◌∙◌, suc, ap, arith}
use Rattle.std.proofs.lemmas.Result.{err_from_is_err_and}
use Rattle.md_history.specs.ScriptLaws.{at-rest, at-part, at-broke_part, at-done}
use Rattle.md_match.specs.declared.limits.TheConstants.{MAX_LOOKS}
use Rattle.md_match.specs.Sweeping.{go_on, with_taken, sweep_levels}
use Rattle.md_match.proofs.scripts.Sweeping.{at_best, sweep-some, sweep-none, no-price, no-part}
use Rattle.md_match.proofs.sweeping.sweep_levels.Goals as goal
use Rattle.md_match.proofs.sweeping.sweep_levels.Goals.{in-Some-taken, in_default-taken}

pub returns-in_err-best-clause-plays : goal.returns-in_err-best-clause-plays
returns-in_err-best-clause-plays g c =
    let p = err_from_is_err_and c.from_residual.result c.from_residual.ensures.1 in
    let left = MAX_LOOKS - c.loop-looks.looks in
    let at0 = at-rest c.loop-looks.invariant.at (sweep-some c.args.side c.args.limit left c.loop-looks.sweep c.if-sweep-eq0.false) in
    rw (p.1, p.2) (at-broke_part (λ best. go_on best c.loop-looks.sweep (at_best c.args.side c.args.limit left c.loop-looks.sweep)) at0 c.in_err-best.ensures.plays)

pub returns-in_err-taken-clause-plays : goal.returns-in_err-taken-clause-plays
returns-in_err-taken-clause-plays g c =
    let p = err_from_is_err_and c.from_residual-in_err-taken.result c.from_residual-in_err-taken.ensures.1 in
    let left = MAX_LOOKS - (c.loop-looks.looks + 1) in
    let more : MAX_LOOKS - c.loop-looks.looks ≡ suc left = omega (arith, c.if-looks-eq-MAX_LOOKS.false) in
    let at0 = at-rest c.loop-looks.invariant.at (ap (λ n. sweep_levels c.args.side c.args.limit n c.loop-looks.sweep) more ∙ sweep-some c.args.side c.args.limit (suc left) c.loop-looks.sweep c.if-sweep-eq0.false) in
    let at1 = at-part (λ best. go_on best c.loop-looks.sweep (at_best c.args.side c.args.limit (suc left) c.loop-looks.sweep)) at0 c.in_ok-best.ensures.plays.1 in
    let at2 = at-rest at1 (ap (λ best. go_on best c.loop-looks.sweep (at_best c.args.side c.args.limit (suc left) c.loop-looks.sweep)) c.in-Some.is) in
    rw (p.1, p.2) (at-broke_part (λ part. sweep_levels c.args.side c.args.limit left (with_taken c.loop-looks.sweep part)) at2 (rw c.opposite.ensures at c.in_err-taken.ensures.plays))

pub loop-looks-preserved : goal.loop-looks-preserved
loop-looks-preserved g c =
    let left = MAX_LOOKS - (c.loop-looks.looks + 1) in
    let more : MAX_LOOKS - c.loop-looks.looks ≡ suc left = omega (arith, c.if-looks-eq-MAX_LOOKS.false) in
    let at0 = at-rest c.loop-looks.invariant.at (ap (λ n. sweep_levels c.args.side c.args.limit n c.loop-looks.sweep) more ∙ sweep-some c.args.side c.args.limit (suc left) c.loop-looks.sweep c.if-sweep-eq0.false) in
    let at1 = at-part (λ best. go_on best c.loop-looks.sweep (at_best c.args.side c.args.limit (suc left) c.loop-looks.sweep)) at0 c.in_ok-best.ensures.plays.1 in
    let at2 = at-rest at1 (ap (λ best. go_on best c.loop-looks.sweep (at_best c.args.side c.args.limit (suc left) c.loop-looks.sweep)) c.in-Some.is) in
    let took = rw c.opposite.ensures at c.in_ok-taken.ensures.plays in
    let at3 = at-part (λ part. sweep_levels c.args.side c.args.limit left (with_taken c.loop-looks.sweep part)) at2 took.1 in
    elim c.match-taken.branch [
      | in-Some-taken w ↦ rw (w.sweep-is, w.add.ensures) (record {
        at = at-rest at3 (ap (λ part. sweep_levels c.args.side c.args.limit left (with_taken c.loop-looks.sweep part)) w.in-Some-taken.is);
        going = took.0;
        kept = c.in_ok-taken.ensures.kept ∙ c.in_ok-best.ensures.kept ∙ c.loop-looks.invariant.kept;
        looks = omega (arith, c.if-looks-eq-MAX_LOOKS.false);
        few = omega arith;
        rest = omega arith;
      })
      | in_default-taken w ↦ rw w.sweep-is (record {
        at = at-rest at3 (ap (λ part. sweep_levels c.args.side c.args.limit left (with_taken c.loop-looks.sweep part)) (no-part c.in_ok-taken.taken w.in_default-taken.not-Some));
        going = took.0;
        kept = c.in_ok-taken.ensures.kept ∙ c.in_ok-best.ensures.kept ∙ c.loop-looks.invariant.kept;
        looks = omega (arith, c.if-looks-eq-MAX_LOOKS.false);
        few = omega arith;
        rest = omega arith;
      })
    ]

pub returns-then-sweep-eq0-clause-plays : goal.returns-then-sweep-eq0-clause-plays
returns-then-sweep-eq0-clause-plays g c =
    (c.loop-looks.invariant.going, at-done (at-rest c.loop-looks.invariant.at (sweep-none c.args.side c.args.limit (MAX_LOOKS - c.loop-looks.looks) c.loop-looks.sweep c.if-sweep-eq0.true)))

pub returns-in_default-clause-plays : goal.returns-in_default-clause-plays
returns-in_default-clause-plays g c =
    let left = MAX_LOOKS - c.loop-looks.looks in
    let after = at_best c.args.side c.args.limit left c.loop-looks.sweep in
    let at0 = at-rest c.loop-looks.invariant.at (sweep-some c.args.side c.args.limit left c.loop-looks.sweep c.if-sweep-eq0.false) in
    let at1 = at-part (λ best. go_on best c.loop-looks.sweep after) at0 c.in_ok-best.ensures.plays.1 in
    (c.in_ok-best.ensures.plays.0, at-done (at-rest at1 (no-price c.in_ok-best.best c.loop-looks.sweep after c.in_default.not-Some)))

pub returns-then-looks-eq-MAX_LOOKS-clause-plays : goal.returns-then-looks-eq-MAX_LOOKS-clause-plays
returns-then-looks-eq-MAX_LOOKS-clause-plays g c =
    let none : MAX_LOOKS - c.loop-looks.looks ≡ 0 = omega (arith, c.if-looks-eq-MAX_LOOKS.true) in
    let after = at_best c.args.side c.args.limit 0 c.loop-looks.sweep in
    let at0 = at-rest c.loop-looks.invariant.at (ap (λ n. sweep_levels c.args.side c.args.limit n c.loop-looks.sweep) none ∙ sweep-some c.args.side c.args.limit 0 c.loop-looks.sweep c.if-sweep-eq0.false) in
    let at1 = at-part (λ best. go_on best c.loop-looks.sweep after) at0 c.in_ok-best.ensures.plays.1 in
    (c.in_ok-best.ensures.plays.0, at-done (at-rest at1 (ap (λ best. go_on best c.loop-looks.sweep after) c.in-Some.is)))
