use Rattle.std.proofs.Common.{rules, ◌≡◌, ◌≤◌, ◌+◌, ◌∷◌, [], ◌∙◌, ℕ, List, length, refl, sym, ap, subst, arith}
use Rattle.std.specs.Prelude.{slice_index_or}
use Rattle.md_history.specs.Front.{Front as View}
use Rattle.std.proofs.lemmas.Result.{IfOk-weaker}
use Rattle.md_many.proofs.Coursing.{within-at}
use Rattle.md_many.proofs.Halving.{split-more, kept-count, given-count}
use Rattle.md_many.proofs.turns.+turns.Goals as goal

-- each half is shorter than the whole, and has a lane for each of its callers
pub join-first-requires-after_bounds : goal.join-first-requires-after_bounds
join-first-requires-after_bounds g t c κs within =
    let two : 2 ≤ length c.args.done.now =
    subst (λ n. 2 ≤ n) (sym c.requires.lanes)
    (split-more _ _ _ c.split.ensures.none c.in-Some.is c.pass_is_legal.ensures.some) in
    let low : length c.halves.result.0.now ≡ length (g.E.Engine.front c.split.new.pass).lanes =
    kept-count _ _ _ _ c.in-Some.ensures.split.kept_lanes c.requires.lanes c.halves.ensures.low in
    let high : length c.halves.result.1.now ≡ length (g.E.Engine.front c.in-Some.other).lanes =
    given-count _ _ _ _ c.in-Some.ensures.split.given_lanes c.requires.lanes c.halves.ensures.high in
    ((omega arith, search rules depth 1), (omega arith, search rules depth 1))

pub returns-clause-turns : goal.returns-clause-turns
returns-clause-turns g t c =
    rw c.halves.ensures.whole
    (c.join_turns.ensures.turns _ _ _ c.args.before _ _ _ c.in-Some.ensures.split c.pass_is_legal.ensures.rising (omega arith)
    c.join-first.ensures.first.1 c.join-first.ensures.second.1)

-- a list of one number
one-alone : (ns : List ℕ) → length ns ≡ 1 → ns ≡ slice_index_or ns 0 0 ∷ []
one-alone [] one = absurd (omega (arith, one))
one-alone (n ∷ []) one = refl
one-alone (n ∷ m ∷ ns) one = absurd (omega (arith, one))

pub play_turn-requires-clause-turn : goal.play_turn-requires-clause-turn
play_turn-requires-clause-turn g t c κs within =
    let lone : length (g.E.Engine.front c.args.pass).lanes ≡ 1 = c.in_default.ensures.none.0 refl in
    let caller : c.args.before + 1 + 0 ≡ c.args.before + 1 = omega arith in
    record {
      fits = c.requires.fits;
      done = subst (λ k. slice_index_or c.args.done.now 0 0 ≤ g.L.Lines.line_count c.args.shared.lines.now k) caller
          (within-at (g.L.Lines.line_count c.args.shared.lines.now) c.args.before c.args.done.now c.requires.within 0
          (omega (arith, c.requires.lanes, lone)));
    }

pub returns-in_default-clause-turns : goal.returns-in_default-clause-turns
returns-in_default-clause-turns g t c =
    let lone : length (g.E.Engine.front c.args.pass).lanes ≡ 1 = c.in_default.ensures.none.0 refl in
    let same : g.E.Engine.front c.split.new.pass ≡ g.E.Engine.front c.args.pass = c.in_default.ensures.same in
    rw (one-alone c.args.done.now (c.requires.lanes ∙ lone), ← same)
    (IfOk-weaker c.play_turn.result _ _ (λ r turns. turns c.args.before refl) c.play_turn.ensures.turns)

pub play_turn-requires-clause-of : goal.play_turn-requires-clause-of
play_turn-requires-clause-of g t c κs within = c.split.ensures.of

pub play_turn-requires-clause-one : goal.play_turn-requires-clause-one
play_turn-requires-clause-one g t c κs within = ap (λ (f : View). length f.lanes) c.in_default.ensures.same ∙ c.in_default.ensures.none.0 refl

pub returns-in_default-clause-of : goal.returns-in_default-clause-of
returns-in_default-clause-of g t c = c.play_turn.ensures.of

pub overflow_add-turn : goal.overflow_add-turn
overflow_add-turn g t c = omega arith

pub bounds-done-0 : goal.bounds-done-0
bounds-done-0 g t c = search rules depth 1

pub halves-requires-after_bounds : goal.halves-requires-after_bounds
halves-requires-after_bounds g t c κs within = c.requires.within

pub join_turns-requires-clause-of : goal.join_turns-requires-clause-of
join_turns-requires-clause-of g t c κs within = c.join-first.ensures.first.0

pub join_turns-requires-clause-of_other : goal.join_turns-requires-clause-of_other
join_turns-requires-clause-of_other g t c κs within = c.join-first.ensures.second.0

pub returns-clause-of : goal.returns-clause-of
returns-clause-of g t c = c.join_turns.ensures.of

pub pass_is_legal-requires-after_bounds : goal.pass_is_legal-requires-after_bounds
pass_is_legal-requires-after_bounds g t c κs within = c.requires.of

pub join+arg2-play_turns-requires : goal.join+arg2-play_turns-requires
join+arg2-play_turns-requires g t c κs within = assumption

pub join+arg2-returns : goal.join+arg2-returns
join+arg2-returns g t c = assumption

pub fn::play_turns::join+arg2+FnOnce::call_once-join+arg2-requires : goal.fn::play_turns::join+arg2+FnOnce::call_once-join+arg2-requires
fn::play_turns::join+arg2+FnOnce::call_once-join+arg2-requires g t c κs within = assumption

pub fn::play_turns::join+arg2+FnOnce::call_once-returns : goal.fn::play_turns::join+arg2+FnOnce::call_once-returns
fn::play_turns::join+arg2+FnOnce::call_once-returns g t c = assumption

pub join+arg3-play_turns-requires : goal.join+arg3-play_turns-requires
join+arg3-play_turns-requires g t c κs within = assumption

pub join+arg3-returns : goal.join+arg3-returns
join+arg3-returns g t c = assumption

pub fn::play_turns::join+arg3+FnOnce::call_once-join+arg3-requires : goal.fn::play_turns::join+arg3+FnOnce::call_once-join+arg3-requires
fn::play_turns::join+arg3+FnOnce::call_once-join+arg3-requires g t c κs within = assumption

pub fn::play_turns::join+arg3+FnOnce::call_once-returns : goal.fn::play_turns::join+arg3+FnOnce::call_once-returns
fn::play_turns::join+arg3+FnOnce::call_once-returns g t c = assumption
