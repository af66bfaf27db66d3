use Rattle.std.proofs.Common.{rules, ◌≡◌, ◌+◌, ◌∷◌, [], ◌++◌, length, refl, sym, ap, ◌∙◌, append_assoc, arith}
use Rattle.std.specs.Vec.Iter.{into_iter_items}
use Rattle.std.proofs.lemmas.List.{length-append, length-map, length_push, map_push}
use Rattle.std.proofs.lemmas.Result.{IfOk-from_err}
use Rattle.md_many_attempts.specs.declared.batches.Played.{Played}
use Rattle.md_many_attempts.specs.ByCaller.{at_caller}
use Rattle.md_many.specs.Rounds.{replies_in}
use Rattle.md_many.specs.Course.{of_one}
use Rattle.md_many.proofs.Handing.{all-parts, caller-next, kept-none, kept-then, next-suits, next-few}
use Rattle.md_many.proofs.keeping.keep_turns.Goals as goal

pub turns-init : goal.turns-init
turns-init g c = record {
  all = refl;
  rest = search rules;
  caller = refl;
  can_keep = λ other line r can. can;
  kept = kept-none _ _;
}

pub keep_lines-requires-clause-suit : goal.keep_lines-requires-clause-suit
keep_lines-requires-clause-suit g c =
    let listed = g.K.List.ReplyList.listed in
    let at = c.turns in
    next-suits (replies_in listed c.args.turns.items) (replies_in listed at.yielded) (replies_in listed (into_iter_items c.next.new.self))
    (listed c.in-Some.turn.replies) (at.caller + 1) _ _ c.args.done.now at.done
    (all-parts listed c.args.turns.items at.yielded (into_iter_items at.turn-iterator) (into_iter_items c.next.new.self)
    c.in-Some.turn (at.invariant.all ∙ c.into_iter-turn-iterator.ensures.into_iter_gives.0) c.in-Some.ensures.steps.0)
    (omega (arith, at.invariant.caller, length-map at.yielded (λ (p : Played _). listed p.replies)))
    at.invariant.kept (g.K.Keeper.can_keep c.args.keeper.now) (g.K.Keeper.can_keep at.keeper) at.invariant.can_keep
    c.requires.suit

pub keep_lines-requires-clause-few : goal.keep_lines-requires-clause-few
keep_lines-requires-clause-few g c =
    let listed = g.K.List.ReplyList.listed in
    let at = c.turns in
    next-few (replies_in listed c.args.turns.items) (replies_in listed at.yielded) (replies_in listed (into_iter_items c.next.new.self))
    (listed c.in-Some.turn.replies) (at.caller + 1) _ _ c.args.done.now at.done
    (all-parts listed c.args.turns.items at.yielded (into_iter_items at.turn-iterator) (into_iter_items c.next.new.self)
    c.in-Some.turn (at.invariant.all ∙ c.into_iter-turn-iterator.ensures.into_iter_gives.0) c.in-Some.ensures.steps.0)
    (omega (arith, at.invariant.caller, length-map at.yielded (λ (p : Played _). listed p.replies)))
    at.invariant.kept 4294967296 c.requires.few

pub turns-preserved : goal.turns-preserved
turns-preserved g c =
    let listed = g.K.List.ReplyList.listed in
    let at = c.turns in
    let x = c.in-Some.turn in
    let steps : into_iter_items at.turn-iterator ≡ x ∷ into_iter_items c.next.new.self = c.in-Some.ensures.steps.0 in
    let next : at.caller + 1 ≡ length (replies_in listed at.yielded) + 1 =
    omega (arith, at.invariant.caller, length-map at.yielded (λ (p : Played _). listed p.replies)) in
    record {
      all = append_assoc at.yielded (x ∷ []) _ ∙ rw (← steps) at.invariant.all;
      rest = let was = at.invariant.rest in let gone = c.in-Some.ensures.steps.1 in let short = ap length steps in omega arith;
      caller = omega (arith, at.invariant.caller, length_push at.yielded x);
      can_keep = λ other line r can. c.keep_lines.ensures.can_keep other line r (at.invariant.can_keep other line r can);
      kept = kept-then _ _ _ _ _ _ _ _ _ at.invariant.kept c.in_ok-keep_lines.ensures.kept
          (λ caller. ap (λ xs. at_caller [] xs caller) (map_push (λ (p : Played _). listed p.replies) at.yielded x)
          ∙ caller-next (replies_in listed at.yielded) (listed x.replies) caller
          ∙ ap (λ n. at_caller [] (replies_in listed at.yielded) caller ++ of_one n (listed x.replies) caller) (sym next));
    }

pub overflow_add-caller : goal.overflow_add-caller
overflow_add-caller g c =
    let at = c.turns in
    let all : length c.args.turns.items ≡ length at.yielded + length (into_iter_items at.turn-iterator) =
    ap length (sym (at.invariant.all ∙ c.into_iter-turn-iterator.ensures.into_iter_gives.0)) ∙ length-append at.yielded _ in
    omega (arith, all, ap length c.in-Some.ensures.steps.0, at.invariant.caller, c.requires.callers, c.requires.few_callers)

pub keep_lines-requires-clause-there : goal.keep_lines-requires-clause-there
keep_lines-requires-clause-there g c =
    let at = c.turns in
    let all : length c.args.turns.items ≡ length at.yielded + length (into_iter_items at.turn-iterator) =
    ap length (sym (at.invariant.all ∙ c.into_iter-turn-iterator.ensures.into_iter_gives.0)) ∙ length-append at.yielded _ in
    omega (arith, all, ap length c.in-Some.ensures.steps.0, at.invariant.caller, c.requires.callers, at.invariant.kept.callers)

pub returns-in_err-keep_lines : goal.returns-in_err-keep_lines
returns-in_err-keep_lines g c = record {
  can_keep = λ other line r can. c.keep_lines.ensures.can_keep other line r (c.turns.invariant.can_keep other line r can);
  kept = IfOk-from_err _ _ c.from_residual.ensures.0;
}
