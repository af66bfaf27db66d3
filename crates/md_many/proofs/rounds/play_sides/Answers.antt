use Rattle.std.proofs.Common.{◌∙◌, refl, sym}
use Rattle.std.proofs.lemmas.List.{length-map}
use Rattle.std.proofs.lemmas.Result.{IfOk-from_err}
use Rattle.md_many_attempts.specs.declared.batches.Played.{Played}
use Rattle.md_many.proofs.Sides.{sides-count, sides-few, sides-suit, sides-further, plays-from}
use Rattle.md_many.proofs.Handing.{suit-wider, written-back, kept-from}
use Rattle.md_many.proofs.rounds.play_sides.Goals as goal

pub keep_turns-requires-clause-callers : goal.keep_turns-requires-clause-callers
keep_turns-requires-clause-callers g c =
    let course = c.requires.course in
    let plays = plays-from c.in_ok-turns.ensures.turns c.deref.ensures.value in
    rw c.deref_mut.ensures.value
    (sym (length-map c.in_ok-turns.turns.played.items (λ (p : Played _). g.K.List.ReplyList.listed p.replies))
    ∙ sides-count course.stands course.laws c.pass_is_legal.ensures _ c.pass_is_legal-2.ensures _ plays)

pub keep_turns-requires-clause-suit : goal.keep_turns-requires-clause-suit
keep_turns-requires-clause-suit g c = λ caller.
    let course = c.requires.course in
    let plays = plays-from c.in_ok-turns.ensures.turns c.deref.ensures.value in
    rw c.deref_mut.ensures.value
    (suit-wider (g.L.LawfulLines.suits c.args.play.now.lines.now caller) (g.K.Keeper.can_keep c.args.keeper.now caller)
    (c.requires.keeper caller) _ _
    (sides-suit course.stands course.laws c.pass_is_legal.ensures _ c.pass_is_legal-2.ensures _ plays caller))

pub keep_turns-requires-clause-few : goal.keep_turns-requires-clause-few
keep_turns-requires-clause-few g c = λ caller.
    let course = c.requires.course in
    let plays = plays-from c.in_ok-turns.ensures.turns c.deref.ensures.value in
    rw c.deref_mut.ensures.value
    (sides-few course.stands course.laws c.pass_is_legal.ensures _ c.pass_is_legal-2.ensures _ plays caller)

pub returns : goal.returns
returns g c =
    let course = c.requires.course in
    let done = c.args.course.done.items in
    let plays = plays-from c.in_ok-turns.ensures.turns c.deref.ensures.value in
    let kept = kept-from c.in_ok-keep_turns.ensures.kept c.deref_mut.ensures.value in
    let whole = written-back c.keep_turns.new.done done c.args.course.done.len kept.callers c.args.course.done.ok.0 in
    let further = sides-further course.stands course.laws c.pass_is_legal.ensures _ c.pass_is_legal-2.ensures _ plays
    _ _ kept (λ caller line some. (((g.met.L.Lines g.world.𝓛 g.world.𝓜 g.world.𝓡 ((λ s x. x), (λ x. x), (λ x. x), λ x. x)).has_body c.args.play.now.lines.now caller line).0 some).1) in
    record {
      course = record {
        of = c.in_ok-turns.ensures.of;
        laws = course.laws;
        runs = course.runs;
        stands = rw whole further.0;
      };
      keeper = λ other line r suits. c.keep_turns.ensures.can_keep other line r (c.requires.keeper other line r suits);
      no_more = record { callers = rw whole kept.callers; kept = rw whole further.1 };
      fronts = refl;
    }

pub returns-in_err-turns : goal.returns-in_err-turns
returns-in_err-turns g c =
    let err = c.from_residual.ensures.0 in
    record {
      course = IfOk-from_err _ _ err;
      keeper = c.requires.keeper;
      no_more = IfOk-from_err _ _ err;
      fronts = IfOk-from_err _ _ err;
    }

pub returns-in_err-keep_turns : goal.returns-in_err-keep_turns
returns-in_err-keep_turns g c =
    let err = c.from_residual-in_err-keep_turns.ensures.0 in
    record {
      course = IfOk-from_err _ _ err;
      keeper = λ other line r suits. c.keep_turns.ensures.can_keep other line r (c.requires.keeper other line r suits);
      no_more = IfOk-from_err _ _ err;
      fronts = IfOk-from_err _ _ err;
    }
