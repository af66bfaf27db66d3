use Rattle.std.proofs.Common.{◌∙◌, length, ap, arith, inl, inr, sym}
use Rattle.std.proofs.lemmas.Bool.{cases_Bool, false≢true}
use Rattle.md_many.proofs.Rounding.{fronts-kept, fronts-played, less-played, less-worn}
use Rattle.md_many.proofs.rounds.play_round.Goals as goal

pub returns-then-course-clause-less : goal.returns-then-course-clause-less
returns-then-course-clause-less g c =
    less-worn (g.L.Lines.line_count c.args.play.now.lines.now) _ _ c.play_first.new.course.done
    c.in_ok-course.ensures.done _ _ c.if-course.true
    (λ worn. c.in_ok-play_first.ensures.fresh (c.in_ok-course.ensures.fresh worn) (c.in_ok-course.ensures.empty worn))
    c.in_ok-play_first.ensures.no_more.kept

pub returns-then-lone-clause-less : goal.returns-then-lone-clause-less
returns-then-lone-clause-less g c =
    less-played (g.L.Lines.line_count c.args.play.now.lines.now) _ _ c.play_first.new.course.done
    c.in_ok-course.ensures.done _ _ (c.in_ok-play_first.ensures.played c.if-course.false)

-- a worn engine would have been renewed first, and then not be worn
pub returns-then-course-clause-fronts : goal.returns-then-course-clause-fronts
returns-then-course-clause-fronts g c = elim (cases_Bool c.args.course.worn) [
  | inl worn ↦ absurd (false≢true (sym (c.in_ok-play_first.ensures.fresh (c.in_ok-course.ensures.fresh worn)
      (c.in_ok-course.ensures.empty worn)) ∙ c.if-course.true))
  | inr awake ↦ fronts-kept (g.L.Lines.line_count c.args.play.now.lines.now) _ _ c.play_first.new.course.done
      c.in_ok-course.ensures.done _ _
      (ap (λ f. length f.items) (c.play_first.ensures.fronts ∙ c.in_ok-course.ensures.kept awake))
      c.in_ok-play_first.ensures.no_more.kept
]

pub returns-then-lone-clause-fronts : goal.returns-then-lone-clause-fronts
returns-then-lone-clause-fronts g c =
    fronts-played (g.L.Lines.line_count c.args.play.now.lines.now) _ _ c.play_first.new.course.done
    c.in_ok-course.ensures.done _ _
    (omega (arith, ap (λ f. length f.items) c.play_first.ensures.fronts, c.in_ok-course.ensures.fronts))
    (c.in_ok-play_first.ensures.played c.if-course.false)
