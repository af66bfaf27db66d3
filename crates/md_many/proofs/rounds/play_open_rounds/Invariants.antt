use Rattle.std.proofs.Common.{◌≡◌, ◌<◌, ◌≤◌, ◌^◌, length}
use Rattle.md_many_attempts.specs.ByCaller.{lines_of}
use Rattle.md_many.specs.Course.{IsInCourse}
use Rattle.md_many.specs.Laws.{CanKeepAll}
use Rattle.md_many.specs.Plan.{plan_of}
use Rattle.md_many.specs.Played.{fronts_and_left, rounds_left}
use Rattle.md_many.proofs.rounds.play_open_rounds.Given as goal

abbrev pub invariant-rounds : goal.invariant-rounds
invariant-rounds g l = record {
  course : IsInCourse g.E.Engine (plan_of g.L.B.Body g.L.Lines g.L.LawfulLines g.G.Gate l.play)
      (g.K.Keeper.keeps l.keeper) l.course;
  keeper : CanKeepAll (g.L.LawfulLines.suits l.play.lines.now) (g.K.Keeper.can_keep l.keeper);
  callers : length l.course.done.items < 2 ^ 32;
  fronts : fronts_and_left (g.L.Lines.line_count l.play.lines.now) (length l.course.fronts.items) l.course.done.items
      ≤ lines_of (g.L.Lines.line_count l.play.lines.now) (g.L.Lines.caller_count l.play.lines.now);
  count : length l.course.done.items ≡ g.L.Lines.caller_count l.play.lines.now;
}

abbrev pub decreases-rounds : goal.decreases-rounds
decreases-rounds g l = rounds_left (g.L.Lines.line_count l.play.lines.now) l.course.done.items l.course.worn
