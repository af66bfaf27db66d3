use Rattle.std.proofs.Common.{refl}
use Rattle.md_history.proofs.kept.KeptAct.of.Goals.{in-Value-Some, in-Value-None, in-Flag, in-Nothing, in-Line+in_ok-new-in-Line}
use Rattle.md_history.proofs.kept.KeptAct.of.Goals as goal

pub returns : goal.returns
returns c = elim c.match-reply.branch [
  | in-Value-Some w ↦ rw (w.reply-is, w.in-Value-Some.is, rw w.in-Value-Some.is at w.in-Value-Some.field-0-is) refl
  | in-Value-None w ↦ rw (w.reply-is, w.in-Value-None.is, rw w.in-Value-None.is at w.in-Value-None.field-0-is) refl
  | in-Flag w ↦ rw (w.reply-is, w.in-Flag.is) refl
  | in-Nothing w ↦ rw (w.reply-is, w.in-Nothing.is) refl
  | in-Line+in_ok-new-in-Line w ↦ rw (w.reply-is, w.in-Line.is, w.in_ok-new-in-Line.ensures.ok) refl
]
