use Rattle.std.proofs.Common.{◌≡◌, ◌<◌, ◌≤◌, ◌+◌, ◌*◌, ℕ, length, vec_capacity}
use Rattle.md_history.specs.Engine.{bounds_in}
use Rattle.md_many_attempts.specs.Batches.{HasTriedSince}
use Rattle.md_many_attempts.specs.Lines.{IsSmallLine, StopsForMemory}
use Rattle.md_many_attempts.specs.Meaning.{meaning_of}
use Rattle.md_many_attempts.specs.Turns.{stretch}
use Rattle.md_many_attempts.specs.declared.attempts.TheConstants.{MOST_CONFLICTS}
use Rattle.md_many_attempts.proofs.Playing.{HasPlayed}
use Rattle.md_many_attempts.proofs.attempts.attempt_batch.Given as goal

abbrev pub invariant-attempts : goal.invariant-attempts
invariant-attempts g l = record {
  of : g.E.Engine.of l.engine l.pass;
  fated : length (g.E.Engine.front l.pass).known ≡ length (g.E.Engine.front l.pass).seen;
  lines : HasPlayed (meaning_of g.L.B.Body g.L.Lines l.lines) l.fn.batch.turn.caller l.fn.batch.turn.done l.tried
      (g.E.Engine.front l.fn.pass) (g.E.Engine.front l.pass) l.replies.items;
  within : l.fn.batch.turn.done + length l.replies.items ≤ g.L.Lines.line_count l.lines l.fn.batch.turn.caller;
  few : length l.replies.items ≤ l.tried;
  below : l.conflicts < MOST_CONFLICTS;
  most : l.fn.batch.streak.conflicts + l.tried ≤ MOST_CONFLICTS * length l.replies.items + l.conflicts;
  in_row : HasTriedSince (stretch g.E.Engine l.engine (meaning_of g.L.B.Body g.L.Lines l.lines) l.fn.batch.turn
      l.fn.pass l.pass l.replies.items) l.fn.batch.streak.conflicts l.conflicts;
  room : vec_capacity l.fn.replies ≤ vec_capacity l.replies;
  counted : g.E.Engine.begun l.pass ≡ g.E.Engine.begun l.fn.pass + l.tried;
  gate : (line : ℕ) → l.fn.batch.turn.done < line → line ≤ l.fn.batch.turn.done + length l.replies.items
      → g.G.Gate.after_called l.gate l.fn.batch.turn.caller line;
  begun : l.tried ≡ 0 → l.pass ≡ l.fn.pass;
  first : g.E.Engine.fresh l.engine l.fn.pass → 1 ≤ (g.E.Engine.limits l.engine).tries
      → IsSmallLine (bounds_in (g.E.Engine.limits l.engine)) (meaning_of g.L.B.Body g.L.Lines l.lines)
      l.fn.batch.turn.caller (l.fn.batch.turn.done + 1) (g.E.Engine.start l.engine) → 1 ≤ l.tried → 1 ≤ length l.replies.items;
  steady : StopsForMemory (g.E.Engine.may_stop l.engine) → length l.replies.items ≡ l.tried;
}
