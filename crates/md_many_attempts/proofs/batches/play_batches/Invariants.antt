use Rattle.std.proofs.Common.{◌≡◌, ◌<◌, ◌≤◌, ◌+◌, ◌*◌, ℕ, length}
use Rattle.md_many_attempts.specs.Joined.{entries_after}
use Rattle.md_many_attempts.specs.Lines.{PlaysLines}
use Rattle.md_many_attempts.specs.Meaning.{meaning_of}
use Rattle.md_many_attempts.specs.Turns.{HasTriedInVain, stretch}
use Rattle.md_many_attempts.specs.declared.attempts.TheConstants.{MOST_CONFLICTS}
use Rattle.md_many_attempts.proofs.batches.play_batches.Given as goal

abbrev pub invariant-batches : goal.invariant-batches
invariant-batches g l =
    let listed = g.T.ReplyList.listed in
    let before = g.E.Engine.front l.fn.pass in
    record {
      of : g.E.Engine.of l.engine l.pass;
      fated : length (g.E.Engine.front l.pass).known ≡ length (g.E.Engine.front l.pass).seen;
      lanes : (g.E.Engine.front l.pass).lanes ≡ before.lanes;
      pending : (g.E.Engine.front l.pass).pending ≡ before.pending;
      lines : PlaysLines (meaning_of g.L.B.Body g.L.Lines l.lines) l.fn.turn.caller l.fn.turn.done before.lanes before
          (g.E.Engine.front l.pass) (listed l.replies);
      attempts : length (entries_after (length before.seen) before.lanes (g.E.Engine.front l.pass)) + l.left
          ≤ l.fn.turn.attempts;
      done : l.done ≡ l.fn.turn.done + length (listed l.replies);
      within : l.done ≤ g.L.Lines.line_count l.lines l.fn.turn.caller;
      gate : (line : ℕ) → l.fn.turn.done < line → line ≤ l.done → g.G.Gate.after_called l.gate l.fn.turn.caller line;
      vain : HasTriedInVain (stretch g.E.Engine l.engine (meaning_of g.L.B.Body g.L.Lines l.lines) l.fn.turn l.fn.pass
          l.pass (listed l.replies)) l.streak.conflicts;
      below : l.streak.conflicts < MOST_CONFLICTS;
      most : g.E.Engine.begun l.pass
          ≤ g.E.Engine.begun l.fn.pass + MOST_CONFLICTS * length (listed l.replies) + l.streak.conflicts;
      each : g.E.Engine.begun l.fn.pass + length (listed l.replies) ≤ g.E.Engine.begun l.pass;
      counted : g.E.Engine.begun l.pass + l.left ≡ g.E.Engine.begun l.fn.pass + l.fn.turn.attempts;
    }

abbrev pub decreases-batches : goal.decreases-batches
decreases-batches g l = l.left
