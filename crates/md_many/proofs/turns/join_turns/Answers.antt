use Rattle.std.proofs.lemmas.List.{map-append}
use Rattle.std.proofs.lemmas.Result.{IfOk-at_ok}
use Rattle.md_many_attempts.specs.declared.batches.Played.{Played}
use Rattle.md_many.proofs.Joined.{turns-joined}
use Rattle.md_many.proofs.turns.join_turns.Goals as goal

-- the two passes, whose lanes are those that the split left, are apart
pub returns-clause-turns : goal.returns-clause-turns
returns-clause-turns g c = λ old kept given before middle low high splits rising at first second.
    let one = IfOk-at_ok _ c.in_ok-turns.was first in
    let other = IfOk-at_ok _ c.in_ok-pass.was second in
    rw (
      c.in_ok-append.ensures.items,
      map-append (λ (p : Played _). g.T.ReplyList.listed p.replies) c.in_ok-turns.turns.played.items c.in_ok-pass.field-0.played.items,
    )
    (turns-joined _ _ _ _ _ _ _ _ before _ _ _ _ _ splits one other at
    (c.join.ensures.joined (rw (one.lanes, other.lanes) splits.apart)) rising c.pass_is_legal.ensures.rising)
