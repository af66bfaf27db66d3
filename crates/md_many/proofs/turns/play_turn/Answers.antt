use Rattle.md_many.proofs.Turning.{one-turn}
use Rattle.md_many.proofs.turns.play_turn.Goals as goal

pub returns-clause-turns : goal.returns-clause-turns
returns-clause-turns g c = λ before is.
    rw (c.in_ok-push.ensures.items, c.in_ok-played.ensures.items)
    (one-turn _ _ _ _ _ _ _ before c.requires.one c.play_batches.ensures.pass.lanes c.play_batches.ensures.pass.pending
    c.in_ok-play_batches.ensures.turn.lines c.in_ok-play_batches.ensures.turn.few
    c.in_ok-play_batches.ensures.turn.gate is)
