use Rattle.std.proofs.Common.{arith}
use Rattle.md_queue.proofs.words.take_node.Goals as goal

pub overflow_add-rank : goal.overflow_add-rank
overflow_add-rank g c =
    let low = c.requires.low in
    omega (arith, low)

pub fresh-requires-clause-going : goal.fresh-requires-clause-going
fresh-requires-clause-going g c = c.requires.going

pub fresh-requires-clause-operates : goal.fresh-requires-clause-operates
fresh-requires-clause-operates g c = c.requires.operates

pub returns-clause-pass : goal.returns-clause-pass
returns-clause-pass g c = c.fresh.ensures.pass

pub returns-clause-on : goal.returns-clause-on
returns-clause-on g c = c.fresh.ensures.on

pub returns-clause-fresh : goal.returns-clause-fresh
returns-clause-fresh g c = c.fresh.ensures.fresh

pub returns-clause-given : goal.returns-clause-given
returns-clause-given g c = c.fresh.ensures.given
