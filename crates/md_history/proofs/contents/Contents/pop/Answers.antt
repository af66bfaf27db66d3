use Rattle.std.proofs.Common.{drop}
use Rattle.md_history.proofs.Tables.{state_of-set_queue}
use Rattle.md_history.proofs.contents.Contents.pop.Goals as goal

pub returns-clause-after : goal.returns-clause-after
returns-clause-after c = state_of-set_queue c.self.inside.maps.items c.self.inside.queues.items c.args.self.now c.self.view_is _ _ _ c.requires c.index_mut.ensures.value (drop 1) c.pop_front.ensures.rest
