use Rattle.std.proofs.Common.{ap, sym, ◌∙◌}
use Rattle.std.specs.FinMap as fin
use Rattle.md_history.proofs.Tables.{get-table, table-remove, state_of-set_map, map_at-state_of}
use Rattle.md_history.proofs.contents.Contents.remove.Goals as goal

pub returns-clause-before : goal.returns-clause-before
returns-clause-before c = c.remove.ensures.value ∙ sym (get-table _ c.args.key) ∙ ap (λ t. fin.get t c.args.key) (map_at-state_of c.self.inside.maps.items c.self.inside.queues.items c.args.self.now c.self.view_is _ _ c.requires c.index_mut.ensures.value)

pub returns-clause-after : goal.returns-clause-after
returns-clause-after c = state_of-set_map c.self.inside.maps.items c.self.inside.queues.items c.args.self.now c.self.view_is _ _ _ c.requires c.index_mut.ensures.value (λ t. fin.remove t c.args.key) (table-remove _ _ _ c.remove.ensures.updates.0)
