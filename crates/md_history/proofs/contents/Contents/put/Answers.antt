use Rattle.std.proofs.Common.{ap, sym, ◌∙◌}
use Rattle.std.proofs.lemmas.Result.{err_from_is_err_and}
use Rattle.std.specs.FinMap as fin
use Rattle.md_history.proofs.Tables.{table, get-table, table-insert, state_of-set_map, state_of-same_map, map_at-state_of}
use Rattle.md_history.proofs.contents.Contents.put.Goals as goal

pub returns-in_err-insert-clause-err : goal.returns-in_err-insert-clause-err
returns-in_err-insert-clause-err c =
    let p = err_from_is_err_and c.from_residual.result c.from_residual.ensures.1 in
    rw p.1 (state_of-same_map c.self.inside.maps.items c.self.inside.queues.items c.args.self.now c.self.view_is _ _ _ c.index_mut.ensures.value (ap table c.in_err-insert.ensures.err))

pub returns-clause-before : goal.returns-clause-before
returns-clause-before c = c.in_ok-insert.ensures.old ∙ sym (get-table _ c.args.key) ∙ ap (λ t. fin.get t c.args.key) (map_at-state_of c.self.inside.maps.items c.self.inside.queues.items c.args.self.now c.self.view_is _ _ c.requires c.index_mut.ensures.value)

pub returns-clause-ok : goal.returns-clause-ok
returns-clause-ok c = state_of-set_map c.self.inside.maps.items c.self.inside.queues.items c.args.self.now c.self.view_is _ _ _ c.requires c.index_mut.ensures.value (λ t. fin.insert t c.args.key c.args.value) (table-insert _ _ _ _ c.in_ok-insert.ensures.updates.0)
