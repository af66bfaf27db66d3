use Rattle.std.proofs.Common.{[], ◌∷◌, ◌++◌}
use Rattle.std.proofs.lemmas.Result.{err_from_is_err_and}
use Rattle.md_history.proofs.Tables.{state_of-set_queue, state_of-same_queue}
use Rattle.md_history.proofs.contents.Contents.push.Goals as goal

pub returns-in_err-push_back-clause-err : goal.returns-in_err-push_back-clause-err
returns-in_err-push_back-clause-err c =
    let p = err_from_is_err_and c.from_residual.result c.from_residual.ensures.1 in
    rw p.1 (state_of-same_queue c.self.inside.maps.items c.self.inside.queues.items c.args.self.now c.self.view_is _ _ _ c.index_mut.ensures.value c.in_err-push_back.ensures.items)

pub returns-clause-ok : goal.returns-clause-ok
returns-clause-ok c = state_of-set_queue c.self.inside.maps.items c.self.inside.queues.items c.args.self.now c.self.view_is _ _ _ c.requires c.index_mut.ensures.value (λ xs. xs ++ c.args.value ∷ []) c.in_ok-push_back.ensures.items
