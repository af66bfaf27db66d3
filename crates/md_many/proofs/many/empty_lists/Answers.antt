use Rattle.std.proofs.Common.{◌∷◌, [], ◌++◌, ◌∙◌, Vec, Global, ap}
use Rattle.std.proofs.lemmas.List.{map_push, replicate_more}
use Rattle.md_many_attempts.specs.ByCaller.{lists_in}
use Rattle.md_many.proofs.many.empty_lists.Goals as goal

pub callers-preserved : goal.callers-preserved
callers-preserved g c =
    ap lists_in c.in_ok-push.ensures.items ∙ map_push (λ (v : Vec _ Global). v.items) c.callers.lists.items c.new.result
    ∙ ap (λ xs. lists_in c.callers.lists.items ++ xs ∷ []) c.new.ensures.items
    ∙ ap (λ lists. lists ++ [] ∷ []) c.callers.invariant ∙ replicate_more c.callers.made []
