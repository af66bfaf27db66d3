use Rattle.std.proofs.Common.{ap, sym, ◌∙◌}
use Rattle.std.specs.FinMap as fin
use Rattle.md_history.proofs.Tables.{get-table, map_at-state_of}
use Rattle.md_history.proofs.contents.Contents.get.Goals as goal

pub returns : goal.returns
returns c = c.copied.ensures ∙ c.get.ensures.value ∙ sym (get-table _ c.args.key) ∙ ap (λ t. fin.get t c.args.key) (map_at-state_of c.self.inside.maps.items c.self.inside.queues.items c.args.self.now c.self.view_is _ _ c.requires c.index.ensures)
