use Rattle.std.proofs.Common.{◌≡◌, ap, ◌∙◌}
use Rattle.md_history.proofs.Tables.{table-made, state_of-set_map}
use Rattle.md_history.specs.Contents.{table_of_pairs}
use Rattle.md_history.proofs.contents.Contents.set_map.Goals as goal

pub returns-clause-ok : goal.returns-clause-ok
returns-clause-ok c =
    let made = c.in_ok-self-inside.ensures.runs tt in
    let all : made.0.items ≡ c.args.pairs.items =
    (c.into_iter.ensures.runs made.0 made.0.seen).4 made.2 ∙ ap (λ i. i.rest.items) made.1 ∙ c.into_iter.ensures.rest in
    state_of-set_map c.self.inside.maps.items c.self.inside.queues.items c.args.self.now c.self.view_is c.args.map c.index_mut.result.now c.in_ok-self-inside.field-0 c.requires c.index_mut.ensures.value
    (λ t. table_of_pairs c.args.pairs.items) (table-made _ made.0.items made.3.0 ∙ ap table_of_pairs all)
