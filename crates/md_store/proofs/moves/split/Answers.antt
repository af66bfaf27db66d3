use Rattle.md_store.proofs.Splitting.{is_split}
use Rattle.md_store.proofs.moves.split.Goals as goal

pub returns : goal.returns
returns c =
    is_split c.args.field.now c.args.pass.now c.split.new.self c.requires c.split.result c.split.ensures.some c.split.ensures.step c.split.ensures.none
