use Rattle.md_rule.proofs.Events.{has_base}
use Rattle.md_rule.proofs.words.mark.Goals as goal

pub load_word-requires-clause-field : goal.load_word-requires-clause-field
load_word-requires-clause-field g c = (c.requires.field, has_base c.args.field.now.origin.shape)
