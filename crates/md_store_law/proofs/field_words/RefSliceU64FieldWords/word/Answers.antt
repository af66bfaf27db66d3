use Rattle.std.proofs.Common.{rules}
use Rattle.md_store_law.proofs.field_words.RefSliceU64FieldWords.word.Goals as goal

pub returns : goal.returns
returns c = search rules depth 1
