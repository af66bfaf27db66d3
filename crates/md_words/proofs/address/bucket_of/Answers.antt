use Rattle.std.proofs.Common.{rules}
use Rattle.md_words.proofs.address.bucket_of.Goals as goal

pub returns-in-131198 : goal.returns-in-131198
returns-in-131198 c = search rules depth 1

pub returns-in-1048576 : goal.returns-in-1048576
returns-in-1048576 c = search rules depth 1
