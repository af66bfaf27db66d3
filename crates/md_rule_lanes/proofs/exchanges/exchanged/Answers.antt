use Rattle.std.proofs.Common.{arith}
use Rattle.md_rule_lanes.proofs.Counting.{counts_more}
use Rattle.md_rule_lanes.proofs.exchanges.exchanged.Goals as goal

pub returns : goal.returns
returns c = counts_more c.args.from c.args.to 2 c.word.result (let fits = c.requires in omega (arith, fits)) c.word.ensures.whole
