use Rattle.md_rule_lanes.proofs.LaneSets.{lanes_all}
use Rattle.md_rule_lanes.proofs.lanes.Lanes.all.Goals as goal

pub returns : goal.returns
returns c = lanes_all c.args.count c.requires.1
