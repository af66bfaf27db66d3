use Rattle.std.proofs.Common.{◌≡◌, ◌∙◌, [], replicate, ap}
use Rattle.md_orders.specs.Renamed.{scripts_from}
use Rattle.md_orders.proofs.Noted.{kept-none}
use Rattle.md_orders.proofs.Renamed.{scripts-none}
use Rattle.md_orders.proofs.scripts.Scripts.empty.Goals as goal

-- the scripts are empty
shown : (c : goal.In_ok-scripts) → scripts_from 1 c.in_ok-scripts.scripts.items ≡ replicate c.args.callers []
shown c = ap (scripts_from 1) c.in_ok-scripts.ensures ∙ scripts-none 1 c.args.callers

pub invariant_of-result : goal.invariant_of-result
invariant_of-result c = kept-none c.args.callers _ c.ranges.callers.fits (shown c)

pub returns : goal.returns
returns c = shown c
