use Rattle.md_orders.proofs.read_in_threads.read_version_2.Goals as goal

pub returns : goal.returns
returns g c = let (noted, few) = c.in_ok-read_parts.ensures in c.scripts_of_version_2.ensures _ _ noted few
