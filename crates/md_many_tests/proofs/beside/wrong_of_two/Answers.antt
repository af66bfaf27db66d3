use denote.Param.Send.{sendable}
use Rattle.std.proofs.Crossing.{crosses}
use Rattle.md_feed_lines.proofs.Crossing.{lines-sync}
use Rattle.md_many_tests.proofs.beside.wrong_of_two.Goals as goal

pub join-second-requires-send-F : goal.join-second-requires-send-F
join-second-requires-send-F g c κs within =
    let sync = c.type_bounds.sync-R in
    search (sendable, crosses, lines-sync) depth 40 fits 100000
