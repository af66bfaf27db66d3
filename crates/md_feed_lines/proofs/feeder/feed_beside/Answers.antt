use denote.Param.Send.{sendable}
use Rattle.std.proofs.Crossing.{crosses}
use Rattle.md_feed_lines.proofs.Crossing.{feeder-send}
use Rattle.md_feed_lines.proofs.feeder.feed_beside.Goals as goal

pub join-sent_all-requires-send-F : goal.join-sent_all-requires-send-F
join-sent_all-requires-send-F g c κs within =
    let feeder = feeder-send in
    let sync = c.type_bounds.sync-R in
    search (sendable, crosses) depth 40
