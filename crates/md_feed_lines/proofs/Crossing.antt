-- A feeder may go to another thread, and threads may share the lines that are fed.
use denote.RattleType.{RattleType}
use denote.Ref.{NamedLft}
use denote.Param.Send.{IsSend, IsSync, sendable}
use denote.Param.SendFields.{declared_send}
use Rattle.std.proofs.Crossing.{crosses}
use Rattle.md_feed_lines.specs.contracts.making.Making as making
use Rattle.md_feed_lines.specs.contracts.feed.Feed as feed
use Rattle.md_feed_lines.specs.contracts.feeder.Feeder as feeder
use Rattle.md_feed_lines.specs.contracts.hand.Hand as hand
use Rattle.md_feed_lines.specs.contracts.lines.FeedLines as lines
use Rattle.md_feed_lines.proofs.channel.SendEnd.TheSendSync as sending
use Rattle.md_feed_lines.proofs.channel.TakeEnd.TheSendSync as taking

making-send : IsSend making.the_row
making-send = search (sendable, crosses) depth 40

-- field by field, since the search through all of them gives up
feed-send : IsSend feed.the_row
feed-send =
    declared_send feed.the_type (
      sending.the_send,
      (
        search sendable depth 20,
        (
          search sendable depth 20,
          (
            search sendable depth 20,
            (making-send, (search (sendable, crosses) depth 40, tt)),
          ),
        ),
      ),
    )

pub feeder-send : IsSend feeder.the_row
feeder-send = let feeds = feed-send in search (sendable, crosses) depth 40

hand-send : IsSend hand.the_row
hand-send =
    let end = taking.the_send in
    let end_field = taking.the_field_send in
    let makes = making-send in
    search (sendable, crosses) depth 40

pub lines-sync : (κ : NamedLft) (R : RattleType) → IsSync R → IsSync (lines.the_row κ R)
lines-sync κ R sync = let hands = hand-send in search (sendable, crosses) depth 40
