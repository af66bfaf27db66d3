use Rattle.md_feed_lines.proofs.Relaying.{takes}
use Rattle.md_feed_lines.proofs.channel.TakeEnd.take.Goals as goal

pub try_recv_as-requires-clause-rule : goal.try_recv_as-requires-clause-rule
try_recv_as-requires-clause-rule g c = (takes _ _ c.args.self.now.takes, λ items views holds at. tt)
