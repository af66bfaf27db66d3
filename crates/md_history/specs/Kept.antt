-- Acts as a history keeps them.
use Rattle.std.specs.Prelude.{Some, None}
use Rattle.md_history.specs.declared.acts.Act.{Act}
use Rattle.md_history.specs.declared.acts.Reply.{Reply}
use Rattle.md_history.specs.declared.acts.Reply.TheVariants as reply
use Rattle.md_history.specs.declared.kept.KeptReply.{KeptReply}
use Rattle.md_history.specs.declared.kept.KeptReply.TheVariants.{Found, NotFound, Flag, Nothing, Line}
use Rattle.md_history.specs.declared.kept.KeptAct.{KeptAct}

abbrev pub reply_of : KeptReply → Reply
reply_of (Found v) = reply.Value (Some v)
reply_of NotFound = reply.Value None
reply_of (Flag b) = reply.Flag b
reply_of Nothing = reply.Nothing
reply_of (Line l) = reply.Line l.value

-- the act that is kept
abbrev pub kept_as : KeptAct → Act
kept_as kept = record { op = kept.op; reply = reply_of kept.reply }
