-- Acts: operations with their replies.
use Rattle.md_history.specs.declared.acts.Act.{Act}
use Rattle.md_history.specs.declared.acts.Op.{Op}
use Rattle.md_history.specs.declared.acts.Reply.{Reply}

abbrev pub act_of : Op → Reply → Act
act_of op reply = record { op = op; reply = reply }
