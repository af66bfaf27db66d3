use Rattle.std.proofs.Common.{◌≡◌, Some}
use Rattle.md_machine.specs.events.SplitJoin.{joined_part}
use Rattle.md_rule.specs.declared.known.Parts.{Parts}
use Rattle.md_rule.specs.Rule.{JoinedInto}
use Rattle.md_rule.proofs.pass.Pass.join.Given as goal

abbrev pub ghosts-join_seat : goal.ghosts-join_seat
ghosts-join_seat g a = record { joined = joined_part a.field.now.origin.shape }

abbrev pub ghosts-look : goal.ghosts-look
ghosts-look g a =
    let o = a.field.now.origin in
    record { tells = λ k. (parts : Parts) → k.joined ≡ Some parts → JoinedInto g.T.Theory.meaning o parts.one parts.other (joined_part o.shape parts.one parts.other) }
