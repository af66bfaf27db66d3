use Rattle.md_machine.specs.events.SplitJoin.{kept_part, given_part}
use Rattle.md_rule.specs.Rule.{SplitInto}
use Rattle.md_rule.proofs.pass.Pass.split.Given as goal

abbrev pub ghosts-look : goal.ghosts-look
ghosts-look g a =
    let o = a.field.now.origin in
    record { tells = λ k. SplitInto g.T.Theory.meaning o k.view (kept_part o.shape k.view) (given_part o.shape k.view) }

abbrev pub ghosts-split_seat : goal.ghosts-split_seat
ghosts-split_seat g a = record { kept = kept_part a.field.now.origin.shape; given = given_part a.field.now.origin.shape }
