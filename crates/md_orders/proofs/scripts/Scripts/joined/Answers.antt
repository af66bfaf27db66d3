use Rattle.std.proofs.Common.{List, subst}
use Rattle.md_book.specs.declared.commands.Command.{Command}
use Rattle.md_orders.specs.Scripts.{AreKept}
use Rattle.md_orders.specs.Renamed.{scripts_from}
use Rattle.md_orders.specs.Joined.{AreJoined}
use Rattle.md_orders.proofs.Joined.{scripts-joined, kept-joined}
use Rattle.md_orders.proofs.scripts.Scripts.joined.Goals as goal

-- the scripts of both
done : (c : goal.In_ok-scripts) → AreJoined c.args.self c.args.more (scripts_from 1 c.in_ok-scripts.scripts.items)
done c = scripts-joined _ _ _ c.args.self c.args.more c.self.view_is c.more.view_is c.requires.same c.in_ok-scripts.ensures

pub invariant_of-result : goal.invariant_of-result
invariant_of-result c =
    kept-joined _ _ c.args.self c.args.more _
    (subst (λ (scripts : List (List Command)). AreKept c.self.inside.total scripts) c.self.view_is c.self.invariant)
    (subst (λ (scripts : List (List Command)). AreKept c.more.inside.total scripts) c.more.view_is c.more.invariant)
    c.requires.same c.requires.few c.requires.room (done c)

pub returns : goal.returns
returns c = done c
