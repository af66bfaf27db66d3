use Rattle.std.proofs.Common.{◌≡◌, ◌∙◌, List, length, ap, sym, subst, arith}
use Rattle.md_book.specs.declared.commands.Command.{Command}
use Rattle.md_orders.specs.Scripts.{list_of, count_of, AreNamed}
use Rattle.md_orders.specs.Renamed.{renamed_from}
use Rattle.md_orders.proofs.ByCaller.{list_of-read, length-list_of-le}
use Rattle.md_orders.proofs.Renamed.{length-lists, length-renamed_from, list_of-scripts}
use Rattle.md_orders.proofs.scripts.Scripts.stored.Goals as goal

pub index-requires : goal.index-requires
index-requires c =
    let number = length-lists _ _ c.self.view_is in
    let whole = c.self.inside.scripts.ok.0 in
    let there = c.requires.there in
    omega arith

-- the caller's script
named : (c : goal.After-index) → list_of c.args.self.now c.args.caller ≡ renamed_from c.args.caller 1 c.index.result.now
named c =
    let lists = c.self.inside.scripts.items in
    let number = length-lists lists c.args.self.now c.self.view_is in
    let there = c.requires.there in
    ap (λ (scripts : List (List Command)). list_of scripts c.args.caller) (sym c.self.view_is)
    ∙ list_of-scripts lists c.args.caller
    ∙ ap (renamed_from c.args.caller 1) (list_of-read lists c.args.caller c.index.result.now c.requires.from_1 (omega arith) c.index.ensures)

pub returns-clause-script : goal.returns-clause-script
returns-clause-script c = named c

pub returns-clause-few : goal.returns-clause-few
returns-clause-few c =
    let long = ap length (named c) ∙ length-renamed_from c.args.caller 1 c.index.result.now in
    let some = length-list_of-le c.args.self.now c.args.caller in
    let few = c.self.invariant.few in
    let shown = ap (λ (scripts : List (List Command)). count_of scripts) c.self.view_is in
    omega arith

pub returns-clause-lawful : goal.returns-clause-lawful
returns-clause-lawful c = subst (λ (scripts : List (List Command)). AreNamed scripts) c.self.view_is c.self.invariant.named
