use Rattle.std.proofs.Common.{◌≡◌, ◌∙◌, ◌++◌, ◌∷◌, ◌+◌, [], List, length, ap, sym, subst, arith}
use Rattle.md_book.specs.declared.commands.Command.{Command}
use Rattle.md_book.specs.Commands.{name_of}
use Rattle.md_orders.specs.Scripts.{list_of, with_list, IsNamed, AreKept}
use Rattle.md_orders.specs.Renamed.{scripts_from}
use Rattle.md_orders.proofs.ByCaller.{kept-add}
use Rattle.md_orders.proofs.Renamed.{length-lists, scripts-add}
use Rattle.md_orders.proofs.scripts.Scripts.add.Goals as goal
use Rattle.md_orders.proofs.scripts.Scripts.add.Goals.{In_ok-push_to}

pub push_to-requires-clause-there : goal.push_to-requires-clause-there
push_to-requires-clause-there c =
    let number = length-lists _ _ c.self.view_is in
    let there = c.requires.there in
    omega arith

-- the scripts with one command more
added : (c : In_ok-push_to) → scripts_from 1 c.push_to.new.lists.items ≡ with_list c.args.self.now c.args.caller (list_of c.args.self.now c.args.caller ++ c.args.command ∷ [])
added c =
    let named = subst (λ (ls : List (List Command)). IsNamed (name_of c.args.caller (length (list_of ls c.args.caller) + 1)) c.args.command) (sym c.self.view_is) c.requires.lawful.1 in
    ap (scripts_from 1) c.in_ok-push_to.ensures.ok ∙ scripts-add c.self.inside.scripts.items c.args.caller c.args.command named
    ∙ ap (λ (ls : List (List Command)). with_list ls c.args.caller (list_of ls c.args.caller ++ c.args.command ∷ [])) c.self.view_is

pub invariant_of-self-2 : goal.invariant_of-self-2
invariant_of-self-2 c =
    let kept = subst (λ (ls : List (List Command)). AreKept c.self.inside.total ls) c.self.view_is c.self.invariant in
    let more = kept-add _ c.args.self.now c.args.caller c.args.command kept c.requires.from_1 c.requires.there c.requires.room c.requires.lawful in
    subst (λ (ls : List (List Command)). AreKept (c.self.inside.total + 1) ls) (sym (added (goal.at.invariant_of-self-2 c).In_ok-push_to)) more

pub returns-clause-ok : goal.returns-clause-ok
returns-clause-ok c = added (goal.at.returns-clause-ok c).In_ok-push_to
