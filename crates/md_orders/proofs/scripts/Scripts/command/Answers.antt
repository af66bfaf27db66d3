use Rattle.std.proofs.Common.{◌≡◌, ◌∙◌, Option, Some, sym, ap, subst, arith}
use Rattle.std.specs.Prelude.{IfSome}
use Rattle.std.specs.Option.{option_map}
use Rattle.md_book.specs.declared.commands.Command.{Command}
use Rattle.md_book.specs.Commands.{IsCommand, name_of}
use Rattle.md_orders.specs.Scripts.{at_line, IsNamed}
use Rattle.md_orders.specs.Renamed.{renamed}
use Rattle.md_orders.proofs.Renamed.{line-named}
use Rattle.md_orders.proofs.scripts.Scripts.command.Goals as goal
use Rattle.md_orders.proofs.scripts.Scripts.command.Goals.{After-get}

-- what stands at the line
at : (c : After-get) → at_line c.args.self.now c.args.caller c.args.line ≡ option_map (renamed (name_of c.args.caller c.args.line)) c.get.result
at c =
    line-named c.args.self.now c.args.caller c.args.line c.stored.result.now (omega arith) c.stored.ensures.script
    ∙ ap (option_map (renamed (name_of c.args.caller c.args.line))) (sym c.get.ensures)

-- it is the command that was found, with the name of the line
found : (c : goal.After-renamed) → at_line c.args.self.now c.args.caller c.args.line ≡ Some c.renamed.result
found c =
    at (goal.at.returns-clause-value c).After-get ∙ ap (option_map (renamed (name_of c.args.caller c.args.line))) c.in_ok-command.was
    ∙ sym (ap Some (c.renamed.ensures ∙ ap (λ n. renamed n c.in_ok-command.command) c.order_name.ensures))

pub returns-in_err-command-clause-value : goal.returns-in_err-command-clause-value
returns-in_err-command-clause-value c =
    c.from_residual.ensures ∙ sym (at (goal.at.returns-in_err-command-clause-value c).After-get ∙ ap (option_map (renamed (name_of c.args.caller c.args.line))) c.in_err-command.was)

pub returns-clause-value : goal.returns-clause-value
returns-clause-value c = sym (found c)

pub returns-clause-lawful : goal.returns-clause-lawful
returns-clause-lawful c =
    subst (λ (o : Option Command). IfSome o (λ x. IsCommand x × IsNamed (name_of c.args.caller c.args.line) x)) (found c) (c.stored.ensures.lawful c.args.caller c.args.line)
