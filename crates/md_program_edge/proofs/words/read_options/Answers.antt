use Rattle.std.proofs.Common.{◌∙◌, ap, sym}
use Rattle.std.specs.Prelude.{option_and_then}
use Rattle.md_program_edge.specs.Options.{options_of}
use Rattle.md_program_edge.proofs.Settings.{write-as}
use Rattle.md_program_edge.proofs.Ranges.{read-in_range}
use Rattle.md_program_edge.proofs.words.read_options.Goals as goal

pub returns-in_err-given_by-clause-written : goal.returns-in_err-given_by-clause-written
returns-in_err-given_by-clause-written c = write-as _ _ _ c.given_by.ensures (c.from_residual.ensures ∙ ap (option_and_then options_of) (sym c.in_err-given_by.was))

pub returns-clause-written : goal.returns-clause-written
returns-clause-written c = write-as _ _ _ c.given_by.ensures (c.options_of.ensures ∙ ap (option_and_then options_of) (sym c.in_ok-given_by.was))

pub returns-clause-in_range : goal.returns-clause-in_range
returns-clause-in_range c = read-in_range _ _ (returns-clause-written c)
