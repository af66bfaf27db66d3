use Rattle.std.proofs.Common.{◌∙◌}
use Rattle.example_cell.specs.CellMeaning.{cell_meaning}
use Rattle.example_stalls.proofs.Looking.{same_hand}
use Rattle.md_rule_tests.proofs.tests.stalls.held.Goals as goal

pub returns-clause-idle : goal.returns-clause-idle
returns-clause-idle c = same_hand cell_meaning c.args.field.now.origin c.args.word c.load.result c.args.pass.now.view c.load.new.self.view c.load.ensures.step ∙ c.requires.idle
