use Rattle.std.proofs.Common.{ap, ◌∙◌}
use Rattle.md_words.specs.Content.{word_of}
use Rattle.md_machine.specs.declared.pass.PassView.{PassView}
use Rattle.md_machine.specs.Event.{exchange}
use Rattle.example_cell.specs.CellMeaning.{cell_meaning, cell_word}
use Rattle.md_rule.specs.Steps.{EventOf}
use Rattle.md_rule.proofs.LaneSteps.{stepped_of}
use Rattle.md_rule.proofs.Told.{told_exchange}
use Rattle.md_rule_tests.proofs.tests.stalls.renewed.Goals as goal

pub returns-clause-idle : goal.returns-clause-idle
returns-clause-idle c =
    let o = c.args.field.now.origin in
    let from = word_of c.args.found in
    let word = cell_word o.shape in
    let event : EventOf = λ pass. exchange pass word from c.args.found.value in
    let p = c.args.pass.now.view in
    let q = c.renew.new.pass.view in
    let s = stepped_of cell_meaning o event word from c.renew.result p q c.renew.ensures.step in
    ap (λ (x : PassView). x.hand) (told_exchange cell_meaning o p q word from c.args.found.value s).1 ∙ c.requires.idle
