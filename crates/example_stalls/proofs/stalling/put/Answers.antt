use Rattle.std.proofs.Common.{refl, sym, ap, subst, ◌∙◌}
use Rattle.md_words.specs.Content.{word_of}
use Rattle.md_machine.specs.Event.{install}
use Rattle.example_cell.specs.CellMeaning.{cell_meaning, cell_word}
use Rattle.md_rule.specs.Steps.{May, SteppedFrom}
use Rattle.example_stalls.specs.Stalled.{OnlyShare}
use Rattle.example_stalls.proofs.Shares.{only_kept, only_none}
use Rattle.example_stalls.proofs.Slots.{adds_lost, adds_won, may_install, no_next, put_lost, put_won}
use Rattle.example_stalls.proofs.stalling.put.Goals as goal

pub install-requires-clause-taken : goal.install-requires-clause-taken
install-requires-clause-taken c = no_next c.args.pass.now c.ticket_word.result (c.ticket_word.ensures.place ∙ ap cell_word (sym c.requires.field.shape))

pub install-requires-clause-may : goal.install-requires-clause-may
install-requires-clause-may c =
    let o = c.args.field.now.origin in
    let desc = c.args.desc in
    let p = c.args.pass.now.view in
    subst (λ w. May cell_meaning o (λ pass. install pass w (word_of c.args.found) (record { desc = desc; slot = 0 })) p) (sym c.ticket_word.ensures.place)
    (may_install cell_meaning o desc p c.requires.first c.args.found c.requires.room c.requires.even c.requires.slot)

pub returns-in-Ok-clause-puts : goal.returns-in-Ok-clause-puts
returns-in-Ok-clause-puts c =
    let o = c.args.field.now.origin in
    let desc = c.args.desc in
    let p = c.args.pass.now.view in
    let q = c.install.new.self.view in
    let from = word_of c.args.found in
    put_won cell_meaning o desc p c.requires.first from q
    (subst (λ w. SteppedFrom cell_meaning o (λ pass. install pass w from (record { desc = desc; slot = 0 })) w from p q) c.ticket_word.ensures.place c.in-Ok.ensures.step)

pub returns-in-Err-clause-puts : goal.returns-in-Err-clause-puts
returns-in-Err-clause-puts c =
    let o = c.args.field.now.origin in
    let desc = c.args.desc in
    let p = c.args.pass.now.view in
    let q = c.install.new.self.view in
    let from = word_of c.args.found in
    put_lost cell_meaning o desc p c.requires.first from q c.in-Err.field-0 c.in-Err.ensures.step.0
    (subst (λ w. SteppedFrom cell_meaning o (λ pass. install pass w from (record { desc = desc; slot = 0 })) w c.in-Err.field-0 p q) c.ticket_word.ensures.place c.in-Err.ensures.step.1)

pub returns-in-Ok-clause-hand : goal.returns-in-Ok-clause-hand
returns-in-Ok-clause-hand c =
    let o = c.args.field.now.origin in
    let desc = c.args.desc in
    let p = c.args.pass.now.view in
    let q = c.install.new.self.view in
    let from = word_of c.args.found in
    adds_won cell_meaning o desc p c.requires.first from q
    (subst (λ w. SteppedFrom cell_meaning o (λ pass. install pass w from (record { desc = desc; slot = 0 })) w from p q) c.ticket_word.ensures.place c.in-Ok.ensures.step)

pub returns-in-Err-clause-hand : goal.returns-in-Err-clause-hand
returns-in-Err-clause-hand c =
    let o = c.args.field.now.origin in
    let desc = c.args.desc in
    let p = c.args.pass.now.view in
    let q = c.install.new.self.view in
    let from = word_of c.args.found in
    adds_lost cell_meaning o desc p c.requires.first from q c.in-Err.field-0 c.in-Err.ensures.step.0
    (subst (λ w. SteppedFrom cell_meaning o (λ pass. install pass w from (record { desc = desc; slot = 0 })) w c.in-Err.field-0 p q) c.ticket_word.ensures.place c.in-Err.ensures.step.1)

pub returns-in-Ok-clause-shares : goal.returns-in-Ok-clause-shares
returns-in-Ok-clause-shares c =
    subst (OnlyShare c.args.desc 0 c.args.pass.now.shares) (sym c.in-Ok.ensures.shares)
    (only_kept c.args.pass.now.shares c.args.desc _ refl refl)

pub returns-in-Err-clause-shares : goal.returns-in-Err-clause-shares
returns-in-Err-clause-shares c =
    subst (OnlyShare c.args.desc 0 c.args.pass.now.shares) (sym c.in-Err.ensures.shares) (only_none c.args.pass.now.shares c.args.desc)
