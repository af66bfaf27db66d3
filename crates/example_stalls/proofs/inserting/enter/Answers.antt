use Rattle.std.proofs.Common.{◌≢◌, sym, subst, refl}
use Rattle.std.proofs.lemmas.Bool.{false≢true}
use Rattle.md_words.specs.declared.shape.Shape.{Shape}
use Rattle.md_words.specs.Layout.{address}
use Rattle.md_words.specs.Place.{desc_status}
use Rattle.md_machine.specs.Event.{ready}
use Rattle.md_machine.specs.Machine.{attempt_of}
use Rattle.md_machine.specs.events.Ready.{unready_word}
use Rattle.example_cell.specs.CellMeaning.{cell_meaning}
use Rattle.md_rule.specs.Steps.{SteppedFrom}
use Rattle.example_stalls.specs.Inserting.{Inserts, inserted}
use Rattle.example_stalls.proofs.Entering.{may_enter, stored_none}
use Rattle.example_stalls.proofs.Statuses.{ready_lost, since, ready_won}
use Rattle.example_stalls.proofs.inserting.enter.Goals as goal

pub ready-requires-clause-hand : goal.ready-requires-clause-hand
ready-requires-clause-hand c =
    let x = c.requires.inserted in record {
      hand = inserted c.args.desc x.1;
      held = x.2.hand;
      of = refl;
      status = sym c.first_status-unready.ensures;
    }

pub ready-requires-clause-taken : goal.ready-requires-clause-taken
ready-requires-clause-taken c =
    let x = c.requires.inserted in
    stored_none c.args.pass.now c.args.desc x.0 x.1 (subst (λ (s : Shape). Inserts s c.args.desc x.0 x.1 c.args.pass.now.view) (sym c.requires.field.shape) x.2)

pub ready-requires-clause-may : goal.ready-requires-clause-may
ready-requires-clause-may c =
    let x = c.requires.inserted in
    may_enter c.args.field.now.origin c.args.desc x.0 x.1 c.args.pass.now.view x.2

pub returns-in-Ok-clause-exists : goal.returns-in-Ok-clause-exists
returns-in-Ok-clause-exists c = c.requires.inserted.2.put.exists

pub returns-in-Err-clause-exists : goal.returns-in-Err-clause-exists
returns-in-Err-clause-exists c = c.requires.inserted.2.put.exists

pub returns-in-Ok-clause-readies : goal.returns-in-Ok-clause-readies
returns-in-Ok-clause-readies c value held =
    let o = c.args.field.now.origin in
    let desc = c.args.desc in
    let p = c.args.pass.now.view in
    let q = c.ready.new.self.view in
    let s : SteppedFrom cell_meaning o (λ pass. ready pass 0) (address o.shape (desc_status desc)) (unready_word (attempt_of desc 0)) p q = subst (λ w. SteppedFrom cell_meaning o (λ pass. ready pass 0) (address o.shape (desc_status desc)) w p q) c.first_status-unready.ensures c.in-Ok.ensures.step in
    ready_won o desc p q value held s.0 s.1

pub returns-in-Err-clause-readies : goal.returns-in-Err-clause-readies
returns-in-Err-clause-readies c value held =
    let o = c.args.field.now.origin in
    ready_lost o c.args.desc c.args.pass.now.view c.ready.new.self.view value held c.in-Err.ensures.step.1.0 c.in-Err.field-0
    (subst (λ w. c.in-Err.field-0 ≢ w) c.first_status-unready.ensures c.in-Err.ensures.step.0) c.in-Err.ensures.step.1.1

pub returns-in-Err-clause-since : goal.returns-in-Err-clause-since
returns-in-Err-clause-since c won = absurd (false≢true won)

pub returns-in-Ok-clause-since : goal.returns-in-Ok-clause-since
returns-in-Ok-clause-since c won =
    let o = c.args.field.now.origin in
    let desc = c.args.desc in
    let x = c.requires.inserted in
    let p = c.args.pass.now.view in
    let q = c.ready.new.self.view in
    let s : SteppedFrom cell_meaning o (λ pass. ready pass 0) (address o.shape (desc_status desc)) (unready_word (attempt_of desc 0)) p q = subst (λ w. SteppedFrom cell_meaning o (λ pass. ready pass 0) (address o.shape (desc_status desc)) w p q) c.first_status-unready.ensures c.in-Ok.ensures.step in
    since o.shape desc x.1 p q (ready_won o desc p q x.1 x.2.hand s.0 s.1)
