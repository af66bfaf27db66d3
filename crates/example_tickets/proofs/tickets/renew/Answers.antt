use Rattle.std.proofs.Common.{◌≡◌, ◌≤◌, true, sym, subst, refl}
use Rattle.md_words.specs.declared.content.Content.{Content}
use Rattle.md_words.specs.declared.shape.Shape.{Shape}
use Rattle.md_words.specs.Content.{is_even, word_of}
use Rattle.md_machine.specs.declared.pass.PassView.{PassView}
use Rattle.md_machine.specs.declared.step.TheConstants.{LAST_COUNT}
use Rattle.md_machine.specs.Event.{exchange}
use Rattle.md_machine.specs.events.Exchange.{MayExchange, after_exchange}
use Rattle.example_cell.specs.CellMeaning.{cell_meaning, cell_word}
use Rattle.example_cell.proofs.Tidy.{may_renew}
use Rattle.md_rule.specs.Steps.{Exchanged, May}
use Rattle.md_rule.specs.Views.{Origin}
use Rattle.example_tickets.proofs.tickets.renew.Goals as goal

-- of every machine of the field in which a pass knows this, the exchange is a tidy change
may : (o : Origin) (view : PassView) (from : Content) → is_even from.count ≡ true → from.count ≤ LAST_COUNT
    → May cell_meaning o (λ pass. exchange pass (cell_word o.shape) (word_of from) from.value) view
may o view from even few m a pass acts = (
  after_exchange m pass view (cell_word o.shape) (word_of from) from.value,
  (view, acts, subst (λ (s : Shape). MayExchange cell_meaning m view (cell_word s) (word_of from) from.value) a.shape (may_renew m view from even few), refl),
)

pub exchange-requires-clause-may : goal.exchange-requires-clause-may
exchange-requires-clause-may c =
    let o = c.args.field.now.origin in
    let from = c.args.from in
    subst (λ w. May cell_meaning o (λ pass. exchange pass w (word_of from) from.value) c.args.pass.now.view) (sym c.ticket_word.ensures.place)
    (may o c.args.pass.now.view from c.requires.even c.requires.room)

pub returns-clause-step : goal.returns-clause-step
returns-clause-step c =
    let o = c.args.field.now.origin in
    let from = c.args.from in
    subst (λ w. Exchanged cell_meaning o (λ pass. exchange pass w (word_of from) from.value) w (word_of from) c.exchange.result c.args.pass.now.view c.exchange.new.self.view) c.ticket_word.ensures.place
    c.exchange.ensures.step
