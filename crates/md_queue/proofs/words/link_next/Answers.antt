use Rattle.std.proofs.Common.{◌∙◌, ap, false, sym, subst, IfOk, arith}
use Rattle.md_words.specs.declared.shape.Shape.{Shape}
use Rattle.md_words.specs.Layout.{IsNode, address}
use Rattle.md_words.specs.Place.{node_next}
use Rattle.md_words.proofs.Places.{nodes_fit_values}
use Rattle.md_nbtc_law.specs.declared.seen.Kind.TheVariants.{Critical}
use Rattle.md_nbtc_law.specs.Calls.{AfterStop, Exchanges, MayExchange, exchange_case}
use Rattle.md_nbtc_law.specs.Seeing.{Gave}
use Rattle.md_nbtc_law.specs.State.{shape_in}
use Rattle.md_nbtc.specs.State.{state}
use Rattle.md_queue_law.specs.QueueShape.{link}
use Rattle.md_queue.proofs.Putting.{double_is}
use Rattle.md_queue.proofs.words.link_next.Goals as goal

pub node_next-next_word-requires : goal.node_next-next_word-requires
node_next-next_word-requires g c = subst (λ (x : Shape). IsNode x c.args.node) (sym c.shape.ensures) c.requires.may.exists

pub overflow_mul-new : goal.overflow_mul-new
overflow_mul-new g c =
    let fits = nodes_fit_values (shape_in (state c.args.tx.now)) c.args.new false c.requires.may.new_exists.1 in
    let is = double_is c.args.new in
    omega (arith, fits, is)

pub exchange-requires-clause-going : goal.exchange-requires-clause-going
exchange-requires-clause-going g c = c.requires.may.going

pub exchange-requires-clause-may : goal.exchange-requires-clause-may
exchange-requires-clause-may g c =
    let M = g.T.Theory.meaning in
    let t = state c.args.tx.now in
    let word = c.node_next-next_word.result in
    subst (λ x. MayExchange M t word c.args.next x Critical) (sym (double_is c.args.new))
    (subst (λ w. MayExchange M t w c.args.next (link c.args.new) Critical) (sym (c.node_next-next_word.ensures.place ∙ ap (λ s. address s (node_next c.args.node)) c.shape.ensures)) c.requires.may.may)

pub returns-clause-pass : goal.returns-clause-pass
returns-clause-pass g c = c.exchange.ensures.pass

pub returns-clause-on : goal.returns-clause-on
returns-clause-on g c = c.exchange.ensures.on

pub returns-clause-exchanged : goal.returns-clause-exchanged
returns-clause-exchanged g c =
    let M = g.T.Theory.meaning in
    let t = state c.args.tx.now in
    let u = state c.exchange.new.self in
    let r = c.exchange.result in
    let next = c.args.next in
    let word = c.node_next-next_word.result in
    subst (λ w. AfterStop t.stop t u r (Exchanges (exchange_case t w next Critical) M t u w next (link c.args.new) r))
    (c.node_next-next_word.ensures.place ∙ ap (λ s. address s (node_next c.args.node)) c.shape.ensures)
    (subst (λ x. AfterStop t.stop t u r (Exchanges (exchange_case t word next Critical) M t u word next x r)) (double_is c.args.new) c.exchange.ensures.exchanged)

pub returns-clause-gave : goal.returns-clause-gave
returns-clause-gave g c = subst (λ w. IfOk c.exchange.result (λ seen. Gave (state c.exchange.new.self) w seen)) (c.node_next-next_word.ensures.place ∙ ap (λ s. address s (node_next c.args.node)) c.shape.ensures) c.exchange.ensures.gave
