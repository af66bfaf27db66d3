use Rattle.std.proofs.Common.{◌∙◌, ap, sym, subst, IfOk}
use Rattle.md_words.specs.declared.shape.Shape.{Shape}
use Rattle.md_words.specs.Layout.{IsNode, address}
use Rattle.md_words.specs.Place.{node_next}
use Rattle.md_nbtc_law.specs.declared.seen.Kind.TheVariants.{Critical}
use Rattle.md_nbtc_law.specs.Calls.{AfterStop, Exchanges, MayExchange, exchange_case}
use Rattle.md_nbtc_law.specs.Seeing.{Gave, KeepsGiven}
use Rattle.md_nbtc.specs.State.{state}
use Rattle.md_list.proofs.putting.replace.Goals as goal

pub node_next-next_word-requires : goal.node_next-next_word-requires
node_next-next_word-requires g c = subst (λ (x : Shape). IsNode x c.args.found.node) (sym c.shape.ensures) c.requires.exists

pub exchange-requires-clause-going : goal.exchange-requires-clause-going
exchange-requires-clause-going g c = c.requires.going

pub exchange-requires-clause-may : goal.exchange-requires-clause-may
exchange-requires-clause-may g c =
    let found = c.args.found in
    subst (λ w. MayExchange g.T.Theory.meaning (state c.args.tx.now) w found.next c.args.to Critical)
    (sym (c.node_next-next_word.ensures.place ∙ ap (λ x. address x (node_next found.node)) c.shape.ensures)) c.requires.may

pub returns-clause-pass : goal.returns-clause-pass
returns-clause-pass g c = c.exchange.ensures.pass

pub returns-clause-on : goal.returns-clause-on
returns-clause-on g c = c.exchange.ensures.on

pub returns-clause-exchanged : goal.returns-clause-exchanged
returns-clause-exchanged g c =
    let t = state c.args.tx.now in
    let u = state c.exchange.new.self in
    let r = c.exchange.result in
    let found = c.args.found in
    subst (λ w. AfterStop t.stop t u r (Exchanges (exchange_case t w found.next Critical) g.T.Theory.meaning t u w found.next c.args.to r))
    (c.node_next-next_word.ensures.place ∙ ap (λ x. address x (node_next found.node)) c.shape.ensures) c.exchange.ensures.exchanged

pub returns-clause-given : goal.returns-clause-given
returns-clause-given g c = subst (KeepsGiven (state c.args.tx.now) (state c.exchange.new.self))
    (c.node_next-next_word.ensures.place ∙ ap (λ x. address x (node_next c.args.found.node)) c.shape.ensures) c.exchange.ensures.given

pub returns-clause-gave : goal.returns-clause-gave
returns-clause-gave g c = subst (λ w. IfOk c.exchange.result (λ seen. Gave (state c.exchange.new.self) w seen))
    (c.node_next-next_word.ensures.place ∙ ap (λ x. address x (node_next c.args.found.node)) c.shape.ensures) c.exchange.ensures.gave
