use Rattle.std.proofs.Common.{rules, ◌≡◌, ◌∙◌, sym, ap, subst, IfOk, ◌<◌}
use Rattle.md_nbtc.specs.State.{state}
use Rattle.md_words.specs.Layout.{address}
use Rattle.md_words.specs.Place.{queue_tail}
use Rattle.md_nbtc_law.specs.declared.seen.Kind.{Kind}
use Rattle.md_nbtc_law.specs.Calls.{AfterStop, Exchanges, MayExchange, exchange_case}
use Rattle.md_nbtc_law.specs.Seeing.{Gave, KeepsGiven}
use Rattle.md_words.specs.declared.shape.Shape.{Shape}
use Rattle.md_queue.specs.Words.{move_kind}
use Rattle.md_queue.proofs.words.move_tail.Goals as goal

-- what holds of the kind that was chosen holds of the move's. The equation of both is searched for alone, which is quick,
-- and names neither the test nor its arms
by_kind : (P : Kind → Type 0) {j k : Kind} → P j → j ≡ k → P k
by_kind P holds is = subst P is holds

pub exchange-requires-clause-may : goal.exchange-requires-clause-may
exchange-requires-clause-may g c =
    let t = state c.args.tx.now in
    by_kind (MayExchange g.T.Theory.meaning t c.queue_tail-tail_word.result c.args.tail c.args.next.value)
    (subst (λ w. MayExchange g.T.Theory.meaning t w c.args.tail c.args.next.value (move_kind c.args.next))
    (sym (c.queue_tail-tail_word.ensures.place ∙ ap (λ s. address s (queue_tail c.args.queue)) c.shape.ensures)) c.requires.may.may)
    (search rules depth 1)

pub returns-clause-exchanged : goal.returns-clause-exchanged
returns-clause-exchanged g c =
    let M = g.T.Theory.meaning in
    let t = state c.args.tx.now in
    let u = state c.exchange.new.self in
    let r = c.exchange.result in
    let tail = c.args.tail in
    let to = c.args.next.value in
    let word = c.queue_tail-tail_word.result in
    subst (λ w. AfterStop t.stop t u r (Exchanges (exchange_case t w tail (move_kind c.args.next)) M t u w tail to r))
    (c.queue_tail-tail_word.ensures.place ∙ ap (λ s. address s (queue_tail c.args.queue)) c.shape.ensures)
    (by_kind (λ k. AfterStop t.stop t u r (Exchanges (exchange_case t word tail k) M t u word tail to r)) c.exchange.ensures.exchanged (search rules depth 1))

pub exchange-requires-clause-going : goal.exchange-requires-clause-going
exchange-requires-clause-going g c = c.requires.may.going

pub returns-clause-pass : goal.returns-clause-pass
returns-clause-pass g c = c.exchange.ensures.pass

pub returns-clause-on : goal.returns-clause-on
returns-clause-on g c = c.exchange.ensures.on

pub returns-clause-given : goal.returns-clause-given
returns-clause-given g c = subst (KeepsGiven (state c.args.tx.now) (state c.exchange.new.self)) (c.queue_tail-tail_word.ensures.place ∙ ap (λ s. address s (queue_tail c.args.queue)) c.shape.ensures) c.exchange.ensures.given

pub returns-clause-gave : goal.returns-clause-gave
returns-clause-gave g c = subst (λ w. IfOk c.exchange.result (λ seen. Gave (state c.exchange.new.self) w seen)) (c.queue_tail-tail_word.ensures.place ∙ ap (λ s. address s (queue_tail c.args.queue)) c.shape.ensures) c.exchange.ensures.gave

pub queue_tail-tail_word-requires : goal.queue_tail-tail_word-requires
queue_tail-tail_word-requires g c = subst (λ (x : Shape). c.args.queue < x.queues) (sym c.shape.ensures) c.requires.may.within
