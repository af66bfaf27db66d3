use Rattle.std.proofs.Common.{◌∙◌, is_some, Ok, sym, ap, subst, rules}
use Rattle.md_nbtc_law.specs.Calls.{AfterStop, Exchanges, MayBeOf, exchange_case}
use Rattle.md_nbtc_law.proofs.exchanging.Cases.{other_case, own_case, written_place}
use Rattle.md_nbtc_law.proofs.preparing.Heaps.{goes_self}
use Rattle.md_nbtc.specs.State.{state}
use Rattle.md_nbtc.proofs.txn.Txn.exchange.Goals as goal

pub returns-in-Some-clause-on : goal.returns-in-Some-clause-on
returns-in-Some-clause-on g c = goes_self g.T.Theory.meaning (state c.args.self.now)

pub exchange_own-requires-clause-own : goal.exchange_own-requires-clause-own
exchange_own-requires-clause-own g c =
    let M = g.T.Theory.meaning in
    let t = state c.args.self.now in
    let r = c.requires in
    record {
      operates = search rules;
      found = search rules;
      gave = search rules;
      stay = subst (λ k. MayBeOf k M t c.args.word c.args.from c.args.to)
          (own_case t c.args.word c.args.from c.args.kind (written_place c.args.word 0 t.slots ∙ ap is_some (sym c.find.ensures ∙ c.in-Some-find.is))) r.may.of;
    }

pub returns-in-Some-find-clause-exchanged : goal.returns-in-Some-find-clause-exchanged
returns-in-Some-find-clause-exchanged g c =
    let M = g.T.Theory.meaning in
    let t = state c.args.self.now in
    let r = c.requires in
    let u = state c.exchange_own.new.self in
    subst (λ o. AfterStop o t u (Ok c.exchange_own.result) (Exchanges (exchange_case t c.args.word c.args.from c.args.kind) M t u c.args.word c.args.from c.args.to (Ok c.exchange_own.result))) (sym c.in_default.is)
    (subst (λ k. Exchanges k M t u c.args.word c.args.from c.args.to (Ok c.exchange_own.result))
    (sym (own_case t c.args.word c.args.from c.args.kind (written_place c.args.word 0 t.slots ∙ ap is_some (sym c.find.ensures ∙ c.in-Some-find.is))))
    (ap Ok c.exchange_own.ensures.seen, c.exchange_own.ensures.renewed))

pub exchange_other-requires-clause-other : goal.exchange_other-requires-clause-other
exchange_other-requires-clause-other g c = record {
  operates = search rules;
  counted = search rules;
  other = written_place c.args.word 0 (state c.args.self.now).slots ∙ ap is_some (sym c.find.ensures ∙ c.in_default-find.is);
  gave = search rules;
}

pub exchange_other-requires-clause-may : goal.exchange_other-requires-clause-may
exchange_other-requires-clause-may g c =
    let M = g.T.Theory.meaning in
    let t = state c.args.self.now in
    let r = c.requires in
    subst (λ k. MayBeOf k M t c.args.word c.args.from c.args.to)
    (other_case t c.args.word c.args.from c.args.kind (written_place c.args.word 0 t.slots ∙ ap is_some (sym c.find.ensures ∙ c.in_default-find.is))) r.may.of

pub returns-clause-exchanged : goal.returns-clause-exchanged
returns-clause-exchanged g c =
    let M = g.T.Theory.meaning in
    let t = state c.args.self.now in
    let r = c.requires in
    let u = state c.exchange_other.new.self in
    subst (λ o. AfterStop o t u c.exchange_other.result (Exchanges (exchange_case t c.args.word c.args.from c.args.kind) M t u c.args.word c.args.from c.args.to c.exchange_other.result)) (sym c.in_default.is)
    (subst (λ k. Exchanges k M t u c.args.word c.args.from c.args.to c.exchange_other.result)
    (sym (other_case t c.args.word c.args.from c.args.kind (written_place c.args.word 0 t.slots ∙ ap is_some (sym c.find.ensures ∙ c.in_default-find.is))))
    c.exchange_other.ensures.exchanged)
