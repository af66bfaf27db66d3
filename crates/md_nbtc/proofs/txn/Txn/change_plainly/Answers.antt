use Rattle.std.proofs.Common.{◌+◌, ◌∙◌, Some, false, refl, sym, ap, subst, inr}
use Rattle.md_history.specs.declared.stops.Stop.TheVariants.{Conflict}
use Rattle.md_machine.specs.declared.step.Kind.TheVariants.{Exchange}
use Rattle.md_rule.specs.Views.{PassState}
use Rattle.md_nbtc_law.specs.Calls.{GoesOn}
use Rattle.md_nbtc_law.specs.Seeing.{Gave, Looks}
use Rattle.md_nbtc_law.specs.State.{TxnState, seen_content, state_of}
use Rattle.md_nbtc_law.proofs.exchanging.Installed.{even_room}
use Rattle.md_nbtc_law.proofs.exchanging.LostStep.{lost_given, lost_on, lost_so}
use Rattle.md_nbtc_law.proofs.exchanging.PlainChange.{lost_change, may_exchange, plain_gave, plain_given, plain_looks, plain_on, plain_so, won_change}
use Rattle.md_nbtc_law.proofs.exchanging.PlainWords.{foreign, unread}
use Rattle.md_nbtc.specs.State.{state}
use Rattle.md_nbtc.proofs.txn.Txn.change_plainly.Goals as goal

pub exchange-requires-clause-fits : goal.exchange-requires-clause-fits
exchange-requires-clause-fits g c = even_room c.args.from.count (c.requires.other.gave.content (c.requires.other.gave.own ∙ c.requires.other.other)).even c.requires.may.fits

pub exchange-requires-clause-may : goal.exchange-requires-clause-may
exchange-requires-clause-may g c =
    let M = g.T.Theory.meaning in
    let lawful = g.T.Theory.lawful in
    let x = c.args.self.now in
    let t = state x in
    let r = c.requires in
    let prepared = r.going.1.prepared in
    let apart = foreign t c.args.word r.may.plain in
    may_exchange M lawful t prepared c.args.word c.args.from c.args.to r.other.counted r.other.other r.other.gave r.may.fits r.may.may.0 r.may.may.1 apart

pub returns-in-Ok-clause-on : goal.returns-in-Ok-clause-on
returns-in-Ok-clause-on g c =
    let M = g.T.Theory.meaning in
    let lawful = g.T.Theory.lawful in
    let x = c.args.self.now in
    let t = state x in
    let r = c.requires in
    let prepared = r.going.1.prepared in
    let apart = foreign t c.args.word r.may.plain in
    let q = c.exchange.new.self in
    let e = c.in-Ok.ensures in
    let none = unread t c.args.word r.may.plain in
    let it = won_change M lawful t prepared c.args.word c.args.from c.args.to r.other.counted r.other.other r.other.gave r.may.fits r.may.may.0 r.may.may.1 apart q.view e.step in
    let so = plain_so M lawful x.field.now x.pass.now x.began.value x.sets.now.reads x.sets.now.slots x.stop x.desc x.serial x.tag x.sets.now.lots prepared r.other.operates c.args.word c.args.from c.args.to r.other.counted r.other.other r.other.gave r.may.fits none apart q e.same e.step it in
    subst (GoesOn M t) (sym so) (plain_on M lawful t prepared r.other.operates c.args.word c.args.from c.args.to r.other.counted r.other.other r.other.gave r.may.fits none apart q.view e.step it)

pub returns-in-Ok-clause-exchanged : goal.returns-in-Ok-clause-exchanged
returns-in-Ok-clause-exchanged g c =
    let M = g.T.Theory.meaning in
    let lawful = g.T.Theory.lawful in
    let x = c.args.self.now in
    let t = state x in
    let r = c.requires in
    let prepared = r.going.1.prepared in
    let apart = foreign t c.args.word r.may.plain in
    let q = c.exchange.new.self in
    let e = c.in-Ok.ensures in
    let none = unread t c.args.word r.may.plain in
    let it = won_change M lawful t prepared c.args.word c.args.from c.args.to r.other.counted r.other.other r.other.gave r.may.fits r.may.may.0 r.may.may.1 apart q.view e.step in
    let so = plain_so M lawful x.field.now x.pass.now x.began.value x.sets.now.reads x.sets.now.slots x.stop x.desc x.serial x.tag x.sets.now.lots prepared r.other.operates c.args.word c.args.from c.args.to r.other.counted r.other.other r.other.gave r.may.fits none apart q e.same e.step it in (
      refl,
      so ∙ ap (λ (p : PassState). record t { pass = p }) (sym (ap (λ (u : TxnState). u.pass) so)),
      subst (λ u. Looks M t u c.args.word (record { value = c.args.to; count = c.args.from.count + 2; own = false })) (sym so) (plain_looks M lawful t prepared r.other.operates c.args.word c.args.from c.args.to r.other.counted r.other.other r.other.gave r.may.fits none apart q.view e.step it),
    )

pub returns-in-Ok-clause-gives : goal.returns-in-Ok-clause-gives
returns-in-Ok-clause-gives g c =
    let M = g.T.Theory.meaning in
    let lawful = g.T.Theory.lawful in
    let x = c.args.self.now in
    let t = state x in
    let r = c.requires in
    let prepared = r.going.1.prepared in
    let apart = foreign t c.args.word r.may.plain in
    let q = c.exchange.new.self in
    let e = c.in-Ok.ensures in
    let none = unread t c.args.word r.may.plain in
    let it = won_change M lawful t prepared c.args.word c.args.from c.args.to r.other.counted r.other.other r.other.gave r.may.fits r.may.may.0 r.may.may.1 apart q.view e.step in
    let so = plain_so M lawful x.field.now x.pass.now x.began.value x.sets.now.reads x.sets.now.slots x.stop x.desc x.serial x.tag x.sets.now.lots prepared r.other.operates c.args.word c.args.from c.args.to r.other.counted r.other.other r.other.gave r.may.fits none apart q e.same e.step it in
    record {
      given = λ other seen differ gave. subst (λ u. Gave u other seen) (sym so) (plain_given M lawful t prepared r.other.operates c.args.word c.args.from c.args.to r.other.counted r.other.other r.other.gave r.may.fits none apart q.view e.step it other seen differ gave);
      gave = subst (λ u. Gave u c.args.word (record { value = c.args.to; count = c.args.from.count + 2; own = false })) (sym so) (plain_gave M lawful t prepared r.other.operates c.args.word c.args.from c.args.to r.other.counted r.other.other r.other.gave r.may.fits none apart q.view e.step it);
    }

pub returns-in-Err-clause-on : goal.returns-in-Err-clause-on
returns-in-Err-clause-on g c =
    let M = g.T.Theory.meaning in
    let lawful = g.T.Theory.lawful in
    let x = c.args.self.now in
    let t = state x in
    let r = c.requires in
    let prepared = r.going.1.prepared in
    let apart = foreign t c.args.word r.may.plain in
    let q = c.exchange.new.self in
    let found = c.in-Err.found in
    let e = c.in-Err.ensures in
    let it = lost_change M lawful t prepared c.args.word c.args.from c.args.to r.other.counted r.other.other r.other.gave r.may.fits r.may.may.0 r.may.may.1 apart q.view found e.step.0 e.step.1 in
    let stop_is = c.lose.ensures.stop ∙ ap (λ n. Conflict (record { word = c.args.word; was = n; now = found })) c.word.ensures.whole in
    let so = ap state c.lose.ensures.kept ∙ ap (λ s. state_of x.field.now q x.began.value x.sets.now.reads x.sets.now.slots (Some s) x.desc x.serial x.tag x.sets.now.lots) stop_is
    ∙ lost_so M x.field.now x.pass.now x.began.value x.sets.now.reads x.sets.now.slots x.stop x.desc x.serial x.tag x.sets.now.lots prepared r.other.operates c.args.word r.other.counted c.args.from r.other.other r.other.gave Exchange (inr refl) found e.step.0 q e.same it in
    subst (GoesOn M t) (sym so) (lost_on M t prepared r.other.operates c.args.word r.other.counted c.args.from r.other.other r.other.gave Exchange (inr refl) found e.step.0 q.view it)

pub returns-in-Err-clause-exchanged : goal.returns-in-Err-clause-exchanged
returns-in-Err-clause-exchanged g c =
    let M = g.T.Theory.meaning in
    let lawful = g.T.Theory.lawful in
    let x = c.args.self.now in
    let t = state x in
    let r = c.requires in
    let prepared = r.going.1.prepared in
    let apart = foreign t c.args.word r.may.plain in
    let q = c.exchange.new.self in
    let found = c.in-Err.found in
    let e = c.in-Err.ensures in
    let it = lost_change M lawful t prepared c.args.word c.args.from c.args.to r.other.counted r.other.other r.other.gave r.may.fits r.may.may.0 r.may.may.1 apart q.view found e.step.0 e.step.1 in
    let stop_is = c.lose.ensures.stop ∙ ap (λ n. Conflict (record { word = c.args.word; was = n; now = found })) c.word.ensures.whole in
    let so = ap state c.lose.ensures.kept ∙ ap (λ s. state_of x.field.now q x.began.value x.sets.now.reads x.sets.now.slots (Some s) x.desc x.serial x.tag x.sets.now.lots) stop_is
    ∙ lost_so M x.field.now x.pass.now x.began.value x.sets.now.reads x.sets.now.slots x.stop x.desc x.serial x.tag x.sets.now.lots prepared r.other.operates c.args.word r.other.counted c.args.from r.other.other r.other.gave Exchange (inr refl) found e.step.0 q e.same it in (
      (
        refl,
        so ∙ ap (λ (p : PassState). record t { pass = p; stop = Some (Conflict (record { word = c.args.word; was = seen_content c.args.from; now = found })) }) (sym (ap (λ (u : TxnState). u.pass) so))
            ∙ ap (λ s. record t { pass = (state c.lose.new.self).pass; stop = Some s }) (sym stop_is),
      ),
      (found, stop_is),
    )

pub returns-in-Err-clause-gives : goal.returns-in-Err-clause-gives
returns-in-Err-clause-gives g c =
    let M = g.T.Theory.meaning in
    let lawful = g.T.Theory.lawful in
    let x = c.args.self.now in
    let t = state x in
    let r = c.requires in
    let prepared = r.going.1.prepared in
    let apart = foreign t c.args.word r.may.plain in
    let q = c.exchange.new.self in
    let found = c.in-Err.found in
    let e = c.in-Err.ensures in
    let it = lost_change M lawful t prepared c.args.word c.args.from c.args.to r.other.counted r.other.other r.other.gave r.may.fits r.may.may.0 r.may.may.1 apart q.view found e.step.0 e.step.1 in
    let stop_is = c.lose.ensures.stop ∙ ap (λ n. Conflict (record { word = c.args.word; was = n; now = found })) c.word.ensures.whole in
    record {
      given = (
          let so = ap state c.lose.ensures.kept ∙ ap (λ s. state_of x.field.now q x.began.value x.sets.now.reads x.sets.now.slots (Some s) x.desc x.serial x.tag x.sets.now.lots) stop_is
          ∙ lost_so M x.field.now x.pass.now x.began.value x.sets.now.reads x.sets.now.slots x.stop x.desc x.serial x.tag x.sets.now.lots prepared r.other.operates c.args.word r.other.counted c.args.from r.other.other r.other.gave Exchange (inr refl) found e.step.0 q e.same it in
          λ other seen differ gave. subst (λ u. Gave u other seen) (sym so) (lost_given M t prepared r.other.operates c.args.word r.other.counted c.args.from r.other.other r.other.gave Exchange (inr refl) found e.step.0 q.view it other seen gave)
          );
      gave = tt;
    }
