use Rattle.std.proofs.Common.{◌≡◌, refl, sym, subst}
use Rattle.md_nbtc_law.specs.Calls.{GoesOn, data_at}
use Rattle.md_nbtc_law.specs.Known.{Known}
use Rattle.md_nbtc_law.specs.Seeing.{Gave}
use Rattle.md_nbtc.specs.State.{state}
use Rattle.md_words.specs.PlaceAt.{place_at}
use Rattle.md_nbtc_law.proofs.looks.Fields.{field_known}
use Rattle.md_nbtc_law.proofs.looks.Loaded.{loaded_given, loaded_going, loaded_is, loaded_later, loaded_so}
use Rattle.md_nbtc_law.proofs.preparing.StatusApart.{data_apart}
use Rattle.md_nbtc.proofs.txn.Txn.field_of.Goals as goal

pub returns-clause-on : goal.returns-clause-on
returns-clause-on g c =
    let M = g.T.Theory.meaning in
    let x = c.args.self.now in
    let t = state x in
    let prepared = c.requires.going.1.prepared in
    subst (GoesOn M t) (sym (loaded_so M x.field.now x.pass.now x.began.value x.sets.now.reads x.sets.now.slots x.stop x.desc x.serial x.tag x.sets.now.lots c.load.new.self c.load.ensures.same c.args.word c.load.result c.load.ensures.step)) (record {
      going = λ cs going. loaded_going M t prepared c.load.new.self.view c.args.word c.load.result c.load.ensures.step
          (data_apart t prepared c.args.word c.requires.data.node c.requires.data.is) cs going;
      later = loaded_later M t prepared c.load.new.self.view c.args.word c.load.result c.load.ensures.step;
    })

pub returns-clause-same : goal.returns-clause-same
returns-clause-same g c =
    let x = c.args.self.now in
    loaded_is g.T.Theory.meaning x.field.now x.pass.now x.began.value x.sets.now.reads x.sets.now.slots x.stop x.desc x.serial x.tag x.sets.now.lots c.load.new.self c.load.ensures.same c.args.word c.load.result c.load.ensures.step

pub returns-clause-known : goal.returns-clause-known
returns-clause-known g c =
    let M = g.T.Theory.meaning in
    let x = c.args.self.now in
    let t = state x in
    let going = c.requires.going in
    subst (λ u. Known M u (λ v h. data_at h (place_at x.field.now.origin.shape c.args.word) ≡ c.load.result))
    (sym (loaded_so M x.field.now x.pass.now x.began.value x.sets.now.reads x.sets.now.slots x.stop x.desc x.serial x.tag x.sets.now.lots c.load.new.self c.load.ensures.same c.args.word c.load.result c.load.ensures.step))
    (field_known M g.T.Theory.lawful t going.0 going.1 c.args.word c.load.result c.requires.data c.load.new.self.view c.load.ensures.step
    (record t { pass = record t.pass { view = c.load.new.self.view } }) refl refl
    (loaded_later M t going.1.prepared c.load.new.self.view c.args.word c.load.result c.load.ensures.step))

pub returns-clause-given : goal.returns-clause-given
returns-clause-given g c word other seen differ gave =
    let M = g.T.Theory.meaning in
    let x = c.args.self.now in
    let t = state x in
    subst (λ u. Gave u other seen)
    (sym (loaded_so M x.field.now x.pass.now x.began.value x.sets.now.reads x.sets.now.slots x.stop x.desc x.serial x.tag x.sets.now.lots c.load.new.self c.load.ensures.same c.args.word c.load.result c.load.ensures.step))
    (loaded_given M t c.requires.going.1.prepared c.load.new.self.view c.args.word c.load.result c.load.ensures.step other seen gave)
