use Rattle.std.proofs.Common.{◌≡◌, ◌<◌, ℕ, ◌∙◌, sym, ap, subst, true, map}
use Rattle.md_words.specs.declared.shape.Shape.{Shape}
use Rattle.md_words.specs.Layout.{address, desc_count}
use Rattle.md_words.specs.Place.{slot_new}
use Rattle.md_words.proofs.Owners.{own_desc_exists}
use Rattle.md_machine.specs.Event.{store}
use Rattle.md_rule.specs.Steps.{May}
use Rattle.md_rule.specs.Views.{PassState}
use Rattle.md_nbtc_law.specs.Calls.{GoesOn, with_change}
use Rattle.md_nbtc_law.specs.Seeing.{Gave}
use Rattle.md_nbtc_law.specs.Sets.{with_new}
use Rattle.md_nbtc_law.specs.State.{TxnState, attempt_in, shape_in}
use Rattle.md_nbtc_law.proofs.exchanging.OwnWord.{at_slot, below, in_slots, may_store_new, renewed_gave, renewed_given, renewed_going, renewed_later, renewed_so}
use Rattle.md_nbtc.specs.State.{state}
use Rattle.md_nbtc.proofs.txn.Txn.exchange_own.Given as given
use Rattle.md_nbtc.proofs.txn.Txn.exchange_own.Goals as goal

pub slot_new-slot_new-requires : goal.slot_new-slot_new-requires
slot_new-slot_new-requires g c =
    let t = state c.args.self.now in
    let prepared = c.requires.going.1.prepared in (
      subst (λ (s : Shape). c.args.self.now.desc < desc_count s) (sym c.shape.ensures)
          (subst (λ n. n < desc_count (shape_in t)) (sym prepared.has.numbers.0) (own_desc_exists (shape_in t) prepared.has.own.0 (attempt_in t).desc prepared.has.own.2)),
      below g.T.Theory.meaning t prepared c.requires.own.operates c.args.word c.args.place c.args.from c.args.to c.requires.own.found c.requires.own.gave,
    )

place_is : (t : TxnState) → (t.desc ≡ (attempt_in t).desc) → (s : Shape) → s ≡ shape_in t → (place word : ℕ) → word ≡ address s (slot_new t.desc place)
    → word ≡ address (shape_in t) (slot_new (attempt_in t).desc place)
place_is t number s shape place word is = is ∙ ap (λ (x : Shape). address x (slot_new t.desc place)) shape ∙ ap (λ d. address (shape_in t) (slot_new d place)) number

pub store-requires-clause-may : goal.store-requires-clause-may
store-requires-clause-may g c =
    let t = state c.args.self.now in
    let prepared = c.requires.going.1.prepared in
    subst (λ w. May g.T.Theory.meaning t.field.origin (λ pass. store pass w c.args.to) t.pass.view)
    (sym (place_is t prepared.has.numbers.0 c.shape.result.now c.shape.ensures c.args.place c.slot_new-slot_new.result c.slot_new-slot_new.ensures.place))
    (may_store_new g.T.Theory.meaning t prepared c.requires.own.operates c.args.word c.args.place c.args.from c.args.to c.requires.own.found c.requires.own.gave c.ranges.to.fits)

there : (g : given.Over) (c : goal.After-set_new g) → (let t = state c.args.self.now in c.slot_new-slot_new.result ≡ address (shape_in t) (slot_new (attempt_in t).desc c.args.place))
there g c = place_is (state c.args.self.now) c.requires.going.1.prepared.has.numbers.0 c.shape.result.now c.shape.ensures c.args.place c.slot_new-slot_new.result c.slot_new-slot_new.ensures.place

pub set_new-requires : goal.set_new-requires
set_new-requires g c =
    let t = state c.args.self.now in
    in_slots g.T.Theory.meaning t c.requires.going.1.prepared c.requires.own.operates c.args.word c.args.place c.args.from c.args.to c.requires.own.found c.requires.own.gave

pub returns-clause-on : goal.returns-clause-on
returns-clause-on g c =
    let M = g.T.Theory.meaning in
    let x = c.args.self.now in
    let t = state x in
    let prepared = c.requires.going.1.prepared in
    let step = at_slot M x.field.now x.pass.now x.began.value x.sets.now.reads x.sets.now.slots x.stop x.desc x.serial x.tag x.sets.now.lots prepared c.requires.own.operates c.args.word c.args.place c.args.from c.args.to c.requires.own.found c.requires.own.gave c.slot_new-slot_new.result (there g c) c.store.new.self c.store.ensures.same c.store.ensures.step c.set_new.new.self c.set_new.ensures in
    let so = renewed_so M x.field.now x.pass.now x.began.value x.sets.now.reads x.sets.now.slots x.stop x.desc x.serial x.tag x.sets.now.lots prepared c.requires.own.operates c.args.word c.args.place c.args.from c.args.to c.requires.own.found c.requires.own.gave c.slot_new-slot_new.result (there g c) c.store.new.self c.store.ensures.same c.store.ensures.step c.set_new.new.self c.set_new.ensures in
    subst (GoesOn M t) (sym so) (record {
      going = renewed_going M t prepared c.requires.own.operates c.args.word c.args.place c.args.from c.args.to c.requires.own.found c.requires.own.gave c.store.new.self.view step c.requires.own.stay;
      later = renewed_later M t prepared c.requires.own.operates c.args.word c.args.place c.args.from c.args.to c.requires.own.found c.requires.own.gave c.store.new.self.view step;
    })

pub returns-clause-renewed : goal.returns-clause-renewed
returns-clause-renewed g c =
    let M = g.T.Theory.meaning in
    let x = c.args.self.now in
    let t = state x in
    let prepared = c.requires.going.1.prepared in
    let step = at_slot M x.field.now x.pass.now x.began.value x.sets.now.reads x.sets.now.slots x.stop x.desc x.serial x.tag x.sets.now.lots prepared c.requires.own.operates c.args.word c.args.place c.args.from c.args.to c.requires.own.found c.requires.own.gave c.slot_new-slot_new.result (there g c) c.store.new.self c.store.ensures.same c.store.ensures.step c.set_new.new.self c.set_new.ensures in
    let so = renewed_so M x.field.now x.pass.now x.began.value x.sets.now.reads x.sets.now.slots x.stop x.desc x.serial x.tag x.sets.now.lots prepared c.requires.own.operates c.args.word c.args.place c.args.from c.args.to c.requires.own.found c.requires.own.gave c.slot_new-slot_new.result (there g c) c.store.new.self c.store.ensures.same c.store.ensures.step c.set_new.new.self c.set_new.ensures in
    so ∙ ap (λ (p : PassState). record t { pass = p; hand = with_change t.hand c.args.word c.args.from.value c.args.to; slots = map (with_new c.args.word c.args.to) x.sets.now.slots })
    (sym (ap (λ (u : TxnState). u.pass) so))

pub returns-clause-given : goal.returns-clause-given
returns-clause-given g c other seen differ gave =
    let M = g.T.Theory.meaning in
    let x = c.args.self.now in
    let t = state x in
    let prepared = c.requires.going.1.prepared in
    let step = at_slot M x.field.now x.pass.now x.began.value x.sets.now.reads x.sets.now.slots x.stop x.desc x.serial x.tag x.sets.now.lots prepared c.requires.own.operates c.args.word c.args.place c.args.from c.args.to c.requires.own.found c.requires.own.gave c.slot_new-slot_new.result (there g c) c.store.new.self c.store.ensures.same c.store.ensures.step c.set_new.new.self c.set_new.ensures in
    let so = renewed_so M x.field.now x.pass.now x.began.value x.sets.now.reads x.sets.now.slots x.stop x.desc x.serial x.tag x.sets.now.lots prepared c.requires.own.operates c.args.word c.args.place c.args.from c.args.to c.requires.own.found c.requires.own.gave c.slot_new-slot_new.result (there g c) c.store.new.self c.store.ensures.same c.store.ensures.step c.set_new.new.self c.set_new.ensures in
    subst (λ u. Gave u other seen) (sym so) (renewed_given M t prepared c.requires.own.operates c.args.word c.args.place c.args.from c.args.to c.requires.own.found c.requires.own.gave c.store.new.self.view step other seen differ gave)

pub returns-clause-gave : goal.returns-clause-gave
returns-clause-gave g c =
    let M = g.T.Theory.meaning in
    let x = c.args.self.now in
    let t = state x in
    let prepared = c.requires.going.1.prepared in
    let step = at_slot M x.field.now x.pass.now x.began.value x.sets.now.reads x.sets.now.slots x.stop x.desc x.serial x.tag x.sets.now.lots prepared c.requires.own.operates c.args.word c.args.place c.args.from c.args.to c.requires.own.found c.requires.own.gave c.slot_new-slot_new.result (there g c) c.store.new.self c.store.ensures.same c.store.ensures.step c.set_new.new.self c.set_new.ensures in
    let so = renewed_so M x.field.now x.pass.now x.began.value x.sets.now.reads x.sets.now.slots x.stop x.desc x.serial x.tag x.sets.now.lots prepared c.requires.own.operates c.args.word c.args.place c.args.from c.args.to c.requires.own.found c.requires.own.gave c.slot_new-slot_new.result (there g c) c.store.new.self c.store.ensures.same c.store.ensures.step c.set_new.new.self c.set_new.ensures in
    subst (λ u. Gave u c.args.word (record { value = c.args.to; count = c.args.from.count; own = true })) (sym so) (renewed_gave M t prepared c.requires.own.operates c.args.word c.args.place c.args.from c.args.to c.requires.own.found c.requires.own.gave c.store.new.self.view step)
