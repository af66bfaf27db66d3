use Rattle.std.proofs.Common.{◌≡◌, ◌<◌, ◌+◌, ◌++◌, ◌∷◌, ◌∙◌, ℕ, List, [], None, Some, length, true, refl, sym, ap, subst, inl}
use Rattle.md_words.specs.declared.content.Spot.{Spot}
use Rattle.md_words.specs.declared.limits.TheConstants.{SET}
use Rattle.md_words.specs.Layout.{desc_count}
use Rattle.md_words.proofs.Owners.{own_desc_exists}
use Rattle.md_machine.specs.Event.{install}
use Rattle.md_machine.specs.declared.step.Kind.TheVariants.{Install}
use Rattle.md_rule.specs.Steps.{May, SteppedFrom}
use Rattle.md_rule.specs.Views.{PassState}
use Rattle.md_nbtc_law.specs.declared.seen.Seen.{Seen}
use Rattle.md_nbtc_law.specs.declared.slots.Slot.{Slot}
use Rattle.md_nbtc_law.specs.Calls.{GoesOn, new_slot, with_change}
use Rattle.md_nbtc_law.specs.Prepared.{IsPrepared}
use Rattle.md_nbtc_law.specs.Seeing.{Gave}
use Rattle.md_nbtc_law.specs.State.{TxnState, attempt_in, seen_content, shape_in, state_of}
use Rattle.md_nbtc_law.proofs.exchanging.Installed.{even_room, lost_step, may_install, no_next_left}
use Rattle.md_nbtc_law.proofs.exchanging.LostStep.{lost_given, lost_on, lost_so}
use Rattle.md_nbtc.specs.State.{state}
use Rattle.md_history.specs.declared.stops.Stop.TheVariants.{Conflict}
use Rattle.md_nbtc_law.proofs.exchanging.WonInstall.{installed_gave, installed_given, installed_on, installed_so, it_won, taken_same}
use Rattle.md_nbtc.proofs.txn.Txn.install_next.Goals as goal

spot_is : (t : TxnState) → IsPrepared t → (slot : ℕ) → slot ≡ length t.slots → (let s : Spot = record { desc = t.desc; slot = slot } in s) ≡ record { desc = (attempt_in t).desc; slot = length t.slots }
spot_is t prepared slot is = ap (λ d. record { desc = d; slot = slot }) prepared.has.numbers.0 ∙ ap (λ n. record { desc = (attempt_in t).desc; slot = n }) is

slots_are : (t : TxnState) (slots : List Slot) (slot : ℕ) (made : Slot) (now : List Slot) (word old : ℕ) (from : Seen) (to : ℕ) → old ≡ seen_content from → slot ≡ length t.slots
    → made ≡ record { write = record { slot = slot; word = word; old = old; new = to }; cleanup = None } → now ≡ slots ++ made ∷ [] → now ≡ slots ++ new_slot t word from to ∷ []
slots_are t slots slot made now word old from to held number is pushed = pushed ∙ ap (λ s. slots ++ s ∷ [])
    (is ∙ ap (λ n. record { write = record { slot = n; word = word; old = old; new = to }; cleanup = None }) number
    ∙ ap (λ n. record { write = record { slot = length t.slots; word = word; old = n; new = to }; cleanup = None }) held)

pub install-requires-clause-fits : goal.install-requires-clause-fits
install-requires-clause-fits g c =
    let M = g.T.Theory.meaning in
    let lawful = g.T.Theory.lawful in
    let x = c.args.self.now in
    let t = state x in
    let r = c.requires in
    let prepared = r.going.1.prepared in (
      even_room c.args.from.count (r.other.gave.content (r.other.gave.own ∙ r.other.other)).even r.stored.fits,
      subst (λ n. n < desc_count (shape_in t)) (sym prepared.has.numbers.0) (own_desc_exists (shape_in t) prepared.has.own.0 (attempt_in t).desc prepared.has.own.2),
      subst (λ n. n < SET) (sym c.len-slot.ensures) r.stored.holds.room,
    )

pub install-requires-clause-taken : goal.install-requires-clause-taken
install-requires-clause-taken g c =
    no_next_left g.T.Theory.meaning g.T.Theory.lawful (state c.args.self.now) c.requires.going.0 c.requires.going.1 c.shape.ensures.kept c.args.word c.args.from.value c.requires.may.1

pub install-requires-clause-may : goal.install-requires-clause-may
install-requires-clause-may g c =
    let M = g.T.Theory.meaning in
    let lawful = g.T.Theory.lawful in
    let x = c.args.self.now in
    let t = state x in
    let r = c.requires in
    let prepared = r.going.1.prepared in
    subst (λ s. May M t.field.origin (λ pass. install pass c.args.word (seen_content c.args.from) s) t.pass.view) (sym (spot_is t prepared c.len-slot.result c.len-slot.ensures))
    (may_install M lawful t prepared c.args.word c.args.from c.args.to r.other.counted r.other.other r.other.gave r.stored.fits r.may.0 r.stored.holds)

pub returns-in-Ok-clause-on : goal.returns-in-Ok-clause-on
returns-in-Ok-clause-on g c =
    let M = g.T.Theory.meaning in
    let lawful = g.T.Theory.lawful in
    let x = c.args.self.now in
    let t = state x in
    let r = c.requires in
    let prepared = r.going.1.prepared in
    let spot = spot_is t prepared c.len-slot.result c.len-slot.ensures in
    let same = c.in-Ok.ensures.same in
    let it = it_won M lawful x.field.now x.pass.now x.began.value x.sets.now.reads x.sets.now.slots x.stop x.desc x.serial x.tag x.sets.now.lots prepared r.other.operates c.args.word c.args.from c.args.to r.other.counted r.other.other r.other.gave r.stored.fits r.may.0 r.stored.holds _ spot c.install.new.self same c.in-Ok.ensures.shares c.in-Ok.ensures.step in
    let taken = taken_same M lawful x.field.now x.pass.now x.began.value x.sets.now.reads x.sets.now.slots x.stop x.desc x.serial x.tag x.sets.now.lots prepared r.other.operates c.args.word c.args.from c.args.to r.other.counted r.other.other r.other.gave r.stored.fits r.may.0 r.stored.holds _ spot c.install.new.self same c.in-Ok.ensures.shares c.in-Ok.ensures.step in
    let so = installed_so M lawful x.field.now x.pass.now x.began.value x.sets.now.reads x.sets.now.slots x.stop x.desc x.serial x.tag x.sets.now.lots prepared r.other.operates c.args.word c.args.from c.args.to r.other.counted r.other.other r.other.gave r.stored.fits r.may.0 r.stored.holds _ spot c.install.new.self same c.in-Ok.ensures.shares c.in-Ok.ensures.step
    r.stored.agree c.push.new.self (slots_are t x.sets.now.slots c.len-slot.result c.of.result c.push.new.self c.args.word c.word.result c.args.from c.args.to c.word.ensures.whole c.len-slot.ensures c.of.ensures c.push.ensures) in
    subst (GoesOn M t) (sym so) (installed_on M lawful t prepared r.other.operates c.args.word c.args.from c.args.to r.other.counted r.other.other r.other.gave r.stored.fits r.may.0 r.stored.holds r.stored.agree c.install.new.self.view it c.install.new.self.shares taken r.may.1)

pub returns-in-Ok-clause-exchanged : goal.returns-in-Ok-clause-exchanged
returns-in-Ok-clause-exchanged g c =
    let M = g.T.Theory.meaning in
    let lawful = g.T.Theory.lawful in
    let x = c.args.self.now in
    let t = state x in
    let r = c.requires in
    let prepared = r.going.1.prepared in
    let spot = spot_is t prepared c.len-slot.result c.len-slot.ensures in
    let same = c.in-Ok.ensures.same in
    let it = it_won M lawful x.field.now x.pass.now x.began.value x.sets.now.reads x.sets.now.slots x.stop x.desc x.serial x.tag x.sets.now.lots prepared r.other.operates c.args.word c.args.from c.args.to r.other.counted r.other.other r.other.gave r.stored.fits r.may.0 r.stored.holds _ spot c.install.new.self same c.in-Ok.ensures.shares c.in-Ok.ensures.step in
    let taken = taken_same M lawful x.field.now x.pass.now x.began.value x.sets.now.reads x.sets.now.slots x.stop x.desc x.serial x.tag x.sets.now.lots prepared r.other.operates c.args.word c.args.from c.args.to r.other.counted r.other.other r.other.gave r.stored.fits r.may.0 r.stored.holds _ spot c.install.new.self same c.in-Ok.ensures.shares c.in-Ok.ensures.step in
    let so = installed_so M lawful x.field.now x.pass.now x.began.value x.sets.now.reads x.sets.now.slots x.stop x.desc x.serial x.tag x.sets.now.lots prepared r.other.operates c.args.word c.args.from c.args.to r.other.counted r.other.other r.other.gave r.stored.fits r.may.0 r.stored.holds _ spot c.install.new.self same c.in-Ok.ensures.shares c.in-Ok.ensures.step
    r.stored.agree c.push.new.self (slots_are t x.sets.now.slots c.len-slot.result c.of.result c.push.new.self c.args.word c.word.result c.args.from c.args.to c.word.ensures.whole c.len-slot.ensures c.of.ensures c.push.ensures) in (
      refl,
      so ∙ ap (λ (p : PassState). record t { pass = p; hand = with_change t.hand c.args.word c.args.from.value c.args.to; slots = t.slots ++ new_slot t c.args.word c.args.from c.args.to ∷ [] })
          (sym (ap (λ (u : TxnState). u.pass) so)),
    )

pub returns-in-Ok-clause-gives : goal.returns-in-Ok-clause-gives
returns-in-Ok-clause-gives g c =
    let M = g.T.Theory.meaning in
    let lawful = g.T.Theory.lawful in
    let x = c.args.self.now in
    let t = state x in
    let r = c.requires in
    let prepared = r.going.1.prepared in
    let spot = spot_is t prepared c.len-slot.result c.len-slot.ensures in
    let same = c.in-Ok.ensures.same in
    let it = it_won M lawful x.field.now x.pass.now x.began.value x.sets.now.reads x.sets.now.slots x.stop x.desc x.serial x.tag x.sets.now.lots prepared r.other.operates c.args.word c.args.from c.args.to r.other.counted r.other.other r.other.gave r.stored.fits r.may.0 r.stored.holds _ spot c.install.new.self same c.in-Ok.ensures.shares c.in-Ok.ensures.step in
    let taken = taken_same M lawful x.field.now x.pass.now x.began.value x.sets.now.reads x.sets.now.slots x.stop x.desc x.serial x.tag x.sets.now.lots prepared r.other.operates c.args.word c.args.from c.args.to r.other.counted r.other.other r.other.gave r.stored.fits r.may.0 r.stored.holds _ spot c.install.new.self same c.in-Ok.ensures.shares c.in-Ok.ensures.step in
    record {
      given = (
          let so = installed_so M lawful x.field.now x.pass.now x.began.value x.sets.now.reads x.sets.now.slots x.stop x.desc x.serial x.tag x.sets.now.lots prepared r.other.operates c.args.word c.args.from c.args.to r.other.counted r.other.other r.other.gave r.stored.fits r.may.0 r.stored.holds _ spot c.install.new.self same c.in-Ok.ensures.shares c.in-Ok.ensures.step
          r.stored.agree c.push.new.self (slots_are t x.sets.now.slots c.len-slot.result c.of.result c.push.new.self c.args.word c.word.result c.args.from c.args.to c.word.ensures.whole c.len-slot.ensures c.of.ensures c.push.ensures) in
          λ other seen differ gave. subst (λ u. Gave u other seen) (sym so) (installed_given M lawful t prepared r.other.operates c.args.word c.args.from c.args.to r.other.counted r.other.other r.other.gave r.stored.fits r.may.0 r.stored.holds r.stored.agree c.install.new.self.view it c.install.new.self.shares taken other seen differ gave)
          );
      gave = (
          let so = installed_so M lawful x.field.now x.pass.now x.began.value x.sets.now.reads x.sets.now.slots x.stop x.desc x.serial x.tag x.sets.now.lots prepared r.other.operates c.args.word c.args.from c.args.to r.other.counted r.other.other r.other.gave r.stored.fits r.may.0 r.stored.holds _ spot c.install.new.self same c.in-Ok.ensures.shares c.in-Ok.ensures.step
          r.stored.agree c.push.new.self (slots_are t x.sets.now.slots c.len-slot.result c.of.result c.push.new.self c.args.word c.word.result c.args.from c.args.to c.word.ensures.whole c.len-slot.ensures c.of.ensures c.push.ensures) in
          subst (λ u. Gave u c.args.word (record { value = c.args.to; count = c.args.from.count + 1; own = true })) (sym so) (installed_gave M lawful t prepared r.other.operates c.args.word c.args.from c.args.to r.other.counted r.other.other r.other.gave r.stored.fits r.may.0 r.stored.holds r.stored.agree c.install.new.self.view it c.install.new.self.shares taken)
          );
    }

pub returns-in-Err-clause-on : goal.returns-in-Err-clause-on
returns-in-Err-clause-on g c =
    let M = g.T.Theory.meaning in
    let lawful = g.T.Theory.lawful in
    let x = c.args.self.now in
    let t = state x in
    let r = c.requires in
    let prepared = r.going.1.prepared in
    let q = c.install.new.self in
    let found = c.in-Err.now in
    let e = c.in-Err.ensures in
    let it = lost_step M lawful t prepared c.args.word c.args.from c.args.to r.other.counted r.other.other r.other.gave r.stored.fits r.may.0 r.stored.holds q.view found e.step.0
    (subst (λ s. SteppedFrom M t.field.origin (λ pass. install pass c.args.word (seen_content c.args.from) s) c.args.word found t.pass.view q.view) (spot_is t prepared c.len-slot.result c.len-slot.ensures) e.step.1) in
    let stop_is = c.lose.ensures.stop ∙ ap (λ n. Conflict (record { word = c.args.word; was = n; now = found })) c.word-in-Err.ensures.whole in
    let same = e.same ∙ ap (λ l. record x.pass.now { view = q.view; shares = l }) e.shares in
    let so = (ap state c.lose.ensures.kept ∙ ap (λ s. state_of x.field.now q x.began.value x.sets.now.reads x.sets.now.slots (Some s) x.desc x.serial x.tag x.sets.now.lots)
    (c.lose.ensures.stop ∙ ap (λ n. Conflict (record { word = c.args.word; was = n; now = found })) c.word-in-Err.ensures.whole))
    ∙ lost_so M x.field.now x.pass.now x.began.value x.sets.now.reads x.sets.now.slots x.stop x.desc x.serial x.tag x.sets.now.lots prepared r.other.operates c.args.word r.other.counted c.args.from r.other.other r.other.gave Install (inl refl) found e.step.0 q same it in
    subst (GoesOn M t) (sym so) (lost_on M t prepared r.other.operates c.args.word r.other.counted c.args.from r.other.other r.other.gave Install (inl refl) found e.step.0 q.view it)

pub returns-in-Err-clause-exchanged : goal.returns-in-Err-clause-exchanged
returns-in-Err-clause-exchanged g c =
    let M = g.T.Theory.meaning in
    let lawful = g.T.Theory.lawful in
    let x = c.args.self.now in
    let t = state x in
    let r = c.requires in
    let prepared = r.going.1.prepared in
    let q = c.install.new.self in
    let found = c.in-Err.now in
    let e = c.in-Err.ensures in
    let it = lost_step M lawful t prepared c.args.word c.args.from c.args.to r.other.counted r.other.other r.other.gave r.stored.fits r.may.0 r.stored.holds q.view found e.step.0
    (subst (λ s. SteppedFrom M t.field.origin (λ pass. install pass c.args.word (seen_content c.args.from) s) c.args.word found t.pass.view q.view) (spot_is t prepared c.len-slot.result c.len-slot.ensures) e.step.1) in
    let stop_is = c.lose.ensures.stop ∙ ap (λ n. Conflict (record { word = c.args.word; was = n; now = found })) c.word-in-Err.ensures.whole in
    let same = e.same ∙ ap (λ l. record x.pass.now { view = q.view; shares = l }) e.shares in
    let so = (ap state c.lose.ensures.kept ∙ ap (λ s. state_of x.field.now q x.began.value x.sets.now.reads x.sets.now.slots (Some s) x.desc x.serial x.tag x.sets.now.lots)
    (c.lose.ensures.stop ∙ ap (λ n. Conflict (record { word = c.args.word; was = n; now = found })) c.word-in-Err.ensures.whole))
    ∙ lost_so M x.field.now x.pass.now x.began.value x.sets.now.reads x.sets.now.slots x.stop x.desc x.serial x.tag x.sets.now.lots prepared r.other.operates c.args.word r.other.counted c.args.from r.other.other r.other.gave Install (inl refl) found e.step.0 q same it in (
      (
        refl,
        so ∙ ap (λ (p : PassState). record t { pass = p; stop = Some (Conflict (record { word = c.args.word; was = seen_content c.args.from; now = found })) }) (sym (ap (λ (u : TxnState). u.pass) so))
            ∙ ap (λ s. record t { pass = (state c.lose.new.self).pass; stop = Some s }) (sym stop_is),
      ),
      (found, stop_is),
    )

pub returns-in-Err-clause-gives : goal.returns-in-Err-clause-gives
returns-in-Err-clause-gives g c =
    let M = g.T.Theory.meaning in
    let lawful = g.T.Theory.lawful in
    let x = c.args.self.now in
    let t = state x in
    let r = c.requires in
    let prepared = r.going.1.prepared in
    let q = c.install.new.self in
    let found = c.in-Err.now in
    let e = c.in-Err.ensures in
    let stop_is = c.lose.ensures.stop ∙ ap (λ n. Conflict (record { word = c.args.word; was = n; now = found })) c.word-in-Err.ensures.whole in
    let same = e.same ∙ ap (λ l. record x.pass.now { view = q.view; shares = l }) e.shares in
    record {
      given = (
          let it = lost_step M lawful t prepared c.args.word c.args.from c.args.to r.other.counted r.other.other r.other.gave r.stored.fits r.may.0 r.stored.holds q.view found e.step.0
          (subst (λ s. SteppedFrom M t.field.origin (λ pass. install pass c.args.word (seen_content c.args.from) s) c.args.word found t.pass.view q.view) (spot_is t prepared c.len-slot.result c.len-slot.ensures) e.step.1) in
          let so = (ap state c.lose.ensures.kept ∙ ap (λ s. state_of x.field.now q x.began.value x.sets.now.reads x.sets.now.slots (Some s) x.desc x.serial x.tag x.sets.now.lots)
          (c.lose.ensures.stop ∙ ap (λ n. Conflict (record { word = c.args.word; was = n; now = found })) c.word-in-Err.ensures.whole))
          ∙ lost_so M x.field.now x.pass.now x.began.value x.sets.now.reads x.sets.now.slots x.stop x.desc x.serial x.tag x.sets.now.lots prepared r.other.operates c.args.word r.other.counted c.args.from r.other.other r.other.gave Install (inl refl) found e.step.0 q same it in
          λ other seen differ gave. subst (λ u. Gave u other seen) (sym so) (lost_given M t prepared r.other.operates c.args.word r.other.counted c.args.from r.other.other r.other.gave Install (inl refl) found e.step.0 q.view it other seen gave)
          );
      gave = tt;
    }
