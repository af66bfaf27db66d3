use Rattle.std.proofs.Common.{◌≤◌, ◌+◌, arith, sym, ap, subst, ◌∙◌}
use Rattle.std.proofs.lemmas.Bool.{true≢false}
use Rattle.md_words.specs.declared.content.Content.{Content}
use Rattle.md_words.specs.Content.{is_even, spot_of}
use Rattle.md_words.specs.Layout.{address}
use Rattle.md_words.specs.Place.{slot_word}
use Rattle.md_machine.specs.declared.step.Kind.TheVariants.{Load}
use Rattle.md_machine.specs.declared.step.TheConstants.{LAST_COUNT}
use Rattle.md_machine.specs.Event.{load}
use Rattle.md_rule.specs.Steps.{SteppedFrom}
use Rattle.md_rule.specs.Views.{PassState}
use Rattle.md_help.proofs.Finishing.{found_fits}
use Rattle.md_help.proofs.Numbers.{fits_word}
use Rattle.md_help.proofs.Steps.{made_load, stands_made}
use Rattle.md_nbtc_law.specs.Beginning.{PassesCount, StandsOwn}
use Rattle.md_nbtc_law.proofs.beginning.SlotLooks.{named_inside, slot_gone, slot_stands, slot_taken, stands_counted}
use Rattle.md_nbtc_sets.proofs.begin.take_slot_out.Goals as goal

pub overflow_cast-word : goal.overflow_cast-word
overflow_cast-word g c =
    let M = g.T.Theory.meaning in
    let o = c.args.field.now.origin in
    let p = c.args.pass.now.view in
    let q = c.load-word.new.self.view in
    let at = c.slot_word.ensures.place ∙ ap (λ s. address s (slot_word c.args.desc c.args.slot)) c.shape.ensures in
    let one = subst (λ w. SteppedFrom M o (λ pass. load pass w) w c.load-word.result p q) at c.load-word.ensures.step in
    let fits = fits_word o.shape c.load-word.result (named_inside M o c.args.desc c.args.slot c.requires.exists p q c.load-word.result one) in
    omega (arith, fits)

pub load-requires : goal.load-requires
load-requires g c =
    let M = g.T.Theory.meaning in
    let o = c.args.field.now.origin in
    let p = c.args.pass.now.view in
    let q = c.load-word.new.self.view in
    let at = c.slot_word.ensures.place ∙ ap (λ s. address s (slot_word c.args.desc c.args.slot)) c.shape.ensures in
    let one = subst (λ w. SteppedFrom M o (λ pass. load pass w) w c.load-word.result p q) at c.load-word.ensures.step in
    let same = c.load-word.ensures.same in (
      record { table = ap (λ (x : PassState). x.table) same ∙ c.requires.of.table; shape = ap (λ (x : PassState). x.shape) same ∙ c.requires.of.shape },
      named_inside M o c.args.desc c.args.slot c.requires.exists p q c.load-word.result one,
    )

pub take_out-requires-clause-stands : goal.take_out-requires-clause-stands
take_out-requires-clause-stands g c =
    let M = g.T.Theory.meaning in
    let o = c.args.field.now.origin in
    let q = c.load-word.new.self.view in
    let r = c.load.new.self.view in
    stands_made M o (λ pass. load pass c.load-word.result) Load c.load-word.result c.load.result c.load.result q r c.load.ensures.step.0 (made_load M o c.load-word.result c.load.result q r c.load.ensures.step)

pub take_out-requires-clause-spot : goal.take_out-requires-clause-spot
take_out-requires-clause-spot g c =
    let M = g.T.Theory.meaning in
    let o = c.args.field.now.origin in
    let p = c.args.pass.now.view in
    let q = c.load-word.new.self.view in
    let r = c.load.new.self.view in
    let at = c.slot_word.ensures.place ∙ ap (λ s. address s (slot_word c.args.desc c.args.slot)) c.shape.ensures in
    let one = subst (λ w. SteppedFrom M o (λ pass. load pass w) w c.load-word.result p q) at c.load-word.ensures.step in
    let parts = c.of-found.ensures.parts in
    let stood = c.stands_at.ensures.0 c.if-stands_at.true in
    let k = c.requires.knows in
    subst (λ x. StandsOwn o.shape r c.load-word.result x c.args.end) (sym c.of-found.ensures.inverse)
    (slot_stands M o c.args.desc c.args.slot c.requires.exists p q c.load-word.result one k.0 c.args.end k.1 r c.load.result c.load.ensures.step c.requires.idle
    (ap (λ (x : Content). is_even x.count) (sym parts) ∙ stood.0) (ap (λ (x : Content). spot_of x.value) (sym parts) ∙ stood.1))

pub take_out-requires-clause-fits : goal.take_out-requires-clause-fits
take_out-requires-clause-fits g c =
    let M = g.T.Theory.meaning in
    let o = c.args.field.now.origin in
    let p = c.args.pass.now.view in
    let q = c.load-word.new.self.view in
    let r = c.load.new.self.view in
    let at = c.slot_word.ensures.place ∙ ap (λ s. address s (slot_word c.args.desc c.args.slot)) c.shape.ensures in
    let one = subst (λ w. SteppedFrom M o (λ pass. load pass w) w c.load-word.result p q) at c.load-word.ensures.step in
    let parts = c.of-found.ensures.parts in
    let odd = ap (λ (x : Content). is_even x.count) (sym parts) ∙ (c.stands_at.ensures.0 c.if-stands_at.true).0 in
    let counted = stands_counted M o c.args.desc c.args.slot c.requires.exists p q c.load-word.result one r c.load.result c.load.ensures.step odd in
    subst (λ (x : Content). x.count ≤ LAST_COUNT + 1) (sym parts) (found_fits M o c.load-word.result c.load.result q r counted odd c.load.ensures.step)

pub returns-then-stands_at-clause-out : goal.returns-then-stands_at-clause-out
returns-then-stands_at-clause-out g c serial k =
    let M = g.T.Theory.meaning in
    let o = c.args.field.now.origin in
    let p = c.args.pass.now.view in
    let q = c.load-word.new.self.view in
    let r = c.load.new.self.view in
    let u = c.take_out.new.pass.view in
    let at = c.slot_word.ensures.place ∙ ap (λ s. address s (slot_word c.args.desc c.args.slot)) c.shape.ensures in
    let one = subst (λ w. SteppedFrom M o (λ pass. load pass w) w c.load-word.result p q) at c.load-word.ensures.step in
    let stood = c.stands_at.ensures.0 c.if-stands_at.true in
    slot_taken M o c.args.desc c.args.slot c.requires.exists p q c.load-word.result one serial c.args.end k r c.load.result c.load.ensures.step c.requires.idle u
    (ap (λ (x : Content). spot_of x.value) (sym c.of-found.ensures.parts) ∙ stood.1)
    (subst (λ x. PassesCount o.shape c.load-word.result x r u) c.of-found.ensures.inverse c.take_out.ensures.higher)

pub returns-else-stands_at-clause-out : goal.returns-else-stands_at-clause-out
returns-else-stands_at-clause-out g c serial k =
    let M = g.T.Theory.meaning in
    let o = c.args.field.now.origin in
    let p = c.args.pass.now.view in
    let q = c.load-word.new.self.view in
    let r = c.load.new.self.view in
    let at = c.slot_word.ensures.place ∙ ap (λ s. address s (slot_word c.args.desc c.args.slot)) c.shape.ensures in
    let one = subst (λ w. SteppedFrom M o (λ pass. load pass w) w c.load-word.result p q) at c.load-word.ensures.step in
    let parts = c.of-found.ensures.parts in
    slot_gone M o c.args.desc c.args.slot c.requires.exists p q c.load-word.result one serial c.args.end k r c.load.result c.load.ensures.step c.requires.idle
    (λ stood. true≢false (sym (c.stands_at.ensures.1 (ap (λ (x : Content). is_even x.count) parts ∙ stood.0, ap (λ (x : Content). spot_of x.value) parts ∙ stood.1)) ∙ c.if-stands_at.false))
