use Rattle.std.proofs.Common.{refl, sym, ap, subst, ◌∙◌, arith}
use Rattle.md_words.specs.declared.content.Spot.{Spot}
use Rattle.md_words.specs.declared.content.Content.{Content}
use Rattle.md_words.specs.declared.status.Status.TheVariants.{Committed as IsCommitted, Aborted as IsAborted}
use Rattle.md_words.specs.Content.{word_of}
use Rattle.md_words.specs.Layout.{IsInSet, address}
use Rattle.md_words.specs.Place.{slot_new, slot_old}
use Rattle.md_machine.specs.Event.{load}
use Rattle.md_rule.specs.Steps.{SteppedFrom}
use Rattle.md_help.specs.Clears.{fate_of}
use Rattle.md_help.proofs.Steps.{made_load}
use Rattle.md_help.proofs.Taking.{fate_else, slot_fits, slot_loaded}
use Rattle.md_help.proofs.clearing.slot_value.Goals as goal

pub overflow_cast-result : goal.overflow_cast-result
overflow_cast-result g c =
    let o = c.args.field.now.origin in
    let spot = c.spot_in-spot.result in
    let at = c.slot_new.ensures.place ∙ ap (λ s. address s (slot_new spot.desc spot.slot)) c.shape.ensures in
    let fits = slot_fits g.T.Theory.meaning o c.slot_new.result c.load.result spot.desc spot.slot c.args.pass.now.view c.load.new.self.view (subst (λ (s : Spot). IsInSet o.shape s.desc s.slot) (sym c.spot_in-spot.ensures) c.requires.exists) at c.load.ensures.step in
    omega (arith, fits)

pub returns-in-Committed-clause-loaded : goal.returns-in-Committed-clause-loaded
returns-in-Committed-clause-loaded g c =
    let M = g.T.Theory.meaning in
    let o = c.args.field.now.origin in
    let p = c.args.pass.now.view in
    let q = c.load.new.self.view in
    let spot = c.spot_in-spot.result in
    let at = c.slot_new.ensures.place ∙ ap (λ s. address s (slot_new spot.desc spot.slot)) c.shape.ensures in
    slot_loaded o.shape (word_of c.args.found) IsCommitted (fate_of c.args.end) spot c.load.result c.load.result p q (ap fate_of c.in-Committed.is) c.spot_in-spot.ensures
    (made_load M o _ c.load.result p q (subst (λ w. SteppedFrom M o (λ pass. load pass w) w c.load.result p q) at c.load.ensures.step)) refl

pub returns-in_default : goal.returns-in_default
returns-in_default g c =
    let M = g.T.Theory.meaning in
    let o = c.args.field.now.origin in
    let p = c.args.pass.now.view in
    let q = c.load-in_default.new.self.view in
    let spot = c.spot_in-spot.result in
    let at = c.slot_old.ensures.place ∙ ap (λ s. address s (slot_old spot.desc spot.slot)) c.shape-in_default.ensures in record {
      same = c.load-in_default.ensures.same;
      loaded = slot_loaded o.shape (word_of c.args.found) IsAborted (fate_of c.args.end) spot c.load-in_default.result c.of.result.value p q (fate_else c.args.end c.in_default.not-Committed) c.spot_in-spot.ensures
          (made_load M o _ c.load-in_default.result p q (subst (λ w. SteppedFrom M o (λ pass. load pass w) w c.load-in_default.result p q) at c.load-in_default.ensures.step)) (sym (ap (λ (x : Content). x.value) c.of.ensures.parts));
    }
