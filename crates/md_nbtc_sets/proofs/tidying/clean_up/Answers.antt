use Rattle.std.proofs.Common.{[], ◌∷◌, sym, subst, ◌∙◌}
use Rattle.md_machine.specs.declared.step.Kind.TheVariants.{Load}
use Rattle.md_machine.specs.Event.{load}
use Rattle.md_rule.specs.Steps.{SteppedFrom}
use Rattle.md_help.proofs.Steps.{made_load, stands_made}
use Rattle.md_nbtc_law.proofs.tidyings.Making.{cleaned_not, cleaned_tried, may_still, took_still}
use Rattle.md_nbtc_sets.proofs.tidying.clean_up.Goals as goal

pub try_cleanup-requires-clause-stands : goal.try_cleanup-requires-clause-stands
try_cleanup-requires-clause-stands g c =
    let M = g.T.Theory.meaning in
    let o = c.args.field.now.origin in
    let p = c.args.pass.now.view in
    let q = c.load-held.new.self.view in
    let word = c.word_of.result in
    stands_made M o (λ pass. load pass word) Load word c.load-held.result c.load-held.result p q c.load-held.ensures.step.0 (made_load M o word c.load-held.result p q c.load-held.ensures.step)

pub try_cleanup-requires-clause-may : goal.try_cleanup-requires-clause-may
try_cleanup-requires-clause-may g c =
    let M = g.T.Theory.meaning in
    let o = c.args.field.now.origin in
    let p = c.args.pass.now.view in
    let q = c.load-held.new.self.view in
    let word = c.word_of.result in
    let m = made_load M o word c.load-held.result p q c.load-held.ensures.step in
    may_still M o (m.step ∷ []) p q m.goes c.requires.stands
    (stands_made M o (λ pass. load pass word) Load word c.load-held.result c.load-held.result p q c.load-held.ensures.step.0 m) c.args.cleanup c.requires.may

pub try_cleanup-requires-clause-names : goal.try_cleanup-requires-clause-names
try_cleanup-requires-clause-names g c = sym c.names.ensures ∙ c.if-names.true

pub try_cleanup-requires-clause-out : goal.try_cleanup-requires-clause-out
try_cleanup-requires-clause-out g c =
    let M = g.T.Theory.meaning in
    let o = c.args.field.now.origin in
    let p = c.args.pass.now.view in
    let q = c.load-held.new.self.view in
    let m = made_load M o c.word_of.result c.load-held.result p q c.load-held.ensures.step in
    let out = c.requires.out in
    (out.0, took_still o.shape (m.step ∷ []) p q m.goes c.args.cleanup c.args.left out.0 out.1)

pub returns-then-names-clause-cleaned : goal.returns-then-names-clause-cleaned
returns-then-names-clause-cleaned g c out took =
    let M = g.T.Theory.meaning in
    let o = c.args.field.now.origin in
    let p = c.args.pass.now.view in
    let q = c.load-held.new.self.view in
    let r = c.try_cleanup.new.pass.view in
    let m = made_load M o _ c.load-held.result p q (subst (λ w. SteppedFrom M o (λ pass. load pass w) w c.load-held.result p q) c.word_of.ensures c.load-held.ensures.step) in
    cleaned_tried o.shape c.args.cleanup out c.load-held.result p q r m (sym c.names.ensures ∙ c.if-names.true)
    (c.try_cleanup.ensures.tried out (took_still o.shape (m.step ∷ []) p q m.goes c.args.cleanup c.args.left out took))

pub returns-else-names-clause-stands : goal.returns-else-names-clause-stands
returns-else-names-clause-stands g c =
    let M = g.T.Theory.meaning in
    let o = c.args.field.now.origin in
    let p = c.args.pass.now.view in
    let q = c.load-held.new.self.view in
    let word = c.word_of.result in
    stands_made M o (λ pass. load pass word) Load word c.load-held.result c.load-held.result p q c.load-held.ensures.step.0 (made_load M o word c.load-held.result p q c.load-held.ensures.step)

pub returns-else-names-clause-cleaned : goal.returns-else-names-clause-cleaned
returns-else-names-clause-cleaned g c out took =
    let M = g.T.Theory.meaning in
    let o = c.args.field.now.origin in
    let p = c.args.pass.now.view in
    let q = c.load-held.new.self.view in
    let m = made_load M o _ c.load-held.result p q (subst (λ w. SteppedFrom M o (λ pass. load pass w) w c.load-held.result p q) c.word_of.ensures c.load-held.ensures.step) in
    cleaned_not o.shape c.args.cleanup out c.load-held.result p q m (sym c.names.ensures ∙ c.if-names.false)
