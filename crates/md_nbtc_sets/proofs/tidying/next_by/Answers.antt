use Rattle.std.proofs.Common.{sym, ap, subst, ◌∙◌}
use Rattle.md_words.specs.Layout.{IsNode, address}
use Rattle.md_words.specs.Place.{node_next}
use Rattle.md_machine.specs.declared.step.Kind.TheVariants.{Load}
use Rattle.md_machine.specs.Event.{load}
use Rattle.md_rule.specs.Steps.{SteppedFrom}
use Rattle.md_help.proofs.Steps.{made_load, stands_made}
use Rattle.md_nbtc_law.specs.declared.seen.Cleanup.{Cleanup}
use Rattle.md_nbtc_law.specs.Cleaning.{cleanup_node}
use Rattle.md_nbtc_law.specs.Deciding.{FindsNext, TookOut}
use Rattle.md_nbtc_law.specs.Withdrawing.{IsAlwaysPlaced}
use Rattle.md_nbtc_law.proofs.tidyings.Making.{next_kept, next_loaded}
use Rattle.md_nbtc_sets.proofs.tidying.next_by.Goals as goal

pub returns-in-Unlink-clause-stands : goal.returns-in-Unlink-clause-stands
returns-in-Unlink-clause-stands g c =
    let M = g.T.Theory.meaning in
    let o = c.args.field.now.origin in
    let p = c.args.pass.now.view in
    let q = c.load.new.self.view in
    let word = c.node_next.result in
    stands_made M o (λ pass. load pass word) Load word c.load.result c.load.result p q c.load.ensures.step.0 (made_load M o word c.load.result p q c.load.ensures.step)

pub returns-in-Unlink-clause-next : goal.returns-in-Unlink-clause-next
returns-in-Unlink-clause-next g c out took =
    let M = g.T.Theory.meaning in
    let o = c.args.field.now.origin in
    let p = c.args.pass.now.view in
    let q = c.load.new.self.view in
    let node = c.in-Unlink.node in
    let at = c.node_next.ensures.place ∙ ap (λ s. address s (node_next node)) c.shape.ensures in
    subst (λ (x : Cleanup). FindsNext o.shape x out c.load.result p q) (sym c.in-Unlink.is)
    (next_loaded M o p q c.in-Unlink.prev node c.load.result c.args.left out
    (subst (λ (x : Cleanup). IsNode o.shape (cleanup_node x)) c.in-Unlink.is c.requires.exists)
    (subst (λ (x : Cleanup). IsAlwaysPlaced M o p (cleanup_node x)) c.in-Unlink.is c.requires.placed)
    (subst (λ w. SteppedFrom M o (λ pass. load pass w) w c.load.result p q) at c.load.ensures.step))

pub returns-in-MoveTail-clause-next : goal.returns-in-MoveTail-clause-next
returns-in-MoveTail-clause-next g c out took =
    let o = c.args.field.now.origin in
    let p = c.args.pass.now.view in
    let m = c.in-MoveTail in
    subst (λ (x : Cleanup). FindsNext o.shape x out c.args.left p p) (sym m.is)
    (next_kept o.shape p m.tail m.from m.to c.args.left out (subst (λ (x : Cleanup). TookOut o.shape p x c.args.left out) m.is took))
