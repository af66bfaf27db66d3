use Rattle.std.proofs.Common.{◌∙◌, ap, sym, subst}
use Rattle.md_words.specs.Layout.{address}
use Rattle.md_words.specs.Place.{node_next}
use Rattle.md_words.specs.PlaceAt.{IsCounted}
use Rattle.md_machine.proofs.chain.SameNodes.{next_counted}
use Rattle.md_nbtc_law.specs.Seeing.{KeepsGiven}
use Rattle.md_nbtc_law.specs.State.{shape_in}
use Rattle.md_nbtc.specs.State.{state}
use Rattle.md_nbtc_law.specs.Calls.{AfterStop, Looked}
use Rattle.md_queue.proofs.words.load_next.Goals as goal

pub load-requires-clause-counted : goal.load-requires-clause-counted
load-requires-clause-counted g c = subst (IsCounted (shape_in (state c.args.tx.now)))
    (sym (c.node_next-next_word.ensures.place ∙ ap (λ s. address s (node_next c.args.node)) c.shape.ensures))
    (next_counted (shape_in (state c.args.tx.now)) c.args.node c.requires.may.exists)

pub returns-clause-given : goal.returns-clause-given
returns-clause-given g c = subst (KeepsGiven (state c.args.tx.now) (state c.load.new.self))
    (c.node_next-next_word.ensures.place ∙ ap (λ s. address s (node_next c.args.node)) c.shape.ensures) c.load.ensures.given

pub load-requires-clause-going : goal.load-requires-clause-going
load-requires-clause-going g c = c.requires.may.going

pub returns-clause-pass : goal.returns-clause-pass
returns-clause-pass g c = c.load.ensures.pass

pub returns-clause-on : goal.returns-clause-on
returns-clause-on g c = c.load.ensures.on

pub returns-clause-looked : goal.returns-clause-looked
returns-clause-looked g c =
    let t = state c.args.tx.now in
    let u = state c.load.new.self in
    subst (λ w. AfterStop t.stop t u c.load.result (Looked g.T.Theory.meaning t u w c.load.result)) (c.node_next-next_word.ensures.place ∙ ap (λ s. address s (node_next c.args.node)) c.shape.ensures) c.load.ensures.looked
