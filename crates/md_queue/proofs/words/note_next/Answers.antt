use Rattle.std.proofs.Common.{◌∙◌, ap, sym, subst}
use Rattle.md_words.specs.Layout.{address}
use Rattle.md_words.specs.Place.{node_next}
use Rattle.md_nbtc_law.specs.Going.{IsFoundThere}
use Rattle.md_nbtc_law.specs.Seeing.{KeepsGiven, Gave}
use Rattle.md_nbtc.specs.State.{state}
use Rattle.md_nbtc_law.specs.Calls.{AfterStop, Notes, note_case}
use Rattle.md_queue.proofs.words.note_next.Goals as goal

pub note-requires-clause-may : goal.note-requires-clause-may
note-requires-clause-may g c = record {
  operates = c.requires.may.operates;
  gave = subst (λ w. Gave (state c.args.tx.now) w c.args.next) (sym (c.node_next-next_word.ensures.place ∙ ap (λ s. address s (node_next c.args.node)) c.shape.ensures)) c.requires.may.gave;
  found = (
      subst (λ w. IsFoundThere g.T.Theory.meaning (state c.args.tx.now) w c.args.next)
      (sym (c.node_next-next_word.ensures.place ∙ ap (λ s. address s (node_next c.args.node)) c.shape.ensures)) c.requires.may.there
      );
}

pub returns-clause-given : goal.returns-clause-given
returns-clause-given g c = subst (KeepsGiven (state c.args.tx.now) (state c.note.new.self))
    (c.node_next-next_word.ensures.place ∙ ap (λ s. address s (node_next c.args.node)) c.shape.ensures) c.note.ensures.given

pub note-requires-clause-going : goal.note-requires-clause-going
note-requires-clause-going g c = c.requires.may.going

pub returns-clause-pass : goal.returns-clause-pass
returns-clause-pass g c = c.note.ensures.pass

pub returns-clause-on : goal.returns-clause-on
returns-clause-on g c = c.note.ensures.on

pub returns-clause-noted : goal.returns-clause-noted
returns-clause-noted g c =
    let t = state c.args.tx.now in
    let u = state c.note.new.self in
    subst (λ w. AfterStop t.stop t u c.note.result (Notes (note_case t w c.args.next) t u w c.args.next c.note.result)) (c.node_next-next_word.ensures.place ∙ ap (λ s. address s (node_next c.args.node)) c.shape.ensures) c.note.ensures.noted

pub returns-clause-gave : goal.returns-clause-gave
returns-clause-gave g c = subst (λ w. Gave (state c.note.new.self) w c.args.next) (c.node_next-next_word.ensures.place ∙ ap (λ s. address s (node_next c.args.node)) c.shape.ensures) c.note.ensures.gave
