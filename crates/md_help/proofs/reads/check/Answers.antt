use Rattle.std.proofs.Common.{ap, subst, ◌∙◌, arith}
use Rattle.md_words.specs.Layout.{address}
use Rattle.md_words.specs.Place.{read_content, read_word}
use Rattle.md_machine.specs.Event.{load}
use Rattle.md_machine.specs.declared.step.Kind.TheVariants.{Load}
use Rattle.md_rule.specs.Steps.{SteppedFrom}
use Rattle.md_rule.specs.Views.{PassState}
use Rattle.md_help.proofs.Numbers.{fits_word, read_word_apart, read_word_below}
use Rattle.md_help.proofs.Reading.{checked}
use Rattle.md_help.proofs.Steps.{made_load, stands_made}
use Rattle.md_help.proofs.reads.check.Goals as goal

pub overflow_cast-word : goal.overflow_cast-word
overflow_cast-word g c =
    let o = c.args.field.now.origin in
    let at = c.read_word.ensures.place ∙ ap (λ s. address s (read_word c.args.desc c.args.i)) c.shape.ensures in
    let fits = fits_word o.shape c.load-word.result (read_word_below g.T.Theory.meaning o c.args.pass.now.view c.load-word.new.self.view c.read_word.result c.load-word.result c.args.desc c.args.i c.requires.exists at c.load-word.ensures.step) in
    omega (arith, fits)

pub load-found-requires : goal.load-found-requires
load-found-requires g c =
    let o = c.args.field.now.origin in
    let at = c.read_word.ensures.place ∙ ap (λ s. address s (read_word c.args.desc c.args.i)) c.shape.ensures in (
      record {
        table = ap (λ p. p.table) c.load-recorded.ensures.same ∙ ap (λ p. p.table) c.load-word.ensures.same ∙ c.requires.field.table;
        shape = ap (λ p. p.shape) c.load-recorded.ensures.same ∙ ap (λ p. p.shape) c.load-word.ensures.same ∙ c.requires.field.shape;
      },
      read_word_below g.T.Theory.meaning o c.args.pass.now.view c.load-word.new.self.view c.read_word.result c.load-word.result c.args.desc c.args.i c.requires.exists at c.load-word.ensures.step,
    )

pub returns-clause-steps : goal.returns-clause-steps
returns-clause-steps g c = record {
  same = (
      c.load-found.ensures.same ∙ ap (λ (x : PassState). record x { view = c.load-found.new.self.view })
      (c.load-recorded.ensures.same ∙ ap (λ (x : PassState). record x { view = c.load-recorded.new.self.view }) c.load-word.ensures.same)
      );
  stands = (
      let M = g.T.Theory.meaning in
      let o = c.args.field.now.origin in
      let m = made_load M o c.load-word.result c.load-found.result c.load-recorded.new.self.view c.load-found.new.self.view c.load-found.ensures.step in
      stands_made M o (λ pass. load pass c.load-word.result) Load c.load-word.result c.load-found.result c.load-found.result c.load-recorded.new.self.view c.load-found.new.self.view c.load-found.ensures.step.0 m
      );
}

pub returns-clause-checked : goal.returns-clause-checked
returns-clause-checked g c =
    let M = g.T.Theory.meaning in
    let o = c.args.field.now.origin in
    let a = c.args.pass.now.view in
    let b = c.load-word.new.self.view in
    let d = c.load-recorded.new.self.view in
    let e = c.load-found.new.self.view in
    let at = c.read_word.ensures.place ∙ ap (λ s. address s (read_word c.args.desc c.args.i)) c.shape.ensures in
    let there = c.read_content.ensures.place ∙ ap (λ s. address s (read_content c.args.desc c.args.i)) c.shape-2.ensures in
    checked o.shape c.args.desc c.args.i c.load-word.result c.load-recorded.result c.load-found.result c.does_stand.result a b d e
    (made_load M o _ c.load-word.result a b (subst (λ w. SteppedFrom M o (λ pass. load pass w) w c.load-word.result a b) at c.load-word.ensures.step))
    (made_load M o _ c.load-recorded.result b d (subst (λ w. SteppedFrom M o (λ pass. load pass w) w c.load-recorded.result b d) there c.load-recorded.ensures.step))
    (made_load M o c.load-word.result c.load-found.result d e c.load-found.ensures.step)
    c.requires.exists (read_word_apart M o a b c.read_word.result c.load-word.result c.args.desc c.args.i c.requires.exists at c.load-word.ensures.step) c.does_stand.ensures
