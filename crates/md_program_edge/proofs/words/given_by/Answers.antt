use Rattle.std.proofs.Common.{◌∙◌, sym, arith}
use Rattle.md_program_edge.proofs.Settings.{given-is, read-stop, read-end}
use Rattle.md_program_edge.proofs.words.given_by.Goals as goal

pub returns-in_err-reading : goal.returns-in_err-reading
returns-in_err-reading c =
    given-is _ _ (c.from_residual.ensures ∙ sym (c.loop-word.invariant ∙ read-stop _ _ _ _ c.loop-word-test.true (sym c.next.ensures ∙ c.in_err-reading.was)))

pub returns-in-Some : goal.returns-in-Some
returns-in-Some c = given-is _ _ (sym (c.loop-word.invariant ∙ read-end c.loop-word.reading c.args.words.now c.loop-word.word-index _ (omega arith) c.in-Some.is))

pub returns-in-None : goal.returns-in-None
returns-in-None c = given-is _ _ (sym (c.loop-word.invariant ∙ read-end c.loop-word.reading c.args.words.now c.loop-word.word-index _ (omega arith) c.in-None.is))
