use Rattle.std.proofs.Common.{refl, rules}
use Rattle.md_rule.specs.Views.{Origin}
use Rattle.md_rule.proofs.Moves.{opens_so}
use Rattle.md_rule.proofs.Private.{own_has}
use Rattle.md_rule.proofs.field.Field.open.Goals as goal

pub of_words-requires : goal.of_words-requires
of_words-requires g c =
    let o : Origin = record { shape = c.args.shape; words = c.args.words.items } in
    rw c.of.ensures (opens_so g.T.Theory.meaning o c.args.words _ c.requires.0 refl (λ more. absurd (more c.if-shape-eq1.true)) c.requires.1)

pub of_words-requires-else-shape-eq1 : goal.of_words-requires-else-shape-eq1
of_words-requires-else-shape-eq1 g c =
    let o : Origin = record { shape = c.args.shape; words = c.args.words.items } in
    rw (c.as_slice.ensures.value, c.of.ensures) (opens_so g.T.Theory.meaning o c.args.words c.args.words.items c.requires.0 refl (λ _. refl) c.requires.1)

pub invariant_of-result : goal.invariant_of-result
invariant_of-result g c = search rules depth 1

pub of-requires-then-shape-eq1-clause-private : goal.of-requires-then-shape-eq1-clause-private
of-requires-then-shape-eq1-clause-private g c = rw c.own_words.ensures (own_has c.args.shape c.args.words _ (search rules) (search rules))

pub of-requires-else-shape-eq1-clause-private : goal.of-requires-else-shape-eq1-clause-private
of-requires-else-shape-eq1-clause-private g c = rw c.own_words-else-shape-eq1.ensures (own_has c.args.shape c.args.words _ (search rules) (search rules))
