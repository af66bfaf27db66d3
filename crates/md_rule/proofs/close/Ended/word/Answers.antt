use Rattle.std.proofs.Common.{◌≡◌, ℕ, zero, suc, List, [], ◌∷◌, slice_index, sym, ap, ◌∙◌, arith}
use mathlib.Core.Option.{some, some-injective, some-ne-none}
use lib.ListN.{get_elem?}
use Rattle.md_rule.specs.Private.{words_left}
use Rattle.md_rule.specs.Views.{EndedView}
use Rattle.std.proofs.lemmas.Grind.{common_steps}
use Rattle.md_rule.proofs.close.Ended.word.Goals as goal

-- what stands at a place is what the list has there
at_index : (l : List ℕ) (i a : ℕ) → get_elem? l i ≡ some a → a ≡ slice_index l i
at_index [] i a e = absurd (some-ne-none a (sym e))
at_index (x ∷ xs) zero a e = sym (some-injective x a e)
at_index (x ∷ xs) (suc i) a e = at_index xs i a e

pub returns-in-None : goal.returns-in-None
returns-in-None g c = at_index c.self.inside.table.words.items c.args.place c.word.result c.word.ensures
    ∙ ap (λ p. slice_index (words_left p c.self.inside.table.words.items) c.args.place) (sym c.in-None.is)
    ∙ ap (λ (e : EndedView). slice_index e.words c.args.place) c.self.view_is

pub returns-in-Some : goal.returns-in-Some
returns-in-Some g c = grind (arith, common_steps)
