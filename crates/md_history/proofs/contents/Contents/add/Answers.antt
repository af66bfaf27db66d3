use Rattle.std.proofs.Common.{◌≡◌, ◌∙◌, true, cond, Option, Some, None, is_some, is_none, ap, refl, sym}
use Rattle.md_history.proofs.contents.Contents.add.Goals as goal

-- where there is a value, the other case stands
there : {A B : Type 0} (found : Option A) (x y : B) → true ≡ is_some found → y ≡ cond (is_none found) x y
there None x y some = cc some
there (Some v) x y some = refl

pub returns-then-is_some-clause-ok : goal.returns-then-is_some-clause-ok
returns-then-is_some-clause-ok c = there _ _ _ (sym (ap is_some (sym c.get.ensures) ∙ sym c.is_some.ensures ∙ c.if-is_some.true))
