use Rattle.std.proofs.Common.{◌∙◌, ◌++◌, ap, sym}
use Rattle.std.proofs.lemmas.Bool.{false≢true}
use Rattle.std.proofs.lemmas.Bool.Decides.{Decides-eqb}
use Rattle.std.proofs.lemmas.List.{take_rest}
use Rattle.std.proofs.lemmas.Slice.Eq.{starts_is}
use Rattle.md_orders.proofs.cuts.behind.Goals as goal

pub returns : goal.returns
returns c = (
  (starts_is Decides-eqb c.args.bytes.now c.args.start.now c.starts_with.result c.starts_with.ensures.value).0 c.if-not-starts_with.false ∙ ap (λ xs. c.args.start.now ++ xs) (sym (take_rest c.args.bytes.now _)),
  λ e. false≢true (sym c.if-begins_as_mark.false ∙ c.begins_as_mark.ensures.1 e),
)
