use Rattle.std.proofs.Common.{◌≡◌, ◌*◌, ◌==◌, true, false, not, sym, ap, ◌∙◌}
use Rattle.std.specs.Prelude.{is_some}
use Rattle.md_words.specs.declared.content.Content.{Content}
use Rattle.md_words.specs.Content.{count_of, is_even, spot_of}
use Rattle.md_nbtc_law.proofs.tidyings.Reasons.{even_of, names_is}
use Rattle.md_nbtc_sets.proofs.tidying.names.Goals as goal

pub returns-then-is_none : goal.returns-then-is_none
returns-then-is_none c =
    let x = c.of-content.result in
    let none : is_some c.stands.result ≡ false = c.is_none.ensures ∙ ap not c.if-is_none.true in
    let even : is_even (count_of c.args.held) ≡ true = sym (ap (λ (y : Content). is_even y.count) c.of-content.ensures.parts)
    ∙ even_of (is_even x.count) (spot_of x.value) c.stands.result c.stands.ensures.spot none in
    ap (λ (y : Content). y.value == 2 * c.node_of.result) c.of-content.ensures.parts ∙ names_is c.args.cleanup c.args.held c.node_of.result even c.node_of.ensures
