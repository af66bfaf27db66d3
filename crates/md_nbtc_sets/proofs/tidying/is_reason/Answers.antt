use Rattle.std.proofs.Common.{◌≡◌, ◌≢◌, ◌*◌, ◌%◌, ◌↔◌, ◌==◌, true, IsTrue, sym, ap, ◌∙◌, subst}
use Rattle.md_words.specs.declared.content.Content.{Content}
use Rattle.md_words.specs.Content.{count_of, is_even, spot_of, value_of}
use Rattle.md_nbtc_law.specs.declared.seen.Cleanup.{Cleanup}
use Rattle.md_nbtc_law.specs.Ending.{IsReason}
use Rattle.md_nbtc_law.proofs.tidyings.Reasons.{even_of, reason_link, reason_marked}
use Rattle.md_nbtc_sets.proofs.tidying.is_reason.Goals as goal

pub returns-in-Unlink : goal.returns-in-Unlink
returns-in-Unlink c =
    let x = c.of-content.result in
    let value = ap (λ (y : Content). y.value) c.of-content.ensures.parts in
    let even : is_even (count_of c.args.next) ≡ true = sym (ap (λ (y : Content). is_even y.count) c.of-content.ensures.parts)
    ∙ even_of (is_even x.count) (spot_of x.value) c.stands.result c.stands.ensures.spot (sym c.is_some.ensures ∙ c.if-is_some.false) in
    subst (λ v. IsTrue ((v % 2) == 1) ↔ IsReason c.args.cleanup c.args.next) (sym value)
    (subst (λ (y : Cleanup). IsTrue ((value_of c.args.next % 2) == 1) ↔ IsReason y c.args.next) (sym c.in-Unlink.is) (reason_marked c.in-Unlink.prev c.in-Unlink.node c.args.next even))

pub returns-then-content-ne0 : goal.returns-then-content-ne0
returns-then-content-ne0 c =
    let x = c.of-content.result in
    let value = ap (λ (y : Content). y.value) c.of-content.ensures.parts in
    let even : is_even (count_of c.args.next) ≡ true = sym (ap (λ (y : Content). is_even y.count) c.of-content.ensures.parts)
    ∙ even_of (is_even x.count) (spot_of x.value) c.stands.result c.stands.ensures.spot (sym c.is_some.ensures ∙ c.if-is_some.false) in
    let some : value_of c.args.next ≢ 0 = λ z. c.if-content-ne0.true (value ∙ z) in
    subst (λ v. IsTrue (v == 2 * c.in-MoveTail.to) ↔ IsReason c.args.cleanup c.args.next) (sym value)
    (subst (λ (y : Cleanup). IsTrue (value_of c.args.next == 2 * c.in-MoveTail.to) ↔ IsReason y c.args.next) (sym c.in-MoveTail.is)
    (reason_link c.in-MoveTail.tail c.in-MoveTail.from c.in-MoveTail.to c.args.next even some))
