use Rattle.std.proofs.Common.{◌≡◌, ◌≤◌, ◌%◌, ℕ, true, nat_eq, refl, sym, ap, subst, ◌∙◌}
use Rattle.std.proofs.Math.Nat.{mod-eq_of_lt}
use Rattle.md_words.specs.declared.content.Content.{Content}
use Rattle.md_words.specs.declared.shape.Shape.{Shape}
use Rattle.md_words.specs.Content.{is_even, word_of}
use Rattle.md_words.specs.Layout.{address, bucket_of}
use Rattle.md_words.specs.Place.{bucket_head}
use Rattle.md_machine.specs.declared.pass.PassView.{PassView}
use Rattle.md_machine.specs.declared.step.TheConstants.{LAST_COUNT}
use Rattle.md_machine.specs.Event.{exchange}
use Rattle.md_machine.specs.events.Exchange.{MayExchange, after_exchange}
use Rattle.example_cell.specs.CellMeaning.{cell_meaning, cell_word}
use Rattle.example_cell.proofs.Tidy.{may_renew}
use Rattle.md_rule.specs.Steps.{May}
use Rattle.md_rule.specs.Views.{Origin}
use Rattle.md_rule_tests.proofs.tests.passes.renew.Goals as goal

-- the exchange of the cell for the value that it has
may : (o : Origin) (view : PassView) (from : Content) → is_even from.count ≡ true → from.count ≤ LAST_COUNT
    → May cell_meaning o (λ pass. exchange pass (cell_word o.shape) (word_of from) from.value) view
may o view from even few m a pass acts = (
  after_exchange m pass view (cell_word o.shape) (word_of from) from.value,
  (view, acts, subst (λ (s : Shape). MayExchange cell_meaning m view (cell_word s) (word_of from) from.value) a.shape (may_renew m view from even few), refl),
)

first_bucket : (shape : Shape) → bucket_of shape 0 ≡ 0
unfolding bucket_of
first_bucket shape = mod-eq_of_lt {n = 0} {m = shape.buckets} shape.in_range.buckets_fit.0

even_count : (count : ℕ) → count % 2 ≡ 0 → is_even count ≡ true
unfolding is_even
even_count count e = ap (λ n. nat_eq n 0) e

pub exchange-requires-clause-may : goal.exchange-requires-clause-may
exchange-requires-clause-may c =
    let o = c.args.field.now.origin in
    let from = c.args.from in
    let view = c.args.pass.now.view in
    let at : c.map_head-word.result ≡ cell_word o.shape = c.map_head-word.ensures.place ∙ ap (λ s. address s (bucket_head 0 (bucket_of s 0))) c.shape.ensures ∙ ap (λ b. address o.shape (bucket_head 0 b)) (first_bucket o.shape) in
    subst (λ w. May cell_meaning o (λ pass. exchange pass w (word_of from) from.value) view) (sym at)
    (may o view from (even_count from.count c.requires.from.0) c.requires.from.1)
