use Rattle.std.proofs.Common.{◌≡◌, ap, ◌∙◌}
use Rattle.std.proofs.Math.Nat.{mod-eq_of_lt}
use Rattle.md_words.specs.declared.shape.Shape.{Shape}
use Rattle.md_words.specs.Layout.{address, bucket_of}
use Rattle.md_words.specs.Place.{bucket_head}
use Rattle.example_tickets.proofs.tickets.ticket_word.Goals as goal

-- key 0 is in the first bucket
first_bucket : (shape : Shape) → bucket_of shape 0 ≡ 0
unfolding bucket_of
first_bucket shape = mod-eq_of_lt {n = 0} {m = shape.buckets} shape.in_range.buckets_fit.0

pub returns-clause-place : goal.returns-clause-place
returns-clause-place c =
    let shape = c.args.field.now.origin.shape in
    c.map_head.ensures.place ∙ ap (λ s. address s (bucket_head 0 (bucket_of s 0))) c.shape.ensures ∙ ap (λ b. address shape (bucket_head 0 b)) (first_bucket shape)
