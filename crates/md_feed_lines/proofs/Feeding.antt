-- Whose lines a feeder feeds.
use Rattle.std.proofs.Common.{◌≡◌, ◌∙◌, ◌+◌, ◌++◌, ◌∷◌, ℕ, List, [], map, get_or, set, sym, ap, arith}
use Rattle.std.specs.List.{range_with_len}
use Rattle.std.proofs.lemmas.List.{map-append, map-set, set-get_or}
use Rattle.std.proofs.lemmas.List.FromFn.{map-range_with_len_more}
use Rattle.md_feed_lines.specs.declared.feed.Feed.{Feed}
use Rattle.md_feed_lines.specs.declared.plan.Plan.{Plan}
use Rattle.md_feed_lines.specs.Feeding.{feed_of}

-- one of them went on
pub feeds-set : (feeds : List Feed) (i : ℕ) (v w : Feed) → v ≡ get_or feeds i v → feed_of w ≡ feed_of v
    → map feed_of (set feeds i w) ≡ map feed_of feeds
feeds-set feeds i v w is same =
    map-set feed_of feeds i w ∙ ap (set (map feed_of feeds) i) (same ∙ ap feed_of is)
    ∙ sym (map-set feed_of feeds i (get_or feeds i v)) ∙ ap (map feed_of) (set-get_or feeds i v)

-- one more
pub feeds-more : (plan : Plan) (feeds : List Feed) (before : ℕ) (w : Feed)
    → map feed_of feeds ≡ map (λ b. (plan, b + 1)) (range_with_len 0 before) → feed_of w ≡ (plan, before + 1)
    → map feed_of (feeds ++ w ∷ []) ≡ map (λ b. (plan, b + 1)) (range_with_len 0 (before + 1))
feeds-more plan feeds before w are is =
    map-append feed_of feeds (w ∷ []) ∙ ap (λ xs. xs ++ feed_of w ∷ []) are
    ∙ ap (λ x. map (λ b. (plan, b + 1)) (range_with_len 0 before) ++ x ∷ []) is
    ∙ sym (map-range_with_len_more (λ b. (plan, b + 1)) 0 before before (omega arith))
