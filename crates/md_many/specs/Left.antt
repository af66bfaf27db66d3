-- How many lines are left where some were played.
use Rattle.std.specs.Prelude.{◌==◌, ℕ, zero, suc, not, List, [], ◌++◌}
use Rattle.std.specs.List.{list_any, count_by}
use Rattle.md_many.specs.Tags.{tags_after}

-- the tags of the lines of so many callers
abbrev pub all_tags : (ℕ → ℕ) → ℕ → List ℕ
all_tags line_count zero = []
all_tags line_count (suc callers) = all_tags line_count callers ++ tags_after (suc callers) 0 (line_count (suc callers))

-- how many of all tags aren't among those that were played
abbrev pub left_of : List ℕ → List ℕ → ℕ
left_of all tags = count_by (λ t. not (list_any (λ u. u == t) tags)) all
