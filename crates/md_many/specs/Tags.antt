-- The tags of lines. Callers and lines are counted from 1.
use Rattle.std.specs.Prelude.{◌≡◌, ℕ, zero, suc, ◌+◌, ◌/◌, ◌^◌, ◌==◌, List, [], ◌∷◌, filter}
use Rattle.md_many_attempts.specs.Tags.{tag_of}

-- the tags of so many lines of a caller, those after its first n
abbrev pub tags_after : ℕ → ℕ → ℕ → List ℕ
tags_after caller n zero = []
tags_after caller n (suc count) = tag_of caller (n + 1) ∷ tags_after caller (n + 1) count

-- of each caller the tags are its lines, as many as it has, each once and in order; and there are no others
abbrev pub IsInterleaving : (ℕ → ℕ) → List ℕ → Type 0
IsInterleaving line_count tags =
    (caller : ℕ) → filter (λ tag. tag / 2 ^ 32 == caller) tags ≡ tags_after caller 0 (line_count caller)
