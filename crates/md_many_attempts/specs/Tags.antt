-- Tags: an attempt at a line has the line's tag. Callers and lines are counted from 1.
use Rattle.std.specs.Prelude.{ℕ, ◌+◌, ◌*◌, ◌^◌}

abbrev pub tag_of : ℕ → ℕ → ℕ
tag_of caller line = caller * 2 ^ 32 + line
