-- What callers have: lists with something for each caller, and the numbers of their lines.
use Rattle.std.specs.Prelude.{◌≡◌, ◌+◌, ℕ, zero, suc, Option, None, List, [], map, slice_get, slice_index_or}
use Rattle.std.specs.Prelude.{Vec}
use Rattle.std.specs.declared.alloc.Global.{Global}

-- what a list has for a caller, counted from 1; for who is no caller, another thing
abbrev pub at_caller : {A : Type 0} → A → List A → ℕ → A
at_caller other xs zero = other
at_caller other xs (suc caller) = slice_index_or xs caller other

-- the lists that vectors have
abbrev pub lists_in : {A : Type 0} → List (Vec A Global) → List (List A)
lists_in vectors = map (λ v. v.items) vectors

-- a caller's list has these
abbrev pub HasList : {A : Type 0} → List (List A) → ℕ → List A → Type 0
HasList lists caller xs = at_caller [] lists caller ≡ xs

-- what a caller's list has at a line, both counted from 1
abbrev pub line_at : {A : Type 0} → List (List A) → ℕ → ℕ → Option A
line_at lists caller zero = None
line_at lists caller (suc line) = slice_get (at_caller [] lists caller) line

-- how many lines so many callers have
abbrev pub lines_of : (ℕ → ℕ) → ℕ → ℕ
lines_of line_count zero = 0
lines_of line_count (suc callers) = lines_of line_count callers + line_count (suc callers)
