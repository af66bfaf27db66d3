-- Scripts that go on one way or another, by a reply.
use Rattle.std.specs.Prelude.{ℕ, true, false, Option, Some, None}
use Rattle.md_history.specs.declared.acts.Reply.{Reply}
use Rattle.md_history.specs.declared.acts.Reply.TheVariants.{Value, Flag, Nothing, Line}
use Rattle.md_history.specs.Script.{Script}

-- the value that a reply has
abbrev pub value_in : Reply → Option ℕ
value_in (Value v) = v
value_in (Flag b) = None
value_in Nothing = None
value_in (Line l) = None

-- one way if there is no value, another if there is one
abbrev pub by_option : {R : Type 0} → Option ℕ → Script R → (ℕ → Script R) → Script R
by_option None none some = none
by_option (Some v) none some = some v

-- one way if a reply has no value, another if it has one
abbrev pub by_value : {R : Type 0} → Reply → Script R → (ℕ → Script R) → Script R
by_value r none some = by_option (value_in r) none some

-- one way if a reply is that a key was added, another if it isn't
abbrev pub by_flag : {R : Type 0} → Reply → Script R → Script R → Script R
by_flag (Flag true) added other = added
by_flag (Flag false) added other = other
by_flag (Value v) added other = other
by_flag Nothing added other = other
by_flag (Line l) added other = other
