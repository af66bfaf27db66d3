-- What a transaction of calls does, as a script.
use Rattle.std.specs.Prelude.{◌≡◌, ◌+◌, ℕ, Bool, true, false, Some, None, take, if◌then◌else◌}
use Rattle.md_words.specs.declared.shape.Shape.{Shape}
use Rattle.md_history.specs.declared.acts.Op.{Op}
use Rattle.md_history.specs.declared.acts.Op.TheVariants as op
use Rattle.md_history.specs.declared.acts.Reply.{Reply}
use Rattle.md_history.specs.declared.acts.Reply.TheVariants.{Value, Flag, Nothing, Line}
use Rattle.md_history.specs.Script.{Script, done, call}
use Rattle.md_history_loops.specs.Loops.{try_fold}
use Rattle.medley_bench.specs.declared.draws.Burst.{Burst}
use Rattle.medley_bench.specs.declared.draws.Call.{Call}
use Rattle.medley_bench.specs.declared.draws.Call.TheVariants.{Get, Insert, Remove}

-- the operation of a call
abbrev pub op_of : Call → Op
op_of (Get key) = op.Get 0 key
op_of (Insert key) = op.Insert 0 key key
op_of (Remove key) = op.Remove 0 key

-- whether a reply says that something was found or changed
abbrev pub is_hit : Reply → Bool
is_hit (Value None) = false
is_hit (Value (Some value)) = true
is_hit (Flag added) = added
is_hit Nothing = false
is_hit (Line line) = false

-- a call, which is counted if it found or changed something
abbrev pub count_hit : Call → ℕ → Script ℕ
count_hit c before = call (op_of c) (λ reply. done (if is_hit reply then before + 1 else before))

abbrev pub script_of : Burst → Script ℕ
script_of b = try_fold count_hit (take b.count b.calls) 0

-- a store with one map and no queue
pub record HasOneMap (s : Shape) : Type 0 where
  pub maps : s.maps ≡ 1
  pub queues : s.queues ≡ 0
