-- The maps and queues of std as a state.
use Rattle.std.specs.Prelude.{ℕ, List, map, reverse}
use Rattle.std.specs.FinMap as fin
use Rattle.std.specs.BTreeMap.{BTreeMap}
use Rattle.std.specs.declared.collections.VecDeque.{VecDeque}
use Rattle.std.specs.declared.alloc.Global.{Global}
use Rattle.md_history.specs.State.{State, Table}

-- a `BTreeMap` as a finite map
abbrev pub table_of : BTreeMap ℕ ℕ → Table
table_of m = fin.from_entries m.entries

-- pairs as a finite map: of several with one key, the last one counts
abbrev pub table_of_pairs : List (ℕ × ℕ) → Table
table_of_pairs pairs = fin.from_entries (reverse pairs)

-- what maps and queues of std contain
abbrev pub state_of : List (BTreeMap ℕ ℕ) → List (VecDeque ℕ Global) → State
state_of maps queues = record { maps = map table_of maps; queues = map (λ q. q.items) queues }
