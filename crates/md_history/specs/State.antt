-- What maps and queues contain, and what operations answer and leave.
use Rattle.std.specs.Prelude.{◌≡◌, ◌-◌, ℕ, List, [], ◌∷◌, ◌++◌, length, take, drop, replicate, slice_get, slice_index_or, slice_set, if◌then◌else◌, is_none, refl}
use Rattle.std.specs.Ordering.{nat_cmp}
use Rattle.std.specs.FinMap as fin
use Rattle.std.specs.Coded.{Coded, code_by, coded×, coded_ℕ, coded_list}
use Rattle.md_history.specs.declared.acts.Op.{Op}
use Rattle.md_history.specs.declared.acts.Op.TheVariants.{Get, Insert, Remove, Put, Enqueue, Dequeue, Front, Line}
use Rattle.md_history.specs.declared.acts.Line.{Line as Values}
use Rattle.md_history.specs.declared.acts.TheConstants.{MAX_LINE}
use Rattle.md_history.specs.declared.acts.Reply.{Reply}
use Rattle.md_history.specs.declared.acts.Reply.TheVariants.{Value, Flag, Nothing, Line as TheLine}
use Rattle.md_history.specs.declared.acts.Act.{Act}

-- a finite map from keys to values
abbrev pub Table : Type 0
Table = fin.FinMap nat_cmp ℕ

-- what the maps and the queues contain
pub record State : Type 0 where
  pub maps : List Table
  pub queues : List (List ℕ)

abbrev pub table_code : Coded Table
table_code = fin.code coded_ℕ coded_ℕ

-- a state is stored as the pair of its fields
abbrev pub state_code : Coded State
state_code =
    code_by (List Table × List (List ℕ)) (coded× (coded_list table_code) (coded_list (coded_list coded_ℕ)))
    (λ s. (s.maps, s.queues)) (λ p. record { maps = p.0; queues = p.1 }) (λ _. refl)

-- so many maps and queues, with nothing in them
abbrev pub empty_state : ℕ → ℕ → State
empty_state maps queues = record { maps = replicate maps fin.empty; queues = replicate queues [] }

-- the map of a number; past the last one, an empty one
abbrev pub map_at : State → ℕ → Table
map_at s m = slice_index_or s.maps m fin.empty

-- the queue of a number; past the last one, an empty one
abbrev pub queue_at : State → ℕ → List ℕ
queue_at s q = slice_index_or s.queues q []

-- the state with another map at a number
abbrev pub with_map : State → ℕ → Table → State
with_map s m t = record { maps = slice_set s.maps m t; queues = s.queues }

-- the state with another queue at a number
abbrev pub with_queue : State → ℕ → List ℕ → State
with_queue s q xs = record { maps = s.maps; queues = slice_set s.queues q xs }

-- there are as many maps and queues in one as in the other
pub record HaveSameNumbers (s t : State) : Type 0 where
  pub maps : length s.maps ≡ length t.maps
  pub queues : length s.queues ≡ length t.queues

-- values as a line, which has 0 in each place past them
abbrev pub line_of : List ℕ → Values
line_of xs = record { count = length xs; values = xs ++ replicate (MAX_LINE - length xs) 0 }

-- what an operation answers
abbrev pub answer : State → Op → Reply
answer s (Get m k) = Value (fin.get (map_at s m) k)
answer s (Insert m k v) = Flag (is_none (fin.get (map_at s m) k))
answer s (Remove m k) = Value (fin.get (map_at s m) k)
answer s (Put m k v) = Value (fin.get (map_at s m) k)
answer s (Enqueue q v) = Nothing
answer s (Dequeue q) = Value (slice_get (queue_at s q) 0)
answer s (Front q) = Value (slice_get (queue_at s q) 0)
answer s (Line q n) = TheLine (line_of (take n (queue_at s q)))

-- what an operation leaves
abbrev pub after : State → Op → State
after s (Get m k) = s
after s (Insert m k v) = if is_none (fin.get (map_at s m) k) then with_map s m (fin.insert (map_at s m) k v) else s
after s (Remove m k) = with_map s m (fin.remove (map_at s m) k)
after s (Put m k v) = with_map s m (fin.insert (map_at s m) k v)
after s (Enqueue q v) = with_queue s q (queue_at s q ++ v ∷ [])
after s (Dequeue q) = with_queue s q (drop 1 (queue_at s q))
after s (Front q) = s
after s (Line q n) = s

-- the state after acts, in order
abbrev pub run : State → List Act → State
run s [] = s
run s (a ∷ acts) = run (after s a.op) acts

-- each reply is the one that the operation gives at its place
abbrev pub IsRight : State → List Act → Type 0
IsRight s [] = Unit {0}
IsRight s (a ∷ acts) = (a.reply ≡ answer s a.op) × IsRight (after s a.op) acts
