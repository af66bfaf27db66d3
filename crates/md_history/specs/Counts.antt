-- How many words acts read and write, and how many nodes they take: a store's limits are told by these numbers.
use Rattle.std.specs.Prelude.{ℕ, ◌+◌, ◌*◌, ◌≤◌, ◌==◌, ◌&&◌, nat_eq, nat_lt, Bool, true, false, if◌then◌else◌, List, [], ◌∷◌, Option, Some, None}
use Rattle.std.specs.List.{filter_map, list_any, count_by}
use Rattle.md_history.specs.declared.acts.Op.{Op}
use Rattle.md_history.specs.declared.acts.Op.TheVariants.{Get, Insert, Remove, Put, Enqueue, Dequeue, Front, Line}
use Rattle.md_history.specs.declared.acts.Reply.{Reply}
use Rattle.md_history.specs.declared.acts.Reply.TheVariants.{Value, Flag, Line as TheLine}
use Rattle.md_history.specs.declared.acts.Act.{Act}
use Rattle.md_history.specs.State.{State, IsRight}

-- the map and the key of an operation on a map
abbrev pub named_key : Op → Option (ℕ × ℕ)
named_key (Get m k) = Some (m, k)
named_key (Insert m k v) = Some (m, k)
named_key (Remove m k) = Some (m, k)
named_key (Put m k v) = Some (m, k)
named_key op = None

-- an operation on a map that changed nothing
abbrev pub changed_nothing : Op → Reply → Bool
changed_nothing (Get m k) r = true
changed_nothing (Insert m k v) (Flag false) = true
changed_nothing (Remove m k) (Value None) = true
changed_nothing op r = false

-- the map and the key that an operation changed
abbrev pub changed_key : Op → Reply → Option (ℕ × ℕ)
changed_key (Insert m k v) (Flag true) = Some (m, k)
changed_key (Remove m k) (Value (Some v)) = Some (m, k)
changed_key (Put m k v) r = Some (m, k)
changed_key op r = None

-- the queue whose first values an operation looked at, and took none
abbrev pub looked_queue : Op → Reply → Option ℕ
looked_queue (Dequeue q) (Value None) = Some q
looked_queue (Front q) r = Some q
looked_queue (Line q n) r = Some q
looked_queue op r = None

-- an operation came to the end of its queue: there were fewer values than it asked for
abbrev pub met_end : Op → Reply → Bool
met_end (Dequeue q) (Value None) = true
met_end (Front q) (Value None) = true
met_end (Line q n) (TheLine l) = nat_lt l.count n
met_end op r = false

-- the queue that an operation changed
abbrev pub changed_queue : Op → Reply → Option ℕ
changed_queue (Enqueue q v) r = Some q
changed_queue (Dequeue q) (Value (Some v)) = Some q
changed_queue op r = None

-- a pair or a value was added, or a value was set
abbrev pub added : Op → Reply → Bool
added (Insert m k v) (Flag true) = true
added (Put m k v) r = true
added (Enqueue q v) r = true
added op r = false

-- how many different elements there are that aren't among others
abbrev pub different_beside : {A : Type 0} → (A → A → Bool) → List A → List A → ℕ
different_beside eq [] others = 0
different_beside eq (x ∷ xs) others =
    if list_any (eq x) others
    then different_beside eq xs others
    else 1 + different_beside eq xs (x ∷ others)

-- how many different elements there are
abbrev pub different : {A : Type 0} → (A → A → Bool) → List A → ℕ
different eq xs = different_beside eq xs []

abbrev pub same_key : ℕ × ℕ → ℕ × ℕ → Bool
same_key a b = (a.0 == b.0) && (a.1 == b.1)

-- the words that acts read at most: one for each operation on a map that changed nothing; one for each queue that was
-- looked at, its head; and one for each look that came to the end of its queue
abbrev pub reads : List Act → ℕ
reads acts =
    count_by (λ a. changed_nothing a.op a.reply) acts
    + different nat_eq (filter_map (λ a. looked_queue a.op a.reply) acts)
    + count_by (λ a. met_end a.op a.reply) acts

-- the nodes that acts take: one for each pair or value that was added, and for each value that was set
abbrev pub nodes : List Act → ℕ
nodes acts = count_by (λ a. added a.op a.reply) acts

-- the words that acts write at most: two for each key of a map that changed, and one for each other key that was looked
-- up, at which another may have left something to be tidied (so one for each key, and one more if it changed); three for
-- each queue that changed; and one for each node
abbrev pub writes : List Act → ℕ
writes acts =
    different same_key (filter_map (λ a. named_key a.op) acts)
    + different same_key (filter_map (λ a. changed_key a.op a.reply) acts)
    + 3 * different nat_eq (filter_map (λ a. changed_queue a.op a.reply) acts)
    + nodes acts

-- how many words a transaction may read and write, and how many nodes it may take
pub record Bounds : Type 0 where
  pub reads : ℕ
  pub writes : ℕ
  pub nodes : ℕ

-- acts count no more than bounds allow
pub record AreFew (most : Bounds) (acts : List Act) : Type 0 where
  pub reads : reads acts ≤ most.reads
  pub writes : writes acts ≤ most.writes
  pub nodes : nodes acts ≤ most.nodes

-- every list of acts that a body can make, right from a state, is within bounds
abbrev pub IsSmall : Bounds → (List Act → Type 0) → State → Type 0
IsSmall most makes s = (acts : List Act) → makes acts → IsRight s acts → AreFew most acts

-- bounds that allow no less
pub record AllowAll (most more : Bounds) : Type 0 where
  pub reads : most.reads ≤ more.reads
  pub writes : most.writes ≤ more.writes
  pub nodes : most.nodes ≤ more.nodes

-- bounds that so many calls keep to
abbrev pub bounds_of_calls : ℕ → Bounds
bounds_of_calls n = record { reads = 2 * n; writes = 4 * n; nodes = n }
