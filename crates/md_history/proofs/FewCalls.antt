-- Scripts of few calls are few acts.
use Rattle.std.proofs.Common.{◌≡◌, ◌≤◌, ◌+◌, ◌*◌, ℕ, zero, suc, true, false, cond, List, [], ◌∷◌, length, arith}
use Rattle.std.specs.Prelude.{Option, Some, None, nat_eq, nat_lt}
use Rattle.std.specs.List.{filter_map, count_by, cons_option}
use Rattle.std.proofs.lemmas.List.Sums.{sum_by-cons, count_by-le-length}
use Rattle.md_history.specs.declared.acts.Act.{Act}
use Rattle.md_history.specs.declared.acts.Op.{Op}
use Rattle.md_history.specs.declared.acts.Op.TheVariants.{Get, Insert, Remove, Put, Enqueue, Dequeue, Front, Line}
use Rattle.md_history.specs.declared.acts.Reply.{Reply}
use Rattle.md_history.specs.declared.acts.Reply.TheVariants.{Value, Flag, Line as TheLine}
use Rattle.md_history.specs.Script.{Script, done, call, Follows}
use Rattle.md_history.specs.Counts.{AreFew, bounds_of_calls, same_key, changed_nothing, named_key, changed_key, looked_queue, changed_queue, met_end, added, nodes}
use Rattle.md_history.specs.CountLaws.{different-length}

-- a script makes so many calls at most
abbrev pub MakesAtMost : {R : Type 0} → ℕ → Script R → Type 0
MakesAtMost n (done r) = Unit {0}
MakesAtMost zero (call op next) = ⊥
MakesAtMost (suc n) (call op next) = (r : Reply) → MakesAtMost n (next r)

-- so there are so many acts at most
at-most : {R : Type 0} (n : ℕ) (p : Script R) (acts : List Act) → MakesAtMost n p
    → Follows p acts → length acts ≤ n
at-most n p [] most f = omega arith
at-most n (done r) (a ∷ acts) most f = absurd f
at-most zero (call op next) (a ∷ acts) most f = absurd most
at-most (suc n) (call op next) (a ∷ acts) most f =
    omega (arith, at-most n (next a.reply) acts (most a.reply) f.1)

-- an element that is named or isn't, before others
length-cons : {X : Type 0} (o : Option X) (xs : List X)
    → length (cons_option o xs) ≡ length (cons_option o []) + length xs
length-cons None xs = omega arith
length-cons (Some x) xs = omega arith

-- one act reads two words at most
act-reads : (op : Op) (r : Reply) → cond (changed_nothing op r) 1 0
    + length (cons_option (looked_queue op r) []) + cond (met_end op r) 1 0 ≤ 2
act-reads (Get m k) r = omega arith
act-reads (Insert m k v) (Flag false) = omega arith
act-reads (Insert m k v) _ = omega arith
act-reads (Remove m k) (Value None) = omega arith
act-reads (Remove m k) _ = omega arith
act-reads (Put m k v) r = omega arith
act-reads (Enqueue q v) r = omega arith
act-reads (Dequeue q) (Value None) = omega arith
act-reads (Dequeue q) _ = omega arith
act-reads (Front q) (Value None) = omega arith
act-reads (Front q) _ = omega arith
act-reads (Line q n) (TheLine l) = elim (nat_lt l.count n) as (λ b. 1 + cond b 1 0 ≤ 2) [
  | true ↦ omega arith
  | false ↦ omega arith
]
act-reads (Line q n) _ = omega arith

-- one act writes four words at most
act-writes : (op : Op) (r : Reply) → length (cons_option (named_key op) [])
    + length (cons_option (changed_key op r) []) + 3 * length (cons_option (changed_queue op r) [])
    + cond (added op r) 1 0 ≤ 4
act-writes (Get m k) r = omega arith
act-writes (Insert m k v) (Flag true) = omega arith
act-writes (Insert m k v) _ = omega arith
act-writes (Remove m k) (Value (Some x)) = omega arith
act-writes (Remove m k) _ = omega arith
act-writes (Put m k v) r = omega arith
act-writes (Enqueue q v) r = omega arith
act-writes (Dequeue q) (Value (Some x)) = omega arith
act-writes (Dequeue q) _ = omega arith
act-writes (Front q) r = omega arith
act-writes (Line q n) r = omega arith

-- so acts name and change few keys and queues, and take few nodes
all-write : (acts : List Act) → length (filter_map (λ (a : Act). named_key a.op) acts)
    + length (filter_map (λ (a : Act). changed_key a.op a.reply) acts)
    + 3 * length (filter_map (λ (a : Act). changed_queue a.op a.reply) acts) + nodes acts
    ≤ 4 * length acts
all-write [] = omega arith
all-write (a ∷ acts) =
    let named = length-cons (named_key a.op) (filter_map (λ (x : Act). named_key x.op) acts) in
    let keys = length-cons (changed_key a.op a.reply)
    (filter_map (λ (x : Act). changed_key x.op x.reply) acts) in
    let queues = length-cons (changed_queue a.op a.reply)
    (filter_map (λ (x : Act). changed_queue x.op x.reply) acts) in
    let taken = sum_by-cons (λ (x : Act). cond (added x.op x.reply) 1 0) a acts in
    omega (arith, act-writes a.op a.reply, named, keys, queues, taken, all-write acts)

-- and look at few words
all-read : (acts : List Act) → count_by (λ (a : Act). changed_nothing a.op a.reply) acts
    + length (filter_map (λ (a : Act). looked_queue a.op a.reply) acts)
    + count_by (λ (a : Act). met_end a.op a.reply) acts ≤ 2 * length acts
all-read [] = omega arith
all-read (a ∷ acts) =
    let nothing = sum_by-cons (λ (x : Act). cond (changed_nothing x.op x.reply) 1 0) a acts in
    let looked = length-cons (looked_queue a.op a.reply)
    (filter_map (λ (x : Act). looked_queue x.op x.reply) acts) in
    let ends = sum_by-cons (λ (x : Act). cond (met_end x.op x.reply) 1 0) a acts in
    omega (arith, act-reads a.op a.reply, nothing, looked, ends, all-read acts)

-- the acts of a script that makes so many calls at most are few
pub script-few : {R : Type 0} (n : ℕ) (p : Script R) (acts : List Act) → MakesAtMost n p
    → Follows p acts → AreFew (bounds_of_calls n) acts
script-few n p acts most f =
    let few = at-most n p acts most f in
    let taken = count_by-le-length (λ (a : Act). added a.op a.reply) acts in
    let looked_few =
    different-length nat_eq (filter_map (λ (a : Act). looked_queue a.op a.reply) acts) [] in
    let queues_few =
    different-length nat_eq (filter_map (λ (a : Act). changed_queue a.op a.reply) acts) [] in
    let named_few =
    different-length same_key (filter_map (λ (a : Act). named_key a.op) acts) [] in
    let keys_few =
    different-length same_key (filter_map (λ (a : Act). changed_key a.op a.reply) acts) [] in
    record {
      reads = omega (arith, few, all-read acts, looked_few);
      writes = omega (arith, few, all-write acts, queues_few, named_few, keys_few);
      nodes = omega (arith, few, taken);
    }
