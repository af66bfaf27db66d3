-- What acts cost that ask one queue at most: the words that they read and write but for that queue, and the nodes that they take.
use Rattle.std.proofs.Common.{◌≡◌, ℕ, ◌+◌, ◌≤◌, ◌==◌, ◌&&◌, ◌||◌, nat_eq, nat_lt, Bool, true, false, cond, List, [], ◌∷◌, ◌++◌, refl, sym, ap, subst, ◌∙◌, Option, Some, None, arith}
use Rattle.std.specs.List.{AllByRecursion, filter_map, count_by}
use Rattle.std.proofs.lemmas.Bool.{eq-eqb}
use Rattle.std.proofs.lemmas.List.Elements.{filter_map-append}
use Rattle.md_history.specs.declared.acts.Act.{Act}
use Rattle.md_history.specs.declared.acts.Line.{Line as Values}
use Rattle.md_history.specs.declared.acts.Op.TheVariants.{Get, Insert, Remove, Put, Enqueue, Dequeue, Front, Line}
use Rattle.md_history.specs.declared.acts.Reply.TheVariants.{Value, Flag, Nothing, Line as TheLine}
use Rattle.md_history.specs.Act.{act_of}
use Rattle.md_history.specs.Counts.{different_beside, different, same_key, named_key, changed_nothing, changed_key, looked_queue, changed_queue, met_end, reads, writes, nodes, AreFew}
use Rattle.md_history.specs.CountLaws.{count-append, different-append, same_key_equiv, nodes-append}
use Rattle.md_book.specs.declared.limits.TheConstants.{COMMAND_READS, COMMAND_WRITES, COMMAND_NODES}
use Rattle.md_book.specs.Meets.{command_bounds}

-- the different keys of maps that acts name, and those that they change
abbrev names : List Act → ℕ
names acts = different same_key (filter_map (λ a. named_key a.op) acts)

abbrev keys : List Act → ℕ
keys acts = different same_key (filter_map (λ a. changed_key a.op a.reply) acts)

abbrev lookups : List Act → ℕ
lookups acts = count_by (λ a. changed_nothing a.op a.reply) acts

abbrev ends : List Act → ℕ
ends acts = count_by (λ a. met_end a.op a.reply) acts

abbrev AreThis : ℕ → List ℕ → Type 0
AreThis level qs = AllByRecursion (λ q. q ≡ level) qs

pub record Costs (level : ℕ) (acts : List Act) (read write take : ℕ) : Type 0 where
  pub read_few : lookups acts + ends acts ≤ read
  pub write_few : names acts + keys acts + nodes acts ≤ write
  pub take_few : nodes acts ≤ take
  pub looked : AreThis level (filter_map (λ a. looked_queue a.op a.reply) acts)
  pub changed : AreThis level (filter_map (λ a. changed_queue a.op a.reply) acts)

-- one queue and no other is one queue at most
beside_one : (level : ℕ) (qs : List ℕ) → AreThis level qs → different_beside nat_eq qs (level ∷ []) ≡ 0
beside_one level [] all = refl
beside_one level (q ∷ qs) all =
    ap (λ b. cond (b || false) (different_beside nat_eq qs (level ∷ [])) (1 + different_beside nat_eq qs (q ∷ level ∷ []))) (eq-eqb q level all.0) ∙ beside_one level qs all.1

one_queue : (level : ℕ) (qs : List ℕ) → AreThis level qs → different nat_eq qs ≤ 1
one_queue level [] all = omega arith
one_queue level (q ∷ qs) all = omega (arith, ap (λ x. different_beside nat_eq qs (x ∷ [])) all.0, beside_one level qs all.1)

these-append : (level : ℕ) (xs ys : List ℕ) → AreThis level xs → AreThis level ys → AreThis level (xs ++ ys)
these-append level [] ys f g = g
these-append level (x ∷ xs) ys f g = (f.0, these-append level xs ys f.1 g)

-- with the queue, so many
module _ {level : ℕ} {acts : List Act} {read write take : ℕ} (costs : Costs level acts read write take) where
  pub reads-cost : reads acts ≤ read + 1
  reads-cost = omega (arith, costs.read_few, one_queue level _ costs.looked)

  pub writes-cost : writes acts ≤ write + 3
  writes-cost = omega (arith, costs.write_few, one_queue level _ costs.changed)

  pub few-cost : read + 1 ≤ COMMAND_READS → write + 3 ≤ COMMAND_WRITES → take ≤ COMMAND_NODES → AreFew command_bounds acts
  few-cost r w n = record { reads = omega (arith, reads-cost); writes = omega (arith, writes-cost); nodes = omega (arith, costs.take_few) }

  pub costs-more : (read' write' take' : ℕ) → read ≤ read' → write ≤ write' → take ≤ take' → Costs level acts read' write' take'
  costs-more read' write' take' r w n = record {
    read_few = omega (arith, costs.read_few);
    write_few = omega (arith, costs.write_few);
    take_few = omega (arith, costs.take_few);
    looked = costs.looked;
    changed = costs.changed;
  }

pub costs-append : {level : ℕ} {xs ys : List Act} {r w n r' w' n' : ℕ} → Costs level xs r w n → Costs level ys r' w' n' → Costs level (xs ++ ys) (r + r') (w + w') (n + n')
costs-append {level} {xs} {ys} f g =
    let nothing_all = count-append (λ (a : Act). changed_nothing a.op a.reply) xs ys in
    let ends_all = count-append (λ (a : Act). met_end a.op a.reply) xs ys in
    let names_all = filter_map-append (λ (a : Act). named_key a.op) xs ys in
    let keys_all = filter_map-append (λ (a : Act). changed_key a.op a.reply) xs ys in
    let looked_all = filter_map-append (λ (a : Act). looked_queue a.op a.reply) xs ys in
    let changed_all = filter_map-append (λ (a : Act). changed_queue a.op a.reply) xs ys in
    let different_names = different-append same_key_equiv (filter_map (λ (a : Act). named_key a.op) xs) (filter_map (λ (a : Act). named_key a.op) ys) [] in
    let different_all = different-append same_key_equiv (filter_map (λ (a : Act). changed_key a.op a.reply) xs) (filter_map (λ (a : Act). changed_key a.op a.reply) ys) [] in
    record {
      read_few = omega (arith, f.read_few, g.read_few, nothing_all, ends_all);
      write_few = omega (arith, f.write_few, g.write_few, nodes-append xs ys, ap (different same_key) names_all, different_names, ap (different same_key) keys_all, different_all);
      take_few = omega (arith, f.take_few, g.take_few, nodes-append xs ys);
      looked = subst (AreThis level) (sym looked_all) (these-append level _ _ f.looked g.looked);
      changed = subst (AreThis level) (sym changed_all) (these-append level _ _ f.changed g.changed);
    }

module _ (level : ℕ) where
  pub costs-none : Costs level [] 0 0 0
  costs-none = record { read_few = omega arith; write_few = omega arith; take_few = omega arith; looked = tt; changed = tt }

  pub costs-get : (m k : ℕ) (o : Option ℕ) → Costs level (act_of (Get m k) (Value o) ∷ []) 1 1 0
  costs-get m k o = record { read_few = omega arith; write_few = omega arith; take_few = omega arith; looked = tt; changed = tt }

  -- there is a first value
  pub costs-front : (v : ℕ) → Costs level (act_of (Front level) (Value (Some v)) ∷ []) 0 0 0
  costs-front v = record { read_few = omega arith; write_few = omega arith; take_few = omega arith; looked = (refl, tt); changed = tt }

  -- there is none
  pub costs-end : Costs level (act_of (Front level) (Value None) ∷ []) 1 0 0
  costs-end = record { read_few = omega arith; write_few = omega arith; take_few = omega arith; looked = (refl, tt); changed = tt }

  -- a line of fewer values than it may have came to the end of the queue
  pub costs-line : (n : ℕ) (l : Values) → Costs level (act_of (Line level n) (TheLine l) ∷ []) (cond (nat_lt l.count n) 1 0) 0 0
  costs-line n l = record { read_few = omega arith; write_few = omega arith; take_few = omega arith; looked = (refl, tt); changed = tt }

  pub costs-dequeue : (v : ℕ) → Costs level (act_of (Dequeue level) (Value (Some v)) ∷ []) 0 0 0
  costs-dequeue v = record { read_few = omega arith; write_few = omega arith; take_few = omega arith; looked = tt; changed = (refl, tt) }

  pub costs-enqueue : (v : ℕ) → Costs level (act_of (Enqueue level v) Nothing ∷ []) 0 1 1
  costs-enqueue v = record { read_few = omega arith; write_few = omega arith; take_few = omega arith; looked = tt; changed = (refl, tt) }

  -- nothing to remove
  pub costs-absent : (m k : ℕ) → Costs level (act_of (Remove m k) (Value None) ∷ []) 1 1 0
  costs-absent m k = record { read_few = omega arith; write_few = omega arith; take_few = omega arith; looked = tt; changed = tt }

  pub costs-insert : (m k v : ℕ) (b : Bool) → Costs level (act_of (Insert m k v) (Flag b) ∷ []) 1 3 1
  costs-insert m k v true = record { read_few = omega arith; write_few = omega arith; take_few = omega arith; looked = tt; changed = tt }
  costs-insert m k v false = record { read_few = omega arith; write_few = omega arith; take_few = omega arith; looked = tt; changed = tt }

  -- a pair is removed for good
  pub costs-removed : (m k x : ℕ) → Costs level (act_of (Remove m k) (Value (Some x)) ∷ []) 0 2 0
  costs-removed m k x = record { read_few = omega arith; write_few = omega arith; take_few = omega arith; looked = tt; changed = tt }

  -- a key that is named twice is one key
  module _ (m k : ℕ) where
    once : different same_key ((m, k) ∷ (m, k) ∷ []) ≡ 1
    once = ap (λ b. 1 + cond ((b && (k == k)) || false) 0 1) (eq-eqb m m refl) ∙ ap (λ b. 1 + cond (b || false) 0 1) (eq-eqb k k refl)

    -- a value is looked up and replaced
    pub costs-put : (o p : Option ℕ) (v : ℕ) → Costs level (act_of (Get m k) (Value o) ∷ act_of (Put m k v) (Value p) ∷ []) 1 3 1
    costs-put o p v = record { read_few = omega arith; write_few = omega (arith, once); take_few = omega arith; looked = tt; changed = tt }

    -- it is looked up, and its key removed
    pub costs-taken : (x y : ℕ) → Costs level (act_of (Get m k) (Value (Some x)) ∷ act_of (Remove m k) (Value (Some y)) ∷ []) 1 2 0
    costs-taken x y = record { read_few = omega arith; write_few = omega (arith, once); take_few = omega arith; looked = tt; changed = tt }

    -- a key is looked up and removed, whether it is there or not
    pub costs-out : (o p : Option ℕ) → Costs level (act_of (Get m k) (Value o) ∷ act_of (Remove m k) (Value p) ∷ []) 2 2 0
    costs-out o None = record { read_few = omega arith; write_few = omega (arith, once); take_few = omega arith; looked = tt; changed = tt }
    costs-out o (Some y) = record { read_few = omega arith; write_few = omega (arith, once); take_few = omega arith; looked = tt; changed = tt }
