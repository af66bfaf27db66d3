-- What each call adds to a transaction, and what several calls leave of it together.
use Rattle.std.proofs.Common.{◌≡◌, ◌≤◌, ◌+◌, ◌++◌, ℕ, true, List, [], ◌∷◌, length, refl, ap, ◌∙◌, arith}
use Rattle.std.proofs.lemmas.List.{append-nil, length-append, length-map}
use Rattle.md_history.specs.Front.{IsPrefix}
use Rattle.md_history.specs.declared.stops.Stop.{Stop}
use Rattle.md_machine.specs.Meaning.{Meaning}
use Rattle.md_nbtc_law.specs.declared.seen.Cleanup.{Cleanup}
use Rattle.md_nbtc_law.specs.declared.seen.Seen.{Seen}
use Rattle.md_words.specs.Layout.{address}
use Rattle.md_words.specs.Place.{node_next}
use Rattle.md_nbtc_law.specs.Calls.{Freshens, GoesOn}
use Rattle.md_nbtc_law.specs.Cleaning.{cleanup_node, with_cleanup, with_cleanup_kept}
use Rattle.md_nbtc_law.specs.State.{OwnNode, TxnState, shape_in}
use Rattle.md_nbtc_law.proofs.preparing.Heaps.{later_self}
use Rattle.md_nbtc_law.proofs.preparing.Later.{later_over}
use Rattle.md_nbtc_law.proofs.structures.Answering.{IsStopped}
use Rattle.md_nbtc_law.proofs.structures.Noting.{HasNoted}
use Rattle.md_list.specs.Operations.{OperationGoesOn, SlotsStay}
use Rattle.md_list.proofs.changes.Staying.{KeepsNone, slots_kept, slots_over, slots_same}
use Rattle.md_list.proofs.charges.Charging.{SameSets}
use Rattle.md_nbtc_law.proofs.structures.NodesKnown.{shape_later}

-- one call adds so much at most, and leaves the acts, the slots, and that an operation is begun
pub record Adds (t u : TxnState) (reads writes nodes : ℕ) : Type 0 where
  pub acts : u.hand.acts ≡ t.hand.acts
  pub operates : u.hand.operating ≡ t.hand.operating
  pub slots : SlotsStay t u
  pub reads_few : length u.reads ≤ length t.reads + reads
  pub slots_few : length u.slots ≤ length t.slots + writes
  pub nodes_few : length u.nodes ≤ length t.nodes + nodes

module _ (t u : TxnState) where
  -- steps of the pass, and a stop, add nothing
  pub adds_steps : u ≡ record t { pass = u.pass } → Adds t u 0 0 0
  adds_steps same = record {
    acts = ap (λ (x : TxnState). x.hand.acts) same;
    operates = ap (λ (x : TxnState). x.hand.operating) same;
    slots = slots_same t u (ap (λ (x : TxnState). x.slots) same);
    reads_few = let l = ap (λ (x : TxnState). length x.reads) same in omega (arith, l);
    slots_few = let l = ap (λ (x : TxnState). length x.slots) same in omega (arith, l);
    nodes_few = let l = ap (λ (x : TxnState). length x.nodes) same in omega (arith, l);
  }

  pub adds_stop : (s : Stop) → IsStopped t u s → Adds t u 0 0 0
  adds_stop s is = record {
    acts = ap (λ (x : TxnState). x.hand.acts) is;
    operates = ap (λ (x : TxnState). x.hand.operating) is;
    slots = slots_same t u (ap (λ (x : TxnState). x.slots) is);
    reads_few = let l = ap (λ (x : TxnState). length x.reads) is in omega (arith, l);
    slots_few = let l = ap (λ (x : TxnState). length x.slots) is in omega (arith, l);
    nodes_few = let l = ap (λ (x : TxnState). length x.nodes) is in omega (arith, l);
  }

  -- a note adds a recorded word
  pub adds_note : (word : ℕ) (seen : Seen) → HasNoted t u word seen → Adds t u 1 0 0
  adds_note word seen noted = record {
    acts = ap (λ h. h.acts) noted.hand;
    operates = ap (λ h. h.operating) noted.hand;
    slots = slots_same t u noted.slots;
    reads_few = noted.few;
    slots_few = let l = ap (λ ss. length ss) noted.slots in omega (arith, l);
    nodes_few = let l = ap (λ ns. length ns) noted.nodes in omega (arith, l);
  }

  -- a fresh node is a node more
  pub adds_node : (key value next node : ℕ) → Freshens t u key value next node → Adds t u 0 0 1
  adds_node key value next node fresh =
      let own : OwnNode = record { node = node; key = key; value = value; next = next } in
      record {
        acts = ap (λ (x : TxnState). x.hand.acts) fresh.new;
        operates = ap (λ (x : TxnState). x.hand.operating) fresh.new;
        slots = slots_same t u (ap (λ (x : TxnState). x.slots) fresh.new);
        reads_few = let l = ap (λ (x : TxnState). length x.reads) fresh.new in omega (arith, l);
        slots_few = let l = ap (λ (x : TxnState). length x.slots) fresh.new in omega (arith, l);
        nodes_few = let l = ap (λ (x : TxnState). length x.nodes) fresh.new in omega (arith, l, length-append t.nodes (own ∷ []));
      }

  -- a cleanup adds nothing
  pub adds_cleanup : (c : Cleanup) → KeepsNone t (address (shape_in t) (node_next (cleanup_node c))) → u ≡ record t { slots = with_cleanup_kept t c } → Adds t u 0 0 0
  adds_cleanup c none kept = record {
    acts = ap (λ (x : TxnState). x.hand.acts) kept;
    operates = ap (λ (x : TxnState). x.hand.operating) kept;
    slots = slots_kept t u (address (shape_in t) (node_next (cleanup_node c))) c none (ap (λ (x : TxnState). x.slots) kept);
    reads_few = let l = ap (λ (x : TxnState). length x.reads) kept in omega (arith, l);
    slots_few = let l = ap (λ (x : TxnState). length x.slots) kept in omega (arith, l, length-map t.slots (with_cleanup (address (shape_in t) (node_next (cleanup_node c))) c));
    nodes_few = let l = ap (λ (x : TxnState). length x.nodes) kept in omega (arith, l);
  }

-- going on twice
pub goes_over : (M : Meaning) (s t u : TxnState) → GoesOn M s t → GoesOn M t u → GoesOn M s u
goes_over M s t u one two = record { going = λ cs going. two.going cs (one.going cs going); later = later_over s t u one.later two.later }

module _ (M : Meaning) (s : TxnState) where
  -- at first
  pub leaves_none : s.hand.operating ≡ true → OperationGoesOn M s s 0 0 0
  leaves_none operates = record {
    on = record { going = λ cs going. going; later = later_self s };
    acts = refl;
    operates = operates;
    slots = slots_same s s refl;
    reads_few = omega arith;
    writes_few = omega arith;
    nodes_few = omega arith;
  }

  -- after one more call
  pub leaves_on : (t u : TxnState) (a b c reads writes nodes : ℕ) → OperationGoesOn M s t a b c → GoesOn M s u → Adds t u reads writes nodes → OperationGoesOn M s u (a + reads) (b + writes) (c + nodes)
  leaves_on t u a b c reads writes nodes leaves goes adds = record {
    on = goes;
    acts = adds.acts ∙ leaves.acts;
    operates = adds.operates ∙ leaves.operates;
    slots = slots_over s t u leaves.slots adds.slots;
    reads_few = let x = leaves.reads_few in let y = adds.reads_few in omega (arith, x, y);
    writes_few = let x = leaves.writes_few in let y = adds.slots_few in omega (arith, x, y);
    nodes_few = let x = leaves.nodes_few in let y = adds.nodes_few in omega (arith, x, y);
  }

  pub leaves_more : (t u : TxnState) (a b c reads writes nodes : ℕ) → OperationGoesOn M s t a b c → GoesOn M t u → Adds t u reads writes nodes → OperationGoesOn M s u (a + reads) (b + writes) (c + nodes)
  leaves_more t u a b c reads writes nodes leaves goes adds = leaves_on t u a b c reads writes nodes leaves (goes_over M s t u leaves.on goes) adds

  -- fewer are at most as many
  pub leaves_within : (t : TxnState) (a b c reads writes nodes : ℕ) → a ≤ reads → b ≤ writes → c ≤ nodes → OperationGoesOn M s t a b c → OperationGoesOn M s t reads writes nodes
  leaves_within t a b c reads writes nodes one two three leaves = record {
    on = leaves.on;
    acts = leaves.acts;
    operates = leaves.operates;
    slots = leaves.slots;
    reads_few = let x = leaves.reads_few in omega (arith, x, one);
    writes_few = let x = leaves.writes_few in omega (arith, x, two);
    nodes_few = let x = leaves.nodes_few in omega (arith, x, three);
  }

-- a list that goes on by none is the same
module _ {A : Type 0} (xs : List A) where
  by_rest : (rest : List A) → length (xs ++ rest) ≤ length xs + 0 → xs ++ rest ≡ xs
  by_rest [] none = append-nil xs
  by_rest (x ∷ rest) none = absurd (let l = length-append xs (x ∷ rest) in omega (arith, l, none))

  on_by_none : (ys : List A) → IsPrefix xs ys → length ys ≤ length xs + 0 → ys ≡ xs
  on_by_none ys on few = on.is ∙ by_rest on.rest (let l = ap (λ l. length l) on.is in omega (arith, l, few))

-- so an operation that records no word, or takes no node, leaves those
module _ (M : Meaning) (s t : TxnState) where
  pub reads_kept : (writes nodes : ℕ) → OperationGoesOn M s t 0 writes nodes → t.reads ≡ s.reads
  reads_kept writes nodes leaves = on_by_none s.reads t.reads leaves.on.later.reads leaves.reads_few

  pub nodes_kept : (reads writes : ℕ) → OperationGoesOn M s t reads writes 0 → t.nodes ≡ s.nodes
  nodes_kept reads writes leaves = on_by_none s.nodes t.nodes leaves.on.later.nodes leaves.nodes_few

  pub sets_kept : (writes : ℕ) → OperationGoesOn M s t 0 writes 0 → SameSets s t
  sets_kept writes leaves = record {
    reads = reads_kept writes 0 leaves;
    nodes = nodes_kept 0 writes leaves;
    shape = shape_later s t leaves.on.later;
  }
