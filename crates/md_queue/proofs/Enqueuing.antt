-- What the calls of an enqueue leave of the transaction: a node is taken, its link is made, and the move of the tail is kept.
use Rattle.std.proofs.Common.{◌≡◌, ◌≢◌, ◌==◌, ◌≤◌, ◌+◌, ◌++◌, ℕ, true, List, [], ◌∷◌, length, Option, Some, None, Result, Err, refl, sym, ap, ◌∙◌, subst, ⊎_elim, if◌then◌else◌, eq-eqb, eqb-true, arith}
use Rattle.std.proofs.lemmas.Bool.{cond_both}
use Rattle.std.proofs.lemmas.Option.{none-some}
use Rattle.std.proofs.lemmas.List.{append-nil, length-append, length-map}
use Rattle.std.specs.List.{Contains}
use Rattle.md_words.specs.declared.shape.Shape.{Shape}
use Rattle.md_words.specs.Content.{count_of}
use Rattle.md_words.specs.Layout.{address}
use Rattle.md_words.specs.Place.{node_next, queue_tail}
use Rattle.md_history.specs.declared.stops.Limit.{Limit}
use Rattle.md_history.specs.declared.stops.Limit.TheVariants.{Nodes, Worn}
use Rattle.md_history.specs.declared.stops.Stop.{Stop}
use Rattle.md_history.specs.declared.stops.Stop.TheVariants.{Limit as Limited}
use Rattle.md_history.specs.Front.{IsPrefix}
use Rattle.md_machine.specs.declared.attempt.Write.{Write}
use Rattle.md_machine.specs.declared.certificate.Certificate.{Certificate}
use Rattle.md_machine.specs.Meaning.{Meaning}
use Rattle.md_machine.proofs.lists.Rising.{in_map, map_in}
use Rattle.md_nbtc_law.specs.declared.seen.Cleanup.{Cleanup}
use Rattle.md_nbtc_law.specs.declared.seen.Cleanup.TheVariants.{MoveTail}
use Rattle.md_nbtc_law.specs.declared.slots.Slot.{Slot}
use Rattle.md_nbtc_law.specs.Calls.{AfterStop, Freshened, Freshens, GoesOn, Keeps, NoFresh}
use Rattle.md_nbtc_law.specs.Cleaning.{IsWrittenFor, MayTidyLater, cleanup_node, with_cleanup, with_cleanup_kept}
use Rattle.md_nbtc_law.specs.Going.{IsGoing}
use Rattle.md_nbtc_law.specs.State.{OwnNode, TxnState, shape_in}
use Rattle.md_nbtc_law.proofs.preparing.Later.{later_over}
use Rattle.md_nbtc_law.proofs.structures.Answering.{fresh_refused}
use Rattle.md_queue.specs.Operations.{GoesBy, IsNotBy, PutsLast, OperationRefused, StaysIn}
use Rattle.md_queue.specs.Words.{tail_at}
use Rattle.md_queue.proofs.Slots.{stay_same, stay_then}
use Rattle.md_queue.proofs.Steps.{leaves_then}

module _ (M : Meaning) (t u : TxnState) (on : GoesOn M t u) (operates : t.hand.operating ≡ true) where
  -- one node more is taken
  pub fresh_goes : (key value next new : ℕ) → Freshens t u key value next new → GoesBy M t u 0 0 1
  fresh_goes key value next new f = record {
    leaves = record {
      on = on;
      stay = stay_same t u (ap (λ (x : TxnState). x.slots) f.new);
      acts = ap (λ (x : TxnState). x.hand.acts) f.new;
      operates = ap (λ (x : TxnState). x.hand.operating) f.new ∙ operates;
      reads_few = let l = ap (λ (x : TxnState). length x.reads) f.new in omega (arith, l);
      writes_few = let l = ap (λ (x : TxnState). length x.slots) f.new in omega (arith, l);
      nodes_few =
          let own : OwnNode = record { node = new; key = key; value = value; next = next } in
          let l = ap (λ (x : TxnState). length x.nodes) f.new ∙ length-append t.nodes (own ∷ []) in
          omega (arith, l);
    };
    same_stop = ap (λ (x : TxnState). x.stop) f.new;
  }

  -- or none, by no limit but those of nodes and of counts
  pub fresh_not_by : (limit : Limit) → limit ≢ Nodes → ((word count : ℕ) → limit ≢ Worn word count) → (key value next : ℕ) (stop : Stop)
      → AfterStop t.stop t u (let r : Result ℕ Stop = Err stop in r) (Freshened t u key value next (Err stop)) → IsNotBy t limit stop
  fresh_not_by limit nodes worn key value next stop fresh = by_stop t.stop refl fresh
    where
      no_limit : NoFresh t u stop → stop ≡ Limited limit → ⊥
      no_limit none by = ⊎_elim
          (λ no_node. let e = no_node.0 in let same : limit ≡ Nodes = cc (e, by) in nodes same)
          (λ is_worn.
          let word = address (shape_in t) (node_next is_worn.0) in
          let count = count_of is_worn.1 in
          let e = is_worn.5 in
          let same : limit ≡ Worn word count = cc (e, by) in
          worn word count same)
          none

      by_stop : (o : Option Stop) → t.stop ≡ o → AfterStop o t u (let r : Result ℕ Stop = Err stop in r) (Freshened t u key value next (Err stop)) → IsNotBy t limit stop
      by_stop None is none by = absurd (no_limit none.1 by)
      by_stop (Some r) is old by = let e = old.0 in let same : r ≡ stop = cc e in is ∙ ap (λ x. Some x) same

  -- the stop is kept then
  pub fresh_stops : (key value next : ℕ) (stop : Stop) → AfterStop t.stop t u (let r : Result ℕ Stop = Err stop in r) (Freshened t u key value next (Err stop)) → OperationRefused M t u 0 0 0 stop
  fresh_stops key value next stop fresh =
      let is = fresh_refused M t u stop key value next fresh in
      record {
        leaves = record {
          on = on;
          stay = stay_same t u (ap (λ (x : TxnState). x.slots) is);
          acts = ap (λ (x : TxnState). x.hand.acts) is;
          operates = ap (λ (x : TxnState). x.hand.operating) is ∙ operates;
          reads_few = let l = ap (λ (x : TxnState). length x.reads) is in omega (arith, l);
          writes_few = let l = ap (λ (x : TxnState). length x.slots) is in omega (arith, l);
          nodes_few = let l = ap (λ (x : TxnState). length x.nodes) is in omega (arith, l);
        };
        kept = ap (λ (x : TxnState). x.stop) is;
      }

-- a cleanup is kept with a slot that kept none, and nothing more is recorded, written or taken
module _ (M : Meaning) (s t u : TxnState) (c : Cleanup) (bare : (x : Slot) → Contains t.slots x → x.write.word ≡ address (shape_in t) (node_next (cleanup_node c)) → x.cleanup ≡ None)
    (kept : u ≡ record t { slots = with_cleanup_kept t c }) where
  abbrev at : ℕ
  at = address (shape_in t) (node_next (cleanup_node c))

  stay_kept : (x : Slot) → Contains t.slots x → StaysIn u x
  stay_kept x among = cond_both (x.write.word == at) (record x { cleanup = Some c }) x (λ y. Contains u.slots y → StaysIn u x)
      (λ this there. record {
        now = record x { cleanup = Some c };
        among = there;
        place = refl;
        word = refl;
        old = refl;
        cleanup = λ d is. absurd (none-some d (sym (bare x among (eqb-true x.write.word at this)) ∙ is));
      })
      (λ _ there. record { now = x; among = there; place = refl; word = refl; old = refl; cleanup = λ d is. is })
      (subst (λ l. Contains l (with_cleanup at c x)) (sym (ap (λ (y : TxnState). y.slots) kept)) (map_in (with_cleanup at c) t.slots x among))

  pub keeps_goes : (a b d : ℕ) → GoesBy M s t a b d → ((cs : List Certificate) → IsGoing M s cs → MayTidyLater M t cs c) → Keeps M t u c → GoesBy M s u a b d
  keeps_goes a b d goes may keeps =
      let l = goes.leaves in
      record {
        leaves = record {
          on = record {
            going = λ cs going. keeps.going cs (l.on.going cs going) (may cs going);
            later = later_over s t u l.on.later keeps.later;
          };
          stay = stay_then s t u l.stay stay_kept;
          acts = ap (λ (x : TxnState). x.hand.acts) kept ∙ l.acts;
          operates = ap (λ (x : TxnState). x.hand.operating) kept ∙ l.operates;
          reads_few = subst (λ n. n ≤ length s.reads + a) (ap (λ (x : TxnState). length x.reads) (sym kept)) l.reads_few;
          writes_few = subst (λ n. n ≤ length s.slots + b) (sym (length-map t.slots (with_cleanup at c)) ∙ ap (λ (x : TxnState). length x.slots) (sym kept)) l.writes_few;
          nodes_few = subst (λ n. n ≤ length s.nodes + d) (ap (λ (x : TxnState). length x.nodes) (sym kept)) l.nodes_few;
        };
        same_stop = ap (λ (x : TxnState). x.stop) kept ∙ goes.same_stop;
      }

-- a refusal after what went on
pub refused_after : (M : Meaning) (s t u : TxnState) (a b c d e f x y z : ℕ) (stop : Stop) → GoesBy M s t a b c → (t.hand.operating ≡ true → OperationRefused M t u d e f stop)
    → a + d ≤ x → b + e ≤ y → c + f ≤ z → OperationRefused M s u x y z stop
refused_after M s t u a b c d e f x y z stop goes next reads writes nodes =
    let is = next goes.leaves.operates in
    record { leaves = leaves_then M s t u a b c d e f x y z goes.leaves is.leaves reads writes nodes; kept = is.kept }

-- within wider bounds
pub refused_within : (M : Meaning) (t u : TxnState) (a b c x y z : ℕ) (stop : Stop) → OperationRefused M t u a b c stop → a ≤ x → b ≤ y → c ≤ z → OperationRefused M t u x y z stop
refused_within M t u a b c x y z stop is reads writes nodes =
    let r = is.leaves.reads_few in
    let w = is.leaves.writes_few in
    let n = is.leaves.nodes_few in
    record {
      leaves = record {
        on = is.leaves.on;
        stay = is.leaves.stay;
        acts = is.leaves.acts;
        operates = is.leaves.operates;
        reads_few = omega (arith, r, reads);
        writes_few = omega (arith, w, writes);
        nodes_few = omega (arith, n, nodes);
      };
      kept = is.kept;
    }

-- where no node more was taken, the own nodes are the same
pub no_more_nodes : (t u : TxnState) → IsPrefix t.nodes u.nodes → length u.nodes ≤ length t.nodes + 0 → u.nodes ≡ t.nodes
no_more_nodes t u first few = first.is ∙ none first.rest (let l = ap (λ (x : List OwnNode). length x) first.is ∙ length-append t.nodes first.rest in omega (arith, l, few))
  where
    none : (rest : List OwnNode) → length rest ≤ 0 → t.nodes ++ rest ≡ t.nodes
    none [] l = append-nil t.nodes
    none (n ∷ rest) l = absurd (omega (arith, l))

-- the slot of the node's next word keeps the cleanup
module _ (t : TxnState) (c : Cleanup) (written : IsWrittenFor t c) where
  abbrev word : ℕ
  word = address (shape_in t) (node_next (cleanup_node c))

  abbrev among : (s : Slot) × Contains t.slots s × (s.write ≡ written.write)
  among = in_map (λ (s : Slot). s.write) t.slots written.write written.among

  abbrev pub kept_slot : Slot
  kept_slot = with_cleanup word c among.0

  pub kept_among : Contains (with_cleanup_kept t c) kept_slot
  kept_among = map_in (with_cleanup word c) t.slots among.0 among.1

  slot_is : kept_slot ≡ record among.0 { cleanup = Some c }
  slot_is = ap (λ b. if b then record among.0 { cleanup = Some c } else among.0) (eq-eqb among.0.write.word word (ap (λ (w : Write). w.word) among.2 ∙ written.there))

  pub kept_write : kept_slot.write ≡ written.write
  kept_write = ap (λ (s : Slot). s.write) slot_is ∙ among.2

  pub kept_cleanup : kept_slot.cleanup ≡ Some c
  kept_cleanup = ap (λ (s : Slot). s.cleanup) slot_is

-- the new node was put behind the last one, and the move of the tail to it is kept
pub puts_last : (s v x : TxnState) (queue last : ℕ) (new : OwnNode) → IsWrittenFor v (MoveTail (tail_at v queue) last new.node)
    → x ≡ record v { slots = with_cleanup_kept v (MoveTail (tail_at v queue) last new.node) } → x.nodes ≡ s.nodes ++ new ∷ [] → PutsLast s x queue new.value
puts_last s v x queue last new written kept nodes =
    let c : Cleanup = MoveTail (tail_at v queue) last new.node in
    let shape = ap (λ (y : TxnState). shape_in y) kept in
    record {
      last = last;
      new = new;
      nodes = nodes;
      value_is = refl;
      slot = kept_slot v c written;
      among = subst (λ l. Contains l (kept_slot v c written)) (sym (ap (λ (y : TxnState). y.slots) kept)) (kept_among v c written);
      word = ap (λ (w : Write). w.word) (kept_write v c written) ∙ written.there ∙ ap (λ (y : Shape). address y (node_next last)) (sym shape);
      names = ap (λ (w : Write). w.new) (kept_write v c written) ∙ written.fits.0;
      cleanup = kept_cleanup v c written ∙ ap (λ (y : Shape). Some (MoveTail (address y (queue_tail queue)) last new.node)) (sym shape);
    }
