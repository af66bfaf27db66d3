-- What a change that is a part of the transaction leaves.
use Rattle.std.proofs.Common.{◌≡◌, ◌≤◌, ◌+◌, ◌∷◌, [], length, arith, ℕ, true, false, List, Some, sym, ap, ◌∙◌, subst}
use Rattle.std.proofs.lemmas.Bool.{true≢false}
use Rattle.std.proofs.lemmas.List.{length-append, length-map}
use Rattle.std.proofs.lemmas.List.Elements.{All-contains, Contains-append_right}
use Rattle.std.specs.List.{Contains}
use Rattle.md_machine.specs.declared.attempt.Write.{Write}
use Rattle.md_machine.specs.declared.certificate.Certificate.{Certificate}
use Rattle.md_machine.specs.Certified.{first_content}
use Rattle.md_machine.specs.Meaning.{Meaning}
use Rattle.md_machine.proofs.lists.Rising.{here, map_in}
use Rattle.md_nbtc_law.specs.declared.seen.Kind.TheVariants.{Critical}
use Rattle.md_nbtc_law.specs.declared.seen.Seen.{Seen}
use Rattle.md_nbtc_law.specs.declared.slots.Slot.{Slot}
use Rattle.md_nbtc_law.specs.Calls.{new_slot, with_change}
use Rattle.md_nbtc_law.specs.Going.{IsGoing}
use Rattle.md_nbtc_law.specs.Seeing.{Gave}
use Rattle.md_nbtc_law.specs.Sets.{with_new}
use Rattle.md_nbtc_law.specs.State.{TxnState, seen_content, writes_in}
use Rattle.md_list.specs.Operations.{SlotsStay}
use Rattle.md_list.proofs.charges.Adding.{Adds}
use Rattle.md_list.proofs.changes.Staying.{slots_changed}
use Rattle.md_nbtc_law.proofs.structures.Exchanging.{HasExchanged, changed_own, changed_plainly, installed}

module _ (M : Meaning) (t : TxnState) (word : ℕ) (from : Seen) (to : ℕ) (u : TxnState) (seen : Seen) where
  -- the word is an own one with the new value, the change is noted for the operation, and what was seen was the word's first content if it wasn't own before
  pub record ChangedCritically : Type 0 where
    pub own : seen.own ≡ true
    pub value : seen.value ≡ to
    pub hand : u.hand ≡ with_change t.hand word from.value to
    pub reads : u.reads ≡ t.reads
    pub nodes : u.nodes ≡ t.nodes
    pub stop : u.stop ≡ t.stop
    pub slots : SlotsStay t u
    pub few : length u.slots ≤ length t.slots + 1
    pub first : from.own ≡ false → first_content u.reads (writes_in u) word ≡ Some (seen_content from)

  pub changed_critically : Gave t word from → (cs : List Certificate) → IsGoing M u cs → HasExchanged M t word from to Critical u seen → ChangedCritically
  changed_critically gave cs going (changed_own e) = record {
    slots = slots_changed M t word from to Critical u seen (changed_own e);
    own = ap (λ (s : Seen). s.own) e.seen_is;
    value = ap (λ (s : Seen). s.value) e.seen_is;
    hand = ap (λ (x : TxnState). x.hand) e.state_is;
    reads = ap (λ (x : TxnState). x.reads) e.state_is;
    nodes = ap (λ (x : TxnState). x.nodes) e.state_is;
    stop = ap (λ (x : TxnState). x.stop) e.state_is;
    few = let l = ap (λ (x : TxnState). length x.slots) e.state_is in omega (arith, l, length-map t.slots (with_new word to));
    first = λ other. absurd (true≢false (sym (gave.own ∙ e.written) ∙ other));
  }
  changed_critically gave cs going (installed e) =
      let slot = new_slot t word from to in
      let there = subst (λ l. Contains l slot) (sym (ap (λ (x : TxnState). x.slots) e.state_is)) (Contains-append_right t.slots (slot ∷ []) slot (here slot [])) in
      record {
        slots = slots_changed M t word from to Critical u seen (installed e);
        own = ap (λ (s : Seen). s.own) e.seen_is;
        value = ap (λ (s : Seen). s.value) e.seen_is;
        hand = ap (λ (x : TxnState). x.hand) e.state_is;
        reads = ap (λ (x : TxnState). x.reads) e.state_is;
        nodes = ap (λ (x : TxnState). x.nodes) e.state_is;
        stop = ap (λ (x : TxnState). x.stop) e.state_is;
        few = let l = ap (λ (x : TxnState). length x.slots) e.state_is in omega (arith, l, length-append t.slots (slot ∷ []));
        first = λ other. All-contains (λ (w : Write). first_content u.reads (writes_in u) w.word ≡ Some w.old) (writes_in u) slot.write going.prepared.has.replaced
            (map_in (λ (s : Slot). s.write) u.slots slot there);
      }
  changed_critically gave cs going (changed_plainly e) = absurd (true≢false e.plain)

  -- it adds a written word at most
  pub adds_change : ChangedCritically → Adds t u 0 1 0
  adds_change did = record {
    acts = ap (λ h. h.acts) did.hand;
    operates = ap (λ h. h.operating) did.hand;
    slots = did.slots;
    reads_few = let l = ap (λ rs. length rs) did.reads in omega (arith, l);
    slots_few = did.few;
    nodes_few = let l = ap (λ ns. length ns) did.nodes in omega (arith, l);
  }
