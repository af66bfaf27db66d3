-- What is a fact in a resolution is one in each that keeps more, and stays one: where no entry joins the history.
use Rattle.std.proofs.Common.{◌≡◌, ℕ, Bool, List, [], ◌∷◌, length, refl, sym, subst}
use Rattle.std.proofs.lemmas.List.Elements.{All-nil}
use Rattle.md_words.specs.Content.{value_of}
use Rattle.md_machine.specs.declared.attempt.HistoryEntry.{HistoryEntry}
use Rattle.md_machine.specs.declared.certificate.Change.{Change}
use Rattle.md_machine.specs.declared.node.PlacedNode.{PlacedNode}
use Rattle.md_machine.specs.declared.opening.Opening.{Opening}
use Rattle.md_machine.specs.GoesOn.{MachineGoesOn}
use Rattle.md_machine.specs.LogicalHeap.{LogicalHeap, changed}
use Rattle.md_machine.specs.Machine.{Machine}
use Rattle.md_machine.specs.Meaning.{KeepsFacts, Lawful, Meaning}
use Rattle.md_machine.specs.Resolution.{Resolves, logical_heap, placed_under}
use Rattle.md_machine.proofs.Invariant.{Invariant}
use Rattle.md_machine.proofs.chain.EntryFacts.{IsFresh, changed_nodes, entry_rise, slot_of_change}
use Rattle.md_machine.proofs.chain.Entry.{with_entry}
use Rattle.md_machine.proofs.chain.SameNodes.{SameNodes, agree_nodes, facts_rise_on, same_nodes_facts}
use Rattle.md_machine.proofs.events.MoveFacts.{MoveFacts}
use Rattle.md_machine.proofs.events.Moves.{Effect, Moves, WinsExchange}
use Rattle.md_machine.proofs.replay.Heaps.{IsPlain, exchange_agrees, exchange_leaves, exchange_stands, plain_agrees}
use Rattle.md_machine.proofs.replay.Kept.{Means, facts, fated_now, grounds_of, leaves, resolved}
use Rattle.md_machine.proofs.replay.Nodes.{placed_exists}
use Rattle.md_machine.proofs.replay.Under.{Grounds}
use Rattle.md_machine.proofs.resolutions.Placing.{Within}

-- what is a fact in a resolution is one in each that keeps more
abbrev pub FactsRise : Machine → Type 0
FactsRise m = (few many : List Bool) → Resolves m few → Resolves m many → Within few many → KeepsFacts (logical_heap m few) (logical_heap m many)

-- a resolution afterwards keeps the facts of one before
pub record KeepsBefore (m n : Machine) (choice : List Bool) : Type 0 where
  pub before : List Bool
  pub resolves : Resolves m before
  pub facts : KeepsFacts (logical_heap m before) (logical_heap n choice)

-- so does each
abbrev pub FactsStay : (m n : Machine) → Type 0
FactsStay m n = (choice : List Bool) → Resolves n choice → KeepsBefore m n choice

-- a machine, as far as a logical heap sees it
abbrev pub seen_as : Opening → List ℕ → List HistoryEntry → Machine
seen_as o words history =
    record { opening = o; words = words; history = history; fates = []; installs = []; begun = []; passes = [] }

pub seen_same : (P : Machine → Type 0) (l n : Machine) → l.opening ≡ n.opening → l.words ≡ n.words → l.history ≡ n.history
    → P (seen_as l.opening l.words l.history) → P (seen_as n.opening n.words n.history)
seen_same P l n opening words history x = subst (λ es. P (seen_as n.opening n.words es)) history
    (subst (λ ws. P (seen_as n.opening ws l.history)) words (subst (λ (o : Opening). P (seen_as o l.words l.history)) opening x))

module _ (M : Meaning) (lawful : Lawful M) (m n : Machine) (k : Invariant m) (kn : Invariant n) (on : MachineGoesOn m n)
    (w : Moves M m n) (was : Means M m) where
  abbrev fate : length m.fates ≡ length m.history
  fate = fated_now M lawful m n k kn on w was

  abbrev v : MoveFacts m n
  v = facts M lawful m n k kn on w was

  abbrev g : Grounds m
  g = grounds_of m k

  -- an event that is neither a won exchange nor a won ready step
  abbrev pub AllPlain : Effect M m n w.p w.kind w.word w.new → Type 0
  AllPlain e = (choice : List Bool) (r : Resolves m choice) → IsPlain M m n w choice r fate v k.formats g e

  module _ (history : n.history ≡ m.history) where
    -- the logical heap afterwards
    abbrev now : List Bool → LogicalHeap
    now choice = logical_heap (record m { words = n.words }) choice

    earlier : (choice : List Bool) → Resolves n choice → Resolves m choice
    earlier = resolved M lawful m n k kn on w was history

    rise_now : (few many : List Bool) → KeepsFacts (now few) (now many) → KeepsFacts (logical_heap n few) (logical_heap n many)
    rise_now few many = seen_same (λ x. KeepsFacts (logical_heap x few) (logical_heap x many))
        (record m { words = n.words }) n (sym on.opening) refl (sym history)

    stay_now : (h : LogicalHeap) (choice : List Bool) → KeepsFacts h (now choice) → KeepsFacts h (logical_heap n choice)
    stay_now h choice = seen_same (λ x. KeepsFacts h (logical_heap x choice))
        (record m { words = n.words }) n (sym on.opening) refl (sym history)

    module _ (plain : AllPlain w.effect) where
      same_now : (choice : List Bool) → Resolves m choice → SameNodes (logical_heap m choice) (now choice)
      same_now choice r = agree_nodes (logical_heap m choice) (now choice)
          (plain_agrees M m n w choice r fate v k.formats g (placed_exists m choice was.exist) (leaves M lawful m n k kn on w was choice r) (plain choice r))
          (placed_exists m choice was.exist)

      pub plain_rise : FactsRise m → FactsRise n
      plain_rise rise few many r q within = rise_now few many
          (facts_rise_on (logical_heap m few) (now few) (logical_heap m many) (now many)
          (same_now few (earlier few r)) (same_now many (earlier many q)) (rise few many (earlier few r) (earlier many q) within))

      pub plain_stay : FactsStay m n
      plain_stay choice r = record {
        before = choice;
        resolves = earlier choice r;
        facts = stay_now (logical_heap m choice) choice
            (same_nodes_facts (logical_heap m choice) (now choice) (same_now choice (earlier choice r)));
      }

    -- a won exchange
    module _ (s : WinsExchange M m n w.p w.kind w.word w.new) where
      abbrev change : Change
      change = record { word = w.word; old = value_of s.from; new = s.to }

      -- what the change leaves
      abbrev left : List Bool → LogicalHeap
      left choice = record { words = changed (logical_heap m choice).words change; placed = placed_under m choice }

      same_left : (choice : List Bool) → Resolves m choice → SameNodes (left choice) (now choice)
      same_left choice r = agree_nodes (left choice) (now choice)
          (exchange_agrees M m n w choice r fate v k.formats g (placed_exists m choice was.exist) s) (placed_exists m choice was.exist)

      -- it is an entry of one slot, and places no node
      left_rise : (few many : List Bool) → KeepsFacts (logical_heap m few) (logical_heap m many) → KeepsFacts (left few) (left many)
      left_rise few many rise =
          let h = logical_heap m few in
          let l = logical_heap m many in
          let slots = slot_of_change change ∷ [] in
          let none = All-nil (λ (x : PlacedNode). IsFresh h l refl (λ node. refl) (λ node. refl) rise slots [] x.node) in
          facts_rise_on (with_entry h slots []) (left few) (with_entry l slots []) (left many) (changed_nodes h change) (changed_nodes l change)
          (entry_rise h l refl (λ node. refl) (λ node. refl) rise slots [] none)

      pub exchange_rise : FactsRise m → FactsRise n
      exchange_rise rise few many r q within = rise_now few many
          (facts_rise_on (left few) (now few) (left many) (now many) (same_left few (earlier few r)) (same_left many (earlier many q))
          (left_rise few many (rise few many (earlier few r) (earlier many q) within)))

      -- its tidy change takes no fact away
      pub exchange_stay : FactsStay m n
      exchange_stay choice later =
          let r = earlier choice later in
          let h = logical_heap m choice in
          let stands = exchange_stands M m n w choice r fate v k.formats g s in
          let tidied = lawful.tidy h s.may.tidy.tidy (was.every choice r).valid s.may.tidy.tidies stands in
          let kept : KeepsFacts h (left choice) = subst (KeepsFacts h) (exchange_leaves M m n w choice r fate v k.formats g s) tidied.facts in
          record {
            before = choice;
            resolves = r;
            facts = stay_now h choice (λ f holds. same_nodes_facts (left choice) (now choice) (same_left choice r) f (kept f holds));
          }
