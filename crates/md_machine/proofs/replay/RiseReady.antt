-- What is a fact in a resolution is one in each that keeps more, and stays one: after a ready step that won.
use Rattle.std.proofs.Common.{◌≡◌, ◌++◌, ℕ, Bool, true, false, List, [], ◌∷◌, length, set, refl, sym, ap, ◌∙◌, subst, None, arith}
use Rattle.std.specs.List.{All}
use Rattle.std.proofs.lemmas.Bool.{false≢true}
use Rattle.std.proofs.lemmas.List.{length-map, map-append}
use Rattle.std.proofs.lemmas.List.Elements.{All-map}
use Rattle.md_words.specs.Place.{desc_status}
use Rattle.md_words.specs.Layout.{address}
use Rattle.md_history.specs.declared.entries.Fate.TheVariants.{Undecided}
use Rattle.md_history.specs.History.{IsResolution}
use Rattle.md_history.specs.ResolutionLaws.{IsWithLast, resolution-last, resolution-length}
use Rattle.md_machine.specs.declared.attempt.HistoryEntry.{HistoryEntry}
use Rattle.md_machine.specs.declared.attempt.Write.{Write}
use Rattle.md_machine.specs.declared.certificate.NewNode.{NewNode}
use Rattle.md_machine.specs.declared.node.PlacedNode.{PlacedNode}
use Rattle.md_machine.specs.GoesOn.{MachineGoesOn}
use Rattle.md_machine.specs.LogicalHeap.{LogicalHeap, next_of}
use Rattle.md_machine.specs.Machine.{Machine, shape_of}
use Rattle.md_machine.specs.Meaning.{KeepsFacts, Lawful, Meaning}
use Rattle.md_machine.specs.Certified.{IsCertified, all_nodes, placed_by}
use Rattle.md_machine.proofs.replay.Replays.{IsReplay}
use Rattle.md_machine.specs.Resolution.{Resolves, entries_of, logical_heap}
use Rattle.md_machine.specs.clauses.words.Stamps.{StampsHold}
use Rattle.md_machine.specs.events.Ready.{history_entry, reads_now, writes_now}
use Rattle.md_machine.proofs.Invariant.{Invariant, kept_by}
use Rattle.md_machine.proofs.chain.Entry.{with_entry}
use Rattle.md_machine.proofs.chain.EntryFacts.{entry_rise}
use Rattle.md_machine.proofs.chain.SameNodes.{SameNodes, agree_nodes, facts_rise_on, same_nodes_back, same_nodes_facts}
use Rattle.md_machine.proofs.events.Moves.{Moves, WinsReady}
use Rattle.md_machine.proofs.replay.Enter.{certified, entered, follows, nodes_fresh, with_agrees, with_exist, without_agrees}
use Rattle.md_machine.proofs.replay.Kept.{Means, fated_now, grounds_of}
use Rattle.md_machine.proofs.replay.Nodes.{placed_exists}
use Rattle.md_machine.proofs.replay.Rise.{FactsRise, FactsStay, seen_same}
use Rattle.md_machine.proofs.replay.Under.{Grounds}
use Rattle.md_machine.proofs.resolutions.Placing.{Within}

-- of two choices that end with a last entry, one keeps all that another does
within_last : (js ks : List Bool) (j k : Bool) → length js ≡ length ks → Within (js ++ j ∷ []) (ks ++ k ∷ [])
    → Within js ks × (j ≡ true → k ≡ true)
within_last [] [] j k fits w = (tt, w.0)
within_last [] (y ∷ ks) j k fits w = absurd (omega (arith, fits))
within_last (x ∷ js) [] j k fits w = absurd (omega (arith, fits))
within_last (x ∷ js) (y ∷ ks) j k fits w = let rest = within_last js ks j k (omega (arith, fits)) w.1 in ((w.0, rest.0), rest.1)

module _ (M : Meaning) (lawful : Lawful M) (m n : Machine) (k : Invariant m) (kn : Invariant n) (on : MachineGoesOn m n)
    (w : Moves M m n) (was : Means M m) (s : WinsReady M m n w.p w.kind w.word w.new) where
  abbrev e : HistoryEntry
  e = history_entry m s.hand s.certificates s.count

  abbrev writes : List Write
  writes = writes_now m s.hand.attempt

  abbrev placed : List PlacedNode
  placed = placed_by s.certificates

  abbrev fate : length m.fates ≡ length m.history
  fate = fated_now M lawful m n k kn on w was

  abbrev g : Grounds m
  g = grounds_of m k

  abbrev stamps : StampsHold m
  stamps = (kept_by m k).stamps

  -- the machine afterwards, as far as a logical heap sees it
  abbrev then : Machine
  then = entered M lawful m n w s k.formats g k.entries stamps fate was.exist

  abbrev now : List Bool → LogicalHeap
  now choice = logical_heap then choice

  words : then.words ≡ n.words
  words =
      let status = address (shape_of m) (desc_status s.hand.attempt.desc) in
      sym (w.words ∙ ap (λ x. set m.words x w.new) s.there ∙ ap (set m.words status) s.is)

  rise_now : (few many : List Bool) → KeepsFacts (now few) (now many) → KeepsFacts (logical_heap n few) (logical_heap n many)
  rise_now few many =
      seen_same (λ x. KeepsFacts (logical_heap x few) (logical_heap x many)) then n (sym on.opening) words (sym s.history)

  stay_now : (h : LogicalHeap) (choice : List Bool) → KeepsFacts h (now choice) → KeepsFacts h (logical_heap n choice)
  stay_now h choice = seen_same (λ x. KeepsFacts h (logical_heap x choice)) then n (sym on.opening) words (sym s.history)

  length_of : (choice : List Bool) → Resolves m choice → length choice ≡ length m.history
  length_of choice r = resolution-length (entries_of m.history) m.fates choice r ∙ length-map m.history (λ (x : HistoryEntry). x.entry)

  -- a resolution afterwards is one from before, with the entry or without it
  in_parts : (choice : List Bool) → Resolves n choice → IsWithLast (entries_of m.history) m.fates e.entry choice
  in_parts choice r =
      let more = ap entries_of s.history ∙ map-append (λ (x : HistoryEntry). x.entry) m.history (e ∷ []) in
      resolution-last (entries_of m.history) m.fates e.entry choice (fate ∙ sym (length-map m.history (λ (x : HistoryEntry). x.entry)))
      (subst (λ es. IsResolution es (m.fates ++ Undecided ∷ []) choice) more
      (subst (λ fs. IsResolution (entries_of n.history) fs choice) s.fates r))

  module _ (choice : List Bool) (r : Resolves m choice) where
    abbrev h : LogicalHeap
    h = logical_heap m choice

    abbrev replay : IsReplay M m choice
    replay = was.every choice r

    same_with : SameNodes (with_entry h writes placed) (now (choice ++ true ∷ []))
    same_with = agree_nodes (with_entry h writes placed) (now (choice ++ true ∷ []))
        (with_agrees M lawful m n w s k.formats g k.entries stamps fate was.exist choice r replay)
        (with_exist M lawful m n w s k.formats g k.entries stamps fate was.exist choice r replay)

    same_without : SameNodes h (now (choice ++ false ∷ []))
    same_without = agree_nodes h (now (choice ++ false ∷ []))
        (without_agrees M lawful m n w s k.formats g k.entries stamps fate was.exist choice r replay) (placed_exists m choice was.exist)

    -- each fact from before still holds with the entry, and without it
    with_stay : e.entry.sound ≡ true → KeepsFacts h (now (choice ++ true ∷ []))
    with_stay sound f holds = same_nodes_facts (with_entry h writes placed) (now (choice ++ true ∷ [])) same_with f
        ((follows M lawful m n w s k.formats g k.entries stamps fate was.exist choice r replay sound).facts f holds)

    without_back : KeepsFacts (now (choice ++ false ∷ [])) h
    without_back = same_nodes_facts (now (choice ++ false ∷ [])) h (same_nodes_back h (now (choice ++ false ∷ [])) same_without)

    either_stay : (kept : Bool) → (kept ≡ true → e.entry.sound ≡ true) → KeepsFacts h (now (choice ++ kept ∷ []))
    either_stay true sound = with_stay (sound refl)
    either_stay false sound = same_nodes_facts h (now (choice ++ false ∷ [])) same_without

  pub ready_stay : FactsStay m n
  ready_stay choice r =
      let parts = in_parts choice r in
      let first = logical_heap m parts.first in
      record {
        before = parts.first;
        resolves = parts.of_first;
        facts = stay_now first choice
            (subst (λ c. KeepsFacts first (now c)) (sym parts.joined) (either_stay parts.first parts.of_first parts.kept parts.may));
      }

  -- of two resolutions, of which the second keeps what the first keeps
  module _ (few many : List Bool) (r : Resolves m few) (q : Resolves m many)
      (rise : KeepsFacts (logical_heap m few) (logical_heap m many)) where
    abbrev h1 : LogicalHeap
    h1 = logical_heap m few

    abbrev h2 : LogicalHeap
    h2 = logical_heap m many

    -- a new node isn't placed, and has its next word's value in both
    abbrev Fresh : ℕ → Type 0
    Fresh node = (h2.placed node ≡ None) × (next_of h2.words node ≡ next_of h1.words node)

    fresh : All (λ x. Fresh x.node) placed
    fresh = All-map (λ (x : PlacedNode). Fresh x.node)
        (λ (c : NewNode). let x : PlacedNode = record { node = c.node; structure = c.structure } in x) (all_nodes s.certificates)
        (λ i d below. (none i d below, next many q i d below ∙ sym (next few r i d below)))
      where
        certain : IsCertified M m w.p s.hand s.certificates (reads_now m s.hand.attempt.desc s.count) writes
        certain = certified M lawful m n w s k.formats g k.entries stamps fate was.exist

        none : All (λ (c : NewNode). h2.placed c.node ≡ None) (all_nodes s.certificates)
        none = nodes_fresh M lawful m n w s k.formats g k.entries stamps fate was.exist many q

        next : (choice : List Bool) → Resolves m choice
            → All (λ (c : NewNode). next_of (logical_heap m choice).words c.node ≡ c.next) (all_nodes s.certificates)
        next choice t i d below = ((certain.chain choice t).words i d below).next

    with_rise : KeepsFacts (with_entry h1 writes placed) (with_entry h2 writes placed)
    with_rise = entry_rise h1 h2 refl (λ node. refl) (λ node. refl) rise writes placed fresh

    parts_rise : (j l : Bool) → (j ≡ true → l ≡ true) → (l ≡ true → e.entry.sound ≡ true)
        → KeepsFacts (now (few ++ j ∷ [])) (now (many ++ l ∷ []))
    parts_rise false false more sound =
        facts_rise_on h1 (now (few ++ false ∷ [])) h2 (now (many ++ false ∷ [])) (same_without few r) (same_without many q) rise
    parts_rise false true more sound = λ f holds. with_stay many q (sound refl) f (rise f (without_back few r f holds))
    parts_rise true true more sound =
        facts_rise_on (with_entry h1 writes placed) (now (few ++ true ∷ [])) (with_entry h2 writes placed) (now (many ++ true ∷ []))
        (same_with few r) (same_with many q) with_rise
    parts_rise true false more sound = absurd (false≢true (more refl))

  pub ready_rise : FactsRise m → FactsRise n
  ready_rise rise few many r q within =
      let one = in_parts few r in
      let two = in_parts many q in
      let fits = length_of one.first one.of_first ∙ sym (length_of two.first two.of_first) in
      let more = within_last one.first two.first one.kept two.kept fits
      (subst (Within (one.first ++ one.kept ∷ [])) two.joined (subst (λ c. Within c many) one.joined within)) in
      let risen = parts_rise one.first two.first one.of_first two.of_first
      (rise one.first two.first one.of_first two.of_first more.0) one.kept two.kept more.1 two.may in
      rise_now few many (subst (λ c. KeepsFacts (now c) (now many)) (sym one.joined)
      (subst (λ c. KeepsFacts (now (one.first ++ one.kept ∷ [])) (now c)) (sym two.joined) risen))
