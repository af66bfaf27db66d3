-- The own nodes of a transaction, in each machine in which its pass stands so: they are placed nowhere, and hold what was
-- stored there.
use Rattle.std.proofs.Common.{◌≡◌, ℕ, Bool, true, false, List, [], ◌∷◌, ◌++◌, refl, sym, ap, ◌∙◌, subst, eqb-true, inr, ⊎_elim, Some, None, is_some}
use Rattle.std.proofs.lemmas.Bool.{cases_Bool}
use Rattle.std.proofs.lemmas.List.Elements.{All-contains}
use Rattle.std.specs.List.{Contains}
use Rattle.md_words.specs.declared.status.Status.TheVariants.{InPrep}
use Rattle.md_words.specs.Content.{count_of, is_even, value_of}
use Rattle.md_words.specs.Layout.{IsNode, address}
use Rattle.md_words.specs.Place.{Place, desc_status, node_next}
use Rattle.md_words.specs.PlaceAt.{IsCounted}
use Rattle.md_words.specs.Status.{status_of}
use Rattle.md_words.proofs.Words.{status_of-status_word}
use Rattle.md_machine.specs.declared.attempt.Write.{Write}
use Rattle.md_machine.specs.declared.certificate.Certificate.{Certificate}
use Rattle.md_machine.specs.declared.certificate.Fact.{Fact}
use Rattle.md_machine.specs.declared.step.Step.{Step}
use Rattle.md_machine.specs.Certified.{first_content, is_written}
use Rattle.md_machine.specs.Event.{Acts}
use Rattle.md_machine.specs.LogicalHeap.{LogicalHeap}
use Rattle.md_machine.specs.Machine.{Machine, content, shape_of, status_at}
use Rattle.md_machine.specs.Meaning.{Lawful, Meaning}
use Rattle.md_machine.specs.Own.{HasNode, IsOwnNode}
use Rattle.md_machine.specs.Resolution.{Resolves, always_placed, least, logical_heap, logical_value, placed_under}
use Rattle.md_machine.specs.Theorem.{IsKept}
use Rattle.md_machine.specs.clauses.nodes.OwnWords.{IsPlain, LastLeft}
use Rattle.md_machine.specs.events.Install.{MayBeChanged}
use Rattle.md_machine.specs.events.Ready.{unready_word, wins_ready}
use Rattle.md_machine.proofs.chain.SameNodes.{next_alone, next_counted}
use Rattle.md_machine.proofs.chain.Values.{value_even}
use Rattle.md_machine.proofs.clauses.nodes.InstalledValue.{installed_value}
use Rattle.md_machine.proofs.lists.Options.{none_some}
use Rattle.md_machine.proofs.resolutions.Placing.{least_resolves}
use Rattle.md_rule.specs.Admitted.{Admitted}
use Rattle.md_rule.proofs.Moves.{is_kept, is_meant}
use Rattle.md_nbtc_law.specs.Going.{IsFoundFirst, IsGoing, IsUnplaced}
use Rattle.md_nbtc_law.specs.Known.{Known, WasThere}
use Rattle.md_nbtc_law.specs.Prepared.{InstallsFrom, IsPreparedNode}
use Rattle.md_nbtc_law.specs.State.{OwnNode, TxnState, attempt_in, shape_in, writes_in}
use Rattle.md_nbtc_law.proofs.preparing.Heaps.{later_self}
use Rattle.md_nbtc_law.proofs.ready.Bridge.{is_present, own_step, slot_at}
use Rattle.md_nbtc_law.proofs.ready.Lookups.{one_of, written_found}

-- what the last step on a word that changed it left stands there
pub last_left : (place : Place) (word now : ℕ) (earlier : List Step) (s : Step) (later : List Step) → LastLeft place word now (earlier ++ s ∷ later) → s.word ≡ word
    → IsPlain place s.after → ((x : Step) → Contains later x → x.word ≡ word → x.before ≡ x.after) → now ≡ s.after
last_left place word now [] s later left there plain same = left.0 there plain same
last_left place word now (e ∷ es) s later left there plain same = last_left place word now es s later left.1 there plain same

module _ (M : Meaning) (lawful : Lawful M) (t : TxnState) (cs : List Certificate) (going : IsGoing M t cs) (m : Machine) (admitted : Admitted M t.field.origin m)
    (pass : ℕ) (acts : Acts m pass t.pass.view) where
  pub kept : IsKept m
  kept = is_kept M t.field.origin m admitted

  -- what is known holds of the heap of every resolution
  pub known_here : (P : TxnState → LogicalHeap → Type 0) → Known M t P → (choice : List Bool) → Resolves m choice → P t (logical_heap m choice)
  known_here P known choice r = known t (later_self t) going.prepared (logical_heap m choice)
      (record { machine = m; admitted = admitted; pass = pass; acts = acts; choice = choice; resolves = r; is = refl })

  -- and of that of the least one
  pub known_least : (P : TxnState → LogicalHeap → Type 0) → Known M t P → P t (logical_heap m (least m.fates))
  known_least P known = known_here P known (least m.fates)
      (least_resolves m.history m.fates (is_meant M t.field.origin lawful m admitted).fated)

  pub prepared_node : (n : OwnNode) → Contains t.nodes n → IsPreparedNode t n
  prepared_node n c = All-contains (IsPreparedNode t) t.nodes n going.prepared.nodes c

  pub unplaced_node : (n : OwnNode) → Contains t.nodes n → IsUnplaced M t n
  unplaced_node n c = All-contains (IsUnplaced M t) t.nodes n going.nodes c

  next_word : (node : ℕ) → address (shape_in t) (node_next node) ≡ address (shape_of m) (node_next node)
  next_word node = ap (λ s. address s (node_next node)) (sym admitted.shape)

  -- an own node is one of the pass's lanes that is placed in no resolution
  pub node_own : (n : OwnNode) → Contains t.nodes n → HasNode (shape_of m) t.pass.view n.node
  node_own n c = subst (λ s. HasNode s t.pass.view n.node) (sym admitted.shape) (prepared_node n c).own

  pub own_node : (n : OwnNode) → Contains t.nodes n → IsOwnNode m t.pass.view n.node
  own_node n c = (node_own n c, kept.free_nodes pass t.pass.view acts.at n.node (node_own n c) (prepared_node n c).unplaced)

  pub not_placed : (n : OwnNode) → Contains t.nodes n → always_placed m n.node ≡ false
  not_placed n c = ap (λ o. is_some o) (known_least (λ u h. h.placed n.node ≡ None) (unplaced_node n c).unplaced)

  exists : (n : OwnNode) → Contains t.nodes n → IsNode (shape_of m) n.node
  exists n c = subst (λ s. IsNode s n.node) (sym admitted.shape) (unplaced_node n c).exists

  -- before the ready step the status is that of a preparation
  in_preparation : wins_ready m (attempt_in t) ≡ true → status_of (status_at m (attempt_in t).desc) ≡ InPrep
  in_preparation won =
      let a = attempt_in t in
      ap status_of (eqb-true (content m (address (shape_of m) (desc_status a.desc))) (unready_word a) won) ∙ status_of-status_word InPrep 0 a.serial

  -- the next word of an own node, where the transaction doesn't write it
  unwritten : (n : OwnNode) → Contains t.nodes n → is_written (writes_in t) (address (shape_in t) (node_next n.node)) ≡ false → (choice : List Bool)
      → logical_value m choice (address (shape_of m) (node_next n.node)) ≡ n.next
  unwritten n c none choice =
      let word = address (shape_of m) (node_next n.node) in
      let keeps = (prepared_node n c).next none in
      let last = keeps.3 in
      let left = subst (LastLeft (node_next n.node) word (content m word)) last.order
      (kept.own_words pass t.pass.view acts.at n.node (node_own n c) (not_placed n c) (node_next n.node) (inr refl)) in
      let now : content m word ≡ keeps.0 = last_left (node_next n.node) word (content m word) last.earlier last.step last.later left
      (last.leaves.there ∙ next_word n.node)
      (ap (λ x. is_even (count_of x)) last.leaves.after ∙ keeps.2)
      (λ x later is. All-contains (λ (y : Step). y.word ≡ address (shape_in t) (node_next n.node) → y.before ≡ y.after) last.later x last.unchanged later
      (is ∙ sym (next_word n.node))) ∙ last.leaves.after in
      value_even m choice word (next_counted (shape_of m) n.node (exists n c)) (ap (λ x. is_even (count_of x)) now ∙ keeps.2)
      ∙ ap value_of now ∙ keeps.1

  -- what a slot found in the next word of an own node was stored there
  found_stored : (n : OwnNode) → Contains t.nodes n → (word value : ℕ) → word ≡ address (shape_in t) (node_next n.node) → IsFoundFirst M t word value
      → (choice : List Bool) → Resolves m choice → value ≡ n.next
  found_stored n c word value is first choice r = ⊎_elim
      (λ own.
      let same = next_alone (shape_in t) own.0.node n.node own.2.0 (unplaced_node n c).exists (sym own.2.1 ∙ is) in
      own.3 ∙ ap (λ (x : OwnNode). x.next) (one_of (λ (x : OwnNode). x.node) t.nodes going.prepared.has.nodes_differ own.0 n own.1 c same))
      (λ met.
      let was = known_here (λ u h. WasThere M h word value) met choice r in
      let to = sym (was.shape ∙ admitted.shape) in
      let before = was.rooted n.node (subst (λ s. IsNode s n.node) to (unplaced_node n c).exists) (is ∙ ap (λ s. address s (node_next n.node)) to) in
      let fact : Fact = record { node = n.node; structure = before.0; key = None; value = None; next = None } in
      let now = was.facts fact (record { placed = before.1; key = tt; value = tt; next = tt }) in
      absurd (none_some (placed_under m choice n.node) before.0
      (known_here (λ u h. h.placed n.node ≡ None) (unplaced_node n c).unplaced choice r) now.placed))
      first

  -- so the word stands for what was stored, where the transaction writes it
  written : (n : OwnNode) → Contains t.nodes n → is_written (writes_in t) (address (shape_in t) (node_next n.node)) ≡ true
      → wins_ready m (attempt_in t) ≡ true → (choice : List Bool) → Resolves m choice
      → logical_value m choice (address (shape_of m) (node_next n.node)) ≡ n.next
  written n c is won choice r =
      let a = attempt_in t in
      let held = going.prepared.has in
      let slot = written_found (writes_in t) (address (shape_in t) (node_next n.node)) is in
      let w = slot.0 in
      let here = slot_at t held m kept admitted.shape pass acts.at w slot.1 in
      let own = own_step t (InstallsFrom a w) here.2.installed in
      let s = own.2.0 in
      let from = own.2.2 in
      let counted = subst (IsCounted (shape_of m)) (sym from.0.left.there) (subst (λ x. IsCounted x w.word) (sym admitted.shape) here.2.counted) in
      let value = installed_value m kept pass t.pass.view acts.at a (is_present t held m kept admitted.shape pass acts.at) (in_preparation won)
      own.0 own.1 s own.2.1 (record { kind = from.0.kind; attempt = from.0.attempt; won = from.0.won }) counted
      (subst MayBeChanged (sym from.1) here.2.from) choice in
      let first = going.first w.word w.old
      (All-contains (λ (x : Write). first_content t.reads (writes_in t) x.word ≡ Some x.old) (writes_in t) w held.replaced slot.1) in
      ap (logical_value m choice) (sym (from.0.left.there ∙ slot.2 ∙ next_word n.node)) ∙ value ∙ ap value_of from.1
      ∙ found_stored n c w.word (value_of w.old) slot.2 first choice r

  pub next_stands : (n : OwnNode) → Contains t.nodes n → wins_ready m (attempt_in t) ≡ true → (choice : List Bool) → Resolves m choice
      → logical_value m choice (address (shape_of m) (node_next n.node)) ≡ n.next
  next_stands n c won choice r = ⊎_elim
      (λ is. written n c is won choice r)
      (λ none. unwritten n c none choice)
      (cases_Bool (is_written (writes_in t) (address (shape_in t) (node_next n.node))))
