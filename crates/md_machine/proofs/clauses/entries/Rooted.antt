-- The words of a kept entry's slots are no next words of unplaced nodes, after every event.
use Rattle.std.proofs.Common.{◌≡◌, ◌==◌, ℕ, Bool, true, false, List, [], ◌∷◌, ◌++◌, length, map, refl, sym, ap, ◌∙◌, subst, ⊎_elim, eq-eqb, Option, Some, None, arith}
use Rattle.std.proofs.lemmas.Bool.{cond_both, true≢false}
use Rattle.std.proofs.lemmas.List.{length-map, map-append}
use Rattle.std.specs.Prelude.{All}
use Rattle.std.proofs.lemmas.List.Elements.{All-weaker}
use Rattle.md_words.specs.declared.shape.Shape.{Shape}
use Rattle.md_words.specs.Layout.{IsNode, address}
use Rattle.md_words.specs.Place.{node_next}
use Rattle.md_history.specs.declared.entries.Fate.TheVariants.{Undecided}
use Rattle.md_history.specs.Front.{AllStay}
use Rattle.md_history.specs.History.{AllCommittedSound, IsResolution}
use Rattle.md_history.specs.ResolutionLaws.{narrows, resolution-last, resolution-length}
use Rattle.md_machine.specs.declared.attempt.HistoryEntry.{HistoryEntry}
use Rattle.md_machine.specs.declared.attempt.Write.{Write}
use Rattle.md_machine.specs.declared.certificate.NewNode.{NewNode}
use Rattle.md_machine.specs.declared.node.Structure.{Structure}
use Rattle.md_machine.specs.declared.opening.Opening.{Opening}
use Rattle.md_machine.proofs.chain.Agree.{put_stays, wholes_shape}
use Rattle.md_machine.proofs.chain.Entry.{puts, wholes_placed}
use Rattle.md_machine.proofs.chain.Values.{else_assoc, placed_last, placed_without}
use Rattle.md_machine.proofs.events.MoveFacts.{Enters, MoveFacts}
use Rattle.md_machine.proofs.lists.Options.{none_some}
use Rattle.md_machine.specs.Certified.{after_wholes, all_nodes}
use Rattle.md_machine.specs.LogicalHeap.{IsNoUnplacedNext, IsPlaced, LogicalHeap, put}
use Rattle.md_machine.specs.Machine.{Machine}
use Rattle.md_machine.specs.Resolution.{Resolves, entries_of, kept_structure, logical_heap, or_else, placed_under, structure_in}
use Rattle.md_machine.specs.events.Ready.{history_entry}

-- something is true of each entry that a choice keeps
abbrev pub EachKept : (HistoryEntry → Type 0) → List HistoryEntry → List Bool → Type 0
EachKept P (e ∷ es) (true ∷ choice) = P e × EachKept P es choice
EachKept P (e ∷ es) (false ∷ choice) = EachKept P es choice
EachKept P _ _ = Unit {0}

-- the word of each slot of an entry is the next word of no node but a placed one
abbrev pub IsRooted : LogicalHeap → HistoryEntry → Type 0
IsRooted h e = All (λ w. IsNoUnplacedNext h w.word) e.writes

-- in each resolution each entry that it keeps is rooted
abbrev pub EntriesRooted : Machine → Type 0
EntriesRooted m = (choice : List Bool) → Resolves m choice
    → EachKept (IsRooted (logical_heap m choice)) m.history choice

-- each of two structures is one of both
else_first : (x y : Option Structure) (s : Structure) → x ≡ Some s → (t : Structure) × (or_else x y ≡ Some t)
else_first None y s e = absurd (none_some None s refl e)
else_first (Some r) y s e = (r, refl)

else_second : (x y : Option Structure) (s : Structure) → y ≡ Some s → (t : Structure) × (or_else x y ≡ Some t)
else_second None y s e = (s, e)
else_second (Some r) y s e = (r, refl)

-- what new nodes place was placed, or is one of them
puts_some : (f : ℕ → Option Structure) (ns : List NewNode) (node : ℕ) (s : Structure) → puts f ns node ≡ Some s
    → (t : Structure) × (or_else (f node) (structure_in (map (λ n. record { node = n.node; structure = n.structure }) ns) node) ≡ Some t)
puts_some f [] node s e = else_first (f node) None s e
puts_some f (n ∷ ns) node s e =
    let rest = structure_in (map (λ (k : NewNode). record { node = k.node; structure = k.structure }) ns) node in
    cond_both (n.node == node) (Some n.structure) rest (λ o. (t : Structure) × (or_else (f node) o ≡ Some t))
    (λ _. else_second (f node) (Some n.structure) n.structure refl)
    (λ other. let r = puts_some (put f n.node (Some n.structure)) ns node s e in (
      r.0,
      sym (ap (λ o. or_else o rest)
          (put_stays f n.node (Some n.structure) node (f node) refl (λ same. absurd (apart other same)))) ∙ r.1,
    ))
  where
    apart : (n.node == node) ≡ false → node ≡ n.node → ⊥
    apart other same = true≢false (sym (eq-eqb n.node node (sym same)) ∙ other)

-- what holds of each kept entry, weaker, and with one more
each_kept : (P Q : HistoryEntry → Type 0) → ((e : HistoryEntry) → P e → Q e)
    → (es : List HistoryEntry) (choice : List Bool) → EachKept P es choice → EachKept Q es choice
each_kept P Q f [] choice h = tt
each_kept P Q f (e ∷ es) [] h = tt
each_kept P Q f (e ∷ es) (true ∷ choice) h = (f e h.0, each_kept P Q f es choice h.1)
each_kept P Q f (e ∷ es) (false ∷ choice) h = each_kept P Q f es choice h

each_last : (Q : HistoryEntry → Type 0) (es : List HistoryEntry) (choice : List Bool) (x : HistoryEntry) (kept : Bool) → length choice ≡ length es
    → (kept ≡ true → Q x) → EachKept Q es choice → EachKept Q (es ++ x ∷ []) (choice ++ kept ∷ [])
each_last Q [] [] x true l new h = (new refl, tt)
each_last Q [] [] x false l new h = tt
each_last Q [] (k ∷ ks) x kept l new h = absurd (omega (arith, l))
each_last Q (e ∷ es) [] x kept l new h = absurd (omega (arith, l))
each_last Q (e ∷ es) (true ∷ ks) x kept l new h = (h.0, each_last Q es ks x kept (omega (arith, l)) new h.1)
each_last Q (e ∷ es) (false ∷ ks) x kept l new h = each_last Q es ks x kept (omega (arith, l)) new h

-- a word that is no unplaced node's is none where more is placed
more_placed : (h k : LogicalHeap) (word : ℕ) → k.words.shape ≡ h.words.shape → ((node : ℕ) → IsPlaced h node → IsPlaced k node)
    → IsNoUnplacedNext h word → IsNoUnplacedNext k word
more_placed h k word shape more none node exists e =
    more node (none node (subst (λ (s : Shape). IsNode s node) shape exists) (subst (λ (s : Shape). word ≡ address s (node_next node)) shape e))

rooted_more : (h k : LogicalHeap) (e : HistoryEntry) → k.words.shape ≡ h.words.shape → ((node : ℕ) → IsPlaced h node → IsPlaced k node)
    → IsRooted h e → IsRooted k e
rooted_more h k e shape more = All-weaker (λ (w : Write). IsNoUnplacedNext h w.word) (λ (w : Write). IsNoUnplacedNext k w.word)
    (λ w. more_placed h k w.word shape more) e.writes

module _ (m n : Machine) (v : MoveFacts m n) (fated : length m.fates ≡ length m.history) (stay : AllStay m.fates n.fates)
    (sound : AllCommittedSound (entries_of n.history) n.fates) (was : EntriesRooted m) where
  fits : length m.fates ≡ length (entries_of m.history)
  fits = fated ∙ sym (length-map m.history (λ (x : HistoryEntry). x.entry))

  same_shape : n.opening.shape ≡ m.opening.shape
  same_shape = ap (λ (o : Opening). o.shape) v.opening

  -- where a choice places a node by these entries
  abbrev places : List HistoryEntry → List Bool → ℕ → Option Structure
  places es choice node = or_else (structure_in m.opening.placed node) (kept_structure es choice node)

  places_now : (choice : List Bool) (node : ℕ) → placed_under n choice node ≡ places n.history choice node
  places_now choice node = ap (λ (o : Opening). or_else (structure_in o.placed node) (kept_structure n.history choice node)) v.opening

  -- no entry joins, and there are no more resolutions
  same_rooted : n.history ≡ m.history → EntriesRooted n
  same_rooted same choice r =
      let resolved = narrows (entries_of m.history) m.fates n.fates choice fits stay
      (subst (λ es. AllCommittedSound (entries_of es) n.fates) same sound) (subst (λ es. IsResolution (entries_of es) n.fates choice) same r) in
      subst (λ es. EachKept (IsRooted (logical_heap n choice)) es choice) (sym same)
      (each_kept (IsRooted (logical_heap m choice)) (IsRooted (logical_heap n choice))
      (λ e. rooted_more (logical_heap m choice) (logical_heap n choice) e same_shape
      (λ node x. (x.0, places_now choice node ∙ ap (λ es. places es choice node) same ∙ x.1)))
      m.history choice (was choice resolved))

  -- an entry joins, with the nodes of its certificates
  entered_rooted : Enters m n v.p v.word v.new → EntriesRooted n
  entered_rooted x choice r =
      let e = history_entry m x.hand x.certificates x.count in
      let more = map-append (λ (y : HistoryEntry). y.entry) m.history (e ∷ []) in
      let r' : IsResolution (entries_of (m.history ++ e ∷ [])) (m.fates ++ Undecided ∷ []) choice =
      subst (λ es. IsResolution (entries_of es) (m.fates ++ Undecided ∷ []) choice) x.history
      (subst (λ fs. IsResolution (entries_of n.history) fs choice) x.fates r) in
      let last = resolution-last (entries_of m.history) m.fates e.entry choice fits
      (subst (λ es. IsResolution es (m.fates ++ Undecided ∷ []) choice) more r') in
      let first = last.first in
      let long : length first ≡ length m.history = resolution-length (entries_of m.history) m.fates first last.of_first ∙ length-map m.history
      (λ (y : HistoryEntry). y.entry) in
      let now : (node : ℕ) → placed_under n choice node ≡ places (m.history ++ e ∷ []) (first ++ last.kept ∷ []) node = λ node.
      places_now choice node ∙ ap (λ es. places es choice node) x.history ∙ ap (λ c. places (m.history ++ e ∷ []) c node) last.joined in
      let h = logical_heap m first in
      subst (λ es. EachKept (IsRooted (logical_heap n choice)) es choice) (sym x.history)
      (subst (EachKept (IsRooted (logical_heap n choice)) (m.history ++ e ∷ [])) (sym last.joined)
      (each_last (IsRooted (logical_heap n choice)) m.history first e last.kept long
      (λ kept. rooted_more (after_wholes h x.certificates) (logical_heap n choice) e (same_shape ∙ sym (wholes_shape h x.certificates))
      (λ node y. let p = puts_some h.placed (all_nodes x.certificates) node y.0 (sym (ap (λ f. f node) (wholes_placed h x.certificates)) ∙ y.1) in
      (p.0, now node ∙ ap (λ b. places (m.history ++ e ∷ []) (first ++ b ∷ []) node) kept ∙ with_entry e first long node ∙ p.1))
      (x.rooted first last.of_first))
      (each_kept (IsRooted h) (IsRooted (logical_heap n choice))
      (λ z. rooted_more h (logical_heap n choice) z same_shape (λ node y. let p = still_placed e first long last.kept node y in (p.0, now node ∙ p.1)))
      m.history first (was first last.of_first))))
    where
      with_entry : (e : HistoryEntry) (first : List Bool) → length first ≡ length m.history → (node : ℕ)
          → places (m.history ++ e ∷ []) (first ++ true ∷ []) node ≡ or_else (placed_under m first node) (structure_in e.placed node)
      with_entry e first long node = ap (or_else (structure_in m.opening.placed node)) (placed_last m.history first e node long)
          ∙ sym (else_assoc (structure_in m.opening.placed node) (kept_structure m.history first node) (structure_in e.placed node))

      still_placed : (e : HistoryEntry) (first : List Bool) → length first ≡ length m.history → (kept : Bool) (node : ℕ) → IsPlaced (logical_heap m first) node
          → (s : Structure) × (places (m.history ++ e ∷ []) (first ++ kept ∷ []) node ≡ Some s)
      still_placed e first long true node y = let p = else_first (placed_under m first node) (structure_in e.placed node) y.0 y.1 in
          (p.0, with_entry e first long node ∙ p.1)
      still_placed e first long false node y = (y.0, ap (or_else (structure_in m.opening.placed node)) (placed_without m.history first e node long) ∙ y.1)

  pub rooted-kept : EntriesRooted n
  rooted-kept = ⊎_elim (λ x. same_rooted x.history) (λ o. ⊎_elim entered_rooted (λ x. same_rooted x.history) o) v.fates
