-- An operation may be ended by a certificate with one change of its own, behind its tidy changes.
use Rattle.std.proofs.Common.{◌≡◌, ◌++◌, ℕ, true, false, List, [], ◌∷◌, map, Some, None, sym, ap, ◌∙◌, subst, is_some}
use Rattle.std.proofs.lemmas.Bool.{true≢false}
use Rattle.std.proofs.lemmas.List.Elements.{All-contains, All-cons, All-nil, Contains-append_right}
use Rattle.std.specs.List.{All, Contains}
use Rattle.md_words.specs.Layout.{address}
use Rattle.md_words.specs.Place.{node_next}
use Rattle.md_history.specs.declared.acts.Op.{Op}
use Rattle.md_history.specs.declared.acts.Reply.{Reply}
use Rattle.md_machine.specs.declared.attempt.Write.{Write}
use Rattle.md_machine.specs.declared.certificate.Certificate.{Certificate}
use Rattle.md_machine.specs.declared.certificate.Change.{Change}
use Rattle.md_machine.specs.declared.certificate.Fact.{Fact}
use Rattle.md_machine.specs.declared.certificate.NewNode.{NewNode}
use Rattle.md_machine.specs.declared.certificate.TidyChange.{TidyChange}
use Rattle.md_machine.specs.declared.certificate.WordValue.{WordValue}
use Rattle.md_machine.specs.Certified.{TidiesStandBy, after_wholes, first_content, is_written, whole_nodes}
use Rattle.md_machine.specs.LogicalHeap.{Holds}
use Rattle.md_machine.specs.Meaning.{Meaning}
use Rattle.md_machine.proofs.lists.Rising.{here, map_in}
use Rattle.md_nbtc_law.specs.declared.seen.Kind.TheVariants.{Critical}
use Rattle.md_nbtc_law.specs.declared.seen.Seen.{Seen}
use Rattle.md_nbtc_law.specs.declared.slots.Slot.{Slot}
use Rattle.md_nbtc_law.specs.Calls.{new_slot, with_change}
use Rattle.md_nbtc_law.specs.Course.{IsStoredNode, MayEnd}
use Rattle.md_nbtc_law.specs.Known.{IsLater, Known, found_by}
use Rattle.md_nbtc_law.specs.Prepared.{IsPrepared}
use Rattle.md_nbtc_law.specs.Seeing.{Gave}
use Rattle.md_nbtc_law.specs.State.{TxnState, seen_content, shape_in, writes_in}
use Rattle.md_nbtc_law.specs.Tidied.{HasTidied, tidied}
use Rattle.md_nbtc_law.proofs.preparing.Later.{known_later}
use Rattle.md_nbtc_law.proofs.structures.Exchanging.{HasExchanged, changed_own, changed_plainly, installed}
use Rattle.md_nbtc_law.proofs.structures.NodesKnown.{shape_later}
use Rattle.md_nbtc_law.proofs.structures.Tidying.{bare_nodes}

-- what an exchange that is a part of the transaction leaves
module _ (M : Meaning) (t u : TxnState) (word : ℕ) (from : Seen) (to : ℕ) (seen : Seen) where
  pub exchanged_hand : HasExchanged M t word from to Critical u seen → u.hand ≡ with_change t.hand word from.value to
  exchanged_hand (changed_own e) = ap (λ x. x.hand) e.state_is
  exchanged_hand (installed e) = ap (λ x. x.hand) e.state_is
  exchanged_hand (changed_plainly e) = absurd (true≢false e.plain)

  pub exchanged_first : HasExchanged M t word from to Critical u seen → IsPrepared u → Gave t word from → from.own ≡ false → first_content u.reads (writes_in u) word ≡ Some (seen_content from)
  exchanged_first (changed_own e) prepared gave other = absurd (true≢false (sym (gave.own ∙ e.written) ∙ other))
  exchanged_first (installed e) prepared gave other =
      let slot = new_slot t word from to in
      All-contains (λ (x : Write). first_content u.reads (writes_in u) x.word ≡ Some x.old) (writes_in u) slot.write prepared.has.replaced
      (subst (λ (x : TxnState). Contains (writes_in x) slot.write) (sym e.state_is)
      (map_in (λ (s : Slot). s.write) (t.slots ++ slot ∷ []) slot (Contains-append_right t.slots (slot ∷ []) slot (here slot []))))
  exchanged_first (changed_plainly e) prepared gave other = absurd (true≢false e.plain)

-- a certificate with one change
abbrev pub changing : Op → Reply → List TidyChange → List WordValue → Change → List NewNode → List Fact → Certificate
changing op reply ts words change ns facts = record { op = op; reply = reply; tidy = ts; recorded = words; changes = change ∷ []; nodes = ns; facts = facts }

module _ (M : Meaning) (t : TxnState) (cs : List Certificate) (ts : List TidyChange) (has : HasTidied M t cs ts) (u : TxnState) (later : IsLater t u)
    (op : Op) (reply : Reply) (words : List WordValue) (change : Change) (ns : List NewNode) (facts : List Fact) where
  abbrev c : Certificate
  c = changing op reply ts words change ns facts

  nodes_are : whole_nodes c ≡ ns
  nodes_are = ap (λ l. l ++ ns) (bare_nodes ts has.bare)

  pub may_end_changing : M.certifies (shape_in u) (changing op reply ts words change ns facts)
      → u.hand.changes ≡ t.hand.changes ++ change ∷ []
      → map (λ (n : NewNode). n.node) ns ≡ u.hand.stored
      → All (IsStoredNode u) ns
      → All (λ (n : NewNode). is_written (writes_in u) (address (shape_in u) (node_next n.node)) ≡ false) ns
      → All (λ (w : WordValue). is_some (first_content u.reads (writes_in u) w.word) ≡ true) words
      → Known M u (λ v h. All (λ (w : WordValue). (tidied (found_by v h) cs ts).words.value w.word ≡ w.value) words)
      → Known M u (λ v h. (tidied (found_by v h) cs ts).words.value change.word ≡ change.old)
      → Known M u (λ v h. All (Holds (tidied h cs ts)) facts)
      → Known M u (λ v h. All (λ (n : NewNode). (tidied h cs ts).placed n.node ≡ None) ns)
      → MayEnd M u cs (changing op reply ts words change ns facts)
  may_end_changing certifies changes order nodes unchanged found values old hold fresh = record {
    certifies = certifies;
    tidies = subst (λ s. All (M.tidies s) ts) (sym (shape_later t u later)) has.tidies;
    changes = ap (λ l. l ++ change ∷ []) has.changes ∙ sym changes;
    order = ap (map (λ (n : NewNode). n.node)) nodes_are ∙ order;
    nodes = subst (All (IsStoredNode u)) (sym nodes_are) nodes;
    unchanged = subst (All (λ (n : NewNode). is_written (writes_in u) (address (shape_in u) (node_next n.node)) ≡ false)) (sym nodes_are) unchanged;
    recorded = found;
    stand = λ v over prepared h of. record {
      tidies = known_later M (λ x k. TidiesStandBy (after_wholes (found_by x k) cs) (after_wholes k cs) ts) t u later has.stand v over prepared h of;
      stands = record {
        recorded = values v over prepared h of;
        old = All-cons (λ (x : Change). (tidied (found_by v h) cs ts).words.value x.word ≡ x.old) change [] (old v over prepared h of)
            (All-nil (λ (x : Change). (tidied (found_by v h) cs ts).words.value x.word ≡ x.old));
        facts = hold v over prepared h of;
        fresh = fresh v over prepared h of;
      };
    };
  }

-- the word is an own one then, with the new value, and no node is taken
module _ (M : Meaning) (t u : TxnState) (word : ℕ) (from : Seen) (to : ℕ) (seen : Seen) where
  pub exchanged_own : HasExchanged M t word from to Critical u seen → (seen.own ≡ true) × (seen.value ≡ to)
  exchanged_own (changed_own e) = (ap (λ (s : Seen). s.own) e.seen_is, ap (λ (s : Seen). s.value) e.seen_is)
  exchanged_own (installed e) = (ap (λ (s : Seen). s.own) e.seen_is, ap (λ (s : Seen). s.value) e.seen_is)
  exchanged_own (changed_plainly e) = absurd (true≢false e.plain)

  pub exchanged_nodes : HasExchanged M t word from to Critical u seen → u.nodes ≡ t.nodes
  exchanged_nodes (changed_own e) = ap (λ (x : TxnState). x.nodes) e.state_is
  exchanged_nodes (installed e) = ap (λ (x : TxnState). x.nodes) e.state_is
  exchanged_nodes (changed_plainly e) = absurd (true≢false e.plain)
