-- A cleanup of a committed transaction may be made once its reason was found.
use Rattle.std.proofs.Common.{◌≡◌, ◌<◌, ◌≤◌, ◌==◌, ℕ, Bool, true, false, List, None, Some, IfSome, IsTrue, refl, sym, ap, ◌∙◌, subst, ⊎_elim, arith, eqb-true, ne_eqb}
use Rattle.std.specs.Prelude.{not}
use Rattle.std.proofs.lemmas.Bool.{and_parts, false≢true}
use Rattle.std.proofs.lemmas.List.Elements.{All-weaker}
use Rattle.std.specs.List.{All}
use Rattle.md_words.specs.declared.shape.Shape.{Shape}
use Rattle.md_words.specs.Content.{count_of, is_even, value_of}
use Rattle.md_words.specs.Layout.{Exists, address}
use Rattle.md_words.specs.Link.{link_value}
use Rattle.md_words.specs.Place.{Place, base_word, bucket_head, desc_status, is_counted, node_key, node_next, node_value, queue_head, queue_tail, read_content, read_word, slot_new, slot_old, slot_word}
use Rattle.md_words.specs.PlaceAt.{IsCounted, place_at}
use Rattle.md_words.proofs.Places.{address-place_at, address_below, place_at-address}
use Rattle.md_machine.specs.declared.attempt.Write.{Write}
use Rattle.md_machine.specs.declared.certificate.Change.{Change}
use Rattle.md_machine.specs.declared.certificate.Fact.{Fact}
use Rattle.md_machine.specs.declared.node.Structure.{Structure}
use Rattle.md_machine.specs.declared.node.Structure.TheVariants.{Bucket, Queue}
use Rattle.md_machine.specs.declared.pass.PassView.{PassView}
use Rattle.md_machine.specs.Event.{Acts, exchange}
use Rattle.md_machine.specs.LogicalHeap.{Holds, LogicalHeap, is_settled}
use Rattle.md_machine.specs.Machine.{Machine, shape_of}
use Rattle.md_machine.specs.Meaning.{Lawful, Meaning}
use Rattle.md_machine.specs.Own.{MayExchangeAt}
use Rattle.md_machine.specs.Resolution.{Resolves, always_placed, logical_heap, placed_under}
use Rattle.md_machine.specs.Trail.{Meets, SomeStepOf}
use Rattle.md_machine.specs.events.Exchange.{FoundFact, FoundNext, after_exchange}
use Rattle.md_machine.proofs.lists.Options.{some_same}
use Rattle.md_rule.specs.Admitted.{Admitted}
use Rattle.md_rule.specs.Steps.{May}
use Rattle.md_rule.specs.Views.{Origin}
use Rattle.md_rule.proofs.Moves.{is_meant}
use Rattle.md_nbtc_law.specs.declared.seen.Cleanup.{Cleanup}
use Rattle.md_nbtc_law.specs.declared.seen.Cleanup.TheVariants.{MoveTail, Unlink}
use Rattle.md_nbtc_law.specs.declared.seen.TheConstants.{WORN}
use Rattle.md_nbtc_law.specs.Cleaning.{cleanup_node, cleanup_value, cleanup_word}
use Rattle.md_nbtc_law.specs.Deciding.{IsAfterCommit, MayClean}
use Rattle.md_nbtc_law.specs.Ending.{HasEntry, IsFactThen, IsPlacedForThen, IsPlacedThen, IsReadyCleanup, IsReason, names_node}
use Rattle.md_nbtc_law.specs.Seeing.{IsNextOf}
use Rattle.md_nbtc_law.specs.State.{TxnState, shape_in}
use Rattle.md_nbtc_law.proofs.tidyings.PlacedNow.{placed_now}

-- a counted word may be exchanged, if it is the next word of no node but one that is always placed
exchange_at : (m : Machine) (p : Place) → IsTrue (is_counted p) → ((node : ℕ) → p ≡ node_next node → always_placed m node ≡ true) → MayExchangeAt m p
exchange_at m base_word c next = absurd (false≢true c)
exchange_at m (bucket_head map bucket) c next = tt
exchange_at m (queue_head queue) c next = tt
exchange_at m (queue_tail queue) c next = tt
exchange_at m (node_key node) c next = absurd (false≢true c)
exchange_at m (node_value node) c next = absurd (false≢true c)
exchange_at m (node_next node) c next = next node refl
exchange_at m (desc_status desc) c next = absurd (false≢true c)
exchange_at m (read_word desc i) c next = absurd (false≢true c)
exchange_at m (read_content desc i) c next = absurd (false≢true c)
exchange_at m (slot_word desc j) c next = absurd (false≢true c)
exchange_at m (slot_old desc j) c next = absurd (false≢true c)
exchange_at m (slot_new desc j) c next = absurd (false≢true c)

-- an even count below the worn ones leaves room
pub even_room : (count : ℕ) → is_even count ≡ true → count < WORN → count ≤ 4294967290
unfolding is_even
even_room count even less = let e = eqb-true _ 0 even in omega (arith, e, less)

-- a marked value isn't 0, and a value of a queue's node is settled if it isn't
not_zero : (value : ℕ) → (value ≡ 0 → ⊥) → IsTrue (not (value == 0))
not_zero value some = ap not (ne_eqb value 0 some)

module _ (M : Meaning) (lawful : Lawful M) (t : TxnState) (e : HasEntry t) (view : PassView) (after : IsAfterCommit t e view) (w : Write) (c : Cleanup) (ready : IsReadyCleanup M t e w c)
    (next : ℕ) (reason : IsReason c next) (found : SomeStepOf view (λ s. Meets (address (shape_in t) (node_next (cleanup_node c))) next s × (s.placed ≡ true))) where
  abbrev S : Shape
  S = shape_in t

  abbrev node : ℕ
  node = cleanup_node c

  abbrev value : ℕ
  value = value_of next

  abbrev to : ℕ
  to = cleanup_value c value

  next_counted : IsCounted S (address S (node_next node))
  next_counted = (address_below S (node_next node) ready.exists, subst (λ p. IsTrue (is_counted p)) (sym (place_at-address S (node_next node) ready.exists)) refl)

  found_next : FoundNext S view node value
  found_next = (next, refl, reason.even, found)

  fact_found : (f : Fact) → IsFactThen t e node value f → FoundFact S view f
  fact_found f is = ⊎_elim
      (λ (none : f.next ≡ None). subst (λ o. IfSome o (λ v. FoundNext S view f.node v)) (sym none) tt)
      (λ some. subst (λ o. IfSome o (λ v. FoundNext S view f.node v)) (sym some.1) (subst (λ n. FoundNext S view n value) (sym some.0) found_next))
      is.of_next

  module _ (m : Machine) (adm : Admitted M t.field.origin m) (pass : ℕ) (acts : Acts m pass view) where
    now : (n : ℕ) (s : Structure) → IsPlacedThen t e n s → (always_placed m n ≡ true) × ((choice : List Bool) → Resolves m choice → placed_under m choice n ≡ Some s)
    now n s = placed_now M t e view after m adm pass acts n s

    -- in the structure of the node the value is a settled one
    settled : (x : Cleanup) → IsReason x next → IsPlacedForThen t e x → (s : Structure) → (choice : List Bool) → Resolves m choice → placed_under m choice (cleanup_node x) ≡ Some s → IsTrue (is_settled s value)
    settled (Unlink prev n) r of (Bucket map bucket) choice res is = r.fits
    settled (Unlink prev n) r of (Queue queue) choice res is = not_zero value r.some
    settled (MoveTail tail from link) r of s choice res is =
        let same : Queue of.0 ≡ s = some_same (Queue of.0) s (sym ((now from (Queue of.0) of.1).1 choice res) ∙ is) in
        subst (λ (y : Structure). IsTrue (is_settled y value)) same (not_zero value r.some)

    fact_holds : (f : Fact) → IsFactThen t e node value f → (choice : List Bool) → Resolves m choice → Holds (logical_heap m choice) f
    fact_holds f is choice res =
        let placed = now f.node f.structure is.placed in
        let h = logical_heap m choice in record {
          placed = placed.1 choice res;
          key = subst (λ o. IfSome o (λ k. h.words.key_of f.node ≡ k)) (sym is.key) tt;
          value = subst (λ o. IfSome o (λ v. h.words.value_of_node f.node ≡ v)) (sym is.value) tt;
          next = ⊎_elim
              (λ (none : f.next ≡ None). subst (λ o. IfSome o (Next h f)) (sym none) tt)
              (λ some. subst (λ o. IfSome o (Next h f)) (sym some.1)
              (let fixed : IsTrue (is_settled f.structure value) = settled c reason ready.of f.structure choice res (subst (λ n. placed_under m choice n ≡ Some f.structure) some.0 (placed.1 choice res)) in (
                subst (λ n. h.words.value (address (shape_of m) (node_next n)) ≡ value) (sym some.0)
                    ((is_meant M t.field.origin lawful m adm).settled pass view acts.at node f.structure
                    (λ other r. subst (λ n. placed_under m other n ≡ Some f.structure) some.0 (placed.1 other r))
                    found.0 found.1 found.2.0 found.2.1 next
                    (record {
                      counted = subst (λ (s : Shape). IsCounted s (address s (node_next node))) (sym adm.shape) next_counted;
                      even = reason.even;
                      met = subst (λ (s : Shape). Meets (address s (node_next node)) next found.2.0) (sym adm.shape) found.2.2.0;
                      flagged = λ _ _. found.2.2.1;
                    })
                    fixed choice res),
                fixed,
              )))
              is.of_next;
        }
      where
        Next : LogicalHeap → Fact → ℕ → Type 0
        Next h f v = (h.words.value (address h.words.shape (node_next f.node)) ≡ v) × IsTrue (is_settled f.structure v)

    place : MayExchangeAt m (place_at (shape_of m) (cleanup_word c))
    place = subst (λ (s : Shape). MayExchangeAt m (place_at s (cleanup_word c))) (sym adm.shape)
        (exchange_at m (place_at S (cleanup_word c)) ready.counted.1
        (λ n is. let at = address-place_at S (cleanup_word c) ready.counted.0 in
        let there : IsNextOf t (cleanup_word c) n = (subst (Exists S) is at.0, sym at.1 ∙ ap (address S) is) in
        let placed = ready.place n there in
        (now n placed.0 placed.1).0))

  module _ (held : ℕ) (names : names_node c held ≡ true) (room : count_of held < WORN) where
    held_parts : (is_even (count_of held) ≡ true) × ((value_of held == link_value node false) ≡ true)
    held_parts = and_parts (is_even (count_of held)) (value_of held == link_value node false) names

    pub may_tidy : May M t.field.origin (λ pass. exchange pass (cleanup_word c) held to) view
    may_tidy m adm pass acts =
        let then_tidy = ready.tidies value reason.fits in
        let change : ℕ → Change = λ old. record { word = cleanup_word c; old = old; new = to } in (
          after_exchange m pass view (cleanup_word c) held to,
          (
            view,
            acts,
            record {
              counted = subst (λ (s : Shape). IsCounted s (cleanup_word c)) (sym adm.shape) ready.counted;
              place = place m adm pass acts;
              from_even = record { even = held_parts.0; room = even_room (count_of held) held_parts.0 room };
              tidy = record {
                tidy = then_tidy.tidy;
                bare = then_tidy.bare;
                change = then_tidy.change ∙ ap change (sym (eqb-true (value_of held) (link_value node false) held_parts.1));
                tidies = subst (λ (s : Shape). M.tidies s then_tidy.tidy) (sym adm.shape) then_tidy.tidies;
                found = subst (λ (s : Shape). All (FoundFact s view) then_tidy.tidy.facts) (sym adm.shape)
                    (All-weaker (IsFactThen t e node value) (FoundFact S view) fact_found then_tidy.tidy.facts then_tidy.facts);
                facts = λ won choice res. All-weaker (IsFactThen t e node value) (Holds (logical_heap m choice)) (λ f is. fact_holds m adm pass acts f is choice res) then_tidy.tidy.facts then_tidy.facts;
              };
            },
            refl,
          ),
        )

-- so a cleanup may be made that may be cleaned
pub may_exchange : (M : Meaning) (lawful : Lawful M) (o : Origin) (view : PassView) (c : Cleanup) → MayClean M o view c → (held next : ℕ) → names_node c held ≡ true → count_of held < WORN → IsReason c next
    → SomeStepOf view (λ s. Meets (address o.shape (node_next (cleanup_node c))) next s × (s.placed ≡ true)) → May M o (λ pass. exchange pass (cleanup_word c) held (cleanup_value c (value_of next))) view
may_exchange M lawful o view c may held next names room reason found =
    subst (λ (x : Origin). May M x (λ pass. exchange pass (cleanup_word c) held (cleanup_value c (value_of next))) view) may.origin
    (may_tidy M lawful may.t may.entry view may.after may.write c may.ready next reason
    (subst (λ (x : Origin). SomeStepOf view (λ s. Meets (address x.shape (node_next (cleanup_node c))) next s × (s.placed ≡ true))) (sym may.origin) found) held names room)
