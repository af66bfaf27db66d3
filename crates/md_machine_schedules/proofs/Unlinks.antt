-- The transactions of the worked unlink are certified: the remove by its one slot, and the doomed one by its read and
-- its slot, in what it sees, with facts of the heap as it is.
use Rattle.std.proofs.Common.{◌≡◌, ◌≢◌, Bool, List, [], ◌∷◌, refl, ap, sym, ◌∙◌, subst, true, false, None, Some, lit≤, arith}
use Rattle.std.specs.Prelude.{is_some}
use Rattle.std.specs.List.{All}
use Rattle.std.proofs.lemmas.List.Elements.{All-cons, All-head}
use Rattle.md_words.specs.declared.shape.Shape.{Shape}
use Rattle.md_words.specs.Content.{counted_word, value_of}
use Rattle.md_words.specs.Layout.{address, node_count, IsNode}
use Rattle.md_words.specs.Place.{node_next}
use Rattle.md_history.specs.Act.{act_of}
use Rattle.md_machine.specs.declared.attempt.Hand.{Hand}
use Rattle.md_machine.specs.declared.attempt.Read.{Read}
use Rattle.md_machine.specs.declared.attempt.Write.{Write}
use Rattle.md_machine.specs.declared.certificate.Certificate.{Certificate}
use Rattle.md_machine.specs.declared.certificate.Change.{Change}
use Rattle.md_machine.specs.declared.certificate.NewNode.{NewNode}
use Rattle.md_machine.specs.declared.certificate.WordValue.{WordValue}
use Rattle.md_machine.specs.declared.node.Structure.TheVariants.{Bucket}
use Rattle.md_machine.specs.declared.pass.PassView.{PassView}
use Rattle.md_machine.specs.Certified.{AllStandBy, CertifiedIn, HasWords, IsCertified, RecordsFound, after_wholes, as_found, first_content}
use Rattle.md_machine.specs.LogicalHeap.{Holds, IsNoUnplacedNext, LogicalHeap, changed}
use Rattle.md_machine.specs.Machine.{Machine, shape_of}
use Rattle.md_machine.specs.Meaning.{Meaning}
use Rattle.md_machine.specs.Own.{IsOwnNode}
use Rattle.md_machine.specs.Resolution.{InEveryResolution}
use Rattle.md_machine.specs.Trail.{SomeStepOf, StoresFor}
use Rattle.md_machine.proofs.chain.SameNodes.{next_alone}
use Rattle.md_machine_schedules.specs.Field.{bucket, small_shape}
use Rattle.md_machine_schedules.specs.Unlinking.{finds_first, first_link, first_marked, first_next, first_pair, misses_second, removes_first, unlinks_first}
use Rattle.md_machine_schedules.proofs.Walking.{none_differ, only_none, only_one}
use Rattle.md_machine_schedules.proofs.Certifying.{bucket_rooted, with_one}

-- the read of the first get, which no longer stands once the node is removed; the slots of the remove and of the unlink
abbrev pub first_read : Bool → Read
first_read stood = record { word = first_next; content = 0; stood = stood }

abbrev pub remove_slot : Write
remove_slot = record { slot = 0; word = first_next; old = 0; new = 1 }

abbrev pub unlink_slot : Write
unlink_slot = record { slot = 0; word = bucket; old = first_link; new = 0 }

-- what the three acts record was found: the remove records nothing
pub first_found : (stood : Bool) (writes : List Write) → RecordsFound (first_read stood ∷ []) writes finds_first
unfolding address node_count
first_found stood writes =
    only_one (λ (x : WordValue). is_some (first_content (first_read stood ∷ []) writes x.word) ≡ true) (record { word = first_next; value = 0 }) refl

pub remove_found : RecordsFound [] (remove_slot ∷ []) removes_first
remove_found = only_none (λ (x : WordValue). is_some (first_content [] (remove_slot ∷ []) x.word) ≡ true)

pub second_found : RecordsFound (first_read false ∷ []) (unlink_slot ∷ []) misses_second
unfolding address node_count
second_found =
    only_one (λ (x : WordValue). is_some (first_content (first_read false ∷ []) (unlink_slot ∷ []) x.word) ≡ true) (record { word = bucket; value = 0 }) refl

-- the hand of the transaction with two gets
abbrev pub with_both : Hand → Hand
with_both h = record h {
  acts = act_of finds_first.op finds_first.reply ∷ act_of misses_second.op misses_second.reply ∷ [];
}

-- the remove stands where the pair is in the node: its word is the next word of that node alone
pub remove_in : (heap : LogicalHeap) → heap.words.shape ≡ small_shape → Holds heap first_pair
    → CertifiedIn [] (remove_slot ∷ []) (removes_first ∷ []) heap
unfolding address value_of node_count
remove_in heap shape pair = record {
  stand = (
    tt,
    record {
      recorded = only_none (λ (x : WordValue). (as_found [] (remove_slot ∷ []) heap).words.value x.word ≡ x.value);
      old = only_one (λ (x : Change). (as_found [] (remove_slot ∷ []) heap).words.value x.word ≡ x.old) (record { word = first_next; old = 0; new = 1 }) refl;
      facts = only_one (Holds heap) first_pair pair;
      fresh = only_none (λ (n : NewNode). heap.placed n.node ≡ None);
    },
    tt,
  );
  words = only_none (HasWords heap.words);
  last = only_one (λ (w : Write). (after_wholes (as_found [] (remove_slot ∷ []) heap) (removes_first ∷ [])).words.value w.word ≡ w.new) remove_slot refl;
  rooted = only_one (λ (w : Write). IsNoUnplacedNext (after_wholes heap (removes_first ∷ [])) w.word) remove_slot
      (λ node exists at. (
        Bucket 0 1,
        ap heap.placed (next_alone small_shape node 1 (subst (λ (s : Shape). IsNode s node) shape exists) (lit≤ tt, lit≤ tt)
            (sym (at ∙ ap (λ (s : Shape). address s (node_next node)) shape)))
            ∙ pair.placed,
      ));
}

-- what the doomed transaction recorded and changed stands in its own view, and its facts hold in the heap as it is
pub unlink_in : (heap : LogicalHeap) → heap.words.shape ≡ small_shape → Holds heap first_pair → Holds heap first_marked
    → CertifiedIn (first_read false ∷ []) (unlink_slot ∷ []) (finds_first ∷ misses_second ∷ []) heap
unfolding address value_of counted_word node_count
unlink_in heap shape pair marked =
    let reads : List Read = first_read false ∷ [] in
    let own : LogicalHeap = as_found reads (unlink_slot ∷ []) heap in
    let cs : List Certificate = finds_first ∷ misses_second ∷ [] in
    record {
      stand = (
        tt,
        record {
          recorded = only_one (λ (x : WordValue). own.words.value x.word ≡ x.value) (record { word = first_next; value = 0 }) refl;
          old = only_none (λ (x : Change). own.words.value x.word ≡ x.old);
          facts = only_one (Holds heap) first_pair pair;
          fresh = only_none (λ (n : NewNode). heap.placed n.node ≡ None);
        },
        (
          (
            record {
              old = refl;
              facts = only_one (Holds heap) first_marked marked;
              fresh = only_none (λ (n : NewNode). heap.placed n.node ≡ None);
            },
            tt,
          ),
          record {
            recorded = only_one (λ (x : WordValue). (changed own.words unlinks_first.change).value x.word ≡ x.value) (record { word = bucket; value = 0 }) refl;
            old = only_none (λ (x : Change). (changed own.words unlinks_first.change).value x.word ≡ x.old);
            facts = only_none (Holds (record { words = changed heap.words unlinks_first.change; placed = heap.placed }));
            fresh = only_none (λ (n : NewNode). heap.placed n.node ≡ None);
          },
          tt,
        ),
      );
      words = only_none (HasWords heap.words);
      last = only_one (λ (w : Write). (after_wholes own cs).words.value w.word ≡ w.new) unlink_slot refl;
      rooted = only_one (λ (w : Write). IsNoUnplacedNext (after_wholes heap cs) w.word) unlink_slot (bucket_rooted (after_wholes heap cs) shape);
    }

-- in one heap these two don't stand one after another: the next word would be 0 and 1
pub two_in_no_heap : (h : LogicalHeap) → h.words.shape ≡ small_shape
    → ¬ AllStandBy h h (finds_first ∷ misses_second ∷ [])
two_in_no_heap h shape stand =
    let recorded : h.words.value first_next ≡ 0 =
    All-head (λ (x : WordValue). h.words.value x.word ≡ x.value) (record { word = first_next; value = 0 }) [] stand.1.recorded in
    let fact = All-head (Holds h) first_marked [] stand.2.0.0.facts in
    let marked : h.words.value (address h.words.shape (node_next 1)) ≡ 1 = fact.next.0 in
    omega (arith, recorded, ap (λ (s : Shape). h.words.value (address s (node_next 1))) (sym shape) ∙ marked)

two : (P : Certificate → Type 0) (c d : Certificate) → P c → P d → All P (c ∷ d ∷ [])
two P c d first second = All-cons P c (d ∷ []) first (only_one P d second)

module _ (M : Meaning) (m : Machine) (p : PassView) (h : Hand) where
  abbrev TidiesOf : Certificate → Type 0
  TidiesOf c = All (M.tidies (shape_of m)) c.tidy

  pub remove_certified : M.certifies (shape_of m) removes_first
      → InEveryResolution m (CertifiedIn [] (remove_slot ∷ []) (removes_first ∷ []))
      → IsCertified M m p (with_one h removes_first) (removes_first ∷ []) [] (remove_slot ∷ [])
  unfolding address
  remove_certified certifies chain =
      let slots : List Write = remove_slot ∷ [] in record {
        acts = refl;
        certifies = only_one (M.certifies (shape_of m)) removes_first certifies;
        tidies = only_one TidiesOf removes_first (only_none (M.tidies (shape_of m)));
        read = only_none (λ (r : Read). first_content [] slots r.word ≡ Some r.content);
        replaced = only_one (λ (w : Write). first_content [] slots w.word ≡ Some w.old) remove_slot refl;
        recorded = only_one (RecordsFound [] slots) removes_first remove_found;
        exactly = λ word. refl;
        nodes = only_none (λ (n : NewNode). IsOwnNode m p n.node);
        stored = only_none (λ (n : NewNode). SomeStepOf p (StoresFor h.attempt (address (shape_of m) (node_next n.node))));
        differ = none_differ (λ (n k : NewNode). n.node ≢ k.node);
        chain = chain;
      }

  pub unlink_certified : M.certifies (shape_of m) finds_first → M.certifies (shape_of m) misses_second
      → M.tidies (shape_of m) unlinks_first
      → InEveryResolution m (CertifiedIn (first_read false ∷ []) (unlink_slot ∷ []) (finds_first ∷ misses_second ∷ []))
      → IsCertified M m p (with_both h) (finds_first ∷ misses_second ∷ []) (first_read false ∷ []) (unlink_slot ∷ [])
  unfolding address node_count
  unlink_certified fin mis unl chain =
      let reads : List Read = first_read false ∷ [] in
      let slots : List Write = unlink_slot ∷ [] in
      record {
        acts = refl;
        certifies = two (M.certifies (shape_of m)) finds_first misses_second fin mis;
        tidies = two TidiesOf finds_first misses_second (only_none (M.tidies (shape_of m)))
            (only_one (M.tidies (shape_of m)) unlinks_first unl);
        read = only_one (λ (r : Read). first_content reads slots r.word ≡ Some r.content) (first_read false) refl;
        replaced = only_one (λ (w : Write). first_content reads slots w.word ≡ Some w.old) unlink_slot refl;
        recorded = two (RecordsFound reads slots) finds_first misses_second (first_found false slots) second_found;
        exactly = λ word. refl;
        nodes = only_none (λ (n : NewNode). IsOwnNode m p n.node);
        stored = only_none (λ (n : NewNode). SomeStepOf p (StoresFor h.attempt (address (shape_of m) (node_next n.node))));
        differ = none_differ (λ (n k : NewNode). n.node ≢ k.node);
        chain = chain;
      }
