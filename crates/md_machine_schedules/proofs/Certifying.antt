-- The worked transactions are certified: an insert by its one slot, a look-up by its one read.
use Rattle.std.proofs.Common.{◌≡◌, ℕ, List, [], ◌∷◌, refl, ap, ◌∙◌, subst, arith, true, None, Some}
use Rattle.std.specs.Prelude.{is_some, ◌≢◌, option_map, unwrap_or}
use Rattle.std.specs.List.{All}
use Rattle.md_words.specs.Content.{value_of}
use Rattle.md_words.specs.declared.shape.Shape.{Shape}
use Rattle.md_words.specs.Layout.{address, IsNode}
use Rattle.md_words.specs.Place.{bucket_head, node_next}
use Rattle.md_words.proofs.Places.{address_differs}
use Rattle.md_history.specs.declared.acts.Reply.{Reply}
use Rattle.md_history.specs.Act.{act_of}
use Rattle.md_machine.specs.declared.attempt.Hand.{Hand}
use Rattle.md_machine.specs.declared.attempt.Read.{Read}
use Rattle.md_machine.specs.declared.attempt.Write.{Write}
use Rattle.md_machine.specs.declared.certificate.Certificate.{Certificate}
use Rattle.md_machine.specs.declared.certificate.Change.{Change}
use Rattle.md_machine.specs.declared.certificate.Fact.{Fact}
use Rattle.md_machine.specs.declared.certificate.NewNode.{NewNode}
use Rattle.md_machine.specs.declared.certificate.WordValue.{WordValue}
use Rattle.md_machine.specs.declared.pass.PassView.{PassView}
use Rattle.md_machine.specs.Certified.{CertifiedIn, HasWords, IsCertified, RecordsFound, after_wholes, as_found, first_content}
use Rattle.md_machine.specs.LogicalHeap.{Holds, IsNoUnplacedNext, LogicalHeap}
use Rattle.md_machine.specs.Machine.{Machine, shape_of}
use Rattle.md_machine.specs.Meaning.{Meaning}
use Rattle.md_machine.specs.Own.{IsOwnNode}
use Rattle.md_machine.specs.Resolution.{InEveryResolution}
use Rattle.md_machine.specs.Trail.{SomeStepOf, StoresFor}
use Rattle.md_machine_schedules.specs.Field.{bucket, link_to, small_shape}
use Rattle.md_machine_schedules.specs.Transactions.{inserted_change, inserted_node, inserts, looks_up}
use Rattle.md_machine_schedules.proofs.Walking.{none_differ, one_differs, only_none, only_one}

-- the hand of a transaction of one operation
abbrev pub with_one : Hand → Certificate → Hand
with_one h c = record h { acts = act_of c.op c.reply ∷ [] }

-- the slot of an insert
abbrev pub insert_slot : ℕ → Write
insert_slot node = record { slot = 0; word = bucket; old = 0; new = link_to node }

abbrev by_insert : ℕ → LogicalHeap → LogicalHeap
by_insert node heap = as_found [] (insert_slot node ∷ []) heap

-- the bucket's word is the next word of no node
pub bucket_rooted : (heap : LogicalHeap) → heap.words.shape ≡ small_shape → IsNoUnplacedNext heap bucket
bucket_rooted heap shape n exists at = absurd (address_differs small_shape (bucket_head 0 1) (node_next n) (omega arith, omega arith)
    (subst (λ (s : Shape). IsNode s n) shape exists) (λ e. cc) (at ∙ ap (λ (s : Shape). address s (node_next n)) shape))

-- an insert stands in a heap in which its node isn't placed and has its words
pub insert_in : (node : ℕ) (heap : LogicalHeap) → heap.words.shape ≡ small_shape → heap.placed node ≡ None → HasWords heap.words (inserted_node node)
    → (after_wholes (by_insert node heap) (inserts node ∷ [])).words.value bucket ≡ link_to node
    → CertifiedIn [] (insert_slot node ∷ []) (inserts node ∷ []) heap
unfolding address value_of
insert_in node heap shape fresh words last = record {
  stand = (
    tt,
    record {
      recorded = only_none (λ (r : WordValue). (by_insert node heap).words.value r.word ≡ r.value);
      old = only_one (λ (x : Change). (by_insert node heap).words.value x.word ≡ x.old) (inserted_change node) refl;
      facts = only_none (Holds heap);
      fresh = only_one (λ (n : NewNode). heap.placed n.node ≡ None) (inserted_node node) fresh;
    },
    tt,
  );
  words = only_one (HasWords heap.words) (inserted_node node) words;
  last = only_one (λ (w : Write). (after_wholes (by_insert node heap) (inserts node ∷ [])).words.value w.word ≡ w.new) (insert_slot node) last;
  rooted = only_one (λ (w : Write). IsNoUnplacedNext (after_wholes heap (inserts node ∷ [])) w.word) (insert_slot node)
      (bucket_rooted (after_wholes heap (inserts node ∷ [])) shape);
}

-- a look-up stands in a heap in which its facts hold
pub look_up_in : (reply : Reply) (facts : List Fact) (r : Read) (heap : LogicalHeap)
    → first_content (r ∷ []) [] r.word ≡ Some r.content → value_of r.content ≡ 0 → All (Holds heap) facts
    → CertifiedIn (r ∷ []) [] (looks_up reply r.word facts ∷ []) heap
look_up_in reply facts r heap first empty hold =
    let found = ap (λ o. unwrap_or (option_map value_of o) (heap.words.value r.word)) first in record {
      stand = (
        tt,
        record {
          recorded = only_one (λ (x : WordValue). (as_found (r ∷ []) [] heap).words.value x.word ≡ x.value) (record { word = r.word; value = 0 }) (found ∙ empty);
          old = only_none (λ (x : Change). (as_found (r ∷ []) [] heap).words.value x.word ≡ x.old);
          facts = hold;
          fresh = only_none (λ (n : NewNode). heap.placed n.node ≡ None);
        },
        tt,
      );
      words = only_none (HasWords heap.words);
      last = only_none (λ (w : Write). (after_wholes (as_found (r ∷ []) [] heap) (looks_up reply r.word facts ∷ [])).words.value w.word ≡ w.new);
      rooted = only_none (λ (w : Write). IsNoUnplacedNext (after_wholes heap (looks_up reply r.word facts ∷ [])) w.word);
    }

-- an insert records no word, and a look-up records that of its read
pub insert_found : (node : ℕ) → RecordsFound [] (insert_slot node ∷ []) (inserts node)
insert_found node = only_none (λ (x : WordValue). is_some (first_content [] (insert_slot node ∷ []) x.word) ≡ true)

pub look_up_found : (reply : Reply) (facts : List Fact) (r : Read) → first_content (r ∷ []) [] r.word ≡ Some r.content
    → RecordsFound (r ∷ []) [] (looks_up reply r.word facts)
look_up_found reply facts r first =
    only_one (λ (x : WordValue). is_some (first_content (r ∷ []) [] x.word) ≡ true) (record { word = r.word; value = 0 }) (ap is_some first)

module _ (M : Meaning) (m : Machine) (p : PassView) (h : Hand) where
  abbrev TidiesOf : Certificate → Type 0
  TidiesOf c = All (M.tidies (shape_of m)) c.tidy

  pub insert_certified : (node : ℕ) → M.certifies (shape_of m) (inserts node) → IsOwnNode m p node
      → SomeStepOf p (StoresFor h.attempt (address (shape_of m) (node_next node)))
      → InEveryResolution m (CertifiedIn [] (insert_slot node ∷ []) (inserts node ∷ []))
      → IsCertified M m p (with_one h (inserts node)) (inserts node ∷ []) [] (insert_slot node ∷ [])
  unfolding address
  insert_certified node certifies own stored chain =
      let slots = insert_slot node ∷ [] in record {
        acts = refl;
        certifies = only_one (M.certifies (shape_of m)) (inserts node) certifies;
        tidies = only_one TidiesOf (inserts node) (only_none (M.tidies (shape_of m)));
        read = only_none (λ (r : Read). first_content [] slots r.word ≡ Some r.content);
        replaced = only_one (λ (w : Write). first_content [] slots w.word ≡ Some w.old) (insert_slot node) refl;
        recorded = only_one (RecordsFound [] slots) (inserts node) (insert_found node);
        exactly = λ word. refl;
        nodes = only_one (λ (n : NewNode). IsOwnNode m p n.node) (inserted_node node) own;
        stored = only_one (λ (n : NewNode). SomeStepOf p (StoresFor h.attempt (address (shape_of m) (node_next n.node)))) (inserted_node node) stored;
        differ = one_differs (λ (n k : NewNode). n.node ≢ k.node) (inserted_node node);
        chain = chain;
      }

  pub look_up_certified : (reply : Reply) (facts : List Fact) (r : Read) → M.certifies (shape_of m) (looks_up reply r.word facts)
      → first_content (r ∷ []) [] r.word ≡ Some r.content
      → InEveryResolution m (CertifiedIn (r ∷ []) [] (looks_up reply r.word facts ∷ []))
      → IsCertified M m p (with_one h (looks_up reply r.word facts)) (looks_up reply r.word facts ∷ []) (r ∷ []) []
  look_up_certified reply facts r certifies first chain =
      let reads = r ∷ [] in
      let c = looks_up reply r.word facts in record {
        acts = refl;
        certifies = only_one (M.certifies (shape_of m)) c certifies;
        tidies = only_one TidiesOf c (only_none (M.tidies (shape_of m)));
        read = only_one (λ (x : Read). first_content reads [] x.word ≡ Some x.content) r first;
        replaced = only_none (λ (w : Write). first_content reads [] w.word ≡ Some w.old);
        recorded = only_one (RecordsFound reads []) c (look_up_found reply facts r first);
        exactly = λ word. refl;
        nodes = only_none (λ (n : NewNode). IsOwnNode m p n.node);
        stored = only_none (λ (n : NewNode). SomeStepOf p (StoresFor h.attempt (address (shape_of m) (node_next n.node))));
        differ = none_differ (λ (n k : NewNode). n.node ≢ k.node);
        chain = chain;
      }
