-- A field in which the queues have their dummies, and nothing else is laid.
use Rattle.std.proofs.Common.{◌≡◌, ◌≢◌, ℕ, zero, suc, ◌+◌, ◌<◌, ◌≤◌, List, [], ◌∷◌, set, replicate, slice_index, refl, sym, ap, ◌∙◌, subst, ⊎_elim, arith}
use Rattle.std.proofs.lemmas.Bool.{cases_eq}
use Rattle.std.proofs.lemmas.List.{length-replicate}
use Rattle.std.proofs.lemmas.List.FromFn.{length-map-range_with_len}
use Rattle.md_words.specs.declared.shape.Shape.{Shape}
use Rattle.md_words.specs.Place.{Place, bucket_head, queue_head, queue_tail, node_key, node_value, node_next}
use Rattle.md_words.specs.Layout.{Exists, address, words_of, node_count, first_desc}
use Rattle.md_words.specs.LayoutLaws.{IsField}
use Rattle.md_machine.specs.declared.node.Structure.{Structure}
use Rattle.md_machine.specs.declared.node.Structure.TheVariants.{Bucket, Queue}
use Rattle.md_machine.specs.Machine.{word_at}
use Rattle.md_store_law.specs.Laid.{LaidNode, IsLaid, Chained, HaveFields, head_place, numbers_of, last_of, naming, dummies}
use Rattle.md_store_law.proofs.Filling.{get_or-same}
use Rattle.md_store_layout.proofs.Prefixes.{dummies_from, dummies_elsewhere, numbers_none, dummy_number}
use Rattle.md_store_layout.proofs.Writes.{writes}

-- a queue has one dummy, and a bucket none
dummy-number : (queues queue : ℕ) → queue < queues → numbers_of (dummies queues) (Queue queue) ≡ (queue + 1) ∷ []
dummy-number queues queue below = dummy_number 1 0 queues queue (omega arith) (omega arith) ∙ ap (λ k. k ∷ []) (omega arith)

no_dummy_in_bucket : (queues map bucket : ℕ) → numbers_of (dummies queues) (Bucket map bucket) ≡ []
no_dummy_in_bucket queues map bucket =
    numbers_none (Bucket map bucket) 1 (dummies queues) (dummies_elsewhere (Bucket map bucket) 0 queues (λ queue low high e. cc))

module _ (shape : Shape) where
  -- the queues below a number have their dummies, and all else is 0
  pub record HasDummies (words : List ℕ) (count : ℕ) : Type 0 where
    pub field : IsField shape words
    pub named : (queue : ℕ) → queue < count
        → (word_at shape words (queue_head queue) ≡ naming (queue + 1)) × (word_at shape words (queue_tail queue) ≡ naming (queue + 1))
    pub rest : (p : Place) → Exists shape p → ((queue : ℕ) → queue < count → (p ≢ queue_head queue) × (p ≢ queue_tail queue)) → word_at shape words p ≡ 0
    pub base : slice_index words 0 ≡ 0
    pub descs : (word : ℕ) → first_desc shape ≤ word → slice_index words word ≡ 0

  pub dummies_begin : HasDummies (replicate (words_of shape) 0) 0
  dummies_begin = record {
    field = length-replicate (words_of shape) 0;
    named = λ queue below. absurd (omega arith);
    rest = λ p there apart. get_or-same (words_of shape) (address shape p) 0;
    base = get_or-same (words_of shape) 0 0;
    descs = λ word high. get_or-same (words_of shape) word 0;
  }

  pub dummies_on : (words : List ℕ) (count : ℕ) → count < shape.queues → HasDummies words count
      → HasDummies (set (set words (address shape (queue_head count)) (naming (count + 1))) (address shape (queue_tail count)) (naming (count + 1))) (count + 1)
  dummies_on words count below d =
      let head = set words (address shape (queue_head count)) (naming (count + 1)) in
      let one = writes shape words (queue_head count) (naming (count + 1)) d.field below refl in
      let two = writes shape head (queue_tail count) (naming (count + 1)) one.field below refl in
      let then = set head (address shape (queue_tail count)) (naming (count + 1)) in
      record {
        field = two.field;
        named = λ queue less. ⊎_elim
            (λ e. subst (λ q. (word_at shape then (queue_head q) ≡ naming (q + 1)) × (word_at shape then (queue_tail q) ≡ naming (q + 1))) (sym e)
            (two.other (queue_head count) below (λ f. cc) ∙ one.here, two.here))
            (λ ne. let old = d.named queue (omega arith) in let there : queue < shape.queues = omega arith in (
              two.other (queue_head queue) there (λ f. cc) ∙ one.other (queue_head queue) there (λ f. ne (cc f)) ∙ old.0,
              two.other (queue_tail queue) there (λ f. ne (cc f)) ∙ one.other (queue_tail queue) there (λ f. cc) ∙ old.1,
            ))
            (cases_eq queue count);
        rest = λ p there apart. let a = apart count (omega arith) in
            two.other p there a.1 ∙ one.other p there a.0 ∙ d.rest p there (λ queue less. apart queue (omega arith));
        base = two.base (λ f. cc) ∙ one.base (λ f. cc) ∙ d.base;
        descs = λ word high. two.descs word high ∙ one.descs word high ∙ d.descs word high;
      }

  zero_fields : (words : List ℕ) (k first count : ℕ)
      → ((x : ℕ) → k ≤ x → x < k + count → (word_at shape words (node_key x) ≡ 0) × (word_at shape words (node_value x) ≡ 0))
      → HaveFields shape words k (dummies_from first count)
  zero_fields words k first zero none = tt
  zero_fields words k first (suc count) none = let here = none k (omega arith) (omega arith) in
      (here.0, here.1, zero_fields words (k + 1) (first + 1) count (λ x low high. none x (omega arith) (omega arith)))

  -- so the dummies are laid
  pub dummies_end : (words : List ℕ) → shape.queues ≤ shape.base → HasDummies words shape.queues → IsLaid shape words (dummies shape.queues)
  unfolding node_count
  dummies_end words room d =
      let count = length-map-range_with_len {X = LaidNode} (λ queue. record { structure = Queue queue; key = 0; value = 0 }) 0 shape.queues in
      record {
        field = d.field;
        fields = zero_fields words 1 0 shape.queues (λ x low high.
            let is : (1 ≤ x) × (x ≤ node_count shape) = (low, omega arith) in
            (d.rest (node_key x) is (λ queue below. (λ e. cc, λ e. cc)), d.rest (node_value x) is (λ queue below. (λ e. cc, λ e. cc))));
        chains = chains;
        tails = λ queue below. (d.named queue below).1 ∙ ap (λ ns. naming (last_of 0 ns)) (sym (dummy-number shape.queues queue below));
        unused = λ node above top. let is : (1 ≤ node) × (node ≤ node_count shape) = (omega arith, top) in record {
          key = d.rest (node_key node) is (λ queue below. (λ e. cc, λ e. cc));
          value = d.rest (node_value node) is (λ queue below. (λ e. cc, λ e. cc));
          next = d.rest (node_next node) is (λ queue below. (λ e. cc, λ e. cc));
        };
        base = d.base;
        descs = d.descs;
      }
    where
      chains : (s : Structure) → Exists shape (head_place s) → Chained shape words (head_place s) (numbers_of (dummies shape.queues) s)
      chains (Bucket map bucket) there = subst (Chained shape words (bucket_head map bucket)) (sym (no_dummy_in_bucket shape.queues map bucket))
          (d.rest (bucket_head map bucket) there (λ queue below. (λ e. cc, λ e. cc)))
      chains (Queue queue) there = subst (Chained shape words (queue_head queue)) (sym (dummy-number shape.queues queue there)) (
        (d.named queue there).0,
        d.rest (node_next (queue + 1)) (omega arith, omega arith) (λ q below. (λ e. cc, λ e. cc)),
      )
