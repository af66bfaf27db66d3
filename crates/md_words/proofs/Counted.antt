-- A word is counted where it lies below the nodes and is not the base word, or is the next word of a node.
use Rattle.std.proofs.Common.{◌≡◌, ℕ, zero, suc, ◌+◌, ◌-◌, ◌*◌, ◌/◌, ◌%◌, ◌<◌, ◌≤◌, ◌↔◌, Bool, IsTrue, true, false, eqb, ltb, refl, sym, ap, ◌∙◌, arith}
use Rattle.std.proofs.lemmas.Bool.{cond_both, false≢true, lt-ltb, ltb-false}
use Rattle.md_words.specs.declared.shape.Shape.{Shape}
use Rattle.md_words.specs.declared.limits.TheConstants.{SET, DESC_WORDS}
use Rattle.md_words.specs.Place.{is_counted}
use Rattle.md_words.specs.Layout.{words_of, node_count, first_node, first_desc}
use Rattle.md_words.specs.PlaceAt.{part_of_queue, part_of_node, part_of_read, part_of_slot, in_desc, place_at, IsCounted}
use Rattle.md_words.proofs.Places.{inside, at_node, at_desc}

queue_counts : (queue part : ℕ) → is_counted (part_of_queue queue part) ≡ true
queue_counts queue zero = refl
queue_counts queue (suc part) = refl

node_counts : (node part : ℕ) → part < 3 → is_counted (part_of_node node part) ≡ eqb part 2
node_counts node zero h = refl
node_counts node (suc zero) h = refl
node_counts node (suc (suc zero)) h = refl
node_counts node (suc (suc (suc part))) h = absurd (omega arith)

read_counts : (desc i part : ℕ) → is_counted (part_of_read desc i part) ≡ false
read_counts desc i zero = refl
read_counts desc i (suc part) = refl

slot_counts : (desc j part : ℕ) → is_counted (part_of_slot desc j part) ≡ false
slot_counts desc j zero = refl
slot_counts desc j (suc zero) = refl
slot_counts desc j (suc (suc part)) = refl

desc_counts : (desc offset : ℕ) → is_counted (in_desc desc offset) ≡ false
desc_counts desc zero = refl
desc_counts desc (suc offset) = cond_both (ltb offset (2 * SET)) _ _ (λ p. is_counted p ≡ false)
    (λ _. read_counts desc (offset / 2) (offset % 2))
    (λ _. slot_counts desc ((offset - 2 * SET) / 3) ((offset - 2 * SET) % 3))

below_nodes : (shape : Shape) (word : ℕ) → word < first_node shape → is_counted (place_at shape word) ≡ ltb 0 word
unfolding place_at
below_nodes shape zero h = refl
below_nodes shape (suc offset) h =
    let o = offset - shape.maps * shape.buckets in
    cond_both (ltb offset (shape.maps * shape.buckets)) _ _ (λ p. is_counted p ≡ ltb 0 (suc offset))
    (λ _. sym (lt-ltb 0 (suc offset) (omega arith)))
    (λ t. let l = ltb-false offset (shape.maps * shape.buckets) t in
    ap is_counted (inside (2 * shape.queues) o _ _ (omega arith)) ∙ queue_counts (o / 2) (o % 2) ∙ sym (lt-ltb 0 (suc offset) (omega arith)))

in_node : (shape : Shape) (word : ℕ) → first_node shape ≤ word → word < first_desc shape → is_counted (place_at shape word) ≡ eqb ((word - first_node shape) % 3) 2
in_node shape word h k =
    let o = word - first_node shape in
    ap is_counted (at_node shape (o / 3) (o % 3) word (omega arith) (omega arith) (omega arith)) ∙ node_counts (o / 3 + 1) (o % 3) (omega arith)

past_nodes : (shape : Shape) (word : ℕ) → first_desc shape ≤ word → is_counted (place_at shape word) ≡ false
past_nodes shape word h =
    let o = word - first_desc shape in
    ap is_counted (at_desc shape (o / DESC_WORDS) (o % DESC_WORDS) word (omega arith) (omega arith)) ∙ desc_counts (o / DESC_WORDS) (o % DESC_WORDS)

-- a test that finds what the place at a word says tells whether the word is counted
same_test : (shape : Shape) (word : ℕ) (test : Bool) → word < words_of shape → is_counted (place_at shape word) ≡ test → IsTrue test ↔ IsCounted shape word
same_test shape word test h e = ((λ t. (h, e ∙ t)), (λ c. sym e ∙ c.1))

pub counted_below_nodes : (shape : Shape) (word : ℕ) → word < first_node shape → IsTrue (ltb 0 word) ↔ IsCounted shape word
unfolding words_of node_count
counted_below_nodes shape word h = same_test shape word (ltb 0 word) (omega arith) (below_nodes shape word h)

pub counted_in_node : (shape : Shape) (word : ℕ) → first_node shape ≤ word → word < first_desc shape → IsTrue (eqb ((word - first_node shape) % 3) 2) ↔ IsCounted shape word
unfolding words_of node_count
counted_in_node shape word h k = same_test shape word _ (omega arith) (in_node shape word h k)

pub counted_past_nodes : (shape : Shape) (word : ℕ) → first_desc shape ≤ word → IsCounted shape word → ⊥
counted_past_nodes shape word h c = false≢true (sym (past_nodes shape word h) ∙ c.1)
