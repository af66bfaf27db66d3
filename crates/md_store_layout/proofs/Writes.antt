-- The words that the code writes for a node are those of a node behind the last one of its bucket or queue.
use Rattle.std.proofs.Common.{◌≡◌, ◌≢◌, ℕ, ◌+◌, ◌<◌, ◌≤◌, ◌++◌, Bool, true, false, List, [], ◌∷◌, length, set, slice_index, refl, sym, ap, ◌∙◌, subst, ⊎_elim, le_refl, arith}
use Rattle.std.proofs.lemmas.Bool.{false≢true}
use Rattle.std.proofs.lemmas.Nat.{row_fits}
use Rattle.std.proofs.lemmas.List.{length-set, get_or-set_other}
use Rattle.md_words.specs.declared.shape.Shape.{Shape}
use Rattle.md_words.specs.Place.{Place, base_word, bucket_head, queue_head, queue_tail, node_key, node_value, node_next, desc_status, read_word, read_content, slot_word, slot_old, slot_new}
use Rattle.md_words.specs.Layout.{Exists, IsNode, address, node_count, first_desc}
use Rattle.md_words.specs.LayoutLaws.{IsField}
use Rattle.md_words.proofs.Places.{slice_index-slice_set_same, slice_index-slice_set_other, address-base_word}
use Rattle.md_machine.specs.declared.node.Structure.{Structure}
use Rattle.md_machine.specs.declared.node.Structure.TheVariants.{Bucket, Queue}
use Rattle.md_machine.specs.Machine.{word_at}
use Rattle.md_store_law.specs.Laid.{LaidNode, IsLaid, head_place, numbers_of, naming, appended}
use Rattle.md_store_layout.proofs.Appending.{is_link, head_is_link, end_of, Appends, end_cases_of, laid_more}

-- places before the descriptors
abbrev pub is_front : Place → Bool
is_front base_word = true
is_front (bucket_head _ _) = true
is_front (queue_head _) = true
is_front (queue_tail _) = true
is_front (node_key _) = true
is_front (node_value _) = true
is_front (node_next _) = true
is_front _ = false

pub before_descs : (shape : Shape) (p : Place) → Exists shape p → is_front p ≡ true → address shape p < first_desc shape
unfolding address node_count
before_descs shape base_word h e = omega arith
before_descs shape (bucket_head map bucket) h e = omega (arith, row_fits map shape.buckets shape.maps shape.buckets h.0 (le_refl _))
before_descs shape (queue_head queue) h e = omega arith
before_descs shape (queue_tail queue) h e = omega arith
before_descs shape (node_key node) h e = omega arith
before_descs shape (node_value node) h e = omega arith
before_descs shape (node_next node) h e = omega arith
before_descs shape (desc_status desc) h e = absurd (false≢true e)
before_descs shape (read_word desc i) h e = absurd (false≢true e)
before_descs shape (read_content desc i) h e = absurd (false≢true e)
before_descs shape (slot_word desc j) h e = absurd (false≢true e)
before_descs shape (slot_old desc j) h e = absurd (false≢true e)
before_descs shape (slot_new desc j) h e = absurd (false≢true e)

link_front : (p : Place) → is_link p ≡ true → is_front p ≡ true
link_front (bucket_head _ _) e = refl
link_front (queue_head _) e = refl
link_front (node_next _) e = refl
link_front base_word e = refl
link_front (queue_tail _) e = refl
link_front (node_key _) e = refl
link_front (node_value _) e = refl
link_front (desc_status desc) e = e
link_front (read_word desc i) e = e
link_front (read_content desc i) e = e
link_front (slot_word desc j) e = e
link_front (slot_old desc j) e = e
link_front (slot_new desc j) e = e

-- what a link isn't
not_link : (p q : Place) → is_link p ≡ true → is_link q ≡ false → p ≢ q
not_link p q is other e = false≢true (sym other ∙ ap is_link (sym e) ∙ is)

-- a write before the descriptors
pub record Writes (shape : Shape) (words : List ℕ) (place : Place) (x : ℕ) (then : List ℕ) : Type 0 where
  pub field : IsField shape then
  pub here : word_at shape then place ≡ x
  pub other : (q : Place) → Exists shape q → q ≢ place → word_at shape then q ≡ word_at shape words q
  pub base : place ≢ base_word → slice_index then 0 ≡ slice_index words 0
  pub descs : (word : ℕ) → first_desc shape ≤ word → slice_index then word ≡ slice_index words word

pub writes : (shape : Shape) (words : List ℕ) (place : Place) (x : ℕ) → IsField shape words → Exists shape place → is_front place ≡ true
    → Writes shape words place x (set words (address shape place) x)
writes shape words place x field there front =
    let then = set words (address shape place) x in
    let low = before_descs shape place there front in
    record {
      field = length-set words (address shape place) x ∙ field;
      here = slice_index-slice_set_same shape words place x field there;
      other = λ q is ne. slice_index-slice_set_other shape words place q x there is (λ e. ne (sym e));
      base = λ ne. subst (λ w. slice_index then w ≡ slice_index words w) (address-base_word shape)
          (slice_index-slice_set_other shape words place base_word x there tt ne);
      descs = λ word high. get_or-set_other words (address shape place) word x 0 (λ e. omega arith);
    }

-- the last write: a queue's tail is moved
abbrev pub finished : Shape → Structure → (node : ℕ) → List ℕ → List ℕ
finished shape (Bucket map bucket) node words = words
finished shape (Queue queue) node words = set words (address shape (queue_tail queue)) (naming node)

module _ (shape : Shape) (words : List ℕ) (nodes : List LaidNode) (n : LaidNode) (laid : IsLaid shape words nodes)
    (inside : Exists shape (head_place n.structure)) (is : IsNode shape (length nodes + 1)) where
  abbrev node : ℕ
  node = length nodes + 1

  abbrev end : Place
  end = end_of (head_place n.structure) (numbers_of nodes n.structure)

  end_there : Exists shape end × (is_link end ≡ true)
  end_there = ⊎_elim
      (λ e. subst (λ p. Exists shape p × (is_link p ≡ true)) (sym e) (inside, head_is_link n.structure))
      (λ t. let low = t.1.low in let high = t.1.high in let top = is.1 in
      subst (λ p. Exists shape p × (is_link p ≡ true)) (sym t.2) ((omega arith, omega arith), refl))
      (end_cases_of nodes n.structure)

  abbrev first : List ℕ
  first = set words (address shape (node_key node)) n.key

  abbrev second : List ℕ
  second = set first (address shape (node_value node)) n.value

  abbrev third : List ℕ
  third = set second (address shape end) (naming node)

  one : Writes shape words (node_key node) n.key first
  one = writes shape words (node_key node) n.key laid.field is refl

  two : Writes shape first (node_value node) n.value second
  two = writes shape first (node_value node) n.value one.field is refl

  three : Writes shape second end (naming node) third
  three = writes shape second end (naming node) two.field end_there.0 (link_front end end_there.1)

  -- the key, the value and the end's word were written, and no other
  stays : (q : Place) → Exists shape q → q ≢ node_key node → q ≢ node_value node → q ≢ end → word_at shape third q ≡ word_at shape words q
  stays q there a b c = three.other q there c ∙ two.other q there b ∙ one.other q there a

  key_is : word_at shape third (node_key node) ≡ n.key
  key_is = three.other (node_key node) is (λ e. not_link end (node_key node) end_there.1 refl (sym e)) ∙ two.other (node_key node) is (λ e. cc) ∙ one.here

  value_is : word_at shape third (node_value node) ≡ n.value
  value_is = three.other (node_value node) is (λ e. not_link end (node_value node) end_there.1 refl (sym e)) ∙ two.here

  links : (q : Place) → Exists shape q → is_link q ≡ true → q ≢ end → word_at shape third q ≡ word_at shape words q
  links q there link ne = stays q there (not_link q (node_key node) link refl) (not_link q (node_value node) link refl) ne

  tails : (queue : ℕ) → queue < shape.queues → word_at shape third (queue_tail queue) ≡ word_at shape words (queue_tail queue)
  tails queue below = stays (queue_tail queue) below (λ e. cc) (λ e. cc) (λ e. not_link end (queue_tail queue) end_there.1 refl (sym e))

  fields : (x : ℕ) → IsNode shape x → x ≢ node
      → (word_at shape third (node_key x) ≡ word_at shape words (node_key x)) × (word_at shape third (node_value x) ≡ word_at shape words (node_value x))
  fields x there ne = (
    stays (node_key x) there (λ e. ne cc) (λ e. cc) (λ e. not_link end (node_key x) end_there.1 refl (sym e)),
    stays (node_value x) there (λ e. cc) (λ e. ne cc) (λ e. not_link end (node_value x) end_there.1 refl (sym e)),
  )

  base : slice_index third 0 ≡ slice_index words 0
  base = three.base (λ e. not_link end base_word end_there.1 refl e) ∙ two.base (λ e. cc) ∙ one.base (λ e. cc)

  descs : (word : ℕ) → first_desc shape ≤ word → slice_index third word ≡ slice_index words word
  descs word high = three.descs word high ∙ two.descs word high ∙ one.descs word high

  bucket_appends : (map bucket : ℕ) → n.structure ≡ Bucket map bucket → Appends shape words third nodes n
  bucket_appends map bucket e = record {
    field = three.field;
    inside = inside;
    node = is;
    key = key_is;
    value = value_is;
    named = three.here;
    tail = λ queue f. let g : Bucket map bucket ≡ Queue queue = sym e ∙ f in absurd (cc g);
    links = links;
    tails = λ queue below ne. tails queue below;
    fields = fields;
    base = base;
    descs = descs;
  }

  queue_appends : (queue : ℕ) → n.structure ≡ Queue queue → Appends shape words (set third (address shape (queue_tail queue)) (naming node)) nodes n
  queue_appends queue e =
      let within : queue < shape.queues = subst (λ s. Exists shape (head_place s)) e inside in
      let four = writes shape third (queue_tail queue) (naming node) three.field within refl in
      record {
        field = four.field;
        inside = inside;
        node = is;
        key = four.other (node_key node) is (λ f. cc) ∙ key_is;
        value = four.other (node_value node) is (λ f. cc) ∙ value_is;
        named = four.other end end_there.0 (not_link end (queue_tail queue) end_there.1 refl) ∙ three.here;
        tail = λ q f. let g : Queue queue ≡ Queue q = sym e ∙ f in let same : queue ≡ q = cc g in
            ap (λ x. word_at shape (set third (address shape (queue_tail queue)) (naming node)) (queue_tail x)) (sym same) ∙ four.here;
        links = λ q there link ne. four.other q there (not_link q (queue_tail queue) link refl) ∙ links q there link ne;
        tails = λ q below ne. four.other (queue_tail q) below (λ f. let same : q ≡ queue = cc f in ne (e ∙ ap Queue (sym same))) ∙ tails q below;
        fields = λ x there ne. (
          four.other (node_key x) there (λ f. cc) ∙ (fields x there ne).0,
          four.other (node_value x) there (λ f. cc) ∙ (fields x there ne).1,
        );
        base = four.base (λ f. cc) ∙ base;
        descs = λ word high. four.descs word high ∙ descs word high;
      }

  appends : (s : Structure) → n.structure ≡ s → Appends shape words (finished shape s node third) nodes n
  appends (Bucket map bucket) e = bucket_appends map bucket e
  appends (Queue queue) e = queue_appends queue e

  -- the field after the writes has one node more
  pub laid_after : IsLaid shape (finished shape n.structure node (appended shape words (address shape end) node n.key n.value)) (nodes ++ n ∷ [])
  laid_after = laid_more shape words (finished shape n.structure node third) nodes n laid (appends n.structure refl)
