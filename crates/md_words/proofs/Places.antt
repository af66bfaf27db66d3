-- Each place that exists is the place at its own word, and each word is that of the place at it.
use Rattle.std.proofs.Common.{◌≡◌, ℕ, zero, suc, ◌+◌, ◌-◌, ◌*◌, ◌/◌, ◌%◌, ◌<◌, ◌≤◌, cond, ltb, true, false, IsTrue, refl, sym, ap, ◌∙◌, subst, le_refl, arith}
use Rattle.std.proofs.lemmas.Bool.{cond_below, cond_above, cond_both, ltb-true, ltb-false}
use Rattle.std.proofs.lemmas.Nat.{div-mul-add, mod-mul-add, div-add-mod', mod_below, div_below, row_fits, rows}
use Rattle.std.proofs.lemmas.List.{get_or-set_same, get_or-set_other}
use Rattle.md_words.specs.declared.shape.Shape.{Shape}
use Rattle.md_words.specs.declared.limits.TheConstants.{SET, DESC_WORDS}
use Rattle.md_words.specs.Place.{Place, base_word, bucket_head, queue_head, queue_tail, node_key, node_value, node_next, desc_status, read_word, read_content, slot_word, slot_old, slot_new, is_counted}
use Rattle.md_words.specs.Link.{link_value}
use Rattle.md_words.specs.LayoutLaws.{AddressIsWord, AddressesDiffer, PlaceFound, WordIsPlace, BaseIsZero, BucketExists, WriteLands, WordLeaves, WriteLeaves, CountedByPlace, WordsFit, NodesFitValues, DescsFitValues}
use Rattle.md_words.specs.Layout.{words_of, node_count, desc_count, bucket_of, Exists, first_queue, first_node, first_desc, desc_start, slots_start, address}
use Rattle.md_words.specs.PlaceAt.{part_of_queue, part_of_node, part_of_read, part_of_slot, in_slots, in_reads, in_desc, in_descs, in_nodes, in_queues, in_buckets, place_at}

-- past the end of a region, and inside it
past : {X : Type 0} (n r : ℕ) (x : X) (f : ℕ → X) → cond (ltb (n + r) n) x (f (n + r - n)) ≡ f r
past n r x f = sym (cond_above (n + r) n x (f (n + r - n)) (f r) (omega arith) (ap f (omega arith)))

pub inside : {X : Type 0} (n r : ℕ) (x y : X) → r < n → cond (ltb r n) x y ≡ x
inside n r x y h = sym (cond_below r n x y h)

two : {X : Type 0} (f : ℕ → ℕ → X) (w a b : ℕ) → b < w → f ((a * w + b) / w) ((a * w + b) % w) ≡ f a b
two f w a b h = ap (λ q. f q ((a * w + b) % w)) (div-mul-add a w b h) ∙ ap (f a) (mod-mul-add a w b h)

bucket_found : (shape : Shape) (map bucket : ℕ) → map < shape.maps → bucket < shape.buckets
    → in_buckets shape (map * shape.buckets + bucket) ≡ bucket_head map bucket
bucket_found shape map bucket h k = inside (shape.maps * shape.buckets) (map * shape.buckets + bucket) _ _ (grind (arith, rows)) ∙ two bucket_head shape.buckets map bucket k

past_buckets : (shape : Shape) (r : ℕ) → in_buckets shape (shape.maps * shape.buckets + r) ≡ in_queues shape r
past_buckets shape r = past (shape.maps * shape.buckets) r _ (in_queues shape)

queue_found : (shape : Shape) (queue part : ℕ) → queue < shape.queues → part < 2 → in_queues shape (queue * 2 + part) ≡ part_of_queue queue part
queue_found shape queue part h k = inside (2 * shape.queues) (queue * 2 + part) _ _ (omega arith) ∙ two part_of_queue 2 queue part k

past_queues : (shape : Shape) (r : ℕ) → in_queues shape (2 * shape.queues + r) ≡ in_nodes shape r
past_queues shape r = past (2 * shape.queues) r _ (in_nodes shape)

node_found : (shape : Shape) (before part : ℕ) → before < node_count shape → part < 3 → in_nodes shape (before * 3 + part) ≡ part_of_node (before + 1) part
node_found shape before part h k = inside (3 * node_count shape) (before * 3 + part) _ _ (omega arith) ∙ two (λ a b. part_of_node (a + 1) b) 3 before part k

past_nodes : (shape : Shape) (r : ℕ) → in_nodes shape (3 * node_count shape + r) ≡ in_descs r
past_nodes shape r = past (3 * node_count shape) r _ in_descs

desc_found : (desc offset : ℕ) → offset < DESC_WORDS → in_descs (desc * DESC_WORDS + offset) ≡ in_desc desc offset
desc_found desc offset h = two in_desc DESC_WORDS desc offset h

read_found : (desc i part : ℕ) → i < SET → part < 2 → in_reads desc (i * 2 + part) ≡ part_of_read desc i part
read_found desc i part h k = inside (2 * SET) (i * 2 + part) _ _ (omega arith) ∙ two (part_of_read desc) 2 i part k

past_reads : (desc r : ℕ) → in_reads desc (2 * SET + r) ≡ in_slots desc r
past_reads desc r = past (2 * SET) r _ (in_slots desc)

slot_found : (desc j part : ℕ) → part < 3 → in_slots desc (j * 3 + part) ≡ part_of_slot desc j part
slot_found desc j part k = two (part_of_slot desc) 3 j part k

-- the place of a word that is known by its region and its offset there
pub at_bucket : (shape : Shape) (map bucket word : ℕ) → map < shape.maps → bucket < shape.buckets → word ≡ 1 + map * shape.buckets + bucket → place_at shape word ≡ bucket_head map bucket
unfolding place_at
at_bucket shape map bucket word h k e =
    let f : word ≡ suc (map * shape.buckets + bucket) = omega arith in
    ap (place_at shape) f ∙ bucket_found shape map bucket h k

pub at_queue : (shape : Shape) (queue part word : ℕ) → queue < shape.queues → part < 2 → word ≡ first_queue shape + 2 * queue + part → place_at shape word ≡ part_of_queue queue part
unfolding place_at
at_queue shape queue part word h k e =
    let f : word ≡ suc (shape.maps * shape.buckets + (queue * 2 + part)) = omega arith in
    ap (place_at shape) f ∙ past_buckets shape _ ∙ queue_found shape queue part h k

pub at_node : (shape : Shape) (before part word : ℕ) → before < node_count shape → part < 3 → word ≡ first_node shape + 3 * before + part → place_at shape word ≡ part_of_node (before + 1) part
unfolding place_at
at_node shape before part word h k e =
    let f : word ≡ suc (shape.maps * shape.buckets + (2 * shape.queues + (before * 3 + part))) = omega arith in
    ap (place_at shape) f ∙ past_buckets shape _ ∙ past_queues shape _ ∙ node_found shape before part h k

pub at_desc : (shape : Shape) (desc offset word : ℕ) → offset < DESC_WORDS → word ≡ desc_start shape desc + offset → place_at shape word ≡ in_desc desc offset
unfolding place_at
at_desc shape desc offset word h e =
    let f : word ≡ suc (shape.maps * shape.buckets + (2 * shape.queues + (3 * node_count shape + (desc * DESC_WORDS + offset)))) = omega arith in
    ap (place_at shape) f ∙ past_buckets shape _ ∙ past_queues shape _ ∙ past_nodes shape _ ∙ desc_found desc offset h

at_read : (shape : Shape) (desc i part word : ℕ) → i < SET → part < 2 → word ≡ desc_start shape desc + 1 + 2 * i + part → place_at shape word ≡ part_of_read desc i part
at_read shape desc i part word h k e = at_desc shape desc (suc (i * 2 + part)) word (omega arith) (omega arith) ∙ read_found desc i part h k

at_slot : (shape : Shape) (desc j part word : ℕ) → j < SET → part < 3 → word ≡ slots_start shape desc + 3 * j + part → place_at shape word ≡ part_of_slot desc j part
at_slot shape desc j part word h k e =
    at_desc shape desc (suc (2 * SET + (j * 3 + part))) word (omega arith) (omega arith) ∙ past_reads desc _ ∙ slot_found desc j part k

-- the node before and its number
node_again : (node : ℕ) → 1 ≤ node → node - 1 + 1 ≡ node
node_again node h = omega arith

pub place_at-address : PlaceFound
unfolding place_at address
place_at-address shape base_word h = refl
place_at-address shape (bucket_head map bucket) h = at_bucket shape map bucket _ h.0 h.1 refl
place_at-address shape (queue_head queue) h = at_queue shape queue 0 _ h (omega arith) (omega arith)
place_at-address shape (queue_tail queue) h = at_queue shape queue 1 _ h (omega arith) refl
place_at-address shape (node_key node) h = at_node shape (node - 1) 0 _ (omega arith) (omega arith) (omega arith) ∙ ap node_key (node_again node h.0)
place_at-address shape (node_value node) h = at_node shape (node - 1) 1 _ (omega arith) (omega arith) refl ∙ ap node_value (node_again node h.0)
place_at-address shape (node_next node) h = at_node shape (node - 1) 2 _ (omega arith) (omega arith) refl ∙ ap node_next (node_again node h.0)
place_at-address shape (desc_status desc) h = at_desc shape desc 0 _ (omega arith) (omega arith)
place_at-address shape (read_word desc i) h = at_read shape desc i 0 _ h.1 (omega arith) (omega arith)
place_at-address shape (read_content desc i) h = at_read shape desc i 1 _ h.1 (omega arith) refl
place_at-address shape (slot_word desc j) h = at_slot shape desc j 0 _ h.1 (omega arith) (omega arith)
place_at-address shape (slot_old desc j) h = at_slot shape desc j 1 _ h.1 (omega arith) refl
place_at-address shape (slot_new desc j) h = at_slot shape desc j 2 _ h.1 (omega arith) refl

-- the place exists, and lies at the word
Lies : Shape → Place → ℕ → Type 0
Lies shape p word = Exists shape p × (address shape p ≡ word)

queue_lies : (shape : Shape) (queue part word : ℕ) → queue < shape.queues → part < 2 → word ≡ first_queue shape + 2 * queue + part → Lies shape (part_of_queue queue part) word
unfolding Lies address
queue_lies shape queue zero word h k e = (h, omega arith)
queue_lies shape queue (suc part) word h k e = (h, omega arith)

node_lies : (shape : Shape) (before part word : ℕ) → before < node_count shape → part < 3 → word ≡ first_node shape + 3 * before + part → Lies shape (part_of_node (before + 1) part) word
unfolding Lies address
node_lies shape before zero word h k e = ((omega arith, omega arith), omega arith)
node_lies shape before (suc zero) word h k e = ((omega arith, omega arith), omega arith)
node_lies shape before (suc (suc part)) word h k e = ((omega arith, omega arith), omega arith)

read_lies : (shape : Shape) (desc i part word : ℕ) → desc < desc_count shape → i < SET → part < 2 → word ≡ desc_start shape desc + 1 + 2 * i + part → Lies shape (part_of_read desc i part) word
unfolding Lies address
read_lies shape desc i zero word h k l e = ((h, k), omega arith)
read_lies shape desc i (suc part) word h k l e = ((h, k), omega arith)

slot_lies : (shape : Shape) (desc j part word : ℕ) → desc < desc_count shape → j < SET → part < 3 → word ≡ slots_start shape desc + 3 * j + part → Lies shape (part_of_slot desc j part) word
unfolding Lies address
slot_lies shape desc j zero word h k l e = ((h, k), omega arith)
slot_lies shape desc j (suc zero) word h k l e = ((h, k), omega arith)
slot_lies shape desc j (suc (suc part)) word h k l e = ((h, k), omega arith)

reads_lie : (shape : Shape) (desc offset : ℕ) → desc < desc_count shape → offset + 1 < DESC_WORDS → Lies shape (in_reads desc offset) (desc_start shape desc + 1 + offset)
reads_lie shape desc offset h k = cond_both (ltb offset (2 * SET)) _ _ (λ p. Lies shape p (desc_start shape desc + 1 + offset))
    (λ t. let l = ltb-true offset (2 * SET) t in read_lies shape desc (offset / 2) (offset % 2) _ h (omega arith) (omega arith) (omega arith))
    (λ t. let l = ltb-false offset (2 * SET) t in slot_lies shape desc ((offset - 2 * SET) / 3) ((offset - 2 * SET) % 3) _ h (omega arith) (omega arith) (omega arith))

desc_lies : (shape : Shape) (desc offset : ℕ) → desc < desc_count shape → offset < DESC_WORDS → Lies shape (in_desc desc offset) (desc_start shape desc + offset)
unfolding Lies address
desc_lies shape desc zero h k = (h, omega arith)
desc_lies shape desc (suc offset) h k =
    let P : ℕ → Type 0 = λ word. Lies shape (in_reads desc offset) word in
    subst P (omega arith) (reads_lie shape desc offset h (omega arith))

descs_lie : (shape : Shape) (offset : ℕ) → offset < DESC_WORDS * desc_count shape → Lies shape (in_descs offset) (first_desc shape + offset)
descs_lie shape offset h =
    let P : ℕ → Type 0 = λ word. Lies shape (in_descs offset) word in
    subst P (omega arith) (desc_lies shape (offset / DESC_WORDS) (offset % DESC_WORDS) (omega arith) (omega arith))

nodes_lie : (shape : Shape) (offset : ℕ) → offset < 3 * node_count shape + DESC_WORDS * desc_count shape → Lies shape (in_nodes shape offset) (first_node shape + offset)
nodes_lie shape offset h = cond_both (ltb offset (3 * node_count shape)) _ _ (λ p. Lies shape p (first_node shape + offset))
    (λ t. let l = ltb-true offset (3 * node_count shape) t in node_lies shape (offset / 3) (offset % 3) _ (omega arith) (omega arith) (omega arith))
    (λ t. let l = ltb-false offset (3 * node_count shape) t in
    let P : ℕ → Type 0 = λ word. Lies shape (in_descs (offset - 3 * node_count shape)) word in
    subst P (omega arith) (descs_lie shape (offset - 3 * node_count shape) (omega arith)))

queues_lie : (shape : Shape) (offset : ℕ) → offset < 2 * shape.queues + 3 * node_count shape + DESC_WORDS * desc_count shape → Lies shape (in_queues shape offset) (first_queue shape + offset)
queues_lie shape offset h = cond_both (ltb offset (2 * shape.queues)) _ _ (λ p. Lies shape p (first_queue shape + offset))
    (λ t. let l = ltb-true offset (2 * shape.queues) t in queue_lies shape (offset / 2) (offset % 2) _ (omega arith) (omega arith) (omega arith))
    (λ t. let l = ltb-false offset (2 * shape.queues) t in
    let P : ℕ → Type 0 = λ word. Lies shape (in_nodes shape (offset - 2 * shape.queues)) word in
    subst P (omega arith) (nodes_lie shape (offset - 2 * shape.queues) (omega arith)))

buckets_lie : (shape : Shape) (offset : ℕ) → offset + 1 < words_of shape → Lies shape (in_buckets shape offset) (1 + offset)
unfolding words_of node_count desc_count Lies address
buckets_lie shape offset h = cond_both (ltb offset (shape.maps * shape.buckets)) _ _ (λ p. Lies shape p (1 + offset))
    (λ t. let l = ltb-true offset (shape.maps * shape.buckets) t in
    ((div_below offset shape.buckets shape.maps (omega arith) l, mod_below offset shape.buckets (omega arith)), omega (arith, div-add-mod' offset shape.buckets)))
    (λ t. let l = ltb-false offset (shape.maps * shape.buckets) t in
    let P : ℕ → Type 0 = λ word. Lies shape (in_queues shape (offset - shape.maps * shape.buckets)) word in
    subst P (omega arith) (queues_lie shape (offset - shape.maps * shape.buckets) (omega arith)))

pub address-place_at : WordIsPlace
unfolding place_at Lies address
address-place_at shape zero h = (tt, refl)
address-place_at shape (suc offset) h =
    let P : ℕ → Type 0 = λ word. Lies shape (in_buckets shape offset) word in
    subst P (omega arith) (buckets_lie shape offset (omega arith))

pub address_differs : AddressesDiffer
address_differs shape p q h k apart e = apart (sym (place_at-address shape p h) ∙ ap (place_at shape) e ∙ place_at-address shape q k)

pub address_below : AddressIsWord
unfolding address words_of node_count desc_count
address_below shape base_word h = omega arith
address_below shape (bucket_head map bucket) h = omega (arith, row_fits map shape.buckets shape.maps shape.buckets h.0 (le_refl _))
address_below shape (queue_head queue) h = omega arith
address_below shape (queue_tail queue) h = omega arith
address_below shape (node_key node) h = omega arith
address_below shape (node_value node) h = omega arith
address_below shape (node_next node) h = omega arith
address_below shape (desc_status desc) h = omega arith
address_below shape (read_word desc i) h = omega arith
address_below shape (read_content desc i) h = omega arith
address_below shape (slot_word desc j) h = omega arith
address_below shape (slot_old desc j) h = omega arith
address_below shape (slot_new desc j) h = omega arith

pub slice_index-slice_set_same : WriteLands
slice_index-slice_set_same shape words p x field h = get_or-set_same words (address shape p) x 0 (omega (arith, address_below shape p h))

pub slice_index-slice_set_word : WordLeaves
slice_index-slice_set_word shape words word q x h apart =
    get_or-set_other words word (address shape q) x 0 (λ e. apart (ap (place_at shape) (sym e) ∙ place_at-address shape q h))

pub slice_index-slice_set_other : WriteLeaves
slice_index-slice_set_other shape words p q x h k apart =
    slice_index-slice_set_word shape words (address shape p) q x k (λ e. apart (sym (place_at-address shape p h) ∙ e))

pub address-base_word : BaseIsZero
unfolding address
address-base_word shape = refl

pub bucket_of_below : BucketExists
unfolding bucket_of
bucket_of_below shape key = mod_below key shape.buckets (omega arith)

pub counted_by_place : CountedByPlace
counted_by_place shape p h =
    let e = place_at-address shape p h in
    ((λ c. subst (λ (q : Place). IsTrue (is_counted q)) e c.1), (λ c. (address_below shape p h, subst (λ (q : Place). IsTrue (is_counted q)) (sym e) c)))

pub words_fit : WordsFit
unfolding words_of
words_fit shape = shape.fits

pub nodes_fit_values : NodesFitValues
unfolding link_value node_count
nodes_fit_values shape node true h = let k = shape.fits in omega arith
nodes_fit_values shape node false h = let k = shape.fits in omega arith

pub descs_fit_values : DescsFitValues
unfolding desc_count
descs_fit_values shape desc h = let k = shape.fits in omega arith

-- for `grind` at functions that read and write the words of a field
pub ruleset places = (address_below, slice_index-slice_set_same, slice_index-slice_set_other)
