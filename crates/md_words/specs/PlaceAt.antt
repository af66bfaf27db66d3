-- Which place a word is. Each region takes an offset from where it begins, and hands on what lies past its end.
use Rattle.std.specs.Prelude.{ℕ, zero, suc, ◌+◌, ◌-◌, ◌*◌, ◌/◌, ◌%◌, ◌<◌, if◌then◌else◌, nat_lt, IsTrue}
use Rattle.md_words.specs.declared.shape.Shape.{Shape}
use Rattle.md_words.specs.declared.limits.TheConstants.{SET, DESC_WORDS}
use Rattle.md_words.specs.Place.{Place, base_word, bucket_head, queue_head, queue_tail, node_key, node_value, node_next, desc_status, read_word, read_content, slot_word, slot_old, slot_new, is_counted}
use Rattle.md_words.specs.Layout.{words_of, node_count}

abbrev pub part_of_queue : ℕ → ℕ → Place
part_of_queue queue zero = queue_head queue
part_of_queue queue (suc _) = queue_tail queue

abbrev pub part_of_node : ℕ → ℕ → Place
part_of_node node zero = node_key node
part_of_node node (suc zero) = node_value node
part_of_node node (suc (suc _)) = node_next node

abbrev pub part_of_read : ℕ → ℕ → ℕ → Place
part_of_read desc i zero = read_word desc i
part_of_read desc i (suc _) = read_content desc i

abbrev pub part_of_slot : ℕ → ℕ → ℕ → Place
part_of_slot desc j zero = slot_word desc j
part_of_slot desc j (suc zero) = slot_old desc j
part_of_slot desc j (suc (suc _)) = slot_new desc j

abbrev pub in_slots : ℕ → ℕ → Place
in_slots desc offset = part_of_slot desc (offset / 3) (offset % 3)

abbrev pub in_reads : ℕ → ℕ → Place
in_reads desc offset =
    if nat_lt offset (2 * SET) then part_of_read desc (offset / 2) (offset % 2) else in_slots desc (offset - 2 * SET)

abbrev pub in_desc : ℕ → ℕ → Place
in_desc desc zero = desc_status desc
in_desc desc (suc offset) = in_reads desc offset

abbrev pub in_descs : ℕ → Place
in_descs offset = in_desc (offset / DESC_WORDS) (offset % DESC_WORDS)

abbrev pub in_nodes : Shape → ℕ → Place
in_nodes shape offset =
    if nat_lt offset (3 * node_count shape) then part_of_node (offset / 3 + 1) (offset % 3) else in_descs (offset - 3 * node_count shape)

abbrev pub in_queues : Shape → ℕ → Place
in_queues shape offset =
    if nat_lt offset (2 * shape.queues) then part_of_queue (offset / 2) (offset % 2) else in_nodes shape (offset - 2 * shape.queues)

abbrev pub in_buckets : Shape → ℕ → Place
in_buckets shape offset =
    if nat_lt offset (shape.maps * shape.buckets)
    then bucket_head (offset / shape.buckets) (offset % shape.buckets)
    else in_queues shape (offset - shape.maps * shape.buckets)

-- the place of a word
unfoldable pub place_at : Shape → ℕ → Place
place_at shape zero = base_word
place_at shape (suc offset) = in_buckets shape offset

-- a word of the field that holds a value and a count
abbrev pub IsCounted : Shape → ℕ → Type 0
IsCounted shape word = (word < words_of shape) × IsTrue (is_counted (place_at shape word))
