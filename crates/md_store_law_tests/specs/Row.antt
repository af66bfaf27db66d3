-- A small field, as it is laid: key 5 with 6 in the one map, and 9 in the one queue.
use Rattle.std.specs.Prelude.{◌==◌, ℕ, List, replicate, slice_set, Option, Some, None, if◌then◌else◌}
use Rattle.md_machine.specs.declared.node.Structure.{Structure}
use Rattle.md_machine.specs.declared.node.Structure.TheVariants.{Bucket, Queue}

-- what each word holds: the head of bucket 5 names node 2; the queue's head names node 1, its tail and node 1's next word
-- name node 3
abbrev pub row_word : ℕ → ℕ
row_word word =
    if word == 6 then 17179869184 else (if word == 65 then 8589934592 else (if word == 66 then 25769803776 else (if word == 69 then 25769803776 else
    (if word == 70 then 5 else (if word == 71 then 6 else (if word == 73 then 1 else (if word == 74 then 9 else 0)))))))

-- where each node is placed
abbrev pub row_placed : ℕ → Option Structure
row_placed node =
    if node == 1 then Some (Queue 0) else (if node == 2 then Some (Bucket 0 5) else (if node == 3 then Some (Queue 0) else None))

-- the row as a list: eight words of a field of 0 were written
abbrev pub row_words : (size : ℕ) → List ℕ
row_words size =
    let last = slice_set (slice_set (slice_set (slice_set (replicate size 0) 74 9) 73 1) 71 6) 70 5 in
    slice_set (slice_set (slice_set (slice_set last 69 25769803776) 66 25769803776) 65 8589934592) 6 17179869184
