-- A small field as use may leave it, of the same shape as the row that is laid. Its map has key 6 with 50 and key 134
-- with 54. Between them key 70 was removed twice: one node of it is marked and still linked, the other is marked and
-- unlinked. Its queue has 16 and 18: the head has passed two nodes, and the tail names the last node but one.
use Rattle.std.specs.Prelude.{◌==◌, ◌&&◌, Bool, true, ◌+◌, ◌*◌, ◌^◌, ℕ, List, [], ◌∷◌, nat_lt, replicate, slice_set, Option, Some, None, if◌then◌else◌}
use Rattle.md_machine.specs.declared.node.Structure.{Structure}
use Rattle.md_machine.specs.declared.node.Structure.TheVariants.{Bucket, Queue}

-- the word that holds a value and a count
abbrev holding : (value count : ℕ) → ℕ
holding value count = value * 2 ^ 32 + count

-- Words, each with what is written there. The head of bucket 6 names node 6. Node 6 names node 7, nodes 7 and 9 name
-- node 8, with marks, and node 8 names none. The queue's head names node 3 and its tail node 4, and nodes 1 to 5 are its
-- line.
abbrev pub used_row : List (ℕ × ℕ)
used_row =
    (7, holding 12 2) ∷ (65, holding 6 4) ∷ (66, holding 8 6) ∷ (69, holding 4 2)
    ∷ (70, 1) ∷ (71, 12) ∷ (72, holding 6 2)
    ∷ (73, 2) ∷ (74, 14) ∷ (75, holding 8 2)
    ∷ (76, 3) ∷ (77, 16) ∷ (78, holding 10 2)
    ∷ (79, 4) ∷ (80, 18)
    ∷ (82, 6) ∷ (83, 50) ∷ (84, holding 14 4)
    ∷ (85, 70) ∷ (86, 52) ∷ (87, holding 17 4)
    ∷ (88, 134) ∷ (89, 54) ∷ (90, holding 0 2)
    ∷ (91, 70) ∷ (92, 56) ∷ (93, holding 17 6) ∷ []

-- what a word holds after these writes, and the list after them
abbrev pub after_writes : List (ℕ × ℕ) → (word was : ℕ) → ℕ
after_writes [] word was = was
after_writes (w ∷ ws) word was = after_writes ws word (if word == w.0 then w.1 else was)

abbrev pub written : List (ℕ × ℕ) → List ℕ → List ℕ
written [] words = words
written (w ∷ ws) words = written ws (slice_set words w.0 w.1)

-- the words come before a number
abbrev pub are_below : ℕ → List (ℕ × ℕ) → Bool
are_below size [] = true
are_below size (w ∷ ws) = nat_lt w.0 size && are_below size ws

abbrev pub used_word : ℕ → ℕ
used_word word = after_writes used_row word 0

abbrev pub used_words : (size : ℕ) → List ℕ
used_words size = written used_row (replicate size 0)

-- where each node is placed
abbrev pub used_placed : ℕ → Option Structure
used_placed node =
    if node == 0 then None
    else (if nat_lt node 6 then Some (Queue 0)
    else (if nat_lt node 10 then Some (Bucket 0 6) else None))
