-- Marks of values, and words of lists that differ.
use Rattle.std.proofs.Common.{◌≡◌, ℕ, ◌+◌, ◌%◌, ◌≢◌, ◌<◌, true, false, arith, eq-eqb}
use Rattle.std.proofs.lemmas.Bool.{eqb-false}
use Rattle.md_words.specs.declared.shape.Shape.{Shape}
use Rattle.md_words.specs.Link.{linked_node, is_marked}
use Rattle.md_words.specs.Place.{bucket_head, node_next}
use Rattle.md_words.specs.Layout.{IsNode}
use Rattle.md_words.proofs.Places.{address_differs}
use Rattle.md_list_law.specs.ListShape.{next_word, head_word}

-- an unmarked value with a mark names the same node, and is marked
pub linked_node-marked : (value : ℕ) → is_marked value ≡ false → linked_node (value + 1) ≡ linked_node value
unfolding is_marked linked_node
linked_node-marked value e = let odd = eqb-false (value % 2) 1 e in omega arith

pub is_marked-marked : (value : ℕ) → is_marked value ≡ false → is_marked (value + 1) ≡ true
unfolding is_marked
is_marked-marked value e = let odd = eqb-false (value % 2) 1 e in eq-eqb ((value + 1) % 2) 1 (omega arith)

-- the next words of two nodes differ, and no bucket's head is one
pub next_words_differ : (shape : Shape) (m n : ℕ) → IsNode shape m → IsNode shape n → m ≢ n → next_word shape m ≢ next_word shape n
next_words_differ shape m n is_m is_n apart = address_differs shape (node_next m) (node_next n) is_m is_n (λ e. apart (next_is e))
  where
    next_is : node_next m ≡ node_next n → m ≡ n
    next_is e = cc e

pub head_is_no_next : (shape : Shape) (map bucket n : ℕ) → map < shape.maps → bucket < shape.buckets → IsNode shape n
    → next_word shape n ≢ head_word shape map bucket
head_is_no_next shape map bucket n below inside is_n = address_differs shape (node_next n) (bucket_head map bucket) is_n (below, inside) (λ e. cc e)

-- the heads of two buckets differ
pub heads_differ : (shape : Shape) (map bucket other_map other_bucket : ℕ) → map < shape.maps → bucket < shape.buckets → other_map < shape.maps
    → other_bucket < shape.buckets
    → bucket_head map bucket ≢ bucket_head other_map other_bucket → head_word shape map bucket ≢ head_word shape other_map other_bucket
heads_differ shape map bucket other_map other_bucket m b om ob apart = address_differs shape (bucket_head map bucket)
    (bucket_head other_map other_bucket) (m, b) (om, ob) apart
