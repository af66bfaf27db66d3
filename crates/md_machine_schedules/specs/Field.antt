-- A small field, on which the worked schedules run, and its words by name.
use Rattle.std.specs.Prelude.{ℕ, List, [], ◌∷◌, ◌*◌, replicate, slice_set}
use Rattle.std.proofs.Common.{lit≤}
use Rattle.md_words.specs.declared.shape.Shape.{Shape}
use Rattle.md_words.specs.declared.content.Spot.{Spot}
use Rattle.md_words.specs.Content.{counted_word, spot_value}
use Rattle.md_words.specs.Place.{Place, bucket_head, queue_head, queue_tail}
use Rattle.md_words.specs.Layout.{address, words_of}
use Rattle.md_machine.specs.declared.node.Structure.TheVariants.{Queue}
use Rattle.md_machine.specs.declared.opening.Opening.{Opening}

-- two lanes of 16 nodes and four tries, one base node, one map of 64 buckets and one queue
abbrev pub small_shape : Shape
small_shape = record {
  lanes = 2;
  nodes = 16;
  base = 1;
  tries = 4;
  maps = 1;
  buckets = 64;
  queues = 1;
  in_range = record {
    lanes_fit = (lit≤ tt, lit≤ tt);
    nodes_fit = (lit≤ tt, lit≤ tt);
    base_fits = lit≤ tt;
    tries_fit = (lit≤ tt, lit≤ tt);
    maps_fit = (lit≤ tt, lit≤ tt);
    buckets_fit = (lit≤ tt, lit≤ tt);
    queues_fit = lit≤ tt;
  };
  fits = lit≤ tt;
}

-- the word of a place
abbrev pub place_word : Place → ℕ
place_word place = address small_shape place

-- the head of the bucket in which key 1 lies
abbrev pub bucket : ℕ
bucket = place_word (bucket_head 0 1)

-- an unmarked link to a node, as a value
abbrev pub link_to : ℕ → ℕ
link_to node = node * 2

-- the field is empty: the queue's head and tail name its dummy, the base node
abbrev pub dummy_link : ℕ
dummy_link = counted_word (link_to 1) 0

abbrev pub small_words : List ℕ
small_words =
    slice_set (slice_set (replicate (words_of small_shape) 0) (place_word (queue_head 0)) dummy_link) (place_word (queue_tail 0)) dummy_link

abbrev pub small_opening : Opening
small_opening = record {
  shape = small_shape;
  words = small_words;
  placed = record { node = 1; structure = Queue 0 } ∷ [];
}

-- the first slot of a descriptor, and the content by which it stands in a word that was 0
abbrev pub first_slot : ℕ → Spot
first_slot desc = record { desc = desc; slot = 0 }

abbrev pub standing : ℕ → ℕ
standing desc = counted_word (spot_value (first_slot desc)) 1
