-- What a walk along a list shows of a key, in any theory that has lists.
use Rattle.std.specs.Prelude.{◌≡◌, ◌⊎◌, ◌<◌, ℕ, false, Some, None}
use Rattle.std.specs.FinMap as fin
use Rattle.md_words.specs.Link.{is_marked}
use Rattle.md_words.specs.Layout.{bucket_of}
use Rattle.md_history.specs.State.{map_at}
use Rattle.md_machine.specs.declared.node.Structure.{Structure}
use Rattle.md_machine.specs.declared.node.Structure.TheVariants.{Bucket}
use Rattle.md_machine.specs.LogicalHeap.{LogicalHeap, next_of}
use Rattle.md_machine.specs.Meaning.{Meaning}
use Rattle.md_list_law.specs.ListShape.{next_word, head_word, IsIn, NamesAbove, NamesOnward}

-- an unmarked word, the list's head or the next word of a node with a smaller key, names no node or one with a greater
-- key
pub record IsGap (h : LogicalHeap) (list : Structure) (head key word : ℕ) : Type 0 where
  pub unmarked : is_marked (h.words.value word) ≡ false
  pub after : (word ≡ head) ⊎ ((node : ℕ) × IsIn h list node × (h.words.key_of node < key) × (word ≡ next_word h.words.shape node))
  pub before : NamesAbove h list key (h.words.value word)

module _ (M : Meaning) where
  -- keys rise along the next words of a bucket's nodes
  abbrev pub KeysRise : Type 0
  KeysRise = (h : LogicalHeap) (map bucket node : ℕ) → M.valid h → map < h.words.shape.maps → bucket < h.words.shape.buckets
      → IsIn h (Bucket map bucket) node → NamesOnward h (Bucket map bucket) (h.words.key_of node) (next_of h.words node)

  -- a gap shows that a key is absent
  abbrev pub GapShowsAbsent : Type 0
  GapShowsAbsent = (h : LogicalHeap) (map key word : ℕ) → M.valid h → map < h.words.shape.maps
      → IsGap h (Bucket map (bucket_of h.words.shape key)) (head_word h.words.shape map (bucket_of h.words.shape key)) key word
      → fin.get (map_at (M.state h.words) map) key ≡ None

  -- a node with an unmarked next word shows that its key is present
  abbrev pub NodeShowsPresent : Type 0
  NodeShowsPresent = (h : LogicalHeap) (map node : ℕ) → M.valid h → map < h.words.shape.maps
      → IsIn h (Bucket map (bucket_of h.words.shape (h.words.key_of node))) node → is_marked (next_of h.words node) ≡ false
      → fin.get (map_at (M.state h.words) map) (h.words.key_of node) ≡ Some (h.words.value_of_node node)
