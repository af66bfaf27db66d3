-- When words are hash tables: for each map an array of buckets, in which a key's bucket is the key modulo their number.
use Rattle.std.specs.Prelude.{◌≡◌, ◌⊎◌, ◌<◌, ℕ, List, [], map as map_list, Some}
use Rattle.std.specs.List.{flat_map, range_with_len}
use Rattle.md_words.specs.declared.shape.Shape.{Shape}
use Rattle.md_history.specs.State.{State, Table}
use Rattle.md_machine.specs.declared.node.Structure.{Structure}
use Rattle.md_machine.specs.declared.node.Structure.TheVariants.{Bucket}
use Rattle.md_machine.specs.declared.certificate.Certificate.{Certificate}
use Rattle.md_machine.specs.declared.certificate.TidyChange.{TidyChange}
use Rattle.md_machine.specs.LogicalHeap.{LogicalWords, LogicalHeap}
use Rattle.md_machine.specs.Meaning.{Meaning}
use Rattle.md_list_law.specs.Walk.{pairs_from, map_of_pairs}
use Rattle.md_list_law.specs.ListShape.{head_word, IsNextWord, IsBucket}
use Rattle.md_list_law.specs.HasLists.{IsMapCertificate, IsBucketUnlink}

-- every bucket of every map is one
abbrev pub AreBuckets : LogicalHeap → Type 0
AreBuckets h = (map bucket : ℕ) → map < h.words.shape.maps → bucket < h.words.shape.buckets → IsBucket h map bucket

-- a structure is one of the shape's buckets
abbrev pub IsBucketOf : Shape → Structure → Type 0
IsBucketOf shape s = (map bucket : ℕ) × (map < shape.maps) × (bucket < shape.buckets) × (s ≡ Bucket map bucket)

-- the pairs of a map are those of its buckets, one after another
abbrev pub pairs_of_map : LogicalWords → (map : ℕ) → List (ℕ × ℕ)
pairs_of_map w map = flat_map (λ bucket. pairs_from w (head_word w.shape map bucket)) (range_with_len 0 w.shape.buckets)

abbrev pub maps_of : LogicalWords → List Table
maps_of w = map_list (λ map. map_of_pairs (pairs_of_map w map)) (range_with_len 0 w.shape.maps)

-- the word is a bucket's head
abbrev pub IsHeadWord : Shape → (word : ℕ) → Type 0
IsHeadWord shape word = (map bucket : ℕ) × (map < shape.maps) × (bucket < shape.buckets) × (word ≡ head_word shape map bucket)

-- the certificates and the unlinks of all maps
abbrev pub IsTableCertificate : Shape → Certificate → Type 0
IsTableCertificate shape c = (map key : ℕ) × (map < shape.maps) × IsMapCertificate shape map key c

abbrev pub IsTableUnlink : Shape → TidyChange → Type 0
IsTableUnlink shape t = (map bucket : ℕ) × (map < shape.maps) × (bucket < shape.buckets) × IsBucketUnlink shape map bucket t

-- the theory of hash tables and nothing else: every placed node is of a bucket
pub record IsHashTable (h : LogicalHeap) : Type 0 where
  pub buckets : AreBuckets h
  pub alone : (node : ℕ) (s : Structure) → h.placed node ≡ Some s → IsBucketOf h.words.shape s

abbrev pub state_of_tables : LogicalWords → State
state_of_tables w = record { maps = maps_of w; queues = [] }

abbrev pub hash_table : Meaning
hash_table = record {
  valid = IsHashTable;
  state = state_of_tables;
  certifies = IsTableCertificate;
  tidies = IsTableUnlink;
  links = λ shape word. IsHeadWord shape word ⊎ IsNextWord shape word;
}
