-- A field laid anew from the contents of another one: its nodes are as many as the contents need, and it has those contents.
use Rattle.std.proofs.Common.{◌≡◌, ℕ, ◌+◌, ◌*◌, ◌<◌, ◌%◌, ◌++◌, List, length, map as map_list, length-append, refl, sym, ap, ◌∙◌, subst, arith}
use Rattle.std.specs.List.{flat_map, range_with_len}
use Rattle.std.specs.FinMap as fin
use Rattle.std.proofs.lemmas.List.{length-map}
use Rattle.std.proofs.lemmas.List.FromFn.{length-map-range_with_len}
use Rattle.md_words.specs.declared.shape.Shape.{Shape}
use Rattle.md_words.specs.Layout.{bucket_of}
use Rattle.md_history.specs.State.{Table}
use Rattle.md_machine.specs.declared.node.Structure.TheVariants.{Bucket, Queue}
use Rattle.md_list_law.specs.Walk.{map_of_pairs, pairs_from}
use Rattle.md_list_law.specs.ListShape.{head_word}
use Rattle.md_hash_law.specs.HashTable.{pairs_of_map, maps_of}
use Rattle.md_hash_law.specs.Laws.Maps.{map-same}
use Rattle.md_queue_law.specs.QueueValues.{queue_values, queue_lists}
use Rattle.md_history.specs.Engine.{needed}
use Rattle.md_store_law.specs.Field.{logical_words, IsStoreField}
use Rattle.md_store_law.specs.Laid.{LaidNode, IsLaid, dummies, pair_nodes, value_nodes, nodes_of_map, nodes_of_maps, nodes_of_queues, nodes_by}
use Rattle.md_store_law.specs.declared.gathering.Living.{Living}
use Rattle.md_store_law.specs.Lists.{between}
use Rattle.md_store_law.specs.Living.{HasRoomFor, LivesIn, by_number, listed_nodes, pairs_listed, values_listed}
use Rattle.md_store_law.specs.Compacted.{IsWithBase, IsCompacted, contents_of, pairs_in, values_in, living_nodes}
use Rattle.md_store_layout.proofs.Growing.{length-value_nodes}
use Rattle.md_store_law.proofs.Joined.{between_is, has_list, number_is, number_below, length-by_number}
use Rattle.md_store_layout.proofs.LaidContents.{flat_map_same}
use Rattle.md_store_law.proofs.PairCounts.{length-pieces, len-map, keys_rise, keys_home}
use Rattle.md_store_layout.proofs.Stores.{StandFor, AreSorted, pairs_laid, values_laid}
use Rattle.md_store_layout.proofs.Entries.{nodes_stand}
use Rattle.md_store_layout.proofs.Untouched.{laid_untouched}
use Rattle.md_store_layout.proofs.Opening.{store_field, laid_opens}

pub living_count : (shape : Shape) (words : List ℕ) → IsStoreField shape words → length (living_nodes shape words) ≡ needed (contents_of shape words)
living_count shape words f =
    let w = logical_words shape words in
    let table : ℕ → Table = λ map. map_of_pairs (pairs_of_map w map) in
    let maps = nodes_of_maps shape (pairs_in shape words) shape.maps in
    let queues = nodes_of_queues (values_in shape words) shape.queues in
    let all = length-append (dummies shape.queues ++ maps) queues in
    let front = length-append (dummies shape.queues) maps in
    let few = length-map-range_with_len {X = LaidNode} (λ q. record { structure = Queue q; key = 0; value = 0 }) 0 shape.queues in
    let lists = length-map-range_with_len (values_in shape words) 0 shape.queues in
    let pairs = length-pieces (nodes_of_map shape (pairs_in shape words)) fin.len table 0 shape.maps (λ map low high. map_count map (omega (arith, high))) in
    let values = length-pieces (λ q. value_nodes q 1 (values_in shape words q)) length (values_in shape words) 0 shape.queues
    (λ q low high. length-value_nodes q 1 (values_in shape words q)) in
    omega (arith, all, front, few, lists, pairs, values)
  where
    map_count : (map : ℕ) → map < shape.maps → length (nodes_of_map shape (pairs_in shape words) map) ≡ fin.len (map_of_pairs (pairs_of_map (logical_words shape words) map))
    map_count map m =
        length-pieces (λ b. pair_nodes map b (pairs_in shape words map b)) length (pairs_in shape words map) 0 shape.buckets
        (λ b low high. length-map {B = LaidNode} (pairs_in shape words map b) (λ p. record { structure = Bucket map b; key = p.0; value = p.1 }))
        ∙ sym (length-pieces (pairs_in shape words map) length (pairs_in shape words map) 0 shape.buckets (λ b low high. refl))
        ∙ sym (len-map shape words f map m)

-- nodes depend on the numbers of a shape alone
abbrev nodes_at : (pairs : ℕ → ℕ → List (ℕ × ℕ)) (values : ℕ → List ℕ) → (maps buckets queues : ℕ) → List LaidNode
nodes_at pairs values maps buckets queues =
    (dummies queues ++ flat_map (λ map. flat_map (λ b. pair_nodes map b (pairs map b)) (range_with_len 0 buckets)) (range_with_len 0 maps))
    ++ nodes_of_queues values queues

nodes_same : (shape fresh : Shape) (pairs : ℕ → ℕ → List (ℕ × ℕ)) (values : ℕ → List ℕ) → fresh.maps ≡ shape.maps → fresh.buckets ≡ shape.buckets
    → fresh.queues ≡ shape.queues → nodes_by fresh pairs values ≡ nodes_by shape pairs values
nodes_same shape fresh pairs values e f g =
    ap (λ n. nodes_at pairs values n fresh.buckets fresh.queues) e
    ∙ ap (λ n. nodes_at pairs values shape.maps n fresh.queues) f ∙ ap (λ n. nodes_at pairs values shape.maps shape.buckets n) g

-- as many nodes are needed as there are queues, pairs and values in the lists
pub living_needed : (shape : Shape) (words : List ℕ) (living : Living) → IsStoreField shape words → LivesIn shape words living
    → shape.queues + length living.pairs.joined.items + length living.values.joined.items ≡ needed (contents_of shape words)
living_needed shape words living f lives =
    let w = logical_words shape words in
    let table : ℕ → Table = λ map. map_of_pairs (pairs_of_map w map) in
    let lists = length-map-range_with_len (values_in shape words) 0 shape.queues in
    let pairs = ap length lives.pairs.all ∙ length-by_number shape (pairs_in shape words) shape.maps
    ∙ length-pieces (pairs_of_map w) fin.len table 0 shape.maps (λ map low high. sym (len-map shape words f map (omega (arith, high)))) in
    let values = ap length lives.values.all ∙ length-pieces (values_in shape words) length (values_in shape words) 0 shape.queues (λ q low high. refl) in
    omega (arith, lists, pairs, values)

module _ (shape fresh : Shape) (words : List ℕ) (living : Living) (is : IsWithBase shape (needed (contents_of shape words)) fresh)
    (lives : LivesIn shape words living) where
  abbrev listed : ℕ → ℕ → ℕ → List (ℕ × ℕ)
  listed buckets map bucket = between living.pairs.joined.items living.pairs.bounds.items (map * buckets + bucket)

  -- what is listed for a bucket of the new shape is what the bucket has
  same_pairs : (map bucket : ℕ) → map < shape.maps → bucket < shape.buckets → listed shape.buckets map bucket ≡ pairs_in shape words map bucket
  same_pairs map bucket m b =
      between_is (by_number shape (pairs_in shape words)) _ _ _ lives.pairs (map * shape.buckets + bucket) (number_below shape (pairs_in shape words) map bucket m b)
      ∙ number_is shape (pairs_in shape words) map bucket b

  -- the nodes of what is listed are those of what lives in the field
  pub listed_living : listed_nodes fresh living ≡ living_nodes shape words
  listed_living =
      let maps = nodes_of_maps shape (pairs_in shape words) shape.maps in
      nodes_same shape fresh (pairs_listed fresh living) (values_listed living) is.4 is.5 is.6
      ∙ ap (λ buckets. nodes_by shape (listed buckets) (values_listed living)) is.5
      ∙ ap (λ nodes. (dummies shape.queues ++ nodes) ++ nodes_of_queues (values_listed living) shape.queues)
      (flat_map_same (nodes_of_map shape (listed shape.buckets)) (nodes_of_map shape (pairs_in shape words)) 0 shape.maps (λ map low high.
      flat_map_same (λ b. pair_nodes map b (listed shape.buckets map b)) (λ b. pair_nodes map b (pairs_in shape words map b)) 0 shape.buckets (λ b low under.
      ap (pair_nodes map b) (same_pairs map b (omega (arith, high)) (omega (arith, under))))))
      ∙ ap (λ nodes. (dummies shape.queues ++ maps) ++ nodes)
      (flat_map_same (λ q. value_nodes q 1 (values_listed living q)) (λ q. value_nodes q 1 (values_in shape words q)) 0 shape.queues (λ q low high.
      ap (value_nodes q 1) (between_is (values_in shape words) _ _ _ lives.values q (omega (arith, high)))))

  -- so a shape with as many base nodes as are needed has room
  pub room_living : IsStoreField shape words → HasRoomFor fresh living
  room_living f =
      let numbers = ap (λ n. n * fresh.buckets) is.4 ∙ ap (λ n. shape.maps * n) is.5 in
      record {
        pairs = λ number below. has_list (by_number shape (pairs_in shape words)) _ _ _ lives.pairs number (omega (arith, below, numbers));
        values = λ queue below. has_list (values_in shape words) _ _ _ lives.values queue (omega (arith, below, is.6));
        fits = omega (arith, ap length listed_living, living_count shape words f, is.2);
      }

module _ (shape fresh : Shape) (words row : List ℕ) (f : IsStoreField shape words) (is : IsWithBase shape (needed (contents_of shape words)) fresh)
    (laid : IsLaid fresh row (living_nodes shape words)) where
  abbrev pairs : ℕ → ℕ → List (ℕ × ℕ)
  pairs = pairs_in shape words

  abbrev values : ℕ → List ℕ
  values = values_in shape words

  same_home : (q : ℕ) → bucket_of fresh q ≡ bucket_of shape q
  unfolding bucket_of
  same_home q = ap (λ n. q % n) is.5

  sorted : AreSorted fresh pairs
  sorted = record {
    rise = λ map bucket m b. keys_rise shape words f map (omega (arith, m, is.4)) bucket (omega (arith, b, is.5));
    home = λ map bucket m b. keys_home shape words f map (omega (arith, m, is.4)) (bucket_of fresh) same_home bucket (omega (arith, b, is.5));
  }

  same : nodes_by fresh pairs values ≡ living_nodes shape words
  same = nodes_same shape fresh pairs values is.4 is.5 is.6

  anew : IsLaid fresh row (nodes_by fresh pairs values)
  anew = subst (λ (nodes : List LaidNode). IsLaid fresh row nodes) (sym same) laid

  for : StandFor fresh (nodes_by fresh pairs values) pairs values
  for = nodes_stand fresh pairs values (let count = living_count shape words f in omega (arith, count, ap length same, is.2))

  same_map : (map : ℕ) → map < shape.maps → pairs_of_map (logical_words fresh row) map ≡ pairs_of_map (logical_words shape words) map
  same_map map m =
      ap (λ n. flat_map (λ b. pairs_from (logical_words fresh row) (head_word fresh map b)) (range_with_len 0 n)) is.5
      ∙ flat_map_same (λ b. pairs_from (logical_words fresh row) (head_word fresh map b)) (pairs map) 0 shape.buckets (λ b low high.
      pairs_laid fresh row (nodes_by fresh pairs values) pairs values anew for sorted map b (omega (arith, m, is.4)) (omega (arith, high, is.5)))

  same_maps : maps_of (logical_words fresh row) ≡ maps_of (logical_words shape words)
  same_maps =
      let old : ℕ → Table = λ map. map_of_pairs (pairs_of_map (logical_words shape words) map) in
      let new : ℕ → Table = λ map. map_of_pairs (pairs_of_map (logical_words fresh row) map) in
      ap (λ n. map_list new (range_with_len 0 n)) is.4
      ∙ map-same new old 0 shape.maps (λ map low high. ap map_of_pairs (same_map map (omega (arith, high))))

  same_queues : queue_lists (logical_words fresh row) ≡ queue_lists (logical_words shape words)
  same_queues =
      ap (λ n. map_list (queue_values (logical_words fresh row)) (range_with_len 0 n)) is.6
      ∙ map-same (queue_values (logical_words fresh row)) values 0 shape.queues (λ queue low high.
      values_laid fresh row (nodes_by fresh pairs values) pairs values anew for sorted queue (omega (arith, high, is.6)))

  same_state : contents_of fresh row ≡ contents_of shape words
  same_state = ap (λ (maps : List Table). record { maps = maps; queues = queue_lists (logical_words fresh row) }) same_maps
      ∙ ap (λ (queues : List (List ℕ)). record { maps = maps_of (logical_words shape words); queues = queues }) same_queues

  -- so the field is one compacted
  pub compacted : IsCompacted shape words fresh row
  compacted = record {
    numbers = is;
    laid = laid;
    store = store_field fresh row (nodes_by fresh pairs values) pairs values anew for sorted;
    untouched = laid_untouched fresh row (nodes_by fresh pairs values) pairs values anew for;
    opens = laid_opens fresh row (nodes_by fresh pairs values) pairs values anew for sorted (contents_of shape words) same_state;
  }
