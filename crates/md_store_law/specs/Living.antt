-- What lives in a field: the pairs of its maps and the values of its queues, listed by bucket and by queue.
use Rattle.std.specs.Prelude.{◌+◌, ◌*◌, ◌/◌, ◌%◌, ◌<◌, ◌≤◌, ℕ, List, length}
use Rattle.md_words.specs.declared.shape.Shape.{Shape}
use Rattle.md_store_law.specs.declared.gathering.Living.{Living}
use Rattle.md_store_law.specs.Laid.{LaidNode, nodes_by}
use Rattle.md_history.specs.Engine.{needed}
use Rattle.md_store_law.specs.Field.{IsStoreField}
use Rattle.md_store_law.specs.Compacted.{IsCompacted, MayHaveBase, contents_of, pairs_in, values_in}
use Rattle.md_store_law.specs.Lists.{HasList, AreFirst, between}

-- what buckets have, by the number of a bucket among those of all maps
abbrev pub by_number : {X : Type 0} → Shape → (ℕ → ℕ → X) → ℕ → X
by_number shape of number = of (number / shape.buckets) (number % shape.buckets)

-- the lists are the pairs of all buckets of a field, and the values of all its queues
pub record LivesIn (shape : Shape) (words : List ℕ) (living : Living) : Type 0 where
  pub pairs : AreFirst living.pairs.joined.items living.pairs.bounds.items (by_number shape (pairs_in shape words)) (shape.maps * shape.buckets)
  pub values : AreFirst living.values.joined.items living.values.bounds.items (values_in shape words) shape.queues

-- the pairs that are listed for a bucket, and the values for a queue
abbrev pub pairs_listed : Shape → Living → (map bucket : ℕ) → List (ℕ × ℕ)
pairs_listed shape living map bucket = between living.pairs.joined.items living.pairs.bounds.items (map * shape.buckets + bucket)

abbrev pub values_listed : Living → (queue : ℕ) → List ℕ
values_listed living queue = between living.values.joined.items living.values.bounds.items queue

-- the dummies, and the nodes of what is listed
abbrev pub listed_nodes : Shape → Living → List LaidNode
listed_nodes shape living = nodes_by shape (pairs_listed shape living) (values_listed living)

-- each bucket and each queue of a shape has a list, and the shape has base nodes for all that is listed
pub record HasRoomFor (shape : Shape) (living : Living) : Type 0 where
  pub pairs : (number : ℕ) → number < shape.maps * shape.buckets → HasList living.pairs.joined.items living.pairs.bounds.items number
  pub values : (queue : ℕ) → queue < shape.queues → HasList living.values.joined.items living.values.bounds.items queue
  pub fits : length (listed_nodes shape living) ≤ shape.base

-- the lists are what lives in the words of some store with even counts, and the shape is in range with as many base nodes
-- as its contents need
pub record MayBeLaid (shape : Shape) (living : Living) : Type 0 where
  pub words : List ℕ
  pub store : IsStoreField shape words
  pub lives : LivesIn shape words living
  pub base : MayHaveBase shape (needed (contents_of shape words))

-- a field is compacted, of whatever words these lists are what lives in
abbrev pub IsLaidAnew : Shape → Living → Shape → List ℕ → Type 0
IsLaidAnew shape living fresh row =
    (words : List ℕ) → IsStoreField shape words → LivesIn shape words living → IsCompacted shape words fresh row
