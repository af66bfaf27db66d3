-- Links name one node, and the words of queues and nodes are apart.
use Rattle.std.proofs.Common.{◌≡◌, ◌≢◌, ℕ, ◌<◌, false, refl, sym, ap, ◌∙◌, arith}
use Rattle.md_words.specs.declared.shape.Shape.{Shape}
use Rattle.md_words.specs.Link.{linked_node}
use Rattle.md_words.specs.Place.{Place, queue_head, queue_tail, node_next}
use Rattle.md_words.specs.Layout.{address, Exists, IsNode}
use Rattle.md_words.proofs.Places.{place_at-address, address_differs}
use Rattle.md_words.proofs.Words.{linked_node-link_value}
use Rattle.md_words.specs.PlaceAt.{place_at}
use Rattle.md_queue_law.specs.QueueShape.{link}

pub linked_node-link : (node : ℕ) → linked_node (link node) ≡ node
linked_node-link node = linked_node-link_value node false

pub linked_node-zero : linked_node 0 ≡ 0
unfolding linked_node
linked_node-zero = refl

pub link-injective : (a b : ℕ) → link a ≡ link b → a ≡ b
link-injective a b e = sym (linked_node-link a) ∙ ap linked_node e ∙ linked_node-link b

-- a node has no link that is 0
pub link_not_zero : (shape : Shape) (node : ℕ) → IsNode shape node → link node ≢ 0
link_not_zero shape node is e =
    let n : node ≡ 0 = sym (linked_node-link node) ∙ ap linked_node e ∙ linked_node-zero in
    let low = is.0 in omega arith

-- the number of a place
place_number : Place → ℕ
place_number (queue_head queue) = queue
place_number (queue_tail queue) = queue
place_number (node_next node) = node
place_number _ = 0

module _ (shape : Shape) where
  same_number : (p q : Place) → Exists shape p → Exists shape q → address shape p ≡ address shape q → place_number p ≡ place_number q
  same_number p q is_p is_q e = ap place_number (sym (place_at-address shape p is_p) ∙ ap (place_at shape) e ∙ place_at-address shape q is_q)

  pub next_same : (a b : ℕ) → IsNode shape a → IsNode shape b → address shape (node_next a) ≡ address shape (node_next b) → a ≡ b
  unfolding place_number
  next_same a b = same_number (node_next a) (node_next b)

  pub head_same : (a b : ℕ) → a < shape.queues → b < shape.queues → address shape (queue_head a) ≡ address shape (queue_head b) → a ≡ b
  unfolding place_number
  head_same a b = same_number (queue_head a) (queue_head b)

  pub tail_same : (a b : ℕ) → a < shape.queues → b < shape.queues → address shape (queue_tail a) ≡ address shape (queue_tail b) → a ≡ b
  unfolding place_number
  tail_same a b = same_number (queue_tail a) (queue_tail b)

  pub head_not_next : (queue node : ℕ) → queue < shape.queues → IsNode shape node → address shape (queue_head queue) ≢ address shape (node_next node)
  head_not_next queue node is_q is_n = address_differs shape (queue_head queue) (node_next node) is_q is_n (λ e. cc)

  pub tail_not_next : (queue node : ℕ) → queue < shape.queues → IsNode shape node → address shape (queue_tail queue) ≢ address shape (node_next node)
  tail_not_next queue node is_q is_n = address_differs shape (queue_tail queue) (node_next node) is_q is_n (λ e. cc)

  pub head_not_tail : (a b : ℕ) → a < shape.queues → b < shape.queues → address shape (queue_head a) ≢ address shape (queue_tail b)
  head_not_tail a b is_a is_b = address_differs shape (queue_head a) (queue_tail b) is_a is_b (λ e. cc)
