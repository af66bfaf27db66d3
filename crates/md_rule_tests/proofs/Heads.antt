-- A bucket's head is a counted word, and no node's next word.
use Rattle.std.proofs.Common.{◌≡◌, ℕ, Bool, true, false, true≢false, refl, ap, sym, ◌∙◌, subst, arith}
use Rattle.std.specs.Prelude.{IsTrue}
use Rattle.std.proofs.lemmas.Nat.{mod_below}
use Rattle.md_words.specs.declared.shape.Shape.{Shape}
use Rattle.md_words.specs.Layout.{Exists, IsNode, address, bucket_of}
use Rattle.md_words.specs.Place.{Place, bucket_head, is_counted, node_next}
use Rattle.md_words.specs.PlaceAt.{IsCounted}
use Rattle.md_words.proofs.Places.{address_below, address_differs, place_at-address}

abbrev head_of : (shape : Shape) (key : ℕ) → Place
head_of shape key = bucket_head 0 (bucket_of shape key)

exists : (shape : Shape) (key : ℕ) → Exists shape (head_of shape key)
unfolding bucket_of
exists shape key = (omega (arith, shape.in_range.maps_fit), mod_below key shape.buckets (omega (arith, shape.in_range.buckets_fit)))

-- it is counted
pub head_counted : (shape : Shape) (key : ℕ) → IsCounted shape (address shape (bucket_head 0 (bucket_of shape key)))
head_counted shape key = (
  address_below shape (head_of shape key) (exists shape key),
  subst (λ (p : Place). IsTrue (is_counted p)) (sym (place_at-address shape (head_of shape key) (exists shape key))) refl,
)

abbrev is_head : Place → Bool
is_head (bucket_head map bucket) = true
is_head _ = false

-- it belongs to no node
pub head_apart : (shape : Shape) (key node : ℕ) → IsNode shape node → address shape (bucket_head 0 (bucket_of shape key)) ≡ address shape (node_next node) → ⊥
head_apart shape key node is e = address_differs shape (head_of shape key) (node_next node) (exists shape key) is (λ f. true≢false (ap is_head f)) e

-- and so it is for a word that is said to be the head
module _ (shape s : Shape) (key word : ℕ) (same : s ≡ shape) (at : word ≡ address s (bucket_head 0 (bucket_of s key))) where
  pub counted_at : IsCounted shape word
  counted_at = subst (λ x. IsCounted x word) same (subst (IsCounted s) (sym at) (head_counted s key))

  pub apart_at : (node : ℕ) → IsNode shape node → word ≡ address shape (node_next node) → ⊥
  apart_at = subst (λ x. (node : ℕ) → IsNode x node → word ≡ address x (node_next node) → ⊥) same (λ node is e. head_apart s key node is (sym at ∙ e))
