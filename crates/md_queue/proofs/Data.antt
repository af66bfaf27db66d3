-- The key and the value of a node that may be read.
use Rattle.std.proofs.Common.{◌≡◌, ◌<◌, ◌/◌, ℕ, refl, sym, ap, ◌∙◌, subst, inl, inr}
use Rattle.md_words.specs.Layout.{address, words_of}
use Rattle.md_words.specs.Link.{linked_node}
use Rattle.md_words.specs.Place.{node_key, node_value}
use Rattle.md_words.specs.PlaceAt.{place_at}
use Rattle.md_words.proofs.Places.{address_below, place_at-address}
use Rattle.md_machine.specs.Meaning.{Meaning}
use Rattle.md_nbtc_law.specs.Calls.{IsData, data_at}
use Rattle.md_nbtc_law.specs.Known.{Known}
use Rattle.md_nbtc_law.specs.State.{TxnState, shape_in}
use Rattle.md_queue.specs.Nodes.{IsReadable}

module _ (M : Meaning) (t : TxnState) (node : ℕ) (r : IsReadable M t node) (word : ℕ) where
  pub key_data : word ≡ address (shape_in t) (node_key node) → IsData M t word
  key_data is = record {
    node = node;
    exists = r.exists;
    within = subst (λ x. x < words_of (shape_in t)) (sym is) (address_below (shape_in t) (node_key node) r.exists);
    is = inl (ap (place_at (shape_in t)) is ∙ place_at-address (shape_in t) (node_key node) r.exists);
    among = r.among;
  }

  pub value_data : word ≡ address (shape_in t) (node_value node) → IsData M t word
  value_data is = record {
    node = node;
    exists = r.exists;
    within = subst (λ x. x < words_of (shape_in t)) (sym is) (address_below (shape_in t) (node_value node) r.exists);
    is = inr (ap (place_at (shape_in t)) is ∙ place_at-address (shape_in t) (node_value node) r.exists);
    among = r.among;
  }

  -- and what a look at it tells
  module _ (u : TxnState) (result : ℕ) (known : Known M u (λ v h. data_at h (place_at (shape_in t) word) ≡ result)) where
    pub key_known : word ≡ address (shape_in t) (node_key node) → Known M u (λ v h. h.words.key_of node ≡ result)
    key_known is v later prepared h of = subst (λ p. data_at h p ≡ result)
        (ap (place_at (shape_in t)) is ∙ place_at-address (shape_in t) (node_key node) r.exists) (known v later prepared h of)

    pub value_known : word ≡ address (shape_in t) (node_value node) → Known M u (λ v h. h.words.value_of_node node ≡ result)
    value_known is v later prepared h of = subst (λ p. data_at h p ≡ result)
        (ap (place_at (shape_in t)) is ∙ place_at-address (shape_in t) (node_value node) r.exists) (known v later prepared h of)

-- the node that a value names, as the code finds it
pub half_is : (value : ℕ) → value / 2 ≡ linked_node value
unfolding linked_node
half_is value = refl
