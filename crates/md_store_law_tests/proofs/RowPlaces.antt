-- Fields of one small shape: where their places lie, whatever their words hold.
use Rattle.std.proofs.Common.{◌≡◌, ℕ, zero, suc, ◌+◌, ◌-◌, ◌*◌, ◌<◌, ◌≤◌, cond, false, List, slice_index, length, get_or, set, replicate, eqb, refl, sym, ap, ◌∙◌, subst, ⊎_elim, arith}
use Rattle.std.specs.Prelude.{IsTrue}
use Rattle.std.proofs.lemmas.Bool.{cases_eq, cond-true, cond-false, eq-eqb, ne_eqb, false≢true}
use Rattle.std.proofs.lemmas.List.{get_or-set_same, get_or-set_other}
use Rattle.md_words.specs.declared.shape.Shape.{Shape}
use Rattle.md_words.specs.Content.{value_of}
use Rattle.md_words.specs.Place.{Place, is_counted, node_key, node_value, node_next}
use Rattle.md_words.specs.PlaceAt.{place_at, IsCounted}
use Rattle.md_words.specs.Layout.{HasNumbers, address, words_of, node_count, first_node, IsNode, Exists}
use Rattle.md_words.proofs.Places.{place_at-address}
use Rattle.md_machine.specs.LogicalHeap.{LogicalWords, next_of}
use Rattle.md_list_law.specs.ListShape.{head_word}
use Rattle.md_queue_law.specs.QueueShape.{head_of, tail_of}
use Rattle.md_store_law.specs.Field.{logical_words}

-- what a list holds after a write
pub after_set : (xs : List ℕ) (place x word was : ℕ) → place < length xs → get_or xs word 0 ≡ was → get_or (set xs place x) word 0 ≡ cond (eqb word place) x was
after_set xs place x word was below e = ⊎_elim
    (λ same. ap (λ w. get_or (set xs place x) w 0) same ∙ get_or-set_same xs place x 0 below ∙ sym (cond-true (eqb word place) x was (eq-eqb word place same)))
    (λ other. get_or-set_other xs place word x 0 other ∙ e ∙ sym (cond-false (eqb word place) x was (ne_eqb word place other)))
    (cases_eq word place)

pub all_zero : (size word : ℕ) → get_or {A = ℕ} (replicate size 0) word 0 ≡ 0
all_zero zero word = refl
all_zero (suc size) zero = refl
all_zero (suc size) (suc word) = all_zero size word

pub words_are : (shape : Shape) → HasNumbers shape 2 16 3 4 1 64 1 → words_of shape ≡ 1454
unfolding words_of
words_are shape n = rw (n.0, n.1, n.2, n.4, n.5, n.6) refl

module _ (shape : Shape) (n : HasNumbers shape 2 16 3 4 1 64 1) where
  first_is : first_node shape ≡ 67
  first_is = rw (n.4, n.5, n.6) refl

  pub nodes_are : node_count shape ≡ 35
  unfolding node_count
  nodes_are = rw (n.0, n.1, n.2) refl

  pub node_is : (node : ℕ) → 1 ≤ node → node ≤ 35 → IsNode shape node
  node_is node low high = (low, omega (arith, nodes_are))

  pub key_word : (node word : ℕ) → 67 + 3 * (node - 1) ≡ word → address shape (node_key node) ≡ word
  unfolding address
  key_word node word e = ap (λ f. f + 3 * (node - 1)) first_is ∙ e

  pub value_word : (node word : ℕ) → 67 + 3 * (node - 1) + 1 ≡ word → address shape (node_value node) ≡ word
  unfolding address
  value_word node word e = ap (λ f. f + 3 * (node - 1) + 1) first_is ∙ e

  next_word : (node word : ℕ) → 67 + 3 * (node - 1) + 2 ≡ word → address shape (node_next node) ≡ word
  unfolding address
  next_word node word e = ap (λ f. f + 3 * (node - 1) + 2) first_is ∙ e

  -- the words of keys and values hold no counts
  pub no_count : (p : Place) (word : ℕ) → Exists shape p → is_counted p ≡ false → address shape p ≡ word → IsCounted shape word → ⊥
  no_count p word is un e counted = false≢true (sym un ∙ ap is_counted (sym (place_at-address shape p is))
      ∙ subst (λ w. IsTrue (is_counted (place_at shape w))) (sym e) counted.1)

  module _ (words : List ℕ) (held : ℕ → ℕ) (at : (word : ℕ) → slice_index words word ≡ held word) where
    abbrev w : LogicalWords
    w = logical_words shape words

    pub key_at : (node word : ℕ) → 67 + 3 * (node - 1) ≡ word → w.key_of node ≡ held word
    key_at node word e = ap (λ a. slice_index words a) (key_word node word e) ∙ at word

    pub next_at : (node word : ℕ) → 67 + 3 * (node - 1) + 2 ≡ word → next_of w node ≡ value_of (held word)
    next_at node word e = ap value_of (ap (λ a. slice_index words a) (next_word node word e) ∙ at word)

    pub head_at : (bucket : ℕ) → bucket < 64 → w.value (head_word shape 0 bucket) ≡ value_of (held (1 + bucket))
    unfolding address
    head_at bucket below = ap value_of (ap (λ a. slice_index words a) (omega arith) ∙ at (1 + bucket))

    pub queue_head_at : head_of w 0 ≡ value_of (held 65)
    unfolding address
    queue_head_at = ap (λ a. value_of (slice_index words a)) (rw (n.4, n.5) refl) ∙ ap value_of (at 65)

    pub queue_tail_at : tail_of w 0 ≡ value_of (held 66)
    unfolding address
    queue_tail_at = ap (λ a. value_of (slice_index words a)) (rw (n.4, n.5) refl) ∙ ap value_of (at 66)
