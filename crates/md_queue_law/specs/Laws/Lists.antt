-- The lists of all queues, from those of each.
use Rattle.std.proofs.Common.{◌≡◌, ◌≢◌, ℕ, ◌<◌, List, [], map, get_or, set, sym, ap, ◌∙◌, subst, ⊎_elim, arith}
use Rattle.std.proofs.lemmas.Bool.{cases_eq}
use Rattle.std.proofs.lemmas.List.{ext_get_or, length-set, get_or-set_same, get_or-set_other}
use Rattle.std.proofs.lemmas.List.FromFn.{length-map-range_with_len, get_or-map-range_with_len}
use Rattle.std.specs.List.{range_with_len}
use Rattle.md_machine.specs.LogicalHeap.{LogicalWords}
use Rattle.md_queue_law.specs.QueueValues.{queue_values, queue_lists}

module _ {X : Type 0} (d : X) (f g : ℕ → X) (n : ℕ) where
  at : (h : ℕ → X) (i : ℕ) → i < n → get_or (map h (range_with_len 0 n)) i d ≡ h i
  at h i b = get_or-map-range_with_len h 0 n i i d b (omega arith)

  -- functions that agree below a number
  pub map_same : ((i : ℕ) → i < n → g i ≡ f i) → map g (range_with_len 0 n) ≡ map f (range_with_len 0 n)
  map_same same = ext_get_or d _ _ (length-map-range_with_len g 0 n ∙ sym (length-map-range_with_len f 0 n))
      (λ i b. let c : i < n = subst (λ k. i < k) (length-map-range_with_len g 0 n) b in at g i c ∙ same i c ∙ sym (at f i c))

  -- and but at one
  pub map_set : (j : ℕ) (x : X) → j < n → g j ≡ x → ((i : ℕ) → i < n → i ≢ j → g i ≡ f i)
      → map g (range_with_len 0 n) ≡ set (map f (range_with_len 0 n)) j x
  map_set j x below here same = ext_get_or d _ _
      (length-map-range_with_len g 0 n ∙ sym (length-map-range_with_len f 0 n) ∙ sym (length-set (map f (range_with_len 0 n)) j x))
      (λ i b. let c : i < n = subst (λ k. i < k) (length-map-range_with_len g 0 n) b in at g i c ∙ ⊎_elim
      (λ e. ap g e ∙ here ∙ sym (get_or-set_same (map f (range_with_len 0 n)) j x d (subst (λ k. j < k) (sym (length-map-range_with_len f 0 n)) below))
      ∙ ap (λ m. get_or (set (map f (range_with_len 0 n)) j x) m d) (sym e))
      (λ ne. same i c ne ∙ sym (at f i c) ∙ sym (get_or-set_other (map f (range_with_len 0 n)) j i x d ne))
      (cases_eq i j))

-- the list of one queue
pub queue_list : (w : LogicalWords) (queue : ℕ) → queue < w.shape.queues → get_or (queue_lists w) queue [] ≡ queue_values w queue
queue_list w queue b = at [] (queue_values w) (queue_values w) w.shape.queues (queue_values w) queue b

pub lists_same : (w v : LogicalWords) → v.shape ≡ w.shape → ((queue : ℕ) → queue < w.shape.queues → queue_values v queue ≡ queue_values w queue)
    → queue_lists v ≡ queue_lists w
lists_same w v shape same = ap (λ s. map (queue_values v) (range_with_len 0 s.queues)) shape ∙ map_same [] (queue_values w) (queue_values v) w.shape.queues same

pub lists_set : (w v : LogicalWords) (queue : ℕ) (values : List ℕ) → v.shape ≡ w.shape → queue < w.shape.queues → queue_values v queue ≡ values
    → ((other : ℕ) → other < w.shape.queues → other ≢ queue → queue_values v other ≡ queue_values w other)
    → queue_lists v ≡ set (queue_lists w) queue values
lists_set w v queue values shape below here same =
    ap (λ s. map (queue_values v) (range_with_len 0 s.queues)) shape ∙ map_set [] (queue_values w) (queue_values v) w.shape.queues queue values below here same
