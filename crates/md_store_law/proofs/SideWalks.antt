-- How far walks along queues have come: one walk, and a group of them side by side.
use Rattle.std.proofs.Common.{◌≡◌, ◌≢◌, ℕ, zero, suc, ◌+◌, ◌<◌, ◌≤◌, ◌++◌, Bool, true, false, List, [], ◌∷◌, length, get_or, eqb, refl, sym, ap, ◌∙◌, subst, ◌⊎◌, ⊎_elim, Option, arith}
use Rattle.std.proofs.lemmas.Bool.{cases_eq, cond-true, cond-false, eq-eqb, ne_eqb}
use Rattle.std.proofs.lemmas.List.{append-nil, append_assoc, length_push, get_or_append_left, get_or_push}
use Rattle.md_words.specs.declared.shape.Shape.{Shape}
use Rattle.md_words.specs.Link.{linked_node}
use Rattle.md_words.specs.Layout.{node_count}
use Rattle.md_machine.specs.declared.node.Structure.{Structure}
use Rattle.md_machine.specs.LogicalHeap.{next_of}
use Rattle.md_queue_law.specs.QueueShape.{IsOf}
use Rattle.md_queue_law.specs.QueueValues.{node_after, values_after}
use Rattle.md_queue_law.specs.Laws.Words.{linked_node-link}
use Rattle.md_queue_law.proofs.Facts.{ranks_rise}
use Rattle.md_store_law.specs.declared.side_walks.QueueWalk.{QueueWalk}
use Rattle.md_store_law.specs.Field.{logical_words, IsStoreWith, IsStoreField}
use Rattle.md_store_law.specs.Compacted.{values_in}
use Rattle.md_store_law.specs.SideWalks.{IsWalkBegun, MayStep, WalkGoesOn, WalkStays, AreRead, EachWalk, AreSteps}
use Rattle.md_store_law.proofs.Walking.{heap_with}

-- one more walk
pub each_more : (P : ℕ → QueueWalk → Type 0) (first : ℕ) (walks : List QueueWalk) (walk : QueueWalk) (queue : ℕ) → first + length walks ≡ queue
    → EachWalk P first walks → P queue walk → EachWalk P first (walks ++ walk ∷ [])
each_more P first walks walk queue at each this i other below =
    let long = length_push walks walk in
    ⊎_elim
    (λ e. subst (λ x. P (first + i) x) (sym (get_or_push walks walk other i (sym e))) (subst (λ q. P q walk) (sym at ∙ ap (λ n. first + n) (sym e)) this))
    (λ ne. let lower : i < length walks = omega (arith, below, long) in
    subst (λ x. P (first + i) x) (sym (get_or_append_left walks (walk ∷ []) other i lower)) (each i other lower))
    (cases_eq i (length walks))

module _ (shape : Shape) (words : List ℕ) where
  -- a walk has come to a node of its queue: what it has read, and what so many steps more would read, is what the queue has
  pub record IsUnderWay (left queue : ℕ) (walk : QueueWalk) : Type 0 where
    pub is_of : (placed : ℕ → Option Structure) → IsStoreWith shape words placed → IsOf (heap_with shape words placed) queue walk.node
    pub rest : walk.values.items ++ values_after (logical_words shape words) left walk.node ≡ values_in shape words queue

  module _ (queue : ℕ) (q : queue < shape.queues) where
    pub walk_begun : (walk : QueueWalk) → IsWalkBegun shape words queue walk → IsUnderWay (node_count shape) queue walk
    walk_begun walk begun =
        let w = logical_words shape words in
        record {
          is_of = λ placed store. let head = (store.queues queue q).head in
              subst (IsOf (heap_with shape words placed) queue) (sym (begun.node ∙ ap linked_node head.2 ∙ linked_node-link head.0)) head.1;
          rest = ap (λ vs. vs ++ values_after w (node_count shape) walk.node) begun.values ∙ ap (values_after w (node_count shape)) begun.node;
        }

    after_of : (left : ℕ) (walk : QueueWalk) → IsUnderWay left queue walk → next_of (logical_words shape words) walk.node ≢ 0
        → (placed : ℕ → Option Structure) → IsStoreWith shape words placed
        → IsOf (heap_with shape words placed) queue (node_after (logical_words shape words) walk.node)
    after_of left walk way some placed store =
        let next = ranks_rise (heap_with shape words placed) queue (store.queues queue q) walk.node (way.is_of placed store) some in
        subst (IsOf (heap_with shape words placed) queue) (sym (ap linked_node next.2 ∙ linked_node-link next.0)) next.1

    -- the nodes that it needs exist
    pub walk_may : (left : ℕ) (walk : QueueWalk) → IsUnderWay left queue walk → IsStoreField shape words → MayStep shape words walk
    walk_may left walk way f = let exist = (f.store.queues queue q).line.exist in record {
      node = exist walk.node (way.is_of f.placed f.store);
      next = λ some. exist (node_after (logical_words shape words) walk.node) (after_of left walk way some f.placed f.store);
    }

    -- a step on
    pub walk_on : (left : ℕ) (before after : QueueWalk) → IsUnderWay (suc left) queue before → WalkGoesOn shape words before after → IsUnderWay left queue after
    walk_on left before after way on =
        let w = logical_words shape words in
        let next = w.value_of_node (node_after w before.node) in
        record {
          is_of = λ placed store. subst (IsOf (heap_with shape words placed) queue) (sym on.node) (after_of (suc left) before way on.next placed store);
          rest = ap (λ vs. vs ++ values_after w left after.node) on.values
              ∙ ap (λ n. (before.values.items ++ next ∷ []) ++ values_after w left n) on.node
              ∙ append_assoc before.values.items (next ∷ []) (values_after w left (node_after w before.node))
              ∙ ap (λ vs. before.values.items ++ vs) (sym (cond-false (eqb (next_of w before.node) 0) _ _ (ne_eqb (next_of w before.node) 0 on.next)))
              ∙ way.rest;
        }

  -- behind the last node nothing is left, in however many steps
  values_last : (left node : ℕ) → next_of (logical_words shape words) node ≡ 0 → values_after (logical_words shape words) left node ≡ []
  values_last zero node last = refl
  values_last (suc left) node last =
      let w = logical_words shape words in cond-true (eqb (next_of w node) 0) _ _ (eq-eqb (next_of w node) 0 last)

  -- so a walk that stays has read all
  pub walk_read : (left queue : ℕ) (before after : QueueWalk) → IsUnderWay left queue before → WalkStays shape words before after → AreRead shape words queue after
  walk_read left queue before after way stays =
      ap (λ (walk : QueueWalk). walk.values.items) stays.same ∙ sym (append-nil before.values.items)
      ∙ ap (λ vs. before.values.items ++ vs) (sym (values_last left before.node stays.last)) ∙ way.rest

  pub walk_stays : (left less queue : ℕ) (before after : QueueWalk) → IsUnderWay left queue before → WalkStays shape words before after → IsUnderWay less queue after
  walk_stays left less queue before after way stays = subst (λ (walk : QueueWalk). IsUnderWay less queue walk) (sym stays.same) (record {
    is_of = way.is_of;
    rest = ap (λ vs. before.values.items ++ vs) (values_last less before.node stays.last ∙ sym (values_last left before.node stays.last)) ∙ way.rest;
  })

  -- and one that has no step left
  pub walk_all : (left queue : ℕ) (walk : QueueWalk) → left ≡ 0 → IsUnderWay left queue walk → AreRead shape words queue walk
  walk_all left queue walk none way =
      sym (append-nil walk.values.items)
      ∙ ap (λ n. walk.values.items ++ values_after (logical_words shape words) n walk.node) (sym none) ∙ way.rest

  -- a group: its beginning, and what it may do
  module _ (first : ℕ) (walks : List QueueWalk) (within : first + length walks ≤ shape.queues) where
    queue_of : (i : ℕ) → i < length walks → first + i < shape.queues
    queue_of i below = omega (arith, below, within)

    pub group_begun : EachWalk (IsWalkBegun shape words) first walks → EachWalk (IsUnderWay (node_count shape)) first walks
    group_begun begun i other below = walk_begun (first + i) (queue_of i below) (get_or walks i other) (begun i other below)

    pub group_may : (left : ℕ) → EachWalk (IsUnderWay left) first walks → IsStoreField shape words → EachWalk (λ queue. MayStep shape words) 0 walks
    group_may left way f i other below = walk_may (first + i) (queue_of i below) left (get_or walks i other) (way i other below) f

    pub group_all : (left : ℕ) → left ≡ 0 → EachWalk (IsUnderWay left) first walks → EachWalk (AreRead shape words) first walks
    group_all left none way i other below = walk_all left (first + i) (get_or walks i other) none (way i other below)

    -- a step of all of them
    module _ (left : ℕ) (going : Bool) (after : List QueueWalk) (way : EachWalk (IsUnderWay (suc left)) first walks) (steps : AreSteps shape words walks going after) where
      pub group_on : EachWalk (IsUnderWay left) first after
      group_on i other below =
          let inside : i < length walks = omega (arith, below, steps.count) in
          ⊎_elim
          (λ on. walk_on (first + i) (queue_of i inside) left (get_or walks i other) (get_or after i other) (way i other inside) on.0)
          (λ stays. walk_stays (suc left) left (first + i) (get_or walks i other) (get_or after i other) (way i other inside) stays)
          (steps.each i other inside)

      pub group_read : going ≡ false → EachWalk (AreRead shape words) first after
      group_read ended i other below =
          let inside : i < length walks = omega (arith, below, steps.count) in
          ⊎_elim
          (λ on. absurd (cc (sym ended ∙ on.1)))
          (λ stays. walk_read (suc left) (first + i) (get_or walks i other) (get_or after i other) (way i other inside) stays)
          (steps.each i other inside)

  -- the walks below a number have taken a step, and no other has
  pub record AreStepping (before : List QueueWalk) (number : ℕ) (going : Bool) (after : List QueueWalk) : Type 0 where
    pub count : length after ≡ length before
    pub each : (i : ℕ) (other : QueueWalk) → i < number
        → (WalkGoesOn shape words (get_or before i other) (get_or after i other) × (going ≡ true)) ⊎ WalkStays shape words (get_or before i other) (get_or after i other)
    pub others : (i : ℕ) (other : QueueWalk) → number ≤ i → get_or after i other ≡ get_or before i other
