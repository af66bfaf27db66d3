-- States with another map or another queue.
use Rattle.std.proofs.Common.{◌≡◌, ℕ, ◌+◌, ◌<◌, ◌++◌, List, [], ◌∷◌, length, get_or, take, sym, ap, ◌∙◌}
use Rattle.std.specs.FinMap as fin
use Rattle.std.proofs.lemmas.List.{set-set, get_or-set_same, take_more}
use Rattle.md_history.specs.State.{State, Table, queue_at, with_queue}

abbrev of_maps : State → List Table → State
of_maps s maps = record { maps = maps; queues = s.queues }

abbrev of_queues : State → List (List ℕ) → State
of_queues s queues = record { maps = s.maps; queues = queues }

pub queue_at-with_queue : (s : State) (queue : ℕ) (xs : List ℕ) → queue < length s.queues → queue_at (with_queue s queue xs) queue ≡ xs
queue_at-with_queue s queue xs below = get_or-set_same s.queues queue xs _ below

pub with_queue-with_queue : (s : State) (queue : ℕ) (xs ys : List ℕ) → with_queue (with_queue s queue xs) queue ys ≡ with_queue s queue ys
with_queue-with_queue s queue xs ys = ap (of_queues s) (set-set s.queues queue xs ys)

-- values are pushed from the first one on
pub values_pushed : (s before later : State) (queue : ℕ) (values : List ℕ) (i : ℕ) → queue < length s.queues → i < length values
    → before ≡ with_queue s queue (take i values)
    → later ≡ with_queue before queue (queue_at before queue ++ get_or values i 0 ∷ [])
    → later ≡ with_queue s queue (take (i + 1) values)
values_pushed s before later queue values i below inside e f =
    let v = get_or values i 0 in
    f ∙ ap (λ b. with_queue b queue (queue_at b queue ++ v ∷ [])) e
    ∙ with_queue-with_queue s queue (take i values) _
    ∙ ap (λ vs. with_queue s queue (vs ++ v ∷ [])) (queue_at-with_queue s queue (take i values) below)
    ∙ ap (with_queue s queue) (sym (take_more values i 0 inside))
