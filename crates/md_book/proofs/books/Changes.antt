-- What operations change in a state, and what stays.
use Rattle.std.proofs.Common.{◌≡◌, ◌≢◌, ℕ, ◌<◌, cond, List, [], ◌∷◌, ◌++◌, length, slice_index_or, refl, sym, ap, subst, ◌∙◌, inl, inr, Option, Some, None, drop}
use Rattle.std.specs.Prelude.{is_none}
use Rattle.std.specs.FinMap as fin
use Rattle.std.proofs.lemmas.Bool.{cases_eq}
use Rattle.std.proofs.lemmas.List.{length-set, get_or-set_same, get_or-set_other}
use Rattle.md_history.specs.declared.acts.Op.TheVariants.{Insert, Remove, Put, Enqueue, Dequeue}
use Rattle.md_history.specs.State.{State, Table, map_at, queue_at, with_map, with_queue, after}
use Rattle.md_history.proofs.Keys.{get-insert_same, get-insert_other, get-remove_same, get-remove_other}

-- one map has this at one key; all else is as it was
pub record Sets (s t : State) (m k : ℕ) (now : Option ℕ) : Type 0 where
  pub maps : length t.maps ≡ length s.maps
  pub queues : t.queues ≡ s.queues
  pub here : fin.get (map_at t m) k ≡ now
  pub other_keys : (q : ℕ) → q ≢ k → fin.get (map_at t m) q ≡ fin.get (map_at s m) q
  pub other_maps : (j : ℕ) → j ≢ m → map_at t j ≡ map_at s j

-- one queue has these values; all else is as it was
pub record Lines (s t : State) (q : ℕ) (now : List ℕ) : Type 0 where
  pub maps : t.maps ≡ s.maps
  pub queues : length t.queues ≡ length s.queues
  pub here : queue_at t q ≡ now
  pub others : (j : ℕ) → j ≢ q → queue_at t j ≡ queue_at s j

-- what holds at one number and at all others
pub at_each : (P : ℕ → Type 0) (k : ℕ) → P k → ((q : ℕ) → q ≢ k → P q) → (q : ℕ) → P q
at_each P k here others q = elim (cases_eq q k) [ inl e ↦ subst P (sym e) here | inr h ↦ others q h ]

-- a map is replaced by one that differs at one key
with_map-sets : (s : State) (m k : ℕ) (t : Table) (now : Option ℕ) → m < length s.maps → fin.get t k ≡ now → ((q : ℕ) → q ≢ k → fin.get t q ≡ fin.get (map_at s m) q) → Sets s (with_map s m t) m k now
with_map-sets s m k t now below here others =
    let same : map_at (with_map s m t) m ≡ t = get_or-set_same s.maps m t fin.empty below in
    record {
      maps = length-set s.maps m t;
      queues = refl;
      here = ap (λ x. fin.get x k) same ∙ here;
      other_keys = λ q h. ap (λ x. fin.get x q) same ∙ others q h;
      other_maps = λ j h. get_or-set_other s.maps m j t fin.empty h;
    }

-- a key that is absent is inserted
pub insert-sets : (s : State) (m k v : ℕ) → m < length s.maps → fin.get (map_at s m) k ≡ None → Sets s (after s (Insert m k v)) m k (Some v)
insert-sets s m k v below absent =
    let t = fin.insert (map_at s m) k v in
    let chosen : with_map s m t ≡ after s (Insert m k v) = ap (λ o. cond (is_none o) (with_map s m t) s) (sym absent) in
    subst (λ x. Sets s x m k (Some v)) chosen (with_map-sets s m k t (Some v) below (get-insert_same (map_at s m) k v) (get-insert_other (map_at s m) k v))

-- a key is removed
pub remove-sets : (s : State) (m k : ℕ) → m < length s.maps → Sets s (after s (Remove m k)) m k None
remove-sets s m k below = with_map-sets s m k (fin.remove (map_at s m) k) None below (get-remove_same (map_at s m) k) (get-remove_other (map_at s m) k)

-- a key's value is set
pub put-sets : (s : State) (m k v : ℕ) → m < length s.maps → Sets s (after s (Put m k v)) m k (Some v)
put-sets s m k v below = with_map-sets s m k (fin.insert (map_at s m) k v) (Some v) below (get-insert_same (map_at s m) k v) (get-insert_other (map_at s m) k v)

-- a queue is replaced
with_queue-lines : (s : State) (q : ℕ) (now : List ℕ) → q < length s.queues → Lines s (with_queue s q now) q now
with_queue-lines s q now below = record {
  maps = refl;
  queues = length-set s.queues q now;
  here = get_or-set_same s.queues q now [] below;
  others = λ j h. get_or-set_other s.queues q j now [] h;
}

-- a value is enqueued
pub enqueue-lines : (s : State) (q v : ℕ) → q < length s.queues → Lines s (after s (Enqueue q v)) q (queue_at s q ++ v ∷ [])
enqueue-lines s q v below = with_queue-lines s q (queue_at s q ++ v ∷ []) below

-- the first value is dequeued
pub dequeue-lines : (s : State) (q : ℕ) → q < length s.queues → Lines s (after s (Dequeue q)) q (drop 1 (queue_at s q))
dequeue-lines s q below = with_queue-lines s q (drop 1 (queue_at s q)) below

-- what no change of the other kind touches
pub map_at-lines : {s t : State} {q : ℕ} {now : List ℕ} → Lines s t q now → (j : ℕ) → map_at t j ≡ map_at s j
map_at-lines lines j = ap (λ (ms : List Table). slice_index_or ms j fin.empty) lines.maps

pub queue_at-sets : {s t : State} {m k : ℕ} {now : Option ℕ} → Sets s t m k now → (j : ℕ) → queue_at t j ≡ queue_at s j
queue_at-sets sets j = ap (λ (qs : List (List ℕ)). slice_index_or qs j []) sets.queues
