-- Contents that are filled, map after map and then group after group of queues, from the words of a field.
use Rattle.std.proofs.Common.{◌≡◌, ◌≢◌, ℕ, zero, suc, ◌+◌, ◌-◌, ◌<◌, ◌≤◌, ◌++◌, List, [], ◌∷◌, length, take, replicate, get_or, refl, sym, ap, ◌∙◌, subst, inl, inr, ⊎_elim, arith}
use Rattle.std.specs.List.{flat_map, range_with_len}
use Rattle.std.specs.FinMap as fin
use Rattle.std.proofs.lemmas.Bool.{cases_eq, cases_lt}
use Rattle.std.proofs.lemmas.List.{length-set, length-replicate, length_push, length-take-le, take_more, get_or-set_same, get_or-set_other, get_or_past, map-id, append-nil}
use Rattle.std.proofs.lemmas.List.Concat.{flat_map-append}
use Rattle.std.proofs.lemmas.List.FromFn.{map-range_with_len_more, length-map-range_with_len, get_or-map-range_with_len, fill_by_all}
use Rattle.md_history.specs.State.{State, Table, map_at, queue_at, with_map, with_queue}
use Rattle.md_machine.specs.LogicalHeap.{LogicalWords}
use Rattle.md_list_law.specs.Walk.{map_of_pairs}
use Rattle.md_hash_law.specs.HashTable.{pairs_of_map, maps_of}
use Rattle.md_queue_law.specs.QueueValues.{queue_values}
use Rattle.md_store_law.specs.declared.side_walks.QueueWalk.{QueueWalk}
use Rattle.md_store_law.specs.MapsFrom.{MapsFrom}
use Rattle.md_store_law.specs.SideWalks.{EachWalk, AreFilled}
use Rattle.md_store_law.specs.Store.{state_of_store}
use Rattle.md_store_law.proofs.SideWalks.{each_more}

-- one more number
pub range_more : (n : ℕ) → range_with_len 0 (n + 1) ≡ range_with_len 0 n ++ n ∷ []
range_more n = sym (map-id (range_with_len 0 (n + 1))) ∙ map-range_with_len_more (λ k. k) 0 n n (omega arith)
    ∙ ap (λ ks. ks ++ n ∷ []) (map-id (range_with_len 0 n))

-- and one more piece
pub flat_map_range_more : {X : Type 0} (f : ℕ → List X) (n : ℕ) → flat_map f (range_with_len 0 (n + 1)) ≡ flat_map f (range_with_len 0 n) ++ f n
flat_map_range_more f n = ap (flat_map f) (range_more n) ∙ flat_map-append f (range_with_len 0 n) (n ∷ [])
    ∙ ap (λ ys. flat_map f (range_with_len 0 n) ++ ys) (append-nil (f n))

-- one more queue is filled
pub filled_more : (s before after : State) (first i : ℕ) (walks : List QueueWalk) (walk : QueueWalk) → walk ≡ get_or walks i walk → i < length walks
    → first + length walks ≤ length s.queues → AreFilled first (take i walks) s before → after ≡ with_queue before (first + i) walk.values.items
    → AreFilled first (take (i + 1) walks) s after
filled_more s before after first i walks walk is inside within f e =
    let vs = walk.values.items in
    let some = take i walks in
    let long = length-take-le i walks (omega arith) in
    let more = ap (λ (x : QueueWalk). some ++ x ∷ []) is ∙ sym (take_more walks i walk inside) in
    let further = length_push some walk in
    let same = f.queues in
    subst (λ ws. AreFilled first ws s after) more (subst (AreFilled first (some ++ walk ∷ []) s) (sym e) (record {
      maps = f.maps;
      queues = length-set before.queues (first + i) vs ∙ f.queues;
      filled = each_more (λ queue w. queue_at (with_queue before (first + i) vs) queue ≡ w.values.items) first some walk (first + i) (ap (λ n. first + n) long)
          (λ j other below. let ne : first + j ≢ first + i = omega (arith, below, long) in
          get_or-set_other before.queues (first + i) (first + j) vs [] ne ∙ f.filled j other below)
          (get_or-set_same before.queues (first + i) vs [] (omega (arith, within, same, inside)));
      others = λ queue out. ⊎_elim
          (λ low. let ne : queue ≢ first + i = omega (arith, low) in get_or-set_other before.queues (first + i) queue vs [] ne ∙ f.others queue (inl low))
          (λ high. let ne : queue ≢ first + i = omega (arith, high, further, long) in
          get_or-set_other before.queues (first + i) queue vs [] ne ∙ f.others queue (inr (omega (arith, high, further))))
          out;
    }))

-- a walk of a group that has some
one_of : (walks : List QueueWalk) → 0 < length walks → QueueWalk
one_of [] some = absurd (omega arith)
one_of (walk ∷ walks) some = walk

-- an element of equal ones, or the same past the end
pub get_or-same : {X : Type 0} (n i : ℕ) (x : X) → get_or (replicate n x) i x ≡ x
get_or-same zero i x = refl
get_or-same (suc n) zero x = refl
get_or-same (suc n) (suc i) x = get_or-same n i x

module _ (w : LogicalWords) where
  -- the maps from a number on and below another are filled, and all else is empty
  pub record MapsFilled (first : ℕ) (s : State) (count : ℕ) : Type 0 where
    pub maps : length s.maps ≡ w.shape.maps
    pub filled : (map : ℕ) → first ≤ map → map < count → map_at s map ≡ map_of_pairs (pairs_of_map w map)
    pub others : (map : ℕ) → map < first → map_at s map ≡ fin.empty
    pub queues : s.queues ≡ replicate w.shape.queues []

  -- all maps are filled, and the queues below a number
  pub record QueuesFilled (s : State) (count : ℕ) : Type 0 where
    pub maps : s.maps ≡ maps_of w
    pub queues : length s.queues ≡ w.shape.queues
    pub filled : (queue : ℕ) → queue < count → queue_at s queue ≡ queue_values w queue
    pub empty : (queue : ℕ) → count ≤ queue → queue_at s queue ≡ []

  pub maps_on : (first : ℕ) (s : State) (count : ℕ) → first ≤ count → count < w.shape.maps → MapsFilled first s count
      → MapsFilled first (with_map s count (map_of_pairs (pairs_of_map w count))) (count + 1)
  maps_on first s count from below f = let t = map_of_pairs (pairs_of_map w count) in let maps = f.maps in record {
    maps = length-set s.maps count t ∙ f.maps;
    filled = λ map low less. ⊎_elim
        (λ e. ap (λ m. get_or (with_map s count t).maps m fin.empty) e ∙ get_or-set_same s.maps count t fin.empty (omega arith)
        ∙ ap (λ m. map_of_pairs (pairs_of_map w m)) (sym e))
        (λ ne. get_or-set_other s.maps count map t fin.empty ne ∙ f.filled map low (omega arith))
        (cases_eq map count);
    others = λ map less. let ne : map ≢ count = omega arith in get_or-set_other s.maps count map t fin.empty ne ∙ f.others map less;
    queues = f.queues;
  }

  -- the maps of the whole
  whole-long : length (maps_of w) ≡ w.shape.maps
  whole-long = length-map-range_with_len (λ map. map_of_pairs (pairs_of_map w map)) 0 w.shape.maps

  whole-at : (map : ℕ) → map < w.shape.maps → map_at (state_of_store w) map ≡ map_of_pairs (pairs_of_map w map)
  whole-at map below = get_or-map-range_with_len (λ m. map_of_pairs (pairs_of_map w m)) 0 w.shape.maps map map fin.empty below (omega arith)

  pub maps_end : (first : ℕ) (s : State) (count : ℕ) → w.shape.maps ≤ count → MapsFilled first s count → MapsFrom first s (state_of_store w)
  maps_end first s count all f = record {
    numbers = record {
      maps = f.maps ∙ sym whole-long;
      queues = ap length f.queues ∙ length-replicate w.shape.queues [] ∙ sym (length-map-range_with_len (queue_values w) 0 w.shape.queues);
    };
    maps = λ map low. ⊎_elim
        (λ below. f.filled map low (omega (arith, all)) ∙ sym (whole-at map below))
        (λ past. let long = f.maps in let whole_long = whole-long in
        get_or_past s.maps map fin.empty (omega (arith, past, long)) ∙ sym (get_or_past (maps_of w) map fin.empty (omega (arith, past, whole_long))))
        (cases_lt map w.shape.maps);
    others = f.others;
    queues = λ queue. ap (λ qs. get_or qs queue []) f.queues ∙ get_or-same w.shape.queues queue [];
  }

  pub queues_begin : (s : State) → MapsFrom 0 s (state_of_store w) → QueuesFilled s 0
  queues_begin s all = record {
    maps = fill_by_all (λ map. map_of_pairs (pairs_of_map w map)) s.maps w.shape.maps fin.empty (all.numbers.maps ∙ whole-long)
        (λ map below. all.maps map (omega arith) ∙ whole-at map below);
    queues = all.numbers.queues ∙ length-map-range_with_len (queue_values w) 0 w.shape.queues;
    filled = λ queue below. absurd (omega arith);
    empty = λ queue low. all.queues queue;
  }

  -- a group of them
  pub queues_group : (s after : State) (first : ℕ) (walks : List QueueWalk) → 0 < length walks
      → EachWalk (λ queue walk. walk.values.items ≡ queue_values w queue) first walks → AreFilled first walks s after → QueuesFilled s first
      → QueuesFilled after (first + length walks)
  queues_group s after first walks some read more f = record {
    maps = more.maps ∙ f.maps;
    queues = more.queues ∙ f.queues;
    filled = λ queue below. ⊎_elim
        (λ low. more.others queue (inl low) ∙ f.filled queue low)
        (λ high. let i = queue - first in
        let at : first + i ≡ queue = omega (arith, high) in
        let inside : i < length walks = omega (arith, at, below) in
        let walk = one_of walks some in
        subst (λ q. queue_at after q ≡ queue_values w q) at (more.filled i walk inside ∙ read i walk inside))
        (cases_lt queue first);
    empty = λ queue low. more.others queue (inr low) ∙ f.empty queue (omega (arith, low));
  }

  pub queues_end : (s : State) → QueuesFilled s w.shape.queues → s ≡ state_of_store w
  queues_end s f =
      ap (λ (ms : List Table). record { maps = ms; queues = s.queues }) f.maps
      ∙ ap (λ (qs : List (List ℕ)). record { maps = maps_of w; queues = qs }) (fill_by_all (queue_values w) s.queues w.shape.queues [] f.queues f.filled)
