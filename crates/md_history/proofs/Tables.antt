-- A `BTreeMap`'s entries as a finite map.
use Rattle.std.proofs.Common.{◌≡◌, ℕ, cond, List, [], ◌∷◌, refl, sym, ap, ◌∙◌, Some, None, map, length, ◌++◌, reverse, slice_index_or, slice_set, ◌<◌, ◌+◌, replicate}
use Rattle.std.specs.Ordering.{nat_cmp, eq_by_cmp}
use Rattle.std.specs.Cmp.{nat_cmp_total, eq_by_cmp_equiv}
use Rattle.std.specs.Map.{lookup, update_all}
use Rattle.std.specs.BTreeMap.{is_at}
use Rattle.std.specs.FinMap as fin
use Rattle.std.specs.BTreeMap.{BTreeMap}
use Rattle.std.specs.declared.collections.VecDeque.{VecDeque}
use Rattle.std.proofs.Common.{Global, arith}
use Rattle.std.proofs.lemmas.List.{map-set, get_or-map, length-map, reverse-append, append_assoc, append-nil}
use Rattle.std.proofs.lemmas.List.{set-get_or, map-append, replicate-append-replicate}
use Rattle.md_history.specs.State.{State, Table, map_at, queue_at, with_map, with_queue, empty_state}
use Rattle.md_history.specs.Contents.{table_of, table_of_pairs, state_of}

-- the finite map of entries
abbrev pub table : List (ℕ × ℕ) → Table
table es = fin.from_entries es

find_is_lookup : (es : List (ℕ × ℕ)) (q : ℕ) → fin.find nat_cmp q es ≡ lookup (is_at (nat_cmp q)) es
find_is_lookup [] q = refl
find_is_lookup (e ∷ es) q = ap (cond (is_at (nat_cmp q) e.0) (Some e.1)) (find_is_lookup es q)

-- what it has at a key
pub get-table : (es : List (ℕ × ℕ)) (q : ℕ) → fin.get (table es) q ≡ lookup (is_at (nat_cmp q)) es
get-table es q = fin.get-from_entries nat_cmp_total es q ∙ find_is_lookup es q

-- entries that differ at one key make maps that differ there
pub table-insert : (es fs : List (ℕ × ℕ)) (k v : ℕ)
    → ((q : ℕ) → lookup (is_at (nat_cmp q)) fs ≡ cond (is_at (nat_cmp k) q) (Some v) (lookup (is_at (nat_cmp q)) es))
    → table fs ≡ fin.insert (table es) k v
table-insert es fs k v h = fin.same_map nat_cmp_total fin.nat_cmp-IsAntisymmetric _ _ (λ q.
    get-table fs q ∙ h q ∙ ap (λ b. cond b (Some v) (lookup (is_at (nat_cmp q)) es)) ((eq_by_cmp_equiv nat_cmp_total).symm k q)
    ∙ sym (fin.get-insert nat_cmp_total (table es) k v q ∙ ap (cond (is_at (nat_cmp q) k) (Some v)) (get-table es q)))

pub table-remove : (es fs : List (ℕ × ℕ)) (k : ℕ)
    → ((q : ℕ) → lookup (is_at (nat_cmp q)) fs ≡ cond (is_at (nat_cmp k) q) None (lookup (is_at (nat_cmp q)) es))
    → table fs ≡ fin.remove (table es) k
table-remove es fs k h = fin.same_map nat_cmp_total fin.nat_cmp-IsAntisymmetric _ _ (λ q.
    get-table fs q ∙ h q ∙ ap (λ b. cond b None (lookup (is_at (nat_cmp q)) es)) ((eq_by_cmp_equiv nat_cmp_total).symm k q)
    ∙ sym (fin.get-remove nat_cmp_total (table es) k q ∙ ap (cond (is_at (nat_cmp q) k) None) (get-table es q)))

-- pairs that are inserted in turn after others: the last one with a key counts
inserted_after : (pairs done : List (ℕ × ℕ)) (q : ℕ)
    → update_all (eq_by_cmp nat_cmp) (λ k. fin.find nat_cmp k done) pairs q ≡ fin.find nat_cmp q (reverse pairs ++ done)
inserted_after [] done q = refl
inserted_after (p ∷ pairs) done q =
    (λ i. update_all (eq_by_cmp nat_cmp) (λ k. cond ((eq_by_cmp_equiv nat_cmp_total).symm p.0 k i) (Some p.1) (fin.find nat_cmp k done)) pairs q)
    ∙ inserted_after pairs (p ∷ done) q
    ∙ ap (fin.find nat_cmp q) (sym (append_assoc (reverse pairs) (p ∷ []) done) ∙ ap (λ es. es ++ done) (sym (reverse-append (p ∷ []) pairs)))

-- so they make one finite map
pub table-made : (es pairs : List (ℕ × ℕ))
    → ((q : ℕ) → lookup (is_at (nat_cmp q)) es ≡ update_all (eq_by_cmp nat_cmp) (λ _. None) pairs q) → table es ≡ table_of_pairs pairs
table-made es pairs h = fin.same_map nat_cmp_total fin.nat_cmp-IsAntisymmetric _ _ (λ q.
    get-table es q ∙ h q ∙ inserted_after pairs [] q ∙ ap (fin.find nat_cmp q) (append-nil (reverse pairs))
    ∙ sym (fin.get-from_entries nat_cmp_total (reverse pairs) q))

module _ {X Y : Type 0} (f : X → Y) (xs : List X) (i : ℕ) (x : X) (is : x ≡ slice_index_or xs i x) where
  read_map : (d : Y) → i < length xs → f x ≡ slice_index_or (map f xs) i d
  read_map d below = ap f is ∙ sym (get_or-map f xs i x d below)

  write_map : (d : Y) (y : X) → i < length xs → (h : Y → Y) → f y ≡ h (f x)
      → map f (slice_set xs i y) ≡ slice_set (map f xs) i (h (slice_index_or (map f xs) i d))
  write_map d y below h e = map-set f xs i y ∙ ap (slice_set (map f xs) i) (e ∙ ap h (read_map d below))

  keep_map : (y : X) → f y ≡ f x → map f (slice_set xs i y) ≡ map f xs
  keep_map y e =
      map-set f xs i y ∙ ap (slice_set (map f xs) i) (e ∙ ap f is) ∙ sym (map-set f xs i _) ∙ ap (map f) (set-get_or xs i x)

module _ (ms : List (BTreeMap ℕ ℕ)) (qs : List (VecDeque ℕ Global)) (s : State) (e : state_of ms qs ≡ s) where
  some_map : (i : ℕ) → i < length s.maps → i < length ms
  some_map i below =
      let eq : length (map table_of ms) ≡ length s.maps = ap (λ t. length t.maps) e in let l : length (map table_of ms) ≡ length ms = length-map ms table_of in omega arith

  some_queue : (i : ℕ) → i < length s.queues → i < length qs
  some_queue i below =
      let eq : length (state_of ms qs).queues ≡ length s.queues = ap (λ t. length t.queues) e in let l : length (state_of ms qs).queues ≡ length qs = length-map qs (λ q. q.items) in omega arith

  -- the map at a number is that of the tree there
  pub map_at-state_of : (i : ℕ) (m : BTreeMap ℕ ℕ) → i < length s.maps → m ≡ slice_index_or ms i m → table_of m ≡ map_at s i
  map_at-state_of i m below is = read_map table_of ms i m is _ (some_map i below) ∙ ap (λ t. map_at t i) e

  pub state_of-set_map : (i : ℕ) (m n : BTreeMap ℕ ℕ) → i < length s.maps → m ≡ slice_index_or ms i m → (h : Table → Table)
      → table_of n ≡ h (table_of m) → state_of (slice_set ms i n) qs ≡ with_map s i (h (map_at s i))
  state_of-set_map i m n below is h changed =
      ap (λ (t : List Table). record { maps = t; queues = (state_of ms qs).queues }) (write_map table_of ms i m is fin.empty n (some_map i below) h changed)
      ∙ ap (λ t. with_map t i (h (map_at t i))) e

  pub state_of-same_map : (i : ℕ) (m n : BTreeMap ℕ ℕ) → m ≡ slice_index_or ms i m → table_of n ≡ table_of m
      → state_of (slice_set ms i n) qs ≡ s
  state_of-same_map i m n is same =
      ap (λ (t : List Table). record { maps = t; queues = (state_of ms qs).queues }) (keep_map table_of ms i m is n same) ∙ e

  pub state_of-set_queue : (i : ℕ) (m n : VecDeque ℕ Global) → i < length s.queues → m ≡ slice_index_or qs i m
      → (h : List ℕ → List ℕ) → n.items ≡ h m.items → state_of ms (slice_set qs i n) ≡ with_queue s i (h (queue_at s i))
  state_of-set_queue i m n below is h changed =
      ap (λ (t : List (List ℕ)). record { maps = (state_of ms qs).maps; queues = t }) (write_map (λ q. q.items) qs i m is [] n (some_queue i below) h changed)
      ∙ ap (λ t. with_queue t i (h (queue_at t i))) e

  pub state_of-same_queue : (i : ℕ) (m n : VecDeque ℕ Global) → m ≡ slice_index_or qs i m → n.items ≡ m.items
      → state_of ms (slice_set qs i n) ≡ s
  state_of-same_queue i m n is same =
      ap (λ (t : List (List ℕ)). record { maps = (state_of ms qs).maps; queues = t }) (keep_map (λ q. q.items) qs i m is n same)
      ∙ e

-- one more that is empty
pub replicated-more : {A B : Type 0} (f : A → B) (none : B) (xs xs' : List A) (x : A) (n : ℕ) → map {0, 0} f xs ≡ replicate n none
    → xs' ≡ xs ++ x ∷ [] → f x ≡ none → map {0, 0} f xs' ≡ replicate (n + 1) none
replicated-more f none xs xs' x n all more new =
    ap (map {0, 0} f) more ∙ map-append f xs (x ∷ []) ∙ ap (λ ys. ys ++ f x ∷ []) all ∙ ap (λ y. replicate n none ++ y ∷ []) new
    ∙ replicate-append-replicate n 1 none

-- as many empty maps and queues as were made
pub state_of-empty : (maps : List (BTreeMap ℕ ℕ)) (queues : List (VecDeque ℕ Global)) (m m' q q' : ℕ)
    → map {0, 0} table_of maps ≡ replicate m' (let none : Table = fin.empty in none) → m' ≡ m
    → map {0, 0} (λ q. q.items) queues ≡ replicate q' [] → q' ≡ q → state_of maps queues ≡ empty_state m q
state_of-empty maps queues m m' q q' no_maps ms no_queues qs =
    ap (λ ts. let s : State = record { maps = ts; queues = map (λ q. q.items) queues } in s)
    (no_maps ∙ ap (λ n. replicate n (let none : Table = fin.empty in none)) ms)
    ∙ ap (λ ls. let s : State = record { maps = replicate m fin.empty; queues = ls } in s) (no_queues ∙ ap (λ n. replicate n []) qs)
