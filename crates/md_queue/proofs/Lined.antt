-- A line that is filled place by place, and what a look along a queue has done for it.
use Rattle.std.proofs.Common.{◌≡◌, ◌<◌, ◌≤◌, ◌+◌, ◌-◌, ℕ, suc, true, false, cond, nat_lt, List, [], ◌∷◌, ◌++◌, length, map, refl, sym, ap, ◌∙◌, set, append_assoc, lt-ltb, arith}
use Rattle.std.proofs.lemmas.List.{length-append, length-map, set_at}
use Rattle.std.specs.Prelude.{replicate}
use Rattle.md_history.specs.declared.acts.Line.{Line}
use Rattle.md_history.specs.declared.acts.TheConstants.{MAX_LINE}
use Rattle.md_history.specs.State.{line_of}
use Rattle.md_machine.specs.declared.certificate.Certificate.{Certificate}
use Rattle.md_machine.specs.Meaning.{Meaning}
use Rattle.md_nbtc_law.specs.Going.{IsGoing}
use Rattle.md_nbtc_law.specs.State.{TxnState}
use Rattle.md_queue_law.specs.QueueCertificates.{Seen}
use Rattle.md_queue.specs.Along.{HasLooked}
use Rattle.md_queue.specs.Operations.{GoesBy, RecordsAmong, line_reads}
use Rattle.md_queue.specs.Words.{head_at}

-- the values of the nodes that were passed
abbrev pub values_of : List Seen → List ℕ
values_of seen = map (λ s. s.value) seen

-- since it stood so, the look recorded the head, and came to a node over as many as are counted; the line has their values
pub record HasLine (M : Meaning) (s t : TxnState) (queue node count : ℕ) (line : Line) : Type 0 where
  pub goes : GoesBy M s t 1 0 0
  pub dummy : ℕ
  pub seen : List Seen
  pub counted : length seen ≡ count
  pub is : line ≡ line_of (values_of seen)
  pub looked : (cs : List Certificate) → IsGoing M s cs → HasLooked M t queue cs dummy node seen
  pub among : RecordsAmong s t (head_at t queue ∷ [])

zeros_more : (m i : ℕ) → i < m → replicate {A = ℕ} (m - i) 0 ≡ 0 ∷ replicate {A = ℕ} (m - (i + 1)) 0
zeros_more m i below = let e : m - i ≡ suc (m - (i + 1)) = omega arith in rw e refl

-- one more value in a line
pub line_more : (xs : List ℕ) (i v : ℕ) → length xs ≡ i → i < MAX_LINE → (values : List ℕ) → values ≡ (line_of xs).values
    → (let l : Line = record { count = i + 1; values = set values i v } in l) ≡ line_of (xs ++ v ∷ [])
line_more xs i v full below values is =
    let zeros : List ℕ = replicate {A = ℕ} (MAX_LINE - (i + 1)) 0 in
    let more : length (xs ++ v ∷ []) ≡ i + 1 = length-append xs (v ∷ []) ∙ ap (λ k. k + 1) full in
    let filled : set values i v ≡ (xs ++ v ∷ []) ++ zeros
    = ap (λ ys. set ys i v) (is ∙ ap (λ k. xs ++ replicate {A = ℕ} (MAX_LINE - k) 0) full ∙ ap (λ ys. xs ++ ys) (zeros_more MAX_LINE i below))
    ∙ set_at xs 0 zeros v i full ∙ sym (append_assoc xs (v ∷ []) zeros) in
    ap (λ ys. (let l : Line = record { count = i + 1; values = ys } in l)) filled
    ∙ ap (λ k. (let l : Line = record { count = k; values = (xs ++ v ∷ []) ++ replicate {A = ℕ} (MAX_LINE - k) 0 } in l)) (sym more)

-- a line records the head at least
pub reads_head : (n : ℕ) (line : Line) → 1 ≤ line_reads n line
reads_head n line = elim (nat_lt line.count n) as (λ b. 1 ≤ cond b 2 1) [
  | true ↦ omega arith
  | false ↦ omega arith
]

-- and the end beside it, if it has fewer values
pub reads_end : (n : ℕ) (line : Line) (seen : List Seen) → line ≡ line_of (values_of seen) → length seen < n → 2 ≤ line_reads n line
reads_end n line seen is fewer =
    let count = length-map seen (λ (s : Seen). s.value) in
    let short = lt-ltb (length (values_of seen)) n (omega (arith, fewer, count)) in
    let reads = ap (λ l. line_reads n l) is ∙ ap (λ b. cond b 2 1) short in
    omega (arith, reads)
