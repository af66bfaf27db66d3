-- Replies of a batch, as they are put where they are kept.
use Rattle.std.proofs.Common.{◌≡◌, ◌≢◌, ◌<◌, ◌∙◌, ◌+◌, ◌++◌, ◌∷◌, ℕ, zero, suc, List, [], Option, Some, length, refl, sym, ap, arith, set, take, get_or}
use Rattle.std.specs.Prelude.{slice_get}
use Rattle.std.proofs.lemmas.List.{length-set, get_or-set_same, length-take, take_more}
use Rattle.std.proofs.lemmas.Option.{slice_get-get_or}
use Rattle.md_book.specs.declared.commands.BookReply.{BookReply}
use Rattle.md_orders.specs.Scripts.{with_line}
use Rattle.md_report_replies.specs.Replies.{with_reply, with_replies}

pub length-with_line : {A : Type 0} (xs : List A) (line : ℕ) (x : A) → length (with_line xs line x) ≡ length xs
length-with_line xs zero x = refl
length-with_line xs (suc l) x = length-set xs l x

pub slice_get-set-same : {A : Type 0} (xs : List A) (i : ℕ) (x : A) → i < length xs → slice_get (set xs i x) i ≡ Some x
slice_get-set-same xs i x inside = slice_get-get_or (set xs i x) i x (rw (length-set xs i x) inside) ∙ ap Some (get_or-set_same xs i x x inside)

pub slice_get-set-other : {A : Type 0} (xs : List A) (i j : ℕ) (x : A) → j ≢ i → slice_get (set xs i x) j ≡ slice_get xs j
slice_get-set-other [] i j x other = refl
slice_get-set-other (y ∷ xs) zero zero x other = absurd (other refl)
slice_get-set-other (y ∷ xs) zero (suc j) x other = refl
slice_get-set-other (y ∷ xs) (suc i) zero x other = refl
slice_get-set-other (y ∷ xs) (suc i) (suc j) x other = slice_get-set-other xs i j x (λ e. other (ap suc e))

-- one reply after a batch
pub with_replies-push : (replies : List (List (Option BookReply))) (caller : ℕ) (batch : List BookReply) (n m : ℕ)
    (r : BookReply) → m ≡ n + length batch + 1
    → with_replies replies caller n (batch ++ r ∷ []) ≡ with_reply (with_replies replies caller n batch) caller m r
with_replies-push replies caller [] n m r at =
    ap (λ k. with_reply replies caller k r) (let same : n + 1 ≡ m = omega arith in same)
with_replies-push replies caller (s ∷ batch) n m r at =
    with_replies-push (with_reply replies caller (n + 1) s) caller batch (n + 1) m r (at ∙ omega arith)

-- some replies after others
pub with_replies-append : (replies : List (List (Option BookReply))) (caller n m : ℕ) (rs ss : List BookReply)
    → m ≡ n + length rs
    → with_replies replies caller n (rs ++ ss) ≡ with_replies (with_replies replies caller n rs) caller m ss
with_replies-append replies caller n m [] ss at =
    ap (λ k. with_replies replies caller k ss) (let same : n ≡ m = omega arith in same)
with_replies-append replies caller n m (r ∷ rs) ss at =
    with_replies-append (with_reply replies caller (n + 1) r) caller (n + 1) m rs ss (at ∙ omega arith)

-- the next reply of a batch was set
pub batch-more : (before replies new : List (List (Option BookReply))) (caller : ℕ) (batch : List BookReply) (n i m : ℕ)
    (d : BookReply) → new ≡ with_reply replies caller m (get_or batch i d)
    → replies ≡ with_replies before caller n (take i batch) → i < length batch → m ≡ n + i + 1
    → new ≡ with_replies before caller n (take (i + 1) batch)
batch-more before replies new caller batch n i m d is kept inside at =
    is ∙ ap (λ rs. with_reply rs caller m (get_or batch i d)) kept
    ∙ sym (ap (with_replies before caller n) (take_more batch i d inside)
    ∙ with_replies-push before caller (take i batch) n m (get_or batch i d) (omega (arith, length-take i batch)))
