-- Replies that are handed over, caller by caller.
use Rattle.std.proofs.Common.{◌≡◌, ◌≢◌, ◌+◌, ◌<◌, ℕ, zero, suc, cond, true, false, List, [], ◌∷◌, ◌++◌, length, take, drop, refl, sym, ap, subst, ◌∙◌, arith, inl, inr, append_assoc}
use Rattle.std.specs.Prelude.{◌==◌, slice_index_or}
use Rattle.std.proofs.lemmas.Bool.{cases_Bool, eq-eqb, eqb-true, ne_eqb}
use Rattle.std.proofs.lemmas.List.{append-nil, length-append, map-append, get_or_past}
use Rattle.md_many_attempts.specs.declared.batches.Played.{Played}
use Rattle.md_many.specs.Laws.{AllSuit}
use Rattle.md_many_attempts.specs.ByCaller.{at_caller}
use Rattle.md_many.specs.Rounds.{replies_in}
use Rattle.md_many.specs.Course.{of_one, KeepsMore}

pub suit-wider : {R : Type 0} (P Q : ℕ → R → Type 0) → ((line : ℕ) (r : R) → P line r → Q line r) → (n : ℕ)
    (rs : List R) → AllSuit P n rs → AllSuit Q n rs
suit-wider P Q wider n [] all = tt
suit-wider P Q wider n (r ∷ rs) all = (wider (n + 1) r all.0, suit-wider P Q wider (n + 1) rs all.1)

push-same : {A : Type 0} (other : A) (xs : List A) (x : A) → slice_index_or (xs ++ x ∷ []) (length xs) other ≡ x
push-same other [] x = refl
push-same other (y ∷ xs) x = push-same other xs x

push-apart : {A : Type 0} (other : A) (xs : List A) (x : A) (i : ℕ) → i ≢ length xs
    → slice_index_or (xs ++ x ∷ []) i other ≡ slice_index_or xs i other
push-apart other [] x zero apart = absurd (apart refl)
push-apart other [] x (suc i) apart = refl
push-apart other (y ∷ xs) x zero apart = refl
push-apart other (y ∷ xs) x (suc i) apart = push-apart other xs x i (λ same. apart (ap suc same))

-- one caller's replies behind those of the callers before it
pub caller-next : {R : Type 0} (xs : List (List R)) (x : List R) (caller : ℕ)
    → at_caller [] (xs ++ x ∷ []) caller ≡ at_caller [] xs caller ++ of_one (length xs + 1) x caller
caller-next xs x zero =
    let other : (0 == length xs + 1) ≡ false = ne_eqb 0 (length xs + 1) (λ e. omega arith) in
    sym (ap (λ b. [] ++ cond b x []) other)
caller-next xs x (suc i) = elim (cases_Bool (suc i == length xs + 1)) [
  | inl same ↦
      let is : i ≡ length xs = let e = eqb-true (suc i) (length xs + 1) same in omega arith in
      let past : slice_index_or xs i [] ≡ [] = get_or_past xs i [] (omega arith) in
      ap (λ k. slice_index_or (xs ++ x ∷ []) k []) is ∙ push-same [] xs x
      ∙ sym (ap (λ ys. ys ++ cond (suc i == length xs + 1) x []) past ∙ ap (λ b. cond b x []) same)
  | inr apart ↦
      let other : i ≢ length xs = λ e. let yes : (suc i == length xs + 1) ≡ true =
      eq-eqb (suc i) (length xs + 1) (omega (arith, e)) in cc in
      push-apart [] xs x i other
      ∙ sym (ap (λ b. slice_index_or xs i [] ++ cond b x []) apart ∙ append-nil (slice_index_or xs i []))
]

-- who comes next has nothing so far
pub caller-none : {R : Type 0} (xs : List (List R)) → at_caller [] xs (length xs + 1) ≡ []
caller-none xs =
    let next : suc (length xs) ≡ length xs + 1 = omega arith in
    subst (λ c. at_caller [] xs c ≡ []) next (get_or_past xs (length xs) [] (omega arith))

pub caller-there : {R : Type 0} (xs : List (List R)) (x : List R) (ys : List (List R))
    → at_caller [] (xs ++ x ∷ ys) (length xs + 1) ≡ x
caller-there xs x ys =
    let next : suc (length xs) ≡ length xs + 1 = omega arith in
    subst (λ c. at_caller [] (xs ++ x ∷ ys) c ≡ x) next (there xs)
  where
    there : (zs : List (List _)) → slice_index_or (zs ++ x ∷ ys) (length zs) [] ≡ x
    there [] = refl
    there (z ∷ zs) = there zs

no-caller : {R : Type 0} (caller : ℕ) → at_caller {A = List R} [] [] caller ≡ []
no-caller zero = refl
no-caller (suc i) = refl

pub kept-none : {R : Type 0} (keeps : ℕ → List R → Type 0) (done : List ℕ)
    → KeepsMore (at_caller {A = List R} [] []) keeps keeps done done
kept-none {R} keeps done = record {
  callers = refl;
  counted = λ caller. let none : length (at_caller {A = List R} [] [] caller) ≡ 0 = ap length (no-caller {R = R} caller) in
      omega (arith, none);
  kept = λ caller rs has count.
      subst (keeps caller) (sym (ap (λ ss. rs ++ ss) (no-caller caller) ∙ append-nil rs)) has;
}

pub kept-then : {R : Type 0} (more one all : ℕ → List R) (k k' k'' : ℕ → List R → Type 0) (d d' d'' : List ℕ)
    → KeepsMore more k k' d d' → KeepsMore one k' k'' d' d'' → ((caller : ℕ) → all caller ≡ more caller ++ one caller)
    → KeepsMore all k k'' d d''
kept-then more one all k k' k'' d d' d'' p q is = record {
  callers = q.callers ∙ p.callers;
  counted = λ caller. omega (
    arith,
    p.counted caller,
    q.counted caller,
    ap length (is caller),
    length-append (more caller) (one caller),
  );
  kept = λ caller rs has count.
      subst (k'' caller) (append_assoc rs (more caller) (one caller) ∙ ap (λ ss. rs ++ ss) (sym (is caller)))
      (q.kept caller (rs ++ more caller) (p.kept caller rs has count)
      (omega (arith, length-append rs (more caller), p.counted caller, count)));
}

-- all replies: those that were handed over, the next, and the rest
pub all-parts : {T R : Type 0} (listed : T → List R) (items yielded left more : List (Played T)) (x : Played T)
    → yielded ++ left ≡ items → left ≡ x ∷ more
    → replies_in listed items ≡ replies_in listed yielded ++ listed x.replies ∷ replies_in listed more
all-parts listed items yielded left more x e e' =
    ap (replies_in listed) (sym e ∙ ap (λ xs. yielded ++ xs) e')
    ∙ map-append (λ (p : Played _). listed p.replies) yielded (x ∷ more)

-- the next caller's replies, of all of them
module _ {R : Type 0} (all xs ys : List (List R)) (x : List R) (caller : ℕ) (k k' : ℕ → List R → Type 0)
    (d d' : List ℕ) (is : all ≡ xs ++ x ∷ ys) (next : caller ≡ length xs + 1)
    (kept : KeepsMore (at_caller [] xs) k k' d d') where
  here : at_caller [] all caller ≡ x
  here = ap (λ zs. at_caller [] zs caller) is ∙ ap (at_caller [] (xs ++ x ∷ ys)) next ∙ caller-there xs x ys

  same-count : at_caller 0 d' caller ≡ at_caller 0 d caller
  same-count = omega (arith, kept.counted caller, ap length (ap (at_caller [] xs) next ∙ caller-none xs))

  pub next-suits : (P Q : ℕ → ℕ → R → Type 0) → ((c line : ℕ) (r : R) → P c line r → Q c line r)
      → ((c : ℕ) → AllSuit (P c) (at_caller 0 d c) (at_caller [] all c)) → AllSuit (Q caller) (at_caller 0 d' caller) x
  next-suits P Q wider each = suit-wider (P caller) (Q caller) (wider caller) (at_caller 0 d' caller) x
      (subst (λ n. AllSuit (P caller) n x) (sym same-count)
      (subst (AllSuit (P caller) (at_caller 0 d caller)) here (each caller)))

  pub next-few : (most : ℕ) → ((c : ℕ) → at_caller 0 d c + length (at_caller [] all c) < most)
      → at_caller 0 d' caller + length x < most
  next-few most each = omega (arith, each caller, same-count, ap length here)

-- what was written through a part that is the whole
pub written-back : (new items : List ℕ) (len : ℕ) → length new ≡ length items → len ≡ length items
    → take len (new ++ drop (length new) items) ≡ new
written-back [] [] zero same is = refl
written-back [] [] (suc len) same is = refl
written-back (x ∷ new) (y ∷ items) (suc len) same is =
    ap (λ xs. x ∷ xs) (written-back new items len (omega arith) (omega arith))
written-back (x ∷ new) (y ∷ items) zero same is = absurd (omega arith)
written-back [] (y ∷ items) len same is = absurd (omega arith)
written-back (x ∷ new) [] len same is = absurd (omega arith)

-- the same of a list that is equal
pub kept-from : {R : Type 0} {more : ℕ → List R} {k k' : ℕ → List R → Type 0} {d d0 d' : List ℕ}
    → KeepsMore more k k' d d' → d ≡ d0 → KeepsMore more k k' d0 d'
kept-from {more = more} {k = k} {k' = k'} {d' = d'} kept same = subst (λ ns. KeepsMore more k k' ns d') same kept
