-- Laws of lanes: rising lists that have the same lanes are equal; and entries that are numbered by lane.
use Rattle.std.specs.Prelude.{◌≡◌, ◌<◌, ◌⊎◌, ℕ, zero, suc, List, [], ◌∷◌, ◌++◌, length, refl, Contains}
use Rattle.std.proofs.Common.{sym, ap, subst, ◌∙◌, arith, inl, inr, append_assoc}
use Rattle.std.proofs.lemmas.List.{length-append}
use Rattle.md_history.specs.Engine.{IsRising, AreNumberedByLane}
use Rattle.md_history.specs.declared.entries.Entry.{Entry}
use Rattle.md_history.specs.Front.{of_lane}

-- an element is the first one or one of the others
pub contains-either : {A : Type 0} (x : A) (xs : List A) (z : A) → Contains (x ∷ xs) z → (x ≡ z) ⊎ Contains xs z
contains-either x xs z (zero, below, is) = inl is
contains-either x xs z (suc k, below, is) = inr (k, omega arith, is)

pub contains-first : {A : Type 0} (x : A) (xs : List A) → Contains (x ∷ xs) x
contains-first x xs = (0, omega arith, refl)

pub contains-more : {A : Type 0} (x : A) (xs : List A) (z : A) → Contains xs z → Contains (x ∷ xs) z
contains-more x xs z at = let below = at.1 in (suc at.0, omega arith, at.2)

rising-rest : (x : ℕ) (xs : List ℕ) → IsRising (x ∷ xs) → IsRising xs
rising-rest x [] h = tt
rising-rest x (y ∷ xs) h = h.1

-- the first is the least
rising-least : (x : ℕ) (xs : List ℕ) (z : ℕ) → IsRising (x ∷ xs) → Contains xs z → x < z
rising-least x [] z h at = let below = at.1 in absurd (omega arith)
rising-least x (y ∷ xs) z h at = elim (contains-either y xs z at) [
  | inl here ↦ let less = h.0 in omega arith
  | inr later ↦ let less = h.0 in let more = rising-least y xs z h.1 later in omega arith
]

-- two lists that begin alike have the same in their rests
rests-same : (x : ℕ) (xs ys : List ℕ) → IsRising (x ∷ xs) → ((z : ℕ) → Contains (x ∷ xs) z → Contains (x ∷ ys) z) → (z : ℕ)
    → Contains xs z → Contains ys z
rests-same x xs ys rising same z at = elim (contains-either x ys z (same z (contains-more x xs z at))) [
  | inl here ↦ let less = rising-least x xs z rising at in absurd (omega arith)
  | inr there ↦ there
]

first-same : (x y : ℕ) (xs ys : List ℕ) → IsRising (x ∷ xs) → IsRising (y ∷ ys) → Contains (y ∷ ys) x → Contains (x ∷ xs) y
    → x ≡ y
first-same x y xs ys rising rising' at at' = elim (contains-either y ys x at) [
  | inl here ↦ sym here
  | inr there ↦ elim (contains-either x xs y at') [
    | inl here ↦ here
    | inr there' ↦ let less = rising-least y ys x rising' there in let more = rising-least x xs y rising there' in absurd (omega arith)
  ]
]

pub rising-same : (xs ys : List ℕ) → IsRising xs → IsRising ys → ((z : ℕ) → Contains xs z → Contains ys z)
    → ((z : ℕ) → Contains ys z → Contains xs z) → xs ≡ ys
rising-same [] [] rising rising' same same' = refl
rising-same [] (y ∷ ys) rising rising' same same' =
    let at = same' y (contains-first y ys) in let below = at.1 in absurd (omega arith)
rising-same (x ∷ xs) [] rising rising' same same' =
    let at = same x (contains-first x xs) in let below = at.1 in absurd (omega arith)
rising-same (x ∷ xs) (y ∷ ys) rising rising' same same' =
    let first : x ≡ y = first-same x y xs ys rising rising' (same x (contains-first x xs)) (same' y (contains-first y ys)) in
    let begun : IsRising (x ∷ ys) = subst (λ z. IsRising (z ∷ ys)) (sym first) rising' in
    let there : (z : ℕ) → Contains (x ∷ xs) z → Contains (x ∷ ys) z = subst (λ w. (z : ℕ) → Contains (x ∷ xs) z → Contains (w ∷ ys) z) (sym first) same in
    let back : (z : ℕ) → Contains (x ∷ ys) z → Contains (x ∷ xs) z = subst (λ w. (z : ℕ) → Contains (w ∷ ys) z → Contains (x ∷ xs) z) (sym first) same' in
    ap (λ z. z ∷ xs) first
    ∙ ap (λ zs. y ∷ zs) (rising-same xs ys (rising-rest x xs rising) (rising-rest x ys begun) (rests-same x xs ys rising there) (rests-same x ys xs begun back))

-- the last element of a list, or one before it
pub push-cases : {A : Type 0} (xs : List A) (x : A) (before : List A) (y : A) (after : List A)
    → xs ++ x ∷ [] ≡ before ++ y ∷ after → ((xs ≡ before) × (x ≡ y)) ⊎ ((rest : List A) × (xs ≡ before ++ y ∷ rest))
push-cases [] x [] y after same = inl (refl, (cc))
push-cases [] x (b ∷ before) y after same =
    let more : [] ≡ before ++ y ∷ after = cc in absurd (omega (arith, ap length more, length-append before (y ∷ after)))
push-cases (w ∷ xs) x [] y after same = let first : w ≡ y = cc in inr (xs, ap (λ z. z ∷ xs) first)
push-cases (w ∷ xs) x (b ∷ before) y after same =
    let first : w ≡ b = cc in
    let more : xs ++ x ∷ [] ≡ before ++ y ∷ after = cc in
    elim (push-cases xs x before y after more) [
      | inl last ↦ inl (ap (λ z. z ∷ xs) first ∙ ap (λ zs. b ∷ zs) last.0, last.1)
      | inr earlier ↦ inr (earlier.0, ap (λ z. z ∷ xs) first ∙ ap (λ zs. b ∷ zs) earlier.1)
    ]

-- entries that are numbered by lane stay so with one more, which has the next number of its lane
pub numbered-push : (es : List Entry) (e : Entry) → AreNumberedByLane es → e.number ≡ length (of_lane e.lane es)
    → AreNumberedByLane (es ++ e ∷ [])
numbered-push es e numbered next before after x same = elim (push-cases es e before x after same) [
  | inl last ↦ subst (λ (y : Entry). y.number ≡ length (of_lane y.lane before)) last.1 (next ∙ ap (λ xs. length (of_lane e.lane xs)) last.0)
  | inr earlier ↦ numbered before earlier.0 x earlier.1
]

-- and so is a first part of them
pub numbered-prefix : (es rest : List Entry) → AreNumberedByLane (es ++ rest) → AreNumberedByLane es
numbered-prefix es rest numbered before after x same =
    numbered before (after ++ rest) x (ap (λ xs. xs ++ rest) same ∙ append_assoc before (x ∷ after) rest)

pub numbered-none : AreNumberedByLane []
numbered-none before after e same = absurd (omega (arith, ap length same, length-append before (e ∷ after)))
