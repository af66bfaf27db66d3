-- How many lines are left when some were played.
use Rattle.std.proofs.Common.{◌≡◌, ◌≤◌, ◌<◌, ◌+◌, ℕ, zero, suc, Bool, true, false, cond, not, List, [], ◌∷◌, ◌++◌, length, refl, sym, ap, subst, ◌∙◌, arith, inl, inr}
use Rattle.std.specs.Prelude.{◌==◌, ◌||◌, All}
use Rattle.std.specs.List.{list_any, AllByRecursion}
use Rattle.std.proofs.lemmas.Bool.{cases_Bool, cases_eq, eq-eqb, eqb-true, ne_eqb, false≢true}
use Rattle.std.proofs.lemmas.List.{length-append}
use Rattle.std.proofs.lemmas.List.Elements.{recursion_from_All}
use Rattle.std.proofs.lemmas.List.Sums.{sum_by-cons, count_by-le-length}
use Rattle.md_many_attempts.specs.Tags.{tag_of}
use Rattle.md_many.specs.Tags.{tags_after}
use Rattle.md_many_attempts.specs.ByCaller.{lines_of}
use Rattle.md_many.specs.Left.{left_of, all_tags}
use Rattle.md_many.proofs.TagLaws.{length-tags_after}

abbrev pub Has : List ℕ → ℕ → Type 0
Has ts t = list_any (λ u. u == t) ts ≡ true

pub left-most : (all tags : List ℕ) → left_of all tags ≤ length all
left-most all tags = count_by-le-length (λ t. not (list_any (λ u. u == t) tags)) all

any-push : (tags : List ℕ) (t u : ℕ)
    → list_any (λ x. x == u) (tags ++ t ∷ []) ≡ (list_any (λ x. x == u) tags || (t == u))
any-push [] t u = elim (t == u) as (λ b. (b || false) ≡ b) [ true ↦ refl | false ↦ refl ]
any-push (x ∷ tags) t u =
    elim (x == u) as (λ b. (b || list_any (λ y. y == u) (tags ++ t ∷ [])) ≡ ((b || list_any (λ y. y == u) tags) || (t == u))) [
      | true ↦ refl
      | false ↦ any-push tags t u
    ]

abbrev one : Bool → ℕ
one b = cond (not b) 1 0

left-cons : (y : ℕ) (all tags : List ℕ) → left_of (y ∷ all) tags ≡ one (list_any (λ u. u == y) tags) + left_of all tags
left-cons y all tags = sum_by-cons (λ t. cond (not (list_any (λ u. u == t) tags)) 1 0) y all

one-or : (a b : Bool) → one (a || b) ≤ one a
one-or true b = omega arith
one-or false true = omega arith
one-or false false = omega arith

-- a tag more leaves no more
left-rises : (all tags : List ℕ) (t : ℕ) → left_of all (tags ++ t ∷ []) ≤ left_of all tags
left-rises [] tags t = omega arith
left-rises (y ∷ all) tags t = omega (
  arith,
  left-cons y all tags,
  left-cons y all (tags ++ t ∷ []),
  ap one (any-push tags t y),
  one-or (list_any (λ u. u == y) tags) (t == y),
  left-rises all tags t,
)

-- a tag that was left leaves one less
pub left-less : (all tags : List ℕ) (t : ℕ) → Has all t → list_any (λ u. u == t) tags ≡ false
    → left_of all (tags ++ t ∷ []) + 1 ≤ left_of all tags
left-less [] tags t has new = absurd (false≢true has)
left-less (y ∷ all) tags t has new = elim (cases_Bool (y == t)) [
  | inl same ↦
      let is : y ≡ t = eqb-true y t same in
      let before : one (list_any (λ u. u == y) tags) ≡ 1 = ap (λ k. one (list_any (λ u. u == k) tags)) is ∙ ap one new in
      let now : one (list_any (λ u. u == y) (tags ++ t ∷ [])) ≡ 0 =
      ap one (any-push tags t y ∙ ap (λ b. list_any (λ u. u == y) tags || b) (eq-eqb t y (sym is)))
      ∙ elim (list_any (λ u. u == y) tags) as (λ b. one (b || true) ≡ 0) [ true ↦ refl | false ↦ refl ] in
      omega (arith, left-cons y all tags, left-cons y all (tags ++ t ∷ []), before, now, left-rises all tags t)
  | inr other ↦ omega (
    arith,
    left-cons y all tags,
    left-cons y all (tags ++ t ∷ []),
    ap one (any-push tags t y),
    one-or (list_any (λ u. u == y) tags) (t == y),
    left-less all tags t (ap (λ b. b || list_any (λ u. u == t) all) (sym other) ∙ has) new,
  )
]

-- a tag that each of those played differs from isn't among them
pub none-has : (tags : List ℕ) (t : ℕ) → All (λ u. ¬ (u ≡ t)) tags → list_any (λ u. u == t) tags ≡ false
none-has tags t all = each tags (recursion_from_All (λ u. ¬ (u ≡ t)) tags all)
  where
    each : (us : List ℕ) → AllByRecursion (λ u. ¬ (u ≡ t)) us → list_any (λ u. u == t) us ≡ false
    each [] h = refl
    each (u ∷ us) h = ap (λ b. b || list_any (λ x. x == t) us) (ne_eqb u t h.0) ∙ each us h.1

-- they are as many as there are lines
pub length-all : (line_count : ℕ → ℕ) (callers : ℕ) → length (all_tags line_count callers) ≡ lines_of line_count callers
length-all line_count zero = refl
length-all line_count (suc c) =
    length-append (all_tags line_count c) (tags_after (suc c) 0 (line_count (suc c)))
    ∙ omega (arith, length-tags_after (suc c) 0 (line_count (suc c)), length-all line_count c)

-- if nothing was played, all are left
pub left-all : (line_count : ℕ → ℕ) (callers : ℕ)
    → left_of (all_tags line_count callers) [] ≤ lines_of line_count callers
left-all line_count callers =
    omega (arith, left-most (all_tags line_count callers) [], length-all line_count callers)

has-left : (xs ys : List ℕ) (t : ℕ) → Has xs t → Has (xs ++ ys) t
has-left [] ys t h = absurd (false≢true h)
has-left (x ∷ xs) ys t h = elim (cases_Bool (x == t)) [
  | inl same ↦ ap (λ b. b || list_any (λ z. z == t) (xs ++ ys)) same
  | inr other ↦ ap (λ b. b || list_any (λ z. z == t) (xs ++ ys)) other
      ∙ has-left xs ys t (ap (λ b. b || list_any (λ z. z == t) xs) (sym other) ∙ h)
]

has-right : (xs ys : List ℕ) (t : ℕ) → Has ys t → Has (xs ++ ys) t
has-right [] ys t h = h
has-right (x ∷ xs) ys t h =
    elim (x == t) as (λ b. (b || list_any (λ z. z == t) (xs ++ ys)) ≡ true) [ true ↦ refl | false ↦ has-right xs ys t h ]

has-line : (caller n count line : ℕ) → n < line → line ≤ n + count → Has (tags_after caller n count) (tag_of caller line)
has-line caller n zero line low high = absurd (omega (arith, low, high))
has-line caller n (suc count) line low high = elim (cases_eq (n + 1) line) [
  | inl same ↦ ap (λ b. b || list_any (λ z. z == tag_of caller line) (tags_after caller (n + 1) count))
      (eq-eqb (tag_of caller (n + 1)) (tag_of caller line) (ap (tag_of caller) same))
  | inr other ↦ has-right (tag_of caller (n + 1) ∷ []) (tags_after caller (n + 1) count) (tag_of caller line)
      (has-line caller (n + 1) count line (omega (arith, low, other)) (omega (arith, high)))
]

-- the tag of each line is among them
pub has-all : (line_count : ℕ → ℕ) (callers caller line : ℕ) → 1 ≤ caller → caller ≤ callers → 1 ≤ line
    → line ≤ line_count caller → Has (all_tags line_count callers) (tag_of caller line)
has-all line_count zero caller line from_1 there low high = absurd (omega (arith, from_1, there))
has-all line_count (suc c) caller line from_1 there low high = elim (cases_eq (suc c) caller) [
  | inl same ↦ has-right (all_tags line_count c) (tags_after (suc c) 0 (line_count (suc c))) (tag_of caller line)
      (subst (λ k. Has (tags_after k 0 (line_count k)) (tag_of caller line)) (sym same)
      (has-line caller 0 (line_count caller) line low (omega (arith, high))))
  | inr other ↦ has-left (all_tags line_count c) (tags_after (suc c) 0 (line_count (suc c))) (tag_of caller line)
      (has-all line_count c caller line from_1 (omega (arith, there, other)) low high)
]
