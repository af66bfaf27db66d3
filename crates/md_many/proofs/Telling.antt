-- A gate that was told of each line was told of each entry's.
use Rattle.std.proofs.Common.{◌≡◌, ◌<◌, ◌≤◌, ◌+◌, ◌^◌, ◌∙◌, ℕ, zero, suc, Bool, true, false, List, [], ◌∷◌, refl, sym, ap, subst, arith, inl, inr}
use Rattle.std.specs.Prelude.{◌==◌, ◌||◌, ◌/◌, ◌%◌, filter}
use Rattle.std.specs.List.{list_any, AllByRecursion}
use Rattle.std.proofs.lemmas.Bool.{cases_Bool, eq-eqb, eqb-true, false≢true}
use Rattle.md_history.specs.declared.entries.Entry.{Entry}
use Rattle.md_many_attempts.specs.Tags.{tag_of}
use Rattle.md_many.specs.Tags.{tags_after, IsInterleaving}
use Rattle.md_many.specs.Played.{IsToldOf, IsToldOfEach, tags_of}
use Rattle.md_many.proofs.Left.{Has}

-- a tag is one of a caller's lines
record IsTagOf (caller n count t : ℕ) : Type 0 where
  pub line : ℕ
  pub after : n < line
  pub there : line ≤ n + count
  pub is : t ≡ tag_of caller line

tag-among : (caller n count t : ℕ) → Has (tags_after caller n count) t → IsTagOf caller n count t
tag-among caller n zero t has = absurd (false≢true has)
tag-among caller n (suc count) t has = elim (cases_Bool (tag_of caller (n + 1) == t)) [
  | inl same ↦ record {
    line = n + 1;
    after = omega arith;
    there = omega arith;
    is = sym (eqb-true (tag_of caller (n + 1)) t same);
  }
  | inr other ↦
      let later = tag-among caller (n + 1) count t
      (sym (ap (λ b. b || list_any (λ u. u == t) (tags_after caller (n + 1) count)) other) ∙ has) in
      record {
        line = later.line;
        after = omega (arith, later.after);
        there = omega (arith, later.there);
        is = later.is;
      }
]

-- a tag that passes a test is among those that pass it
has-passing : (p : ℕ → Bool) (t : ℕ) (ts : List ℕ) → Has ts t → p t ≡ true → Has (filter p ts) t
has-passing p t [] has passes = absurd (false≢true has)
has-passing p t (u ∷ ts) has passes = elim (cases_Bool (u == t)) [
  | inl same ↦ rw (ap p (eqb-true u t same) ∙ passes) (ap (λ b. b || list_any (λ x. x == t) (filter p ts)) same)
  | inr other ↦
      let later = has-passing p t ts (sym (ap (λ b. b || list_any (λ x. x == t) ts) other) ∙ has) passes in
      elim (cases_Bool (p u)) [
        | inl in_it ↦ rw in_it (ap (λ b. b || list_any (λ x. x == t) (filter p ts)) other ∙ later)
        | inr not_in_it ↦ rw not_in_it later
      ]
]

-- what is so of each tag that is among others is so of all
all-of : (P : ℕ → Type 0) (ts : List ℕ) → ((t : ℕ) → Has ts t → P t) → AllByRecursion P ts
all-of P [] each = tt
all-of P (t ∷ ts) each = (
  each t (ap (λ b. b || list_any (λ x. x == t) ts) (eq-eqb t t refl)),
  all-of P ts (λ u has. each u (or-later (t == u) (list_any (λ x. x == u) ts) has)),
)
  where
    or-later : (a b : Bool) → b ≡ true → (a || b) ≡ true
    or-later true b is = refl
    or-later false b is = is

entries-of : (told : ℕ → ℕ → Type 0) (es : List Entry)
    → AllByRecursion (λ t. told (t / 2 ^ 32) (t % 2 ^ 32)) (tags_of es) → IsToldOf told es
entries-of told [] all = tt
entries-of told (e ∷ es) all = (all.0, entries-of told es all.1)

-- where the entries are all lines, each once
pub told-of : (line_count : ℕ → ℕ) (told : ℕ → ℕ → Type 0) (es : List Entry) → IsInterleaving line_count (tags_of es)
    → IsToldOfEach line_count told → IsToldOf told es
told-of line_count told es lines each = entries-of told es (all-of (λ t. told (t / 2 ^ 32) (t % 2 ^ 32)) (tags_of es) (λ t has.
    let caller = t / 2 ^ 32 in
    let tag = tag-among caller 0 (line_count caller) t (subst (λ ts. Has ts t) (lines caller)
    (has-passing (λ u. u / 2 ^ 32 == caller) t (tags_of es) has (eq-eqb caller caller refl))) in
    let line : tag.line ≡ t % 2 ^ 32 = omega (arith, tag.is) in
    subst (told caller) line (each caller tag.line (omega (arith, tag.after)) (omega (arith, tag.there)))))
