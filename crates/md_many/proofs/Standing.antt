-- Entries that are the callers' next lines keep a good state good, and their replies suit them.
use Rattle.std.proofs.Common.{◌≡◌, ◌≢◌, ◌+◌, ◌<◌, ◌^◌, ℕ, cond, true, false, List, [], ◌∷◌, ◌++◌, length, refl, sym, ap, subst, ◌∙◌, arith, inl, inr, append_assoc}
use Rattle.std.specs.Prelude.{◌==◌, ◌/◌, All}
use Rattle.std.specs.List.{AllByRecursion}
use Rattle.std.proofs.lemmas.Bool.{cases_Bool, eq-eqb, eqb-true, false≢true}
use Rattle.std.proofs.lemmas.List.{append-nil, length_push, map_push}
use Rattle.std.proofs.lemmas.List.Elements.{filter-append, All-from_recursion}
use Rattle.md_history.specs.declared.entries.Entry.{Entry}
use Rattle.md_history.specs.State.{State, run, IsRight}
use Rattle.md_history.specs.History.{acts_of}
use Rattle.md_history.specs.HistoryLaws.{run-append, right-first, right-rest}
use Rattle.md_many_attempts.specs.Meaning.{Meaning}
use Rattle.md_many_attempts.specs.Tags.{tag_of}
use Rattle.md_many_attempts.specs.Lines.{IsLine, AreLines}
use Rattle.md_many.specs.Laws.{AllSuit, AreLawful, Law}
use Rattle.md_many.specs.Rounds.{of_caller}
use Rattle.md_many.specs.Played.{tags_of}
use Rattle.md_many.proofs.TagLaws.{lines-length}
use Rattle.md_many_attempts.proofs.Playing.{lines-push}
use Rattle.md_many.proofs.Merging.{all-of, all-weaker, all-pass}

-- a caller's entries of a list that begins with an entry
pub caller-own : (caller : ℕ) (e : Entry) (es : List Entry) → (e.tag / 2 ^ 32 == caller) ≡ true
    → of_caller caller (e ∷ es) ≡ e ∷ of_caller caller es
caller-own caller e es own = ap (λ b. cond b (e ∷ of_caller caller es) (of_caller caller es)) own

pub caller-other : (caller : ℕ) (e : Entry) (es : List Entry) → (e.tag / 2 ^ 32 == caller) ≡ false
    → of_caller caller (e ∷ es) ≡ of_caller caller es
caller-other caller e es other = ap (λ b. cond b (e ∷ of_caller caller es) (of_caller caller es)) other

pub caller-append : (caller : ℕ) (es ds : List Entry)
    → of_caller caller (es ++ ds) ≡ of_caller caller es ++ of_caller caller ds
caller-append caller es ds = filter-append (λ (e : Entry). e.tag / 2 ^ 32 == caller) es ds

-- a caller's entries of a list that ends with an entry
caller-push : (caller : ℕ) (es : List Entry) (e : Entry) → (e.tag / 2 ^ 32 == caller) ≡ true
    → of_caller caller (es ++ e ∷ []) ≡ of_caller caller es ++ e ∷ []
caller-push caller es e own =
    caller-append caller es (e ∷ []) ∙ ap (λ xs. of_caller caller es ++ xs) (caller-own caller e [] own)

caller-skip : (caller : ℕ) (es : List Entry) (e : Entry) → (e.tag / 2 ^ 32 == caller) ≡ false
    → of_caller caller (es ++ e ∷ []) ≡ of_caller caller es
caller-skip caller es e other =
    caller-append caller es (e ∷ []) ∙ ap (λ xs. of_caller caller es ++ xs) (caller-other caller e [] other)
    ∙ append-nil (of_caller caller es)

all-tags : (P : ℕ → Type 0) (es : List Entry) → AllByRecursion (λ (e : Entry). P e.tag) es → AllByRecursion P (tags_of es)
all-tags P [] all = tt
all-tags P (e ∷ es) all = (all.0, all-tags P es all.1)

module _ {B R : Type 0} (m : Meaning B R) where
  pub record Head (caller n : ℕ) (e : Entry) (es : List Entry) (ss : List R) : Type 0 where
    pub reply : R
    pub rest : List R
    pub is : ss ≡ reply ∷ rest
    pub line : IsLine m caller (n + 1) e reply
    pub more : AreLines m caller es rest (n + 1)

  pub lines-head : (caller n : ℕ) (e : Entry) (es : List Entry) (ss : List R)
      → AreLines m caller (e ∷ es) ss n → Head caller n e es ss
  lines-head caller n e es [] lines = absurd lines
  lines-head caller n e es (r ∷ rs) lines =
      record { reply = r; rest = rs; is = refl; line = lines.0; more = lines.1 }

  -- the tags of a caller's lines aren't those of later lines
  lines-older : (caller line : ℕ) (es : List Entry) (rs : List R) (n : ℕ) → AreLines m caller es rs n
      → n + length es < line → AllByRecursion (λ (e : Entry). e.tag ≢ tag_of caller line) es
  lines-older caller line [] [] n lines less = tt
  lines-older caller line (e ∷ es) (r ∷ rs) n lines less = (
    (λ same. let is = lines.0.tagged in omega arith),
    lines-older caller line es rs (n + 1) lines.1 (omega arith),
  )
  lines-older caller line [] (r ∷ rs) n lines less = absurd lines
  lines-older caller line (e ∷ es) [] n lines less = absurd lines

  -- the tag of a caller's next line is none of those that were played
  fresh-tag : (es : List Entry) (tag caller : ℕ) (rs : List R) → AreLines m caller (of_caller caller es) rs 0
      → tag / 2 ^ 32 ≡ caller → tag ≡ tag_of caller (length (of_caller caller es) + 1)
      → All (λ t. t ≢ tag) (tags_of es)
  fresh-tag es tag caller rs lines own is =
      let P : Entry → Type 0 = λ x. x.tag ≢ tag in
      All-from_recursion (λ t. t ≢ tag) (tags_of es) (all-tags (λ t. t ≢ tag) es
      (all-of (λ k x. x.tag / 2 ^ 32 == k) (λ x. x.tag / 2 ^ 32) (λ x. eq-eqb (x.tag / 2 ^ 32) (x.tag / 2 ^ 32) refl) P es
      (λ k. elim (cases_Bool (k == caller)) [
        | inl same ↦ subst (λ c. AllByRecursion P (of_caller c es)) (sym (eqb-true k caller same))
            (subst (λ t. AllByRecursion (λ (x : Entry). x.tag ≢ t) (of_caller caller es)) (sym is)
            (lines-older caller (length (of_caller caller es) + 1) (of_caller caller es) rs 0 lines (omega arith)))
        | inr other ↦ all-weaker (λ x. (x.tag / 2 ^ 32 == k) ≡ true) P
            (λ x at same. false≢true (sym other ∙ eq-eqb k caller
            (sym (eqb-true (x.tag / 2 ^ 32) k at) ∙ ap (λ t. t / 2 ^ 32) same ∙ own)))
            (of_caller k es) (all-pass (λ x. x.tag / 2 ^ 32 == k) es)
      ])))

module _ {B R : Type 0} (m : Meaning B R) (law : Law R) (laws : AreLawful m law) where
  -- the later entries leave a law.good state, and their replies suit them
  pub record KeepsGood (s : State) (es ds : List Entry) : Type 0 where
    pub leaves : law.good (run s (acts_of ds)) (tags_of (es ++ ds))
    pub suit : (caller : ℕ) (ss : List R)
        → AreLines m caller (of_caller caller ds) ss (length (of_caller caller es))
        → AllSuit (law.suits caller) (length (of_caller caller es)) ss

  -- one entry more
  one-more : (s : State) (es : List Entry) (e : Entry) (rs : List R) (r : R) → law.good s (tags_of es)
      → AreLines m (e.tag / 2 ^ 32) (of_caller (e.tag / 2 ^ 32) es) rs 0
      → IsLine m (e.tag / 2 ^ 32) (length (of_caller (e.tag / 2 ^ 32) es) + 1) e r → IsRight s e.acts
      → law.good (run s e.acts) (tags_of (es ++ e ∷ []))
      × law.suits (e.tag / 2 ^ 32) (length (of_caller (e.tag / 2 ^ 32) es) + 1) r
  one-more s es e rs r before lines is right =
      let caller = e.tag / 2 ^ 32 in
      let line = length (of_caller caller es) + 1 in
      let fresh : All (λ t. t ≢ tag_of caller line) (tags_of es) =
      subst (λ tag. All (λ t. t ≢ tag) (tags_of es)) is.tagged
      (fresh-tag m es e.tag caller rs lines refl is.tagged) in
      let step = laws.keeps s (tags_of es) caller line is.body e.acts r before is.there fresh is.did_it right in
      let tags : tags_of es ++ tag_of caller line ∷ [] ≡ tags_of (es ++ e ∷ []) =
      ap (λ t. tags_of es ++ t ∷ []) (sym is.tagged) ∙ sym (map_push (λ (x : Entry). x.tag) es e) in
      (subst (law.good (run s e.acts)) tags step.0, step.1)

  suit-none : (caller n : ℕ) (ss : List R) → AreLines m caller [] ss n → AllSuit (law.suits caller) n ss
  suit-none caller n [] lines = tt
  suit-none caller n (s ∷ ss) lines = absurd lines

  pub keeps-good : (ds : List Entry) (s : State) (es : List Entry) → law.good s (tags_of es)
      → ((caller : ℕ) → (rs : List R) × AreLines m caller (of_caller caller es) rs 0)
      → ((caller : ℕ) → (ss : List R)
      × AreLines m caller (of_caller caller ds) ss (length (of_caller caller es)))
      → IsRight s (acts_of ds) → KeepsGood s es ds
  keeps-good [] s es before each more right = record {
    leaves = subst (λ xs. law.good s (tags_of xs)) (sym (append-nil es)) before;
    suit = λ caller ss lines. suit-none caller (length (of_caller caller es)) ss lines;
  }
  keeps-good (e ∷ ds) s es before each more right =
      let own = e.tag / 2 ^ 32 in
      let here : (own == own) ≡ true = eq-eqb own own refl in
      let n = length (of_caller own es) in
      let head : Head m own n e (of_caller own ds) (more own).0 =
      lines-head m own n e (of_caller own ds) (more own).0
      (subst (λ xs. AreLines m own xs (more own).0 n) (caller-own own e ds here) (more own).1) in
      let right_one = right-first s e.acts (acts_of ds) right in
      let first = one-more s es e (each own).0 head.reply before (each own).1 head.line right_one in
      let es' = es ++ e ∷ [] in
      let pushed : length (of_caller own es') ≡ n + 1 =
      ap length (caller-push own es e here) ∙ length_push (of_caller own es) e in
      let each' : (caller : ℕ) → (rs : List R) × AreLines m caller (of_caller caller es') rs 0 = λ caller.
      elim (cases_Bool (own == caller)) [
        | inl same ↦ (
          (each own).0 ++ head.reply ∷ [],
          subst (λ c. AreLines m c (of_caller c es') ((each own).0 ++ head.reply ∷ []) 0)
              (eqb-true own caller same)
              (subst (λ xs. AreLines m own xs ((each own).0 ++ head.reply ∷ []) 0)
              (sym (caller-push own es e here))
              (lines-push m own 0 (n + 1) (of_caller own es) (each own).0 e head.reply (each own).1
              (omega (arith, lines-length m own (of_caller own es) (each own).0 0 (each own).1)) head.line)),
        )
        | inr other ↦ (
          (each caller).0,
          subst (λ xs. AreLines m caller xs (each caller).0 0) (sym (caller-skip caller es e other))
              (each caller).1,
        )
      ] in
      let more' : (caller : ℕ) → (ss : List R)
      × AreLines m caller (of_caller caller ds) ss (length (of_caller caller es')) = λ caller.
      elim (cases_Bool (own == caller)) [
        | inl same ↦ (
          head.rest,
          subst (λ c. AreLines m c (of_caller c ds) head.rest (length (of_caller c es')))
              (eqb-true own caller same)
              (subst (AreLines m own (of_caller own ds) head.rest) (sym pushed) head.more),
        )
        | inr other ↦ (
          (more caller).0,
          subst (AreLines m caller (of_caller caller ds) (more caller).0)
              (sym (ap length (caller-skip caller es e other)))
              (subst (λ xs. AreLines m caller xs (more caller).0 (length (of_caller caller es)))
              (caller-other caller e ds other) (more caller).1),
        )
      ] in
      let later = keeps-good ds (run s e.acts) es' first.0 each' more' (right-rest s e.acts (acts_of ds) right) in
      let own_suit : (ss : List R) → AreLines m own (of_caller own (e ∷ ds)) ss n
      → AllSuit (law.suits own) n ss = λ ss lines.
      let top = lines-head m own n e (of_caller own ds) ss
      (subst (λ xs. AreLines m own xs ss n) (caller-own own e ds here) lines) in
      subst (AllSuit (law.suits own) n) (sym top.is) (
        (one-more s es e (each own).0 top.reply before (each own).1 top.line right_one).1,
        subst (λ k. AllSuit (law.suits own) k top.rest) pushed
            (later.suit own top.rest
            (subst (AreLines m own (of_caller own ds) top.rest) (sym pushed) top.more)),
      ) in
      record {
        leaves = subst (λ t. law.good t (tags_of (es ++ e ∷ ds))) (sym (run-append s e.acts (acts_of ds)))
            (subst (λ xs. law.good (run (run s e.acts) (acts_of ds)) (tags_of xs)) (append_assoc es (e ∷ []) ds)
            later.leaves);
        suit = λ caller ss lines. elim (cases_Bool (own == caller)) [
          | inl same ↦
              let is : own ≡ caller = eqb-true own caller same in
              subst (λ c. AllSuit (law.suits c) (length (of_caller c es)) ss) is
              (own_suit ss (subst (λ c. AreLines m c (of_caller c (e ∷ ds)) ss (length (of_caller c es)))
              (sym is) lines))
          | inr other ↦
              let skip : of_caller caller es' ≡ of_caller caller es = caller-skip caller es e other in
              subst (λ k. AllSuit (law.suits caller) k ss) (ap length skip)
              (later.suit caller ss
              (subst (AreLines m caller (of_caller caller ds) ss) (sym (ap length skip))
              (subst (λ xs. AreLines m caller xs ss (length (of_caller caller es)))
              (caller-other caller e ds other) lines)))
        ];
      }
