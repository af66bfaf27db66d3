-- What is left of a journal, and of the lines that moved money, as both are gone through.
use Rattle.std.proofs.Common.{◌≡◌, ◌≢◌, ◌↔◌, ℕ, zero, suc, ◌/◌, ◌^◌, ◌==◌, ◌<◌, true, List, [], ◌∷◌, ◌++◌, length, drop, replicate, slice_index_or, Vec, Global, Option, Some, None, is_some, true≢false, inl, inr, refl, sym, ap, subst, ◌∙◌, arith}
use Rattle.std.proofs.lemmas.Bool.{cases_Bool}
use Rattle.std.proofs.lemmas.List.{append_cancel_left}
use Rattle.md_many_attempts.specs.ByCaller.{at_caller, lists_in}
use Rattle.example_bank.specs.declared.bank.Outcome.{Outcome}
use Rattle.example_bank.specs.Journal.{moved_after, of_teller, from_next, left_of, IsJournalOf}
use Rattle.example_bank.proofs.Sums.{item-there}

-- what is left of a teller, by its place
pub left-at : (vs : List (Vec Outcome Global)) (past : List ℕ) (i teller : ℕ) (v : Vec Outcome Global) (os : List Outcome)
    (o : Option ℕ) → i < length vs → teller ≡ suc i → v ≡ slice_index_or vs i v → os ≡ v.items
    → ((t : ℕ) → moved_after t (slice_index_or past i 0) (drop (slice_index_or past i 0) os) ≡ from_next t os o)
    → left_of (lists_in vs) past teller ≡ from_next teller os o
left-at vs past i teller v os o low whose is here next =
    let n = slice_index_or past i 0 in
    subst (λ t. left_of (lists_in vs) past t ≡ from_next t os o) (sym whose)
    (ap (λ xs. moved_after (suc i) n (drop n xs)) (item-there vs i v low is ∙ sym here) ∙ next (suc i))

-- if there is a next line, something is left
pub something-left : (teller : ℕ) (os : List Outcome) (o : Option ℕ) → is_some o ≡ true → from_next teller os o ≢ []
something-left teller os None some = λ _. absurd (true≢false (sym some))
something-left teller os (Some next) some = λ e. cc

-- the numbers of a journal that are left are the tags of what is left
abbrev pub Matches : List (List Outcome) → List ℕ → List ℕ → Type 0
Matches outcomes past journal = (teller : ℕ) → of_teller teller journal ≡ left_of outcomes past teller

-- at first no line of any teller is past
none-past : (n teller : ℕ) → at_caller {A = ℕ} 0 (replicate n 0) teller ≡ 0
none-past n zero = refl
none-past n (suc i) = each n i
  where
    each : (n i : ℕ) → slice_index_or {A = ℕ} (replicate n 0) i 0 ≡ 0
    each zero i = refl
    each (suc n) zero = refl
    each (suc n) (suc i) = each n i

-- then the whole journal is left
pub matches-first : (outcomes : List (List Outcome)) (n : ℕ) (past journal rest : List ℕ) → past ≡ replicate n 0 → rest ≡ journal
    → IsJournalOf outcomes journal ↔ Matches outcomes past rest
matches-first outcomes n past journal rest none whole =
    let same : (teller : ℕ) → left_of outcomes past teller ≡ moved_after teller 0 (at_caller [] outcomes teller) = λ teller.
    ap (λ k. moved_after teller k (drop k (at_caller [] outcomes teller))) (ap (λ ns. at_caller 0 ns teller) none ∙ none-past n teller) in (
      λ is teller. ap (of_teller teller) whole ∙ is teller ∙ sym (same teller),
      λ is teller. ap (of_teller teller) (sym whole) ∙ is teller ∙ same teller,
    )

-- a teller's numbers of a first number and the rest
of-first : (teller number : ℕ) (rest : List ℕ) → of_teller teller (number ∷ rest) ≡ of_teller teller (number ∷ []) ++ of_teller teller rest
of-first teller number rest = elim (cases_Bool (number / 2 ^ 32 == teller)) [
  | inl its ↦ rw its refl
  | inr other ↦ rw other refl
]

-- if the first number that is left is that of a line which is now past, the rest is to match what is left then
pub matches-next : (outcomes : List (List Outcome)) (past past' rest : List ℕ) (number : ℕ) (P : Type 0)
    → ((teller : ℕ) → left_of outcomes past teller ≡ of_teller teller (number ∷ []) ++ left_of outcomes past' teller)
    → P ↔ Matches outcomes past (number ∷ rest) → P ↔ Matches outcomes past' rest
matches-next outcomes past past' rest number P goes before = (
  λ is teller. append_cancel_left (of_teller teller (number ∷ [])) _ _ (sym (of-first teller number rest) ∙ before.0 is teller ∙ goes teller),
  λ is. before.1 (λ teller. of-first teller number rest ∙ ap (λ xs. of_teller teller (number ∷ []) ++ xs) (is teller) ∙ sym (goes teller)),
)

-- if no number is left, a match says that no line is left
pub matches-end : (outcomes : List (List Outcome)) (past rest : List ℕ) (P Q : Type 0) → length rest ≡ 0
    → P ↔ Matches outcomes past rest → Q ↔ ((teller : ℕ) → left_of outcomes past teller ≡ []) → Q ↔ P
matches-end outcomes past [] P Q none before left =
    (λ q. before.1 (λ teller. sym (left.0 q teller)), λ p. left.1 (λ teller. sym (before.0 p teller)))
matches-end outcomes past (number ∷ rest) P Q none before left = absurd (omega (arith, none))
