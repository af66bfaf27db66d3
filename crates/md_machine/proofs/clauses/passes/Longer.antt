-- The longer of two first parts of one list, which is what two joined passes have seen.
use Rattle.std.proofs.Common.{◌≡◌, ◌≤◌, List, [], ◌∷◌, ◌++◌, length, nat_le, append-nil, refl, sym, ap, ◌∙◌, arith}
use Rattle.std.proofs.lemmas.Bool.{cond_both, leb-false, leb-true}
use Rattle.md_history.specs.Front.{IsPrefix}
use Rattle.md_machine.specs.declared.attempt.HistoryEntry.{HistoryEntry}
use Rattle.md_machine.specs.events.SplitJoin.{longer}

-- of two first parts of a list the shorter one begins the longer one
pub begins_longer : {A : Type 0} (xs ys h : List A) → IsPrefix xs h → IsPrefix ys h → length xs ≤ length ys → IsPrefix xs ys
begins_longer {A = A} xs ys h a b le = within xs ys a.rest b.rest (sym a.is ∙ b.is) le
  where
    within : (xs ys more rest : List A) → xs ++ more ≡ ys ++ rest → length xs ≤ length ys → IsPrefix xs ys
    within [] ys more rest same le = record { rest = ys; is = refl }
    within (x ∷ xs) [] more rest same le = absurd (omega (arith, le))
    within (x ∷ xs) (y ∷ ys) more rest same le =
        let first : x ≡ y = cc in
        let later : xs ++ more ≡ ys ++ rest = cc in
        let r = within xs ys more rest later (omega (arith, le)) in
        record { rest = r.rest; is = ap (λ z. z ∷ ys) (sym first) ∙ ap (λ l. x ∷ l) r.is }

-- it goes on from each of the two, and is a first part as well
module _ (xs ys h : List HistoryEntry) (first : IsPrefix xs h) (second : IsPrefix ys h) where
  pub longer_from_first : IsPrefix xs (longer xs ys)
  longer_from_first = cond_both (nat_le (length xs) (length ys)) ys xs (IsPrefix xs)
      (λ fewer. begins_longer xs ys h first second (leb-true _ _ fewer))
      (λ _. record { rest = []; is = sym (append-nil xs) })

  pub longer_from_second : IsPrefix ys (longer xs ys)
  longer_from_second = cond_both (nat_le (length xs) (length ys)) ys xs (IsPrefix ys)
      (λ _. record { rest = []; is = sym (append-nil ys) })
      (λ more. let fewer = leb-false (length xs) (length ys) more in begins_longer ys xs h second first (omega (arith, fewer)))

  pub longer_begins : IsPrefix (longer xs ys) h
  longer_begins = cond_both (nat_le (length xs) (length ys)) ys xs (λ es. IsPrefix es h) (λ _. second) (λ _. first)
