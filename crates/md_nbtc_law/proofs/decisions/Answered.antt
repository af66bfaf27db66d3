-- Which entries are answered once the last one's fate is known.
use Rattle.std.proofs.Common.{◌≡◌, ◌&&◌, ◌++◌, ◌∷◌, false, List, [], length, if◌then◌else◌, refl, sym, ap, ◌∙◌, ⊎_elim, arith}
use Rattle.std.proofs.lemmas.Bool.{cases_Bool}
use Rattle.std.proofs.lemmas.List.Elements.{Contains-append_left, Contains-push}
use Rattle.md_history.specs.declared.entries.Fate.{Fate}
use Rattle.md_machine.specs.declared.attempt.HistoryEntry.{HistoryEntry}
use Rattle.md_machine.specs.Machine.{same_attempt}
use Rattle.md_machine.specs.Resolution.{is_committed}
use Rattle.md_machine.specs.clauses.entries.Serials.{SerialsRise}
use Rattle.md_machine.specs.events.Mark.{answered}
use Rattle.md_machine.proofs.events.Attempts.{same_from, same_parts}

-- the first of some entries rise too
pub rise_first : (xs ys : List HistoryEntry) → SerialsRise (xs ++ ys) → SerialsRise xs
rise_first [] ys rise = tt
rise_first (x ∷ xs) ys rise = ((λ e c same. rise.0 e (Contains-append_left xs ys e c) same), rise_first xs ys rise.1)

-- of a last entry's attempt that entry alone is answered, if it is committed
pub answered_last : (es : List HistoryEntry) (e : HistoryEntry) (fs : List Fate) (f : Fate) → SerialsRise (es ++ e ∷ []) → length fs ≡ length es
    → answered (es ++ e ∷ []) (fs ++ f ∷ []) e.attempt ≡ (if is_committed f then e.entry ∷ [] else [])
answered_last [] e [] f rise many = ap (λ b. if b && is_committed f then e.entry ∷ [] else []) (same_from e.attempt e.attempt refl refl)
answered_last [] e (g ∷ fs) f rise many = absurd (omega (arith, many))
answered_last (x ∷ es) e [] f rise many = absurd (omega (arith, many))
answered_last (x ∷ es) e (g ∷ fs) f rise many =
    ap (λ b. if b && is_committed g then x.entry ∷ answered (es ++ e ∷ []) (fs ++ f ∷ []) e.attempt else answered (es ++ e ∷ []) (fs ++ f ∷ []) e.attempt) apart
    ∙ answered_last es e fs f rise.1 (omega (arith, many))
  where
    apart : same_attempt x.attempt e.attempt ≡ false
    apart = ⊎_elim
        (λ same. let parts = same_parts x.attempt e.attempt same in
        let less = rise.0 e (Contains-push es e) (sym parts.0) in
        let is = parts.1 in absurd (omega (arith, less, is)))
        (λ no. no)
        (cases_Bool (same_attempt x.attempt e.attempt))
