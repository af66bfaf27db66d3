-- What lanes committed, as a history goes on.
use Rattle.std.proofs.Common.{◌≡◌, ◌≢◌, ◌≤◌, ℕ, zero, suc, Bool, List, [], ◌∷◌, ◌++◌, length, drop, refl, ap, arith, inl, inr}
use Rattle.std.specs.Prelude.{filter}
use Rattle.std.specs.List.{zip, AllByRecursion}
use Rattle.std.proofs.lemmas.Bool.{cases_Bool}
use Rattle.md_history.specs.declared.entries.Entry.{Entry}
use Rattle.md_history.specs.declared.entries.Fate.{Fate}
use Rattle.md_history.specs.declared.entries.Fate.TheVariants.{Committed, Aborted, Undecided}
use Rattle.md_history.specs.Front.{Front, IsPrefix, Stays, AllStay, is_of}
use Rattle.md_history.specs.OwnLaws.{committed_pairs}
use Rattle.md_many_attempts.specs.Joined.{entries_after}

-- every entry's fate is decided
abbrev pub AreDecided : List (Entry × Fate) → Type 0
AreDecided ps = AllByRecursion (λ (p : Entry × Fate). p.1 ≢ Undecided) ps

-- a decided fate is what it was
decided-same : (f g : Fate) → f ≢ Undecided → Stays f g → g ≡ f
decided-same Committed g d stays = stays
decided-same Aborted g d stays = stays
decided-same Undecided g d stays = absurd (d refl)

-- entries that pass a test and were decided stay, and the later ones follow them
passing-more : (p : Entry → Bool) (n : ℕ) (es more : List Entry) (fs gs : List Fate) → length fs ≡ length es
    → AllStay fs gs → n ≤ length es
    → AreDecided (filter (λ (q : Entry × Fate). p q.0) (drop n (zip es fs)))
    → filter (λ (q : Entry × Fate). p q.0) (drop n (zip (es ++ more) gs))
    ≡ filter (λ (q : Entry × Fate). p q.0) (drop n (zip es fs))
    ++ filter (λ (q : Entry × Fate). p q.0) (drop (length es) (zip (es ++ more) gs))
passing-more p zero [] more [] gs fated stay few decided = refl
passing-more p (suc n) [] more fs gs fated stay few decided = absurd (omega arith)
passing-more p n [] more (f ∷ fs) gs fated stay few decided = absurd (omega arith)
passing-more p n (e ∷ es) more [] gs fated stay few decided = absurd (omega arith)
passing-more p n (e ∷ es) more (f ∷ fs) [] fated stay few decided = absurd stay
passing-more p (suc n) (e ∷ es) more (f ∷ fs) (g ∷ gs) fated stay few decided =
    passing-more p n es more fs gs (omega arith) stay.1 (omega arith) decided
passing-more p zero (e ∷ es) more (f ∷ fs) (g ∷ gs) fated stay few decided = elim (cases_Bool (p e)) [
  | inl passes ↦
      let d = rw passes at decided in
      let same : g ≡ f = decided-same f g d.0 stay.0 in
      rw (passes, same) (ap (λ ps. (e, f) ∷ ps)
      (passing-more p zero es more fs gs (omega arith) stay.1 (omega arith) d.1))
  | inr fails ↦ rw fails (passing-more p zero es more fs gs (omega arith) stay.1 (omega arith) (rw fails at decided))
]

-- the entries that lanes had after the first n stay where they were decided, and those that joined since follow them
pub entries-more : (n : ℕ) (lanes : List ℕ) (g h : Front) → length g.known ≡ length g.seen → IsPrefix g.seen h.seen
    → AllStay g.known h.known → n ≤ length g.seen
    → AreDecided (entries_after n lanes g)
    → entries_after n lanes h ≡ entries_after n lanes g ++ entries_after (length g.seen) lanes h
entries-more n lanes g h fated more stay few decided =
    rw more.is (passing-more (is_of lanes) n g.seen more.rest g.known h.known fated stay few decided)

pub committed_pairs-append : (ps qs : List (Entry × Fate))
    → committed_pairs (ps ++ qs) ≡ committed_pairs ps ++ committed_pairs qs
unfolding committed_pairs
committed_pairs-append [] qs = refl
committed_pairs-append ((e, Committed) ∷ ps) qs = ap (λ es. e ∷ es) (committed_pairs-append ps qs)
committed_pairs-append ((e, Aborted) ∷ ps) qs = committed_pairs-append ps qs
committed_pairs-append ((e, Undecided) ∷ ps) qs = committed_pairs-append ps qs

pub decided-append : (ps qs : List (Entry × Fate)) → AreDecided ps → AreDecided qs → AreDecided (ps ++ qs)
decided-append [] qs a b = b
decided-append (p ∷ ps) qs a b = (a.0, decided-append ps qs a.1 b)

-- nothing joined a front since itself
pub entries-none : (lanes : List ℕ) (es : List Entry) (fs : List Fate)
    → filter (λ (q : Entry × Fate). is_of lanes q.0) (drop (length es) (zip es fs)) ≡ []
entries-none lanes [] fs = refl
entries-none lanes (e ∷ es) [] = refl
entries-none lanes (e ∷ es) (f ∷ fs) = entries-none lanes es fs
